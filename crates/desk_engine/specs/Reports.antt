-- Reports as texts, octet for octet: what an owner's devices sent in a month, and what is booked in a gateway's bands.
use Rattle.std.specs.Prelude.{◌≡◌, ℕ, ◌==◌, Bool, ◌&&◌, List, [], ◌∷◌, ◌++◌, length, IsTrue, ℤ, codes}
use Rattle.std.specs.Fmt.{decimal}
use Rattle.std.specs.List.{flat_map, list_any}
use Rattle.std.specs.List.Sorted.{IsStrictlyIncreasing}
use Rattle.radio_core.specs.declared.bands.Band.{Band}
use Rattle.radio_core.specs.Bands.{band_number, bands}
use Rattle.radio_core.specs.Names.{is_name}
use Rattle.registry_core.specs.Bookings.{downlinks_in, limit_standing}
use Rattle.registry_core.specs.Reports.{IsUse, Use, in_band, is_owned, uplinks_from}
use Rattle.registry_core.specs.State.{State}
use Rattle.desk_wire.specs.Hexadecimal.{eui_digits}
use Rattle.desk_engine.specs.Lines.{line_feed}
use Rattle.desk_engine.specs.Listing.{table_text}

-- ---- an owner's month

abbrev pub owner_header : List ℕ
owner_header = codes "dev_eui,uplinks,b1_us,b1_peak_us,b2_us,b2_peak_us,b3_us,b3_peak_us,b4_us,b4_peak_us,b5_us,b5_peak_us,b6_us,b6_peak_us" ++ line_feed ∷ []

-- the airtime and the peak of a band, each after a comma
abbrev pub band_columns : Use → List ℕ
band_columns used = codes "," ++ (decimal used.airtime ++ (codes "," ++ decimal used.peak))

-- a device's line: its DevEUI, the number of its uplinks, and its use of each band
unfoldable pub device_use_line : ℕ → ℕ → (Band → Use) → List ℕ
device_use_line dev_eui uplinks used =
    eui_digits dev_eui ++ (codes "," ++ (decimal uplinks ++ (flat_map (λ band. band_columns (used band)) bands ++ line_feed ∷ [])))

-- there is an owner of this name; a text without the form of a name is no owner's
abbrev pub is_owner : State → List ℕ → Bool
is_owner s name = is_name name && s.owners name

-- the report on the owner's devices, by their uplinks, joins and data, that start at `from` or later and before `to`
pub record IsOwnerReport (s : State) (owner : List ℕ) (from to : ℤ) (text : List ℕ) : Type 0 where
  -- the owner's devices, each once, ordered by DevEUI
  pub devices : List ℕ
  pub rising : IsStrictlyIncreasing devices
  pub owned : (dev_eui : ℕ) → list_any (λ other. other == dev_eui) devices ≡ is_owned s owner dev_eui
  -- each device's use of each band
  pub used : ℕ → Band → Use
  pub used_is : (dev_eui : ℕ) (band : Band) → IsUse (in_band band (uplinks_from s.uplinks s.sessions dev_eui from to)) (used dev_eui band)
  pub text_is : text ≡ table_text owner_header (λ dev_eui. device_use_line dev_eui (length (uplinks_from s.uplinks s.sessions dev_eui from to)) (used dev_eui)) devices

-- two states agree on an owner, on its devices and on their uplinks
pub record AgreeOn (owner : List ℕ) (s t : State) : Type 0 where
  pub known : s.owners owner ≡ t.owners owner
  pub owned : (dev_eui : ℕ) → is_owned s owner dev_eui ≡ is_owned t owner dev_eui
  pub uplinks : (dev_eui : ℕ) (from to : ℤ) → IsTrue (is_owned s owner dev_eui) → uplinks_from s.uplinks s.sessions dev_eui from to ≡ uplinks_from t.uplinks t.sessions dev_eui from to

-- states that agree on an owner give the same report on it
abbrev pub OwnerReportsAgree : Type 0
OwnerReportsAgree = (owner : List ℕ) (s t : State) (from to : ℤ) (a b : List ℕ) → AgreeOn owner s t
    → IsOwnerReport s owner from to a → IsOwnerReport t owner from to b → a ≡ b

-- ---- a gateway's bands

abbrev pub band_header : List ℕ
band_header = codes "band,limit_us,bookings,booked_us,peak_us" ++ line_feed ∷ []

-- a band's line: its number, its limit, and its use
unfoldable pub band_line : Band → ℕ → Use → List ℕ
band_line band limit used =
    codes "B" ++ (decimal (band_number band) ++ (codes "," ++ (decimal limit ++ (codes "," ++ (decimal used.count ++ (band_columns used ++ line_feed ∷ []))))))

-- there is a gateway of this name; a text without the form of a name is no gateway's
abbrev pub is_gateway : State → List ℕ → Bool
is_gateway s name = is_name name && s.gateways name

-- the report on a gateway's bands, by its downlinks that aren't dropped
pub record IsBandReport (s : State) (gateway : List ℕ) (text : List ℕ) : Type 0 where
  pub used : Band → Use
  pub used_is : (band : Band) → IsUse (downlinks_in s.bookings gateway band) (used band)
  pub text_is : text ≡ table_text band_header (λ band. band_line band (limit_standing s gateway band) (used band)) bands
