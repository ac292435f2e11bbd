-- What the rows show of the facts, as look-ups ask for it.
use Rattle.std.proofs.Common.{◌≡◌, ℕ, Bool, true, false, cond, List, [], ◌∷◌, map, filter, Option, Some, None, option_map, refl, ap}
use Rattle.std.specs.Prelude.{option_and_then, unwrap_or}
use Rattle.std.specs.List.{AllByRecursion}
use Rattle.std.specs.Option.{option_map_or}
use Rattle.registry_core.specs.Derived.{is_session_of}
use Rattle.registry_core.specs.Ranges.{IsEui}
use Rattle.desk_rows.specs.Rows.{DeviceRow, IsDevice, SessionRow}
use Rattle.desk_rows.specs.order.Facts.{sessions_in}
use Rattle.desk_rows.specs.order.LookUps.{is_row_of_device}

-- the nonces of a device
pub nonces_tell : (dev_eui : ℕ) (rows : List SessionRow)
    → map (λ (s : SessionRow). s.session.nonce) (filter (is_row_of_device dev_eui) rows)
    ≡ map (λ session. session.nonce) (filter (is_session_of dev_eui) (sessions_in rows))
nonces_tell dev_eui [] = refl
nonces_tell dev_eui (x ∷ xs) = go (is_row_of_device dev_eui x) (nonces_tell dev_eui xs)
  where
    go : (b : Bool)
        → map (λ (s : SessionRow). s.session.nonce) (filter (is_row_of_device dev_eui) xs)
        ≡ map (λ session. session.nonce) (filter (is_session_of dev_eui) (sessions_in xs))
        → map (λ (s : SessionRow). s.session.nonce) (cond b (x ∷ filter (is_row_of_device dev_eui) xs) (filter (is_row_of_device dev_eui) xs))
        ≡ map (λ session. session.nonce) (cond b (x.session ∷ filter (is_session_of dev_eui) (sessions_in xs)) (filter (is_session_of dev_eui) (sessions_in xs)))
    go true later = ap (λ ns. x.session.nonce ∷ ns) later
    go false later = later

pub or_zero : {X : Type 0} (f : X → ℕ) (o : Option X) → unwrap_or (option_map f o) 0 ≡ option_map_or f o 0
or_zero f None = refl
or_zero f (Some x) = refl

-- what is found with its number
pub beside : {X : Type 0} (n : ℕ) (o : Option X) → option_map (λ (found : ℕ × X). found.1) (option_map (λ x. (n, x)) o) ≡ o
beside n None = refl
beside n (Some x) = refl

-- the floor of a device's row, if there is one
pub floor_joined : (o : Option DeviceRow) → option_and_then (λ floor. floor) (option_map (λ (d : DeviceRow). d.floor) o) ≡ option_and_then (λ (d : DeviceRow). d.floor) o
floor_joined None = refl
floor_joined (Some d) = refl

-- the DevEUIs are those of 64 bits
pub euis_in : (devices : List DeviceRow) → AllByRecursion IsDevice devices → AllByRecursion (λ (d : DeviceRow). IsEui d.dev_eui) devices
euis_in [] each = tt
euis_in (d ∷ devices) each = (each.0.dev_eui, euis_in devices each.1)
