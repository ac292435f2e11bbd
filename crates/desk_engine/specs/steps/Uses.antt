-- The use of the air, by the peak that the code computes, and reports as far as they are written. For private clauses.
use Rattle.std.specs.Prelude.{◌≡◌, ℕ, ◌==◌, ◌&&◌, not, List, length, sum_by, ℤ, Option, ◌++◌}
use Rattle.std.specs.List.{flat_map, list_any}
use Rattle.std.specs.List.Sorted.{IsStrictlyIncreasing}
use Rattle.radio_core.specs.declared.bands.Band.{Band}
use Rattle.duty_core.specs.Computed.{peak_of}
use Rattle.duty_core.specs.Use.{Interval}
use Rattle.registry_core.specs.declared.facts.Uplink.{Uplink}
use Rattle.registry_core.specs.Reports.{Use, in_band, is_after, is_owned, uplinks_from}
use Rattle.registry_core.specs.State.{State}
use Rattle.desk_engine.specs.declared.uses.Use.{Use as CountedUse}
use Rattle.desk_engine.specs.Reports.{band_columns, device_use_line, owner_header}

abbrev pub use_shown : CountedUse → Use
use_shown used = record { count = used.count; airtime = used.airtime; peak = used.peak }

abbrev pub use_computed : List Interval → Use
use_computed intervals = record { count = length intervals; airtime = sum_by (λ a. a.len) intervals; peak = peak_of intervals }

-- ---- a device's line

-- for these bands, the number of the uplinks in them, and the columns of each
pub record HasColumns (sent : List Uplink) (done : List Band) (uplinks : ℕ) (columns : List ℕ) : Type 0 where
  pub count : uplinks ≡ sum_by (λ band. length (in_band band sent)) done
  pub text : columns ≡ flat_map (λ band. band_columns (use_computed (in_band band sent))) done

-- the line of a device, by its uplinks that start at `from` or later and before `to`
unfoldable pub owner_report_line : State → ℤ → ℤ → ℕ → List ℕ
owner_report_line s from to dev_eui = let sent = uplinks_from s.uplinks s.sessions dev_eui from to in
    device_use_line dev_eui (length sent) (λ band. use_computed (in_band band sent))

-- ---- an owner's devices

-- the text has the lines of the owner's devices up to the last one
pub record HasLines (s : State) (owner : List ℕ) (from to : ℤ) (last : Option ℕ) (text : List ℕ) : Type 0 where
  pub devices : List ℕ
  pub rising : IsStrictlyIncreasing devices
  pub owned : (dev_eui : ℕ) → list_any (λ other. other == dev_eui) devices ≡ (is_owned s owner dev_eui && not (is_after last dev_eui))
  pub text_is : text ≡ owner_header ++ flat_map (owner_report_line s from to) devices
