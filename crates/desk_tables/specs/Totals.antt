-- The number of things of each kind that a desk stores.
use Rattle.std.specs.Prelude.{◌≡◌, ℕ, Bool, List, bytes_eq, is_some, length, nat_eq}
use Rattle.std.specs.List.{IsDistinct, list_any}
use Rattle.desk_store.specs.Kept.{Kept}
use Rattle.desk_store.specs.Parts.{AreCounts}
use Rattle.desk_rows.specs.order.RowsOf.{same_band}
use Rattle.desk_tables.specs.declared.totals.Totals.{Totals}

-- exactly n have it: a list has all of them, each once, and nothing else
pub record HaveIt {X : Type 0} (same : X → X → Bool) (has : X → Bool) (n : ℕ) : Type 0 where
  pub all : List X
  pub each_once : IsDistinct same all
  pub are_all : (x : X) → has x ≡ list_any (λ y. same y x) all
  pub many : n ≡ length all

-- a limit was set for this gateway's band, by the band's number
abbrev pub is_limit_set : Kept → List ℕ × ℕ → Bool
is_limit_set kept band = is_some (kept.facts.limits band.0 band.1)

pub record AreTotals (kept : Kept) (t : Totals) : Type 0 where
  pub senders : HaveIt bytes_eq (λ name. is_some (kept.facts.senders name)) t.senders
  pub owners : HaveIt bytes_eq kept.facts.owners t.owners
  pub gateways : HaveIt bytes_eq kept.facts.gateways t.gateways
  pub devices : HaveIt nat_eq (λ dev_eui. is_some (kept.facts.devices dev_eui)) t.devices
  pub limits : HaveIt same_band (is_limit_set kept) t.limits
  pub numbered : AreCounts kept.facts t.numbered
  pub replies : t.replies ≡ length kept.entries
