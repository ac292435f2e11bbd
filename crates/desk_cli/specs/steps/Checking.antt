-- What is printed of a desk, by the totals of its store.
use Rattle.std.specs.Prelude.{◌≡◌, ℕ, List, Result, Ok, Err}
use Rattle.registry_core.specs.Settings.{Settings}
use Rattle.desk_store.specs.Calls.{ForHeld, IsUnavailability}
use Rattle.desk_store.specs.Kept.{Kept}
use Rattle.desk_store.specs.Meaning.{Meaning}
use Rattle.desk_engine.specs.declared.report_faults.ReportFault.{ReportFault}
use Rattle.desk_engine.specs.declared.report_faults.ReportFault.TheVariants.{Unavailable}
use Rattle.desk_tables.specs.Totals.{AreTotals}
use Rattle.desk_tables.specs.declared.totals.Totals.{Totals}
use Rattle.desk_cli.specs.commands.Checking.{check_text}

-- the text is that of the totals of these
abbrev pub TellsTotals : Kept → Settings → List ℕ → Type 0
TellsTotals kept c text = (t : Totals) × AreTotals kept t × (text ≡ check_text c t)

module _ {K X : Type 0} (m : Meaning K) (old new : K) (octets : X → List ℕ) where
  abbrev pub IsCheckOf : Result X ReportFault → Type 0
  IsCheckOf (Ok text) = ForHeld m old new (λ kept. TellsTotals kept (m.configuration old) (octets text))
  IsCheckOf (Err (Unavailable fault)) = ForHeld m old new (λ kept. IsUnavailability fault)
  IsCheckOf (Err _) = ⊥
