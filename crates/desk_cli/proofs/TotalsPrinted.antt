-- The lines of `desk check` have the totals of what the store represents; if reading them fails, no lines are printed.
use Rattle.std.proofs.Common.{◌≡◌, ℕ, List, Some, Result, Ok, Err, ap, ◌∙◌}
use Rattle.registry_core.specs.declared.messages.Envelope.{Envelope}
use Rattle.registry_core.specs.Settings.{Settings}
use Rattle.desk_store.specs.declared.faults.StoreFault.{StoreFault}
use Rattle.desk_store.specs.Calls.{IsRead}
use Rattle.desk_store.specs.Meaning.{Meaning}
use Rattle.desk_engine.specs.declared.report_faults.ReportFault.{ReportFault}
use Rattle.desk_engine.specs.declared.report_faults.ReportFault.TheVariants.{Month, Time, Owner, Gateway, Device, Unavailable}
use Rattle.desk_engine.specs.InOrder.{kept_after}
use Rattle.desk_cli.specs.OnTables.{WasOpened}
use Rattle.desk_cli.specs.commands.Checking.{IsCheck, check_text}
use Rattle.desk_cli.specs.steps.Checking.{IsCheckOf}
use Rattle.desk_cli.specs.steps.Printing.{shown}

pub is_check : {K X : Type 0} (m : Meaning K) (c : Settings) (heard : List Envelope) (old new : K) (octets : X → List ℕ)
    → WasOpened m old c heard → m.sound new → (r : Result X ReportFault) → IsCheckOf m old new octets r → IsCheck c heard (shown octets r)
is_check m c heard old new octets was sound (Ok text) told =
    let is = told (kept_after c heard) sound was.store.holds in
    (is.0, is.1, is.2 ∙ ap (λ config. check_text config is.0) was.store.configuration)
is_check m c heard old new octets was sound (Err (Unavailable fault)) told = told (kept_after c heard) sound was.store.holds
is_check m c heard old new octets was sound (Err Month) told = absurd told
is_check m c heard old new octets was sound (Err Time) told = absurd told
is_check m c heard old new octets was sound (Err Owner) told = absurd told
is_check m c heard old new octets was sound (Err Gateway) told = absurd told
is_check m c heard old new octets was sound (Err Device) told = absurd told

-- why a desk that can't be read isn't printed
pub no_check : {K X : Type 0} (m : Meaning K) (old new : K) (octets : X → List ℕ) (fault : StoreFault) (r : Result X ReportFault)
    → IsRead m old new (Some fault) → r ≡ Err (Unavailable fault) → IsCheckOf m old new octets r
no_check m old new octets fault r read is = rw is (λ kept sound held. read.unavailable kept sound held)
