-- For the rows of a desk `config_at` fails only with `Memory`, `Disk` or `Size`, and for another version never with `NotADesk`.
use Rattle.std.proofs.Common.{◌≡◌, pos}
use Rattle.sqlite.specs.Held.{state}
use Rattle.desk_store.specs.Calls.{IsUnavailability}
use Rattle.desk_store.specs.declared.faults.StoreFault.TheVariants.{NotADesk}
use Rattle.desk_rows.specs.Schema.{desk_schema, schema_version}
use Rattle.desk_tables.proofs.OpeningLemmas.{desk_has_meta, failed_so, fault_is, meta_tells}
use Rattle.desk_tables.proofs.opening.open_desk.Goals as goal

pub returns-in_err-config-clause-unavailable : goal.returns-in_err-config-clause-unavailable
returns-in_err-config-clause-unavailable g c clean r has config =
    failed_so IsUnavailability c.in_err-config.field-0.0 c.from_residual.result c.from_residual.ensures.1
    (c.in_err-config.ensures.in_order clean (desk_has_meta _ has.ten.schema) r.settings
    (meta_tells 2 desk_schema (state g.S.Store c.args.conn.now).now r has.ten config))

pub returns-in_err-config-clause-not_a_desk : goal.returns-in_err-config-clause-not_a_desk
returns-in_err-config-clause-not_a_desk g c clean is schema s tells =
    let told : c.in_err-config.field-0.0 ≡ NotADesk = fault_is _ NotADesk c.from_residual.result c.from_residual.ensures.1 is in
    c.in_err-config.ensures.not_a_desk clean (cc) (desk_has_meta _ schema) (pos schema_version) s tells

pub returns-in_err-config-clause-other_version : goal.returns-in_err-config-clause-other_version
returns-in_err-config-clause-other_version g c clean meta version s tells other is =
    let told : c.in_err-config.field-0.0 ≡ NotADesk = fault_is _ NotADesk c.from_residual.result c.from_residual.ensures.1 is in
    c.in_err-config.ensures.not_a_desk clean (cc) meta version s tells
