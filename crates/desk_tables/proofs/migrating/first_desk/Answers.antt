-- Each error of `config_at` has the same meaning for the desk of schema 1, in which the new table's name is free.
use Rattle.std.proofs.Common.{◌≡◌, ◌⊎◌, ◌∙◌, inr, rules, IsTrue, ap}
use Rattle.sqlite_catalog.specs.Change.{is_used}
use Rattle.sqlite.specs.Effect.{Database}
use Rattle.desk_store.specs.Calls.{IsUnavailability}
use Rattle.desk_store.specs.declared.faults.StoreFault.{StoreFault}
use Rattle.desk_store.specs.declared.faults.StoreFault.TheVariants.{Exists, SchemaVersion}
use Rattle.desk_rows.specs.Migrating.{limit_name}
use Rattle.desk_tables.proofs.MigratingLemmas.{first_has_meta, free_in_first}
use Rattle.desk_tables.proofs.OpeningLemmas.{failed_so, version_or_unavailable}
use Rattle.desk_tables.proofs.migrating.first_desk.Goals as goal

pub returns-in_err-config-clause-in_order : goal.returns-in_err-config-clause-in_order
returns-in_err-config-clause-in_order g c clean schema s tells =
    failed_so IsUnavailability c.in_err-config.field-0.0 c.from_residual.result c.from_residual.ensures.1
    (c.in_err-config.ensures.in_order clean (first_has_meta _ schema) s tells)

pub returns-in_err-config-clause-other_version : goal.returns-in_err-config-clause-other_version
returns-in_err-config-clause-other_version g c clean meta version s tells other =
    failed_so (λ (f : StoreFault). (f ≡ SchemaVersion) ⊎ IsUnavailability f) c.in_err-config.field-0.0 c.from_residual.result c.from_residual.ensures.1
    (version_or_unavailable c.in_err-config.field-0.0 (λ is. c.in_err-config.ensures.not_a_desk clean (cc) meta version s tells) (λ is. c.in_err-config.ensures.never (cc)))

pub returns-in_err-config-clause-taken : goal.returns-in_err-config-clause-taken
returns-in_err-config-clause-taken g c clean meta s tells used =
    failed_so (λ (f : StoreFault). (f ≡ Exists) ⊎ IsUnavailability f) c.in_err-config.field-0.0 c.from_residual.result c.from_residual.ensures.1
    (inr (c.in_err-config.ensures.in_order clean meta s tells))

pub returns-then-is_limit_taken-clause-in_order : goal.returns-then-is_limit_taken-clause-in_order
returns-then-is_limit_taken-clause-in_order g c clean schema s tells =
    let same = c.in_ok-config.ensures.same clean in
    let used : IsTrue (is_used c.config_at.new.conn.schema limit_name) = search rules in
    absurd (free_in_first _ (ap (λ (d : Database). d.schema) same.0.now_is ∙ schema) used)
