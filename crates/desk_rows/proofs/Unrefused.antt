-- A query that fits its schema is not refused.
use Rattle.std.proofs.Common.{◌≡◌, inl, inr, ℕ, ◌≤◌, List, [], length, None, Ok, Result, sym, ap, subst, ◌∙◌}
use Rattle.sqlite_value.specs.Order.{Row}
use Rattle.sqlite_schema.specs.declared.schema.Schema.{Schema}
use Rattle.sqlite_resolve.specs.declared.compiled.Compiled.{Compiled}
use Rattle.sqlite_resolve.specs.declared.error.CompileError.{CompileError}
use Rattle.sqlite.specs.declared.error.Error.{Error}
use Rattle.sqlite.specs.Effect.{Database, RefusesToRead}
use Rattle.sqlite.specs.Listing.{understood, reads_listing, IsSourceOf}
use Rattle.sqlite.specs.State.{State, FailsToQuery, FailsToShow, IsNotRun, IsNoStatement}
use Rattle.sqlite.specs.Clock.{timed}
use Rattle.desk_rows.specs.declared.faults.RowFault.TheVariants.{Refused}
use Rattle.desk_rows.specs.Faults.{row_fault}
use Rattle.desk_rows.proofs.FaultLemmas.{told_else}

module _ (sql : List ℕ) (params : Row) (old new : State) (schema : Schema) (has : old.now.schema ≡ schema) (compiled : Compiled) (means : understood schema sql ≡ Ok compiled)
    (plain : (compiled.returning ≡ None) × (compiled.formats ≡ [])) (whole : length sql ≤ compiled.tail) (many : length params ≡ length compiled.names) where
  no_statement : (e : Error) → IsNoStatement old sql params e → ⊥
  no_statement e (inl h) = let a = sym (ap (λ s. understood s sql) has ∙ means) ∙ h.1 in cc
  no_statement e (inr h) =
      let both : ◌≡◌ {A = Result Compiled CompileError} (Ok h.0) (Ok compiled) = sym h.1 ∙ ap (λ s. understood s sql) has ∙ means in
      let same : h.0 ≡ compiled = cc in
      elim h.2 [
        | inl long ↦ long.0 (rw same whole)
        | inr (inl count) ↦ count.0 (many ∙ ap (λ (c : Compiled). length c.names) (sym same))
        | inr (inr clock) ↦ clock.0 (ap (λ (c : Compiled). c.formats) same ∙ plain.1)
      ]

  pub not_refused : ((e : Error) (time : ℕ) (db : Database) → IsSourceOf (reads_listing old.now.schema sql) old.now db → RefusesToRead old.step_limit compiled.command db (timed params compiled.formats time) e → ⊥)
      → (e : Error) → row_fault e ≡ Refused → FailsToQuery sql params old new e → ⊥
  unfolding FailsToQuery IsNotRun
  not_refused reads e told (inl (inl h)) = no_statement e h.0
  not_refused reads e told (inl (inr h)) = told_else h.0 (ap row_fault (sym h.1) ∙ told)
  not_refused reads e told (inr h) =
      let both : ◌≡◌ {A = Result Compiled CompileError} (Ok h.0) (Ok compiled) = sym h.1.is ∙ ap (λ s. understood s sql) has ∙ means in
      let same : h.0 ≡ compiled = cc in
      let none : h.0.returning ≡ None = ap (λ (x : Compiled). x.returning) same ∙ plain.0 in
      let it = subst (FailsToShow old new sql h.0 (timed params h.0.formats h.1.now) e) none h.2 in
      reads e h.1.now it.0 it.1 (subst (λ (c : Compiled). RefusesToRead old.step_limit c.command it.0 (timed params c.formats h.1.now) e) same it.2)
