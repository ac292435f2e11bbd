-- When a command that changes the database returns `Refused`: the database refused it.
use Rattle.std.proofs.Common.{◌≡◌, inl, inr, ℕ, ◌≤◌, List, [], length, Bool, true, false, None, Some, Ok, Err, Result, refl, sym, ap, subst, ◌∙◌, append-nil}
use Rattle.std.specs.Prelude.{MatchBool}
use Rattle.sqlite_value.specs.Order.{Row}
use Rattle.sqlite_schema.specs.declared.schema.Schema.{Schema}
use Rattle.sqlite_schema.specs.declared.program.Program.{Program}
use Rattle.sqlite_schema.specs.declared.command.Source.{Source}
use Rattle.sqlite_resolve.specs.declared.compiled.Compiled.{Compiled}
use Rattle.sqlite_resolve.specs.declared.error.CompileError.{CompileError}
use Rattle.sqlite.specs.Command.{Command}
use Rattle.sqlite.specs.Command.TheVariants.{Begin, Commit, CreateIndex, CreateTable, Insert, Release, Rollback, RollbackTo, Update}
use Rattle.sqlite.specs.Effect.{is_query}
use Rattle.sqlite.specs.Does.{Does}
use Rattle.sqlite.specs.declared.error.Error.{Error}
use Rattle.sqlite.specs.declared.error.Error.TheVariants.{ExecuteReturnedResults}
use Rattle.sqlite.specs.Listing.{understood}
use Rattle.sqlite.specs.Clock.{timed}
use Rattle.sqlite.specs.State.{State, mode_of, ExecutesIn, EndsScope, Escapes, IsMisplaced, IsNoStatement, IsNotRun, IsUnchanged, RunsCommand, is_pragma, text_of, shows_rows}
use Rattle.desk_rows.specs.Faults.{row_fault}
use Rattle.desk_rows.specs.declared.faults.RowFault.TheVariants.{Refused}
use Rattle.desk_rows.proofs.FaultLemmas.{told_else}

-- the command changes the database, and neither shows rows nor ends a transaction
pub record WritesRows (command : Command) : Type 1 where
  pub placed : (s : State) (e : Error) → IsMisplaced s command e → ⊥
  pub stays : (s : State) → Escapes 0 s command → ⊥
  pub silent : (is_query command ≡ false) × (is_pragma command ≡ false)

abbrev is_of_transactions : Command → Bool
is_of_transactions Begin = true
is_of_transactions Commit = true
is_of_transactions Rollback = true
is_of_transactions (Release name) = true
is_of_transactions (RollbackTo name) = true
is_of_transactions _ = false

module _ (command : Command) (other : is_of_transactions command ≡ false) where
  never : (it : Command) → command ≡ it → is_of_transactions it ≡ true → ⊥
  never it same such = let e : true ≡ false = sym such ∙ sym (ap is_of_transactions same) ∙ other in cc

  writes_rows : (is_query command ≡ false) × (is_pragma command ≡ false) → WritesRows command
  writes_rows silent = record {
    placed = λ s e h. elim h [
      | inl transaction ↦
          elim transaction.1 [ inl begins ↦ never Begin begins.0 refl | inr ends ↦ elim ends.0 [ inl a ↦ never Commit a refl | inr a ↦ never Rollback a refl ] ]
      | inr mark ↦ elim mark.2 [ inl a ↦ never (Release mark.1) a refl | inr a ↦ never (RollbackTo mark.1) a refl ]
    ];
    stays = λ s h. elim h [
      | inl ends ↦ elim ends [ inl a ↦ never Commit a refl | inr a ↦ never Rollback a refl ]
      | inr marks ↦ elim marks.1 [ inl a ↦ never (Release marks.0) a refl | inr a ↦ never (RollbackTo marks.0) a refl ]
    ];
    silent = silent;
  }

pub insert_writes : (at : ℕ) (from : Source) → WritesRows (Insert at from)
insert_writes at from = writes_rows (Insert at from) refl (refl, refl)

pub update_writes : (at : ℕ) (program : Program) → WritesRows (Update at program)
update_writes at program = writes_rows (Update at program) refl (refl, refl)

pub table_writes : WritesRows CreateTable
table_writes = writes_rows CreateTable refl (refl, refl)

pub index_writes : (at : ℕ) → WritesRows (CreateIndex at)
index_writes at = writes_rows (CreateIndex at) refl (refl, refl)

shows_none : (in_batch : Bool) (c : Compiled) → is_query c.command ≡ false → is_pragma c.command ≡ false → c.returning ≡ None → shows_rows in_batch c ≡ false
shows_none true c query pragma none = rw query refl
shows_none false c query pragma none = rw (query, pragma, none) refl

module _ (in_batch : Bool) (schema : Schema) (sql : List ℕ) (params : Row) (old new : State) (has : old.now.schema ≡ schema) (command : Command) (writes : WritesRows command)
    (compiled : Compiled) (means : understood schema sql ≡ Ok compiled) (is : compiled.command ≡ command)
    (plain : (compiled.returning ≡ None) × (compiled.formats ≡ [])) (whole : length sql ≤ compiled.tail) (many : length params ≡ length compiled.names) where
  -- the command was refused on the database, which has this schema
  abbrev pub IsTurnedDown : Error → Type 0
  IsTurnedDown e = Does old.step_limit (mode_of old) params (record old.now { schema = schema }) (text_of sql compiled) None command (Err (Some e))

  runs : (e : Error) → row_fault e ≡ Refused → (c : Compiled) → c ≡ compiled → RunsCommand old new sql c params (Err e) → IsTurnedDown e
  runs e told c same (inr fails) = absurd (told_else fails.0 (ap row_fault (sym fails.1) ∙ told))
  runs e told c same (inl (inl misplaced, unchanged)) =
      absurd (writes.placed old e (subst (λ k. IsMisplaced old k e) (ap (λ (x : Compiled). x.command) same ∙ is) misplaced))
  runs e told c same (inl (inr wrote, unchanged)) =
      let does : Does old.step_limit (mode_of old) params old.now (text_of sql compiled) compiled.returning compiled.command (Err (Some e)) =
      subst (λ (x : Compiled). Does old.step_limit (mode_of old) params old.now (text_of sql x) x.returning x.command (Err (Some e))) same wrote.1 in
      let a = subst (λ k. Does old.step_limit (mode_of old) params old.now (text_of sql compiled) compiled.returning k (Err (Some e))) is does in
      let b = subst (λ r. Does old.step_limit (mode_of old) params old.now (text_of sql compiled) r command (Err (Some e))) plain.0 a in
      subst (λ s. Does old.step_limit (mode_of old) params (record old.now { schema = s }) (text_of sql compiled) None command (Err (Some e))) has b

  known : (c : Compiled) → understood old.now.schema sql ≡ Ok c → c ≡ compiled
  known c it = let both : ◌≡◌ {A = Result Compiled CompileError} (Ok c) (Ok compiled) = sym it ∙ ap (λ s. understood s sql) has ∙ means in cc

  no_statement : (e : Error) → IsNoStatement old sql params e → ⊥
  no_statement e (inl h) = let a = sym (ap (λ s. understood s sql) has ∙ means) ∙ h.1 in cc
  no_statement e (inr h) =
      let same : h.0 ≡ compiled = known h.0 h.1 in
      elim h.2 [
        | inl long ↦ long.0 (rw same whole)
        | inr (inl count) ↦ count.0 (many ∙ ap (λ (c : Compiled). length c.names) (sym same))
        | inr (inr clock) ↦ clock.0 (ap (λ (c : Compiled). c.formats) same ∙ plain.1)
      ]

  pub executed : (e : Error) → row_fault e ≡ Refused → ExecutesIn in_batch sql params old new (Err e) → IsTurnedDown e
  unfolding ExecutesIn IsNotRun
  executed e told (inl (inl h)) = absurd (no_statement e h.0)
  executed e told (inl (inr h)) = absurd (told_else h.0 (ap row_fault (sym h.1) ∙ told))
  executed e told (inr h) =
      let same : h.0 ≡ compiled = known h.0 h.1.is in
      let cmd : h.0.command ≡ command = ap (λ (x : Compiled). x.command) same ∙ is in
      let none : h.0.returning ≡ None = ap (λ (x : Compiled). x.returning) same ∙ plain.0 in
      let still : h.0.formats ≡ [] = ap (λ (x : Compiled). x.formats) same ∙ plain.1 in
      let silent : shows_rows in_batch h.0 ≡ false = shows_none in_batch h.0 (ap is_query cmd ∙ writes.silent.0) (ap is_pragma cmd ∙ writes.silent.1) none in
      let ran = subst (λ b. MatchBool b ((◌≡◌ {A = Result ℕ Error} (Err e) (Err ExecuteReturnedResults)) × IsUnchanged old new)
      (RunsCommand old new sql h.0 (timed params h.0.formats h.1.now) (Err e))) silent h.2 in
      runs e told h.0 same (rw (still, append-nil params) at ran)

  pub not_ended : EndsScope 0 sql params old → ⊥
  unfolding EndsScope
  not_ended h = writes.stays old (subst (Escapes 0 old) (ap (λ (c : Compiled). c.command) (known h.0 h.1.is) ∙ is) h.2)
