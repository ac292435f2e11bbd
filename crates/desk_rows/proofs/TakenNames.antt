-- A CREATE TABLE is refused where a table, an index or a view has the name, whatever else the schema has.
use Rattle.std.proofs.Common.{◌≡◌, ℕ, ◌+◌, ◌||◌, Bool, true, false, cond, if◌then◌else◌, List, Option, Some, None, is_some, Ok, Err, Result, refl, sym, ap, ◌∙◌, true≢false, inl, inr}
use Rattle.std.specs.Option.{option_or}
use Rattle.std.proofs.lemmas.Bool.{cases_Bool}
use Rattle.sqlite_schema.specs.declared.command.Command.{Command}
use Rattle.sqlite_schema.specs.declared.schema.Schema.{Schema}
use Rattle.sqlite_schema.specs.Names.{index_named, table_named, view_named}
use Rattle.sqlite_catalog.specs.Change.{is_used}
use Rattle.sqlite_resolve.specs.Compile.{command, compiled, creates, first, is_attached, is_reserved, meaning, planned, returning, small, timed, with_command}
use Rattle.sqlite_resolve.specs.Lowering.{Checked, and_then}
use Rattle.sqlite_resolve.specs.Scope.{Name}
use Rattle.sqlite_resolve.specs.declared.compiled.Compiled.{Compiled}
use Rattle.sqlite_resolve.specs.declared.error.CompileError.{CompileError}
use Rattle.sqlite_resolve.specs.declared.error.CompileError.TheVariants.{Exists, Misuse, Unsupported}
use Rattle.sqlite.specs.Listing.{if_select, listing_schema, misses_table, understood}

-- it is no error because a table is missing
abbrev IsFault : CompileError → Type 0
IsFault e = misses_table (Err e) ≡ false

-- however the name is used
not_new : (reserved : Bool) (table index view : Option ℕ) → (is_some table || is_some index || is_some view) ≡ true
    → (e : CompileError) × IsFault e
    × (cond reserved (Err Misuse) (cond (is_some index) (Err Exists) (cond (is_some (option_or table view)) (Err Exists) (Ok true))) ≡ Err e)
not_new true table index view used = (Misuse, refl, refl)
not_new false table (Some i) view used = (Exists, refl, refl)
not_new false (Some t) None view used = (Exists, refl, refl)
not_new false None None (Some v) used = (Exists, refl, refl)
not_new false None None None used = absurd (true≢false (sym used))

-- what a CREATE TABLE of this name means, without IF NOT EXISTS: first the name has to be free
abbrev creates_anew : Schema → Name → (Bool → Checked Command) → Checked Command
creates_anew schema name next =
    if is_attached schema name then Err Unsupported
    else and_then (creates false name (option_or (table_named schema name) (view_named schema name)) (index_named schema name)) next

-- the text is one such statement
module _ (schema : Schema) (text name : Name) (parsed : _) (means : first text ≡ Ok parsed) (next : Bool → Checked Command)
    (commands : (base : ℕ) → command schema parsed.formats base parsed.statement ≡ creates_anew schema name next)
    (shows : (base : ℕ) → returning schema base parsed.statement ≡ Ok None) (used : is_used schema name ≡ true) where
  not_made : (e : CompileError) × IsFault e
      × (creates false name (option_or (table_named schema name) (view_named schema name)) (index_named schema name) ≡ Err e)
  unfolding creates
  not_made = not_new (is_reserved name) (table_named schema name) (index_named schema name) (view_named schema name) used

  why : (e : CompileError) × IsFault e × (creates_anew schema name next ≡ Err e)
  why = elim (cases_Bool (is_attached schema name)) [
    | inl attached ↦ (Unsupported, refl, rw attached refl)
    | inr free ↦ (not_made.0, not_made.1, rw (free, not_made.2) refl)
  ]

  meant : (base : ℕ) → meaning schema parsed base ≡ Err why.0
  unfolding meaning
  meant base = λ i. and_then (shows base i) (λ shown. and_then ((commands base ∙ why.2) i) (λ c. Ok (c, shown)))

  abbrev formats : List Name
  formats = timed schema parsed.formats parsed.statement

  unplanned : planned schema parsed ≡ Err why.0
  unfolding planned
  unplanned = ap (λ found. and_then found (λ plan. Ok (formats, plan))) (meant (small parsed.names + small formats))

  uncompiled : compiled schema text ≡ Err why.0
  unfolding compiled
  uncompiled = ap (λ p. and_then p (λ p. and_then (planned schema p) (λ plan. Ok (with_command p plan)))) means
      ∙ ap (λ plan. and_then plan (λ plan. Ok (with_command parsed plan))) unplanned

  unread : understood schema text ≡ Err why.0
  unfolding understood
  unread =
      let listed = if_select (compiled listing_schema text) in
      ap (λ c. cond (misses_table c) listed c) uncompiled ∙ ap (λ missing. cond missing listed (Err why.0)) why.1

  pub not_understood : (c : Compiled) → understood schema text ≡ Ok c → ⊥
  not_understood c is = let both : ◌≡◌ {A = Result Compiled CompileError} (Err why.0) (Ok c) = sym unread ∙ is in cc
