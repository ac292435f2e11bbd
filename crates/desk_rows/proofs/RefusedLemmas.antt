-- A statement that writes rows inside a transaction, and why an INSERT of one row is refused.
use Rattle.std.proofs.Common.{◌≡◌, inl, inr, ℕ, zero, suc, ◌≤◌, ◌/◌, List, [], ◌∷◌, length, length-append, slice_get, true, false, Option, Some, None, option_map, Ok, Err, Result, IfErr, refl, sym, ap, subst, ◌∙◌, append-nil, arith}
use Rattle.std.specs.Prelude.{IsSome}
use Rattle.std.specs.List.{AllByRecursion}
use Rattle.sqlite_value.specs.Order.{Row}
use Rattle.sqlite_trees.specs.Tree.{Trees}
use Rattle.sqlite_sql.specs.Term.{Term}
use Rattle.sqlite_typing.specs.Types.{accepts_terms}
use Rattle.sqlite_schema.specs.declared.schema.Schema.{Schema}
use Rattle.sqlite_schema.specs.declared.schema.Table.{Table}
use Rattle.sqlite_schema.specs.declared.schema.Among.{Among}
use Rattle.sqlite_schema.specs.declared.schema.Among.TheVariants.{All}
use Rattle.sqlite_schema.specs.declared.schema.Keys.TheVariants.{Enforced}
use Rattle.sqlite_schema.specs.Rules.{Refers}
use Rattle.sqlite_resolve.specs.declared.compiled.Compiled.{Compiled}
use Rattle.sqlite_rules.specs.declared.error.Refusal.{Refusal}
use Rattle.sqlite_rules.specs.declared.error.Rowids.TheVariants.{Chosen}
use Rattle.sqlite_rules.specs.Edit.{edit_of, IsRefused}
use Rattle.sqlite_rules.specs.Action.{Leads}
use Rattle.sqlite.specs.Command.{Command}
use Rattle.sqlite.specs.Command.TheVariants.{Insert}
use Rattle.sqlite.specs.Source.TheVariants.{Values}
use Rattle.sqlite.specs.Effect.{edit_error, value_rows}
use Rattle.sqlite.specs.Does.{Does, AtPlace, OnRows}
use Rattle.sqlite.specs.Rows.{Task, Inserts}
use Rattle.sqlite.specs.declared.error.Error.{Error}
use Rattle.sqlite.specs.Listing.{understood}
use Rattle.sqlite.specs.State.{State, mode_of, ExecutesInside}
use Rattle.desk_rows.specs.Schema.{booking_tree, copy_tree, desk_schema, desk_tables, device_tree, gateway_tree, limit_tree, meta_tree, owner_tree, reply_tree, sender_tree, session_tree, uplink_tree}
use Rattle.desk_rows.specs.Faults.{IsEven, row_fault}
use Rattle.desk_rows.specs.declared.faults.RowFault.{RowFault}
use Rattle.desk_rows.specs.declared.faults.RowFault.TheVariants.{Memory, Disk, Size, Row as OutOfShape, Refused}
use Rattle.desk_rows.proofs.FaultLemmas.{not_row}
use Rattle.desk_rows.proofs.TurnedDown as turned
use Rattle.desk_rows.proofs.TurnedDown.{WritesRows}
use Rattle.desk_rows.proofs.InsertLemmas.{uncounted}

none_refers : (among : Among) (rows : List Row) → AllByRecursion (λ (row : Row). true ≡ true) rows
none_refers among [] = tt
none_refers among (r ∷ rows) = (refl, none_refers among rows)

-- the schema has no `FOREIGN KEY`
pub refers : (among : Among) (db : Trees) → Refers among desk_schema db
refers among db = (
  none_refers among (db meta_tree),
  (
    none_refers among (db sender_tree),
    (
      none_refers among (db reply_tree),
      (
        none_refers among (db owner_tree),
        (
          none_refers among (db gateway_tree),
          (
            none_refers among (db device_tree),
            (
              none_refers among (db session_tree),
              (
                none_refers among (db uplink_tree),
                (none_refers among (db copy_tree), (none_refers among (db booking_tree), (none_refers among (db limit_tree), tt))),
              ),
            ),
          ),
        ),
      ),
    ),
  ),
)

pub no_work : (n : ℕ) (db : Trees) (why : Option Refusal) → Leads desk_schema Enforced n db [] (Err why) → ⊥
no_work zero db why h = let e = h.1 in cc
no_work (suc n) db why h = omega (arith, ap length h.2, length-append h.0 (h.1 ∷ []))

pub unset : (limit : Option ℕ) → limit ≡ None → IsSome limit → ⊥
unset None e h = let x = h in cc
unset (Some n) e h = cc

-- a row that cannot be stored has another error
pub not_oversized : {A B : Type 0} (why : Option Refusal) (s stop : Option Error) (e : Error)
    → ◌≡◌ {A = Result A (Option Refusal)} (Err why) (Err None) → s ≡ option_map edit_error why
    → ◌≡◌ {A = Result B (Option Error)} (Err stop) (Err s) → stop ≡ Some e → ⊥
not_oversized why s stop e big is same some = cc

-- ---- a statement inside a transaction that returns `Refused`

module _ {schema : Schema} (sql : List ℕ) (params : Row) (old new : State) (has : old.now.schema ≡ schema) (command : Command) (writes : WritesRows command)
    (compiled : Compiled) (means : understood schema sql ≡ Ok compiled) (is : compiled.command ≡ command)
    (plain : (compiled.returning ≡ None) × (compiled.formats ≡ [])) (whole : length sql ≤ compiled.tail) (many : length params ≡ length compiled.names) where
  abbrev pub IsTurnedDown : Error → Type 0
  IsTurnedDown = turned.IsTurnedDown false schema sql params old new has command writes compiled means is plain whole many

  turned_down : (e : Error) → row_fault e ≡ Refused → ExecutesInside 0 sql params old new (Err e) → IsTurnedDown e
  turned_down e told (inl ran) = turned.executed false schema sql params old new has command writes compiled means is plain whole many e told ran.0
  turned_down e told (inr ends) = absurd (turned.not_ended false schema sql params old new has command writes compiled means is plain whole many ends.0)

  -- where the database never refuses it, it fails only for memory, the disk or a size
  pub in_order_unless : ((e : Error) → IsTurnedDown e → ⊥) → (r : Result (Unit {0}) RowFault)
      → IfErr r (λ fault. (e : Error) × (fault ≡ row_fault e) × ExecutesInside 0 sql params old new (Err e)) → IfErr r IsEven
  in_order_unless never (Ok done) h = tt
  in_order_unless never (Err Memory) h = refl
  in_order_unless never (Err Disk) h = refl
  in_order_unless never (Err Size) h = refl
  in_order_unless never (Err OutOfShape) h = absurd (not_row h.0 (sym h.1))
  in_order_unless never (Err Refused) h = absurd (never h.0 (turned_down h.0 (sym h.1) h.2))

-- ---- an INSERT of one row

module _ (old : State) (params : Row) (at : ℕ) (terms : List Term) (width : ℕ) (bare : Table) (there : slice_get desk_tables at ≡ Some (uncounted bare))
    (source : Row) (one : value_rows params width (length terms / width) terms ≡ source ∷ [])
    (typed : accepts_terms terms params ≡ true) (unlimited : old.step_limit ≡ None) where
  abbrev table : Table
  table = uncounted bare

  abbrev task : Task
  task = record { limit = old.step_limit; keys = Enforced; schema = desk_schema; table = table; params = params }

  abbrev Cause : Type 0
  Cause = (why : Refusal) × IsRefused desk_schema Enforced old.now.trees (edit_of old.now.trees table [] Chosen 0 (source ∷ [])) why

  inserts : (stop : Option Error) (e : Error) → stop ≡ Some e → Inserts task (Values terms width) old.now.trees (Err stop) → Cause
  inserts stop e some (inl (None, src, eq)) = absurd src
  inserts stop e some (inl (Some s, inl mistyped, eq)) =
      absurd (let a : accepts_terms terms params ≡ false = subst (λ p. accepts_terms terms p ≡ false) (append-nil params) mistyped.1 in cc)
  inserts stop e some (inl (Some s, inr limited, eq)) = absurd (unset old.step_limit unlimited limited.1)
  inserts stop e some (inr (rows, given, inl (s, counter, eq))) = absurd cc
  inserts stop e some (inr (rows, given, inr (counter, none, inl (s, edited, eq)))) =
      let same : rows ≡ source ∷ [] = given.1 ∙ ap (λ p. value_rows p width (length terms / width) terms) (append-nil params) ∙ one in
      elim edited.1 [
        | inl refused ↦
            (refused.0, subst (λ rs. IsRefused desk_schema Enforced old.now.trees (edit_of old.now.trees table [] Chosen 0 rs) refused.0) same refused.1)
        | inr (inl big) ↦ absurd (not_oversized edited.0 s stop e big.3 edited.2 eq some)
        | inr (inr went) ↦ absurd (no_work went.2.0 went.0 edited.0 went.2.1)
      ]
  inserts stop e some (inr (rows, given, inr (counter, none, inr (mid, edited, inl (s, counts, eq))))) = absurd cc
  inserts stop e some (inr (rows, given, inr (counter, none, inr (mid, edited, inr (next, counts, out))))) = absurd cc

  does : (e : Error) → OnRows task (mode_of old) None (Insert at (Values terms width)) old.now.trees (Err (Some e)) → Cause
  does e (inl (stop, wrote, eq)) = inserts stop e (let x : stop ≡ Some e = cc in x) wrote
  does e (inr (w, wrote, inl (stop, tested, eq))) = absurd (tested.0 (refers All w.trees))
  does e (inr (w, wrote, inr (doubt, tested, inl (stop, returned, eq)))) = absurd cc
  does e (inr (w, wrote, inr (doubt, tested, inr (rows, returned, out)))) = absurd cc

  -- what refused it is one of the rules
  pub insert_cause : (text : List ℕ) (e : Error)
      → Does old.step_limit (mode_of old) params (record old.now { schema = desk_schema }) text None (Insert at (Values terms width)) (Err (Some e)) → Cause
  insert_cause text e h =
      let command = Insert at (Values terms width) in
      does e (subst (λ o. AtPlace (λ t. OnRows (record task { table = t }) (mode_of old) None command old.now.trees) o (Err (Some e))) there h)
