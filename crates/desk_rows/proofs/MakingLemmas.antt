-- The database after the batch that makes a desk's tables, and after the row of meta is added; and with which errors both can fail.
use Rattle.std.proofs.Common.{◌≡◌, ◌∙◌, ℕ, pos, List, [], ◌∷◌, codes, length, None, Ok, Err, Result, OnOk, IfErr, refl, sym, subst, arith, inl}
use Rattle.std.specs.List.{AllByRecursion}
use Rattle.sqlite_value.specs.declared.value.Value.TheVariants.{Null, Int, Text}
use Rattle.sqlite_value.specs.Order.{Row}
use Rattle.sqlite_trees.specs.declared.store.Store.{Ghosts}
use Rattle.sqlite_sql.specs.Term.{lit, col}
use Rattle.sqlite_schema.specs.declared.schema.Schema.{Schema}
use Rattle.sqlite_schema.specs.declared.schema.Table.{Table}
use Rattle.sqlite_rules.specs.Cast.{cast_row}
use Rattle.sqlite.specs.Effect.{Database}
use Rattle.sqlite.specs.Batch.{ExecutesAllInside}
use Rattle.sqlite.specs.Held.{Held, state}
use Rattle.sqlite.specs.declared.error.Error.{Error}
use Rattle.sqlite.specs.Listing.{understood}
use Rattle.sqlite.specs.State.{State, HasCleanDisk, Executes}
use Rattle.sqlite_tied.specs.Compute.{everything}
use Rattle.registry_core.specs.Settings.{Settings}
use Rattle.std.specs.Prelude.{IsTrue}
use Rattle.desk_rows.specs.Faults.{IsEven, row_fault}
use Rattle.desk_rows.specs.Making.{IsBare, IsEmptied, settings_rows}
use Rattle.desk_rows.specs.Rows.{Holds, meta_cells, number}
use Rattle.desk_rows.specs.Schema.{desk_tables, meta_table, no_schema}
use Rattle.desk_rows.specs.steps.Statements.{HasWritten}
use Rattle.desk_rows.specs.declared.faults.RowFault.{RowFault}
use Rattle.desk_rows.proofs.InsertLemmas.{cast_null, cast_int, uncounted}
use Rattle.desk_rows.proofs.Insertions.{IsInsert, row_added, insert_in_order, ran_well}
use Rattle.desk_rows.proofs.SchemaBatch.{batch, makes_all, all_made}
use Rattle.desk_rows.proofs.FaultLemmas.{even_unless}

pub tables_made : {S : Type 0} (g : Ghosts S) (old new : Held S) → ExecutesAllInside g 0 batch old new (Ok tt) → (state g old).now.schema ≡ no_schema → IsBare (state g new).now × IsTrue (state g new).is_open
unfolding ExecutesAllInside
tables_made {S} g old new ran has =
    let none : IsEmptied (state g old).now = subst (λ (s : Schema). AllByRecursion (λ t. (state g old).now.trees t.tree ≡ []) s.tables) (sym has) tt in
    let all = makes_all S g (length batch) old new has none ran in
    (record { schema = all.0; sound = all.2; empty = all.1 }, all.3)

pub tables_refused : {S : Type 0} (g : Ghosts S) (old new : Held S) (e : Error) → ExecutesAllInside g 0 batch old new (Err e) → (state g old).now.schema ≡ no_schema
    → IsTrue old.in_transaction → IsEven (row_fault e)
unfolding ExecutesAllInside
tables_refused {S} g old new e ran has inside =
    let none : IsEmptied (state g old).now = subst (λ (s : Schema). AllByRecursion (λ t. (state g old).now.trees t.tree ≡ []) s.tables) (sym has) tt in
    even_unless e (λ told. all_made.spared S g (length batch) old new e has none inside told ran)

abbrev meta_text : List ℕ
meta_text = codes "INSERT INTO meta (version, receiver, operator, base, addresses) VALUES (2, ?1, ?2, ?3, ?4)"

meta_insert : IsInsert meta_text 4 0 (lit Null ∷ lit Null ∷ lit (Int (pos 2)) ∷ col 0 0 ∷ col 0 1 ∷ col 0 2 ∷ col 0 3 ∷ []) 7
unfolding understood everything
meta_insert = record { compiled = _; means = refl; command = refl; plain = (refl, refl); whole = omega arith; given = refl }

abbrev meta_params : Settings → Row
meta_params c = Text c.receiver ∷ Text c.operator ∷ number c.base ∷ number c.addresses ∷ []

emptied : (db : Database) → IsBare db → AllByRecursion (λ (t : Table). db.trees t.tree ≡ []) desk_tables
emptied db bare = subst (λ (s : Schema). AllByRecursion (λ t. db.trees t.tree ≡ []) s.tables) bare.schema bare.empty

casts : (c : Settings) → cast_row (uncounted meta_table) (Null ∷ meta_cells 2 c) ≡ Null ∷ meta_cells 2 c
casts c = λ i. cast_null i ∷ cast_null i ∷ cast_int (pos 2) i ∷ Text c.receiver ∷ Text c.operator ∷ cast_int (pos c.base) i ∷ cast_int (pos c.addresses) i ∷ []

module _ (old new : State) (c : Settings) (bare : IsBare old.now) where
  settings_held : (count : ℕ) → Executes meta_text (meta_params c) old new (Ok count) → Holds new.now (settings_rows c)
  settings_held count ran =
      let none = emptied old.now bare in
      let did = row_added meta_insert (meta_params c) old new bare.schema meta_table refl (Null ∷ meta_cells 2 c) refl (meta_cells 2) [] c none.0 (casts c) count ran in
      let k = did.2 in
      record {
        ten = record {
          schema = did.0;
          sound = did.3;
          in_range = record { senders = tt; owners = tt; gateways = tt; devices = tt; sessions = tt; uplinks = tt; receptions = tt; bookings = tt };
          meta = did.1;
          sender = k.1.0 (λ e. omega (arith, e)) ∙ none.1.0;
          reply = k.1.1.0 (λ e. omega (arith, e)) ∙ none.1.1.0;
          owner = k.1.1.1.0 (λ e. omega (arith, e)) ∙ none.1.1.1.0;
          gateway = k.1.1.1.1.0 (λ e. omega (arith, e)) ∙ none.1.1.1.1.0;
          device = k.1.1.1.1.1.0 (λ e. omega (arith, e)) ∙ none.1.1.1.1.1.0;
          session = k.1.1.1.1.1.1.0 (λ e. omega (arith, e)) ∙ none.1.1.1.1.1.1.0;
          uplink = k.1.1.1.1.1.1.1.0 (λ e. omega (arith, e)) ∙ none.1.1.1.1.1.1.1.0;
          copy = k.1.1.1.1.1.1.1.1.0 (λ e. omega (arith, e)) ∙ none.1.1.1.1.1.1.1.1.0;
          booking = k.1.1.1.1.1.1.1.1.1.0 (λ e. omega (arith, e)) ∙ none.1.1.1.1.1.1.1.1.1.0;
        };
        limit = k.1.1.1.1.1.1.1.1.1.1.0 (λ e. omega (arith, e)) ∙ none.1.1.1.1.1.1.1.1.1.1.0;
      }

  pub settings_made : {result : Result (Unit {0}) RowFault} → HasWritten meta_text (meta_params c) old new result → HasCleanDisk new → IsTrue old.in_transaction → OnOk result (Holds new.now (settings_rows c))
  settings_made {result} wrote sure inside = ran_well result (wrote.runs sure inside) settings_held

  pub settings_in_order : {result : Result (Unit {0}) RowFault} → HasWritten meta_text (meta_params c) old new result → HasCleanDisk new → IsTrue old.in_transaction → old.step_limit ≡ None → IfErr result IsEven
  settings_in_order {result} wrote sure inside unlimited =
      let none = emptied old.now bare in
      insert_in_order meta_insert (meta_params c) old new bare.schema bare.sound meta_table refl (inl refl) (Null ∷ meta_cells 2 c) refl refl refl unlimited (meta_cells 2) [] c none.0 (casts c) (omega arith)
      (record { datatype = refl; not_null = refl; check = refl; keyed = refl; referred = refl; unique = refl }) result (wrote.fails sure inside)
