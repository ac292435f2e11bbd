-- The two statements of a move from schema 1 to schema 2.
use Rattle.std.proofs.Common.{◌≡◌, inl, inr, ℕ, ◌==◌, pos, List, [], ◌∷◌, codes, Bool, true, false, None, Ok, Result, IfErr, OnOk, refl, sym, ap, ◌∙◌, arith}
use Rattle.std.specs.Prelude.{IsTrue}
use Rattle.std.specs.List.{list_all}
use Rattle.sqlite_value.specs.declared.value.Value.TheVariants.{Null, Int, Text}
use Rattle.sqlite_value.specs.declared.keys.Collation.TheVariants.{Binary}
use Rattle.sqlite_value.specs.Order.{Row, value_cmp}
use Rattle.sqlite_trees.specs.Sound.{fits_kind, is_free_name, begins, same_name}
use Rattle.sqlite_sql.specs.declared.ops.BinaryOp.TheVariants.{Compare}
use Rattle.sqlite_sql.specs.declared.ops.CompareOp.TheVariants.{Eq}
use Rattle.sqlite_sql.specs.Term.{Term, lit, col, op2, holds, eval_all}
use Rattle.sqlite_schema.specs.declared.schema.Schema.{Schema}
use Rattle.sqlite_schema.specs.declared.schema.Table.{Table}
use Rattle.sqlite_rules.specs.Cast.{cast_row}
use Rattle.sqlite_resolve.specs.Compile.{table_defined_by}
use Rattle.sqlite_resolve.specs.declared.compiled.Compiled.{Compiled}
use Rattle.sqlite_catalog.specs.Change.{created, is_used}
use Rattle.sqlite.specs.Command.TheVariants.{CreateTable}
use Rattle.sqlite.specs.Listing.{understood}
use Rattle.sqlite.specs.State.{State, ExecutesIn, HasCleanDisk, text_of}
use Rattle.sqlite.proofs.Callers.{statement_of}
use Rattle.sqlite_tied.specs.Compute.{everything}
use Rattle.registry_core.specs.Settings.{Settings}
use Rattle.desk_rows.specs.Faults.{IsEven}
use Rattle.desk_rows.specs.Migrating.{HoldsBetween, HoldsFirst, limit_name}
use Rattle.desk_rows.specs.Rows.{Rows, Holds, table_of, limit_cells, meta_cells, number}
use Rattle.desk_rows.specs.Schema.{desk_schema, first_schema, limit_table, meta_table}
use Rattle.desk_rows.specs.declared.faults.RowFault.{RowFault}
use Rattle.desk_rows.specs.steps.Statements.{HasWritten}
use Rattle.desk_rows.proofs.BatchSteps.{IsCommand, is_command, is_plain, table_made}
use Rattle.desk_rows.proofs.CreateRefusals.{accepts_table, no_table}
use Rattle.desk_rows.proofs.InsertLemmas.{cast_null, cast_int}
use Rattle.desk_rows.proofs.Insertions.{ran_well}
use Rattle.desk_rows.proofs.Ordered.{encode}
use Rattle.desk_rows.proofs.RefusedLemmas.{in_order_unless}
use Rattle.desk_rows.proofs.Tables.{tables_as, held_of, holds_by}
use Rattle.desk_rows.proofs.TakenNames.{not_understood}
use Rattle.desk_rows.proofs.Terms.{and_true, number_equal}
use Rattle.desk_rows.proofs.TurnedDown.{table_writes}
use Rattle.desk_rows.proofs.Updating.{IsUpdate, ran, table_is, update_in_order}

-- ---- the table of limits

abbrev limits_text : List ℕ
limits_text = codes "CREATE TABLE band_limit (gateway TEXT NOT NULL, band INTEGER NOT NULL, value INTEGER NOT NULL, PRIMARY KEY (gateway, band)) STRICT"

-- as its text alone defines it
abbrev defined_table : Table
defined_table = record limit_table { tree = 0 }

limits_command : IsCommand limits_text first_schema CreateTable
unfolding understood everything
limits_command = record { compiled = _; means = refl; is = refl; plain = (refl, refl); whole = omega arith; given = refl }

limits_defined : table_defined_by (text_of limits_text limits_command.compiled) ≡ Ok defined_table
unfolding understood everything limits_command
limits_defined = refl

limits_refused : (schema : Schema) → is_used schema limit_name ≡ true → (compiled : Compiled) → understood schema limits_text ≡ Ok compiled → ⊥
unfolding everything
limits_refused schema used = not_understood schema limits_text limit_name _ refl _ (λ base. refl) (λ base. refl) used

limits_accepted : accepts_table first_schema (text_of limits_text limits_command.compiled) defined_table ≡ true
unfolding understood everything limits_command fits_kind is_free_name begins same_name value_cmp lib.Ieee.is_nan lib.Ieee.lt
limits_accepted = refl

makes_desk : created first_schema defined_table ≡ desk_schema
unfolding everything
makes_desk = refl

module _ (old new : State) {result : Result (Unit {0}) RowFault} (wrote : HasWritten limits_text [] old new result) (sure : HasCleanDisk new) (inside : IsTrue old.in_transaction) where
  pub limits_made : (r : Rows) → HoldsFirst old.now r → OnOk result (HoldsBetween new.now r)
  limits_made r has = ran_well result (wrote.runs sure inside) (λ count it.
      let made =
      table_made false limits_text first_schema defined_table (is_command limits_text first_schema CreateTable limits_command)
      (is_plain limits_text first_schema CreateTable limits_command)
      (ap (λ c. table_defined_by (statement_of limits_text c)) limits_command.means ∙ limits_defined) old new has.ten.schema count it refl in
      let kept = made.others in
      record {
        ten = record {
          schema = made.schema ∙ makes_desk;
          sound = made.sound;
          in_range = has.ten.in_range;
          meta = kept.0 ∙ has.ten.meta;
          sender = kept.1.0 ∙ has.ten.sender;
          reply = kept.1.1.0 ∙ has.ten.reply;
          owner = kept.1.1.1.0 ∙ has.ten.owner;
          gateway = kept.1.1.1.1.0 ∙ has.ten.gateway;
          device = kept.1.1.1.1.1.0 ∙ has.ten.device;
          session = kept.1.1.1.1.1.1.0 ∙ has.ten.session;
          uplink = kept.1.1.1.1.1.1.1.0 ∙ has.ten.uplink;
          copy = kept.1.1.1.1.1.1.1.1.0 ∙ has.ten.copy;
          booking = kept.1.1.1.1.1.1.1.1.1.0 ∙ has.ten.booking;
        };
        no_limits = has.no_limits;
        limit = made.empty;
      })

  pub name_taken : IsTrue (is_used old.now.schema limit_name) → OnOk result ⊥
  unfolding ExecutesIn
  name_taken taken = ran_well result (wrote.runs sure inside) (λ count it. limits_refused old.now.schema taken it.0 it.1.is)

  pub limits_in_order : (r : Rows) → HoldsFirst old.now r → IfErr result IsEven
  limits_in_order r has =
      let it = limits_command in
      in_order_unless limits_text [] old new has.ten.schema CreateTable table_writes it.compiled it.means it.is it.plain it.whole it.given
      (λ e turned. no_table first_schema (text_of limits_text it.compiled) defined_table limits_defined limits_accepted refl old e turned) result
      (wrote.fails sure inside)

-- ---- the version

abbrev version_text : List ℕ
version_text = codes "UPDATE meta SET version = 2 WHERE id = 1"

-- the row with number 1
abbrev first_row : List Term
first_row = op2 (Compare Eq Binary) (col 1 0) (lit (Int (pos 1))) ∷ []

abbrev with_version : List Term
with_version = col 1 0 ∷ lit Null ∷ lit (Int (pos 2)) ∷ col 1 3 ∷ col 1 4 ∷ col 1 5 ∷ col 1 6 ∷ []

version_update : IsUpdate version_text 0 0 meta_table first_row with_version
unfolding understood everything
version_update = record { compiled = _; means = refl; command = refl; plain = (refl, refl); whole = omega arith; given = refl }

-- the version and the settings of meta
abbrev Told : Type 0
Told = ℕ × Settings

abbrev told_cells : Told → Row
told_cells told = meta_cells told.0 told.1

abbrev is_first : ℕ × Told → Bool
is_first b = b.0 == 1

abbrev raised : Told → Told
raised told = (2, told.1)

tests : (b : ℕ × Told) → list_all (holds ([] ∷ encode told_cells b ∷ [])) first_row ≡ is_first b
tests b = and_true _ ∙ number_equal b.0 1

casts : (b : ℕ × Told) → cast_row meta_table (eval_all with_version ([] ∷ encode told_cells b ∷ [])) ≡ encode told_cells (b.0, raised b.1)
casts b = λ i. cast_int (pos b.0) i ∷ cast_null i ∷ cast_int (pos 2) i ∷ Text b.1.1.receiver ∷ Text b.1.1.operator ∷ cast_int (pos b.1.1.base) i
    ∷ cast_int (pos b.1.1.addresses) i ∷ []

module _ (old new : State) {result : Result (Unit {0}) RowFault} (wrote : HasWritten version_text [] old new result) (sure : HasCleanDisk new)
    (inside : IsTrue old.in_transaction) (r : Rows) (has : HoldsBetween old.now r) where
  abbrev rows : List Told
  rows = (1, r.settings) ∷ []

  pub version_raised : OnOk result (Holds new.now r)
  version_raised = ran_well result (wrote.runs sure inside) (λ count it.
      let did = ran version_update [] old new has.ten.schema refl count it in
      let is = table_is meta_table first_row with_version [] old told_cells rows has.ten.meta is_first tests raised casts (inr (_, refl)) did.0 did.1 in
      holds_by old.now new.now (tables_as 1 r) r 0 (table_of (meta_cells 2) (r.settings ∷ []))
      (held_of 1 old.now r has.ten (has.limit ∙ ap (table_of limit_cells) (sym has.no_limits))) did.2 did.5 has.ten.in_range did.4 (did.3 ∙ is) refl)

  pub version_in_order : old.step_limit ≡ None → IfErr result IsEven
  version_in_order unlimited =
      update_in_order version_update [] old new has.ten.schema has.ten.sound refl (inl refl) refl refl told_cells rows has.ten.meta is_first tests raised casts
      unlimited (1, (1, r.settings)) refl
      (λ keeps stood. record {
        alone = record { typed = refl; present = refl; checked = refl };
        place = 2;
        value = number 2;
        one_column = refl;
        in_no_key = refl;
        referred = refl;
        small = omega arith;
      }) wrote sure inside
