-- A desk whose tables are moved from schema 1 to schema 2.
use Rattle.std.proofs.Common.{◌≡◌, ◌≤◌, ◌∙◌, arith, pos, Ok, IsTrue, inl, inr, true, refl, sym, ap, subst, true≢false}
use Rattle.registry_core.specs.Settings.{Settings}
use Rattle.sqlite_schema.specs.declared.schema.Schema.{Schema}
use Rattle.sqlite_schema.specs.Names.{same_name}
use Rattle.sqlite_catalog.specs.Change.{is_used}
use Rattle.sqlite.specs.Effect.{Database}
use Rattle.sqlite.specs.State.{State, HasCleanDisk, IsUnchanged, Survives}
use Rattle.sqlite.proofs.Callers.{unchanged_then}
use Rattle.sqlite_trees.specs.Tree.{Trees}
use Rattle.sqlite_trees.specs.View.{doubt}
use Rattle.desk_store.specs.Kept.{Kept}
use Rattle.desk_rows.specs.Calls.{IsReadingCallOf}
use Rattle.desk_rows.specs.Meta.{HasMeta, IsConfig, TellsMeta}
use Rattle.desk_rows.specs.Migrating.{HoldsFirst, limit_name}
use Rattle.desk_rows.specs.Rows.{Holds, Rows}
use Rattle.desk_rows.specs.Schema.{first_schema, first_version}
use Rattle.desk_tables.specs.InOrder.{IsOfDesk}
use Rattle.desk_tables.specs.Migrating.{IsOfFirstSchema}
use Rattle.desk_tables.specs.steps.Calls.{IsReady}
use Rattle.desk_tables.specs.steps.Migrating.{Moves}
use Rattle.desk_tables.proofs.OpeningLemmas.{meta_tells}

-- the same rows are those of the same desk
pub moved_desk : (c : Settings) (kept : Kept) (before after : Database) → IsOfFirstSchema c kept before
    → ((r : Rows) → HoldsFirst before r → Holds after r) → IsOfDesk c kept after
moved_desk c kept before after is moves = record {
  in_order = record {
    rows = is.in_order.rows;
    held = moves is.in_order.rows is.in_order.held;
    are = is.in_order.are;
    entries = is.in_order.entries;
  };
  config = is.config;
  few = is.few;
}

pub moved_rows : (c : Settings) (kept : Kept) (before after : Database) (is : IsOfFirstSchema c kept before)
    (moves : (r : Rows) → HoldsFirst before r → Holds after r) → (moved_desk c kept before after is moves).in_order.rows ≡ is.in_order.rows
unfolding moved_desk
moved_rows c kept before after is moves = refl

pub first_tells : (c : Settings) (kept : Kept) (db : Database) → IsOfFirstSchema c kept db → TellsMeta db.trees (pos first_version) c
first_tells c kept db is = subst (TellsMeta db.trees (pos first_version)) is.in_order.are.settings
    (meta_tells 1 first_schema db is.in_order.rows is.in_order.held.ten (subst IsConfig (sym is.in_order.are.settings) is.config))

pub first_has_meta : (schema : Schema) → schema ≡ first_schema → HasMeta schema
first_has_meta schema is = subst HasMeta (sym is) (record { first = refl; no_views = refl })

-- the name of the table that schema 1 lacks is free there
pub free_in_first : (schema : Schema) → schema ≡ first_schema → IsTrue (is_used schema limit_name) → ⊥
unfolding same_name
free_in_first schema is used = true≢false (sym used ∙ ap (λ s. is_used s limit_name) is)

-- a connection whose tables were moved
pub ready_moved : (old new : State) → Moves old new (Ok tt) → HasCleanDisk new → IsTrue old.is_open → (r : Rows) → Holds new.now r → IsReady new
ready_moved old new moves clean up r has = record {
  is_open = moves.open_still clean up;
  schema = has.ten.schema;
  committed = sym (moves.committed clean up);
}

-- what look-ups in tables of schema 1 left of a connection
pub record IsLookedAt (old new : State) : Type 0 where
  pub same : IsUnchanged old new
  pub limit : new.step_limit ≡ old.step_limit
  pub settled : new.now ≡ new.committed
  pub crash : (trees : Trees) → new.may_leave trees → old.may_leave trees

-- the row of meta and the schema were looked at, then the rows were counted, and what came after met no disk error
pub looked_before : (old first counted after : State) → (HasCleanDisk first → IsUnchanged old first) → Survives old first (λ _. ⊥)
    → (HasCleanDisk first → IsTrue first.is_open → first.now ≡ first.committed) → (HasCleanDisk first → old.now.schema ≡ first_schema)
    → IsReadingCallOf first_schema first counted true → doubt counted.is_clean ≤ doubt after.is_clean → HasCleanDisk after → IsLookedAt old counted
looked_before old first counted after same survives settled schema read later clean =
    let mid : HasCleanDisk counted = omega (arith, later, clean) in
    let early : HasCleanDisk first = omega (arith, read.clean, mid) in
    let still = same early in
    let has : first.now.schema ≡ first_schema = ap (λ (d : Database). d.schema) still.0.now_is ∙ schema early in
    let second = read.leaves has still.0.is_open mid in
    let stays = read.survives has still.0.is_open mid in
    record {
      same = unchanged_then old first counted still second;
      limit = stays.limit ∙ survives.limit;
      settled = second.0.now_is ∙ settled early still.0.is_open ∙ sym second.0.committed_is;
      crash = λ trees may. elim (stays.crash mid trees may) [
        | inl was ↦ elim (survives.crash early trees was) [ inl before ↦ before | inr none ↦ absurd none ]
        | inr none ↦ absurd none
      ];
    }
