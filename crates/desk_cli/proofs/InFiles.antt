-- A connection to a desk's files represents what they contain, and the files that a crash leaves contain a desk.
use Rattle.std.proofs.Common.{◌≡◌, inl, inr, List, Option, IsTrue, refl, sym, ap, ap₂, subst, ◌∙◌}
use Rattle.std.proofs.Math.Logic.{∥∥₁_map}
use Rattle.sqlite_disk.specs.declared.Disk.{Ghosts}
use Rattle.sqlite_store.specs.declared.store.FileStore.{FileStore}
use Rattle.sqlite_store.specs.FileStore as store
use Rattle.sqlite_trees.specs.Tree.{Trees}
use Rattle.sqlite_wal.specs.Recovery.{Image}
use Rattle.sqlite_catalog.specs.Listing.{IsSound}
use Rattle.sqlite.specs.Effect.{Database}
use Rattle.sqlite.specs.Files.{HoldsDatabase, IsOpened, file_state, over_files}
use Rattle.sqlite.specs.Held.{AreDatabases, Held}
use Rattle.sqlite.specs.Start.{FindsIn}
use Rattle.sqlite.proofs.Theorems.{opens_again}
use Rattle.registry_core.specs.declared.messages.Envelope.{Envelope}
use Rattle.registry_core.specs.Heard.{IsHeard}
use Rattle.registry_core.specs.Settings.{Settings}
use Rattle.desk_store.specs.Kept.{Kept}
use Rattle.desk_engine.specs.InOrder.{kept_after}
use Rattle.desk_rows.specs.Schema.{desk_schema}
use Rattle.desk_tables.specs.InOrder.{AreOfDesk, IsOfDesk}
use Rattle.desk_cli.proofs.OneSchema.{one_schema}
use Rattle.desk_cli.specs.InFiles.{HoldHeard, HoldLeft}
use Rattle.desk_cli.specs.OnTables.{IsLeft, KeepsHeard}

module _ {D : Type 0} {g : Ghosts D} (conn : Held (FileStore D g)) (c : Settings) (kept : Kept) where
  -- the trees list the desk's schema, so they are listed in no other
  pub opened_desk : IsOpened conn → (trees : Trees) → (file_state conn).committed.trees ≡ trees → AreOfDesk c kept trees → IsOfDesk c kept (file_state conn).now
  opened_desk opened trees committed desk =
      let now = (file_state conn).now in
      let same_trees : now.trees ≡ trees = ap (λ (d : Database). d.trees) opened.0.clean ∙ committed in
      let listed : IsSound desk_schema now.trees = subst (IsSound desk_schema) (sym same_trees) desk.in_order.held.ten.sound in
      let live = opened.1 opened.0.is_open in
      let schema : now.schema ≡ desk_schema = one_schema now.trees desk_schema now.schema refl listed live.0 in
      let same : now ≡ record { schema = desk_schema; trees = trees } = ap₂ (λ s t. record { schema = s; trees = t }) schema same_trees in
      subst (IsOfDesk c kept) (sym same) desk

module _ {D : Type 0} {g : Ghosts D} (octets : Image) (conn : Held (FileStore D g)) where
  -- a desk that files contained is found, all committed, and a crash leaves it
  pub found : IsOpened conn → FindsIn octets (file_state conn)
      → ((db : Trees) → IsTrue (store.view conn.store).is_open → store.recovers conn.store db → db ≡ (store.view conn.store).committed)
      → (c : Settings) (heard : List Envelope) → HoldHeard c heard octets → KeepsHeard over_files conn c heard
  found opened finds settled c heard held =
      let committed : (file_state conn).committed.trees ≡ held.trees = finds.holds held.trees held.database in
      record {
        now = record { list = held.list; tables = opened_desk conn c (kept_after c heard) opened held.trees committed held.tables };
        committed = opened.0.clean;
        left = λ db may. inl (subst (AreOfDesk c (kept_after c heard)) (sym (settled db opened.0.is_open may ∙ committed)) held.tables);
      }

  -- a desk that a crash leaves is in the files that it leaves
  pub left : IsTrue (store.view conn.store).is_numbered → (store.state conn.store).may_leave octets
      → (c : Settings) (heard : List Envelope) (doubt : Option Envelope) → IsHeard c heard → IsLeft over_files conn c heard doubt → ∥ HoldLeft c heard doubt octets ∥₁
  left numbered may c heard doubt list leaves = ∥∥₁_map (opens_again conn.store numbered sound octets may) one
    where
      -- each of them lists the desk's schema
      sound : AreDatabases (store.recovers conn.store)
      sound db may = elim (leaves db may) [
        | inl desk ↦ (desk_schema, desk.in_order.held.ten.sound)
        | inr more ↦ (desk_schema, more.3.in_order.held.ten.sound)
      ]

      one : (db : Trees) × store.recovers conn.store db × HoldsDatabase octets db → HoldLeft c heard doubt octets
      one found = elim (leaves found.0 found.1) [
        | inl desk ↦ inl (record { list = list; trees = found.0; database = found.2; tables = desk })
        | inr more ↦ inr (more.0, more.1, record { list = more.2; trees = found.0; database = found.2; tables = more.3 })
      ]
