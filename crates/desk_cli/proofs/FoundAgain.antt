-- The files that a crash leaves of a desk, and the desk that opens from them.
use Rattle.std.proofs.Common.{◌≡◌, ◌⊎◌, ◌++◌, ◌∷◌, [], inl, inr, List, Option, Some, IsTrue, ap}
use Rattle.std.proofs.Math.Logic.{∥∥₁_map}
use Rattle.std.proofs.lemmas.Bool.{and_from}
use Rattle.sqlite_disk.specs.declared.Disk.{Ghosts}
use Rattle.sqlite_disk.specs.declared.Files.{Files}
use Rattle.sqlite_pool.specs.Pool as pool
use Rattle.sqlite_store.specs.declared.store.FileStore.{FileStore}
use Rattle.sqlite_store.specs.FileStore.{files, recovers, state, view}
use Rattle.sqlite_trees.specs.Tree.{Trees}
use Rattle.sqlite_trees.specs.View.{IsClean, doubt}
use Rattle.sqlite_wal.specs.Reads.{AreClean}
use Rattle.sqlite.specs.Files.{Finds, HoldsDatabase, IsOpened, file_state, image_of}
use Rattle.sqlite.specs.Held.{AreDatabases, Held}
use Rattle.sqlite.proofs.Theorems.{opens_again}
use Rattle.registry_core.specs.declared.messages.Envelope.{Envelope}
use Rattle.registry_core.specs.Heard.{IsHeard}
use Rattle.registry_core.specs.Settings.{Settings}
use Rattle.desk_engine.specs.InOrder.{kept_after}
use Rattle.desk_tables.specs.InOrder.{IsOfDesk}
use Rattle.desk_cli.specs.OnTables.{IsFound, LeftHeard}
use Rattle.desk_cli.proofs.InFiles.{opened_desk}

-- on disks that always give back what was written
module _ {D : Type 0} {g : Ghosts D} (always : (disk : D) → IsTrue (g.is_clean disk)) (it : FileStore D g) where
  both_clean : AreClean g (files it).0 (files it).1
  both_clean = and_from _ _ (always _) (always _)

  pub is_clean : IsClean (view it)
  unfolding pool.state pool.files doubt
  is_clean = ap doubt both_clean

  -- what a crash of each file left, a crash of the store could leave
  pub may_be_left : (after : Files D) → g.may_leave (files it).0 (g.seen after.log) → g.may_leave (files it).1 (g.seen after.db) → (state it).may_leave (image_of g after)
  unfolding pool.state pool.files
  may_be_left after log db = (both_clean, (log, db))

  -- A connection that is opened on these files finds what a crash left of the desk.
  pub found_again : IsTrue (view it).is_numbered → AreDatabases (recovers it) → (after : Files D) → (state it).may_leave (image_of g after)
      → (c : Settings) (heard : List Envelope) (doubt : Option Envelope) → ((trees : Trees) → recovers it trees → LeftHeard c heard doubt trees)
      → (again : Held (FileStore D g)) → IsOpened again → Finds after again → IsFound c heard doubt (file_state again).now
  found_again numbered sound after may c heard doubt left again opened finds = ∥∥₁_map (opens_again it numbered sound (image_of g after) may) one
    where
      one : (found : (db : Trees) × recovers it db × HoldsDatabase (image_of g after) db)
          → IsOfDesk c (kept_after c heard) (file_state again).now
          ⊎ ((e : Envelope) × (doubt ≡ Some e) × IsHeard c (heard ++ e ∷ []) × IsOfDesk c (kept_after c (heard ++ e ∷ [])) (file_state again).now)
      one found =
          let is = finds.holds found.0 found.2 in
          elim (left found.0 found.1) [
            | inl desk ↦ inl (opened_desk again c (kept_after c heard) opened found.0 is desk)
            | inr more ↦ inr (more.0, more.1, more.2, opened_desk again c (kept_after c (heard ++ more.0 ∷ [])) opened found.0 is more.3)
          ]
