-- What a command did with the store of a desk, stated of the connection that it gave back.
use Rattle.std.proofs.Common.{◌≡◌, ℕ, List, Option, None, Result, Err, IsTrue, inl, inr, sym, subst}
use Rattle.sqlite_trees.specs.Tree.{Trees}
use Rattle.sqlite_trees.specs.declared.store.Store.{Ghosts}
use Rattle.sqlite.specs.Held.{Held}
use Rattle.registry_core.specs.declared.messages.Envelope.{Envelope}
use Rattle.registry_core.specs.Settings.{Settings}
use Rattle.desk_tables.specs.Store.{meaning_of}
use Rattle.desk_tables.specs.declared.tables.Tables.{Tables}
use Rattle.desk_cli.proofs.OnTables.{is_left, keeps}
use Rattle.desk_engine.specs.Hearing.{StoreKeeps, StoreLeaves}
use Rattle.desk_cli.specs.OnTables.{IsLeft, KeepsHeard}
use Rattle.desk_cli.specs.steps.Jobs.{ByStore, DoesByStore, Done}
use Rattle.desk_cli.specs.declared.faults.Fault.{Fault}
use Rattle.desk_cli.specs.declared.faults.Fault.TheVariants.{Unavailable}

module _ {S : Type 0} (g : Ghosts S) (settled : (s : S) (db : Trees) → IsTrue (g.view s).is_open → g.recovers s db → db ≡ (g.view s).committed)
    (c : Settings) (heard : List Envelope) (back : Held S) where
  module _ {Does : Tables S → Tables S → Type 0} (by : ByStore g c heard back Does) where
    -- the file represents what the store represents
    pub kept_by : (all : List Envelope) → StoreKeeps (meaning_of g) c heard by.old by.new all → KeepsHeard g back c all
    kept_by = keeps g c heard by.old by.new by.was by.same back settled by.was_sound by.sound by.left by.in_order

    -- and what it leaves, a crash leaves of the file
    pub left_by : (all : List Envelope) (doubt : Option Envelope) → StoreLeaves (meaning_of g) c heard by.old by.new all doubt → IsLeft g back c all doubt
    left_by = is_left g c heard by.old by.new by.was by.same back settled by.was_sound by.sound by.left

  -- it was done, or there was no store
  pub either : (does : Done) (Told : (left rest before after : Option (List ℕ)) → Result (Unit {0}) Fault → Type 0) (left rest before after : Option (List ℕ)) (r : Result (Unit {0}) Fault)
      → (ByStore g c heard back (λ old new. does (Tables S) (meaning_of g) c heard old new left rest before after r) → Told left rest before after r)
      → (IsLeft g back c heard None → Told left left before before (Err Unavailable))
      → DoesByStore g c heard back does left rest before after r → Told left rest before after r
  either does Told left rest before after r done unopened by = elim by [
    | inl it ↦ done it
    | inr none ↦
        subst (λ r. Told left rest before after r) (sym none.0)
        (subst (λ rest. Told left rest before after (Err Unavailable)) (sym none.2)
        (subst (λ after. Told left left before after (Err Unavailable)) (sym none.3) (unopened none.1)))
  ]
