-- A desk's database, by the log that it represents.
use Rattle.std.specs.Prelude.{◌≡◌, ◌⊎◌, ◌++◌, List, [], ◌∷◌, Option, Some, None}
use Rattle.sqlite.specs.Effect.{Database}
use Rattle.sqlite.specs.Held.{Held, state}
use Rattle.sqlite_trees.specs.Tree.{Trees}
use Rattle.sqlite_trees.specs.declared.store.Store.{Ghosts}
use Rattle.registry_core.specs.declared.messages.Envelope.{Envelope}
use Rattle.registry_core.specs.Heard.{IsHeard}
use Rattle.registry_core.specs.Rules.{GoesByRules}
use Rattle.registry_core.specs.Settings.{Settings}
use Rattle.desk_store.specs.Kept.{Kept}
use Rattle.desk_store.specs.Meaning.{Meaning}
use Rattle.desk_tables.specs.Adopting.{IsStore}
use Rattle.desk_tables.specs.InOrder.{AreOfDesk, IsOfDesk}
use Rattle.desk_engine.specs.InOrder.{kept_after}

-- the database is exactly the tables of a desk of this configuration that represents this log
pub record HasHeard (c : Settings) (heard : List Envelope) (db : Database) : Type 0 where
  pub list : IsHeard c heard
  pub tables : IsOfDesk c (kept_after c heard) db

-- the same of what a crash leaves, or of the log with the in-flight message
abbrev pub LeftHeard : Settings → List Envelope → Option Envelope → Trees → Type 0
LeftHeard c heard doubt trees =
    AreOfDesk c (kept_after c heard) trees
    ⊎ ((e : Envelope) × (doubt ≡ Some e) × IsHeard c (heard ++ e ∷ []) × AreOfDesk c (kept_after c (heard ++ e ∷ [])) trees)

-- whatever a desk of this configuration with this database represents satisfies the registry's rules
abbrev pub KeepsRules : Settings → Database → Type 0
KeepsRules c db = (kept : Kept) → IsOfDesk c kept db → GoesByRules kept.facts

-- and so does whatever a crash leaves of the connection's file at this moment
abbrev pub LeavesRules : {S : Type 0} → Ghosts S → Held S → Settings → Type 0
LeavesRules g conn c = (trees : Trees) → (state g conn).may_leave trees → (kept : Kept) → AreOfDesk c kept trees → GoesByRules kept.facts

module _ {S : Type 0} (g : Ghosts S) (conn : Held S) (c : Settings) (heard : List Envelope) where
  -- whatever a crash leaves of the connection's file at this moment represents the log, or the log with the in-flight message
  abbrev pub IsLeft : Option Envelope → Type 0
  IsLeft doubt = (trees : Trees) → (state g conn).may_leave trees → LeftHeard c heard doubt trees

  -- the connection's database represents the log, all of it is committed, and a crash leaves exactly that
  pub record KeepsHeard : Type 0 where
    pub now : HasHeard c heard (state g conn).now
    pub committed : (state g conn).now ≡ (state g conn).committed
    pub left : IsLeft None

-- the database represents the log, or the log with the in-flight message; which one needn't be computable
abbrev pub IsFound : Settings → List Envelope → Option Envelope → Database → Type 0
IsFound c heard doubt db = ∥ (
    IsOfDesk c (kept_after c heard) db
    ⊎ ((e : Envelope) × (doubt ≡ Some e) × IsHeard c (heard ++ e ∷ []) × IsOfDesk c (kept_after c (heard ++ e ∷ [])) db)
    ) ∥₁

-- the store was opened on tables of a desk of this configuration that represents this log, and represents it
pub record WasOpened {K : Type 0} (m : Meaning K) (k : K) (c : Settings) (heard : List Envelope) : Type 0 where
  pub list : IsHeard c heard
  pub store : IsStore m k c (kept_after c heard)
