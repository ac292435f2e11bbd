-- A store on tables and the connection that it is closed to: what both represent before and after a command, and after a crash.
use Rattle.std.proofs.Common.{◌≡◌, ◌||◌, Bool, false, List, [], ◌∷◌, ◌++◌, Option, Some, None, IsTrue, inl, inr, sym, ap, ◌∙◌, subst}
use Rattle.sqlite_trees.specs.Tree.{Trees}
use Rattle.sqlite_trees.specs.declared.store.Store.{Ghosts}
use Rattle.sqlite.specs.Effect.{Database}
use Rattle.sqlite.specs.Held.{Held, state}
use Rattle.registry_core.specs.declared.messages.Envelope.{Envelope}
use Rattle.registry_core.specs.Heard.{IsHeard}
use Rattle.registry_core.specs.Rules.{GoesByRules, RulesAreKept}
use Rattle.registry_core.specs.Settings.{Settings}
use Rattle.desk_store.specs.Calls.{IsCall}
use Rattle.desk_store.specs.Meaning.{Meaning}
use Rattle.desk_store.specs.Kept.{IsOneOf, Kept}
use Rattle.desk_tables.specs.Adopting.{IsStore, opening_kept}
use Rattle.desk_tables.specs.InOrder.{AreOfDesk, IsOfDesk}
use Rattle.desk_tables.specs.Store.{meaning_of, one_kept, own_law}
use Rattle.desk_tables.specs.declared.tables.Tables.{Tables}
use Rattle.desk_engine.specs.InOrder as engine
use Rattle.desk_engine.specs.InOrder.{Survives, WasInOrder, doubt_after, kept_after}
use Rattle.desk_engine.specs.Hearing.{StoreKeeps, StoreLeaves}
use Rattle.desk_cli.specs.OnTables.{HasHeard, IsLeft, KeepsHeard, KeepsRules, LeftHeard, WasOpened}

-- a desk that was made has heard nothing
pub was_new : {S : Type 0} (g : Ghosts S) (c : Settings) (made : Tables S) → IsHeard c [] → IsStore (meaning_of g) made c (opening_kept c)
    → WasOpened (meaning_of g) made c []
unfolding kept_after
was_new g c made list store = record { list = list; store = store }

module _ {S : Type 0} (g : Ghosts S) (c : Settings) (before : List Envelope) (old : Tables S) (was : WasOpened (meaning_of g) old c before) where
  -- a crash leaves what it represents
  pub survives : ((s : S) (db : Trees) → IsTrue (g.view s).is_open → g.recovers s db → db ≡ (g.view s).committed)
      → (meaning_of g).sound old → Survives (meaning_of g) c old before None
  survives settled sound = inl (own_law g settled old (kept_after c before) sound was.store.up was.store.holds)

-- a database represents one thing, and the law is about what was heard
module _ (law : RulesAreKept) (c : Settings) where
  pub keeps_rules : (heard : List Envelope) (db : Database) → IsOfDesk c (kept_after c heard) db → KeepsRules c db
  unfolding kept_after
  keeps_rules heard db is = λ kept other.
      subst (λ (k : Kept). GoesByRules k.facts) (one_kept c db (kept_after c heard) kept is.in_order other.in_order) (law c heard)

  pub leaves_rules : (heard : List Envelope) (doubt : Option Envelope) (trees : Trees) → LeftHeard c heard doubt trees → (kept : Kept) → AreOfDesk c kept trees
      → GoesByRules kept.facts
  leaves_rules heard doubt trees left = elim left [
    | inl is ↦ keeps_rules heard _ is
    | inr more ↦ keeps_rules (heard ++ more.0 ∷ []) _ more.3
  ]

-- what is called on a store that was opened is called on one in order
pub opened_in_order : {K : Type 0} (m : Meaning K) (c : Settings) (heard : List Envelope) (old new : K) → WasOpened m old c heard → m.sound new → WasInOrder m c heard old new
opened_in_order m c heard old new was sound = record { its = sym was.store.configuration; sound = sound; order = record { list = was.list; kept = was.store.holds } }

-- it is failed only by a disk error
pub unshut_by : {K : Type 0} (m : Meaning K) (old new : K) {disk not_a_desk : Bool} → IsCall m old new disk not_a_desk → disk ≡ false → m.failed new ≡ m.failed old
unshut_by m old new call is = call.shut ∙ ap (λ disk. disk || m.failed old) is

module _ {S : Type 0} (g : Ghosts S) (c : Settings) (before : List Envelope) (old new : Tables S) (was : WasOpened (meaning_of g) old c before) where
  -- what is called on it then is called on a store in order
  pub was_in_order : (meaning_of g).sound new → WasInOrder (meaning_of g) c before old new
  was_in_order sound = opened_in_order (meaning_of g) c before old new was sound

  module _ (same : (meaning_of g).configuration new ≡ (meaning_of g).configuration old) (conn : Held S) where
    its : (meaning_of g).configuration new ≡ c
    its = same ∙ was.store.configuration

    -- the connection of a desk that is up
    pub closed : (heard : List Envelope) → (meaning_of g).failed new ≡ (meaning_of g).failed old → (meaning_of g).sound new → engine.IsInOrder (meaning_of g) c new heard
        → ((kept : Kept) → (meaning_of g).sound new → (meaning_of g).failed new ≡ false → (meaning_of g).holds new kept
        → IsOfDesk ((meaning_of g).configuration new) kept (state g conn).now × ((state g conn).now ≡ (state g conn).committed))
        → HasHeard c heard (state g conn).now × ((state g conn).now ≡ (state g conn).committed)
    closed heard is sound order closes =
        let back = closes (kept_after c heard) sound (is ∙ was.store.up) order.kept in
        (record { list = order.list; tables = subst (λ d. IsOfDesk d (kept_after c heard) (state g conn).now) its back.0 }, back.1)

    -- what a crash leaves
    pub left : (heard : List Envelope) (doubt : Option Envelope) → Survives (meaning_of g) c new heard (doubt_after ((meaning_of g).failed old) None doubt)
        → ((all : List Kept) → (meaning_of g).leaves new all → (trees : Trees) → (state g conn).may_leave trees
        → (kept : Kept) × IsOneOf all kept × AreOfDesk ((meaning_of g).configuration new) kept trees)
        → IsLeft g conn c heard doubt
    left heard doubt survives leaves = λ trees may. elim survives [
      | inl own ↦
          let one = leaves (kept_after c heard ∷ []) own trees may in
          elim one.1 [ inl is ↦ inl (here trees one.0 (kept_after c heard) is one.2) | inr none ↦ absurd none ]
      | inr in_doubt ↦
          let e = in_doubt.0 in
          let one = leaves (kept_after c heard ∷ kept_after c (heard ++ e ∷ []) ∷ []) in_doubt.2.left trees may in
          elim one.1 [
            | inl is ↦ inl (here trees one.0 (kept_after c heard) is one.2)
            | inr more ↦ elim more [ inl is ↦ inr (e, its_doubt e in_doubt.1, in_doubt.2.list, here trees one.0 (kept_after c (heard ++ e ∷ [])) is one.2) | inr none ↦ absurd none ]
          ]
    ]
      where
        here : (trees : Trees) (kept other : Kept) → kept ≡ other → AreOfDesk ((meaning_of g).configuration new) kept trees → AreOfDesk c other trees
        here trees kept other is order = subst (λ k. AreOfDesk c k trees) is (subst (λ d. AreOfDesk d kept trees) its order)

        its_doubt : (e : Envelope) → doubt_after ((meaning_of g).failed old) None doubt ≡ Some e → doubt ≡ Some e
        its_doubt e is = rw was.store.up at is

    -- the connection that a command on the desk gives back
    module _ (settled : (s : S) (db : Trees) → IsTrue (g.view s).is_open → g.recovers s db → db ≡ (g.view s).committed)
        (was_sound : (meaning_of g).sound old) (sound : (meaning_of g).sound new)
        (leaves : (all : List Kept) → (meaning_of g).leaves new all → (trees : Trees) → (state g conn).may_leave trees
        → (kept : Kept) × IsOneOf all kept × AreOfDesk ((meaning_of g).configuration new) kept trees) where
      pub is_left : (heard : List Envelope) (doubt : Option Envelope) → StoreLeaves (meaning_of g) c before old new heard doubt → IsLeft g conn c heard doubt
      is_left heard doubt given = left heard doubt (given.crash None (survives g c before old was settled was_sound)) leaves

      pub keeps : ((kept : Kept) → (meaning_of g).sound new → (meaning_of g).failed new ≡ false → (meaning_of g).holds new kept
          → IsOfDesk ((meaning_of g).configuration new) kept (state g conn).now × ((state g conn).now ≡ (state g conn).committed))
          → (heard : List Envelope) → StoreKeeps (meaning_of g) c before old new heard → KeepsHeard g conn c heard
      keeps closes heard given =
          let back = closed heard given.still sound given.leaves.order closes in
          record { now = back.0; committed = back.1; left = is_left heard None given.leaves }
