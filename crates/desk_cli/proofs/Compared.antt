-- A database that has the rows of another, which is a desk's.
use Rattle.std.proofs.Common.{◌≡◌, ℕ, ◌+◌, suc, List, [], ◌∷◌, length, map, refl, sym, ap, subst, subst₂, ◌∙◌, arith, Bool, true, false, true≢false, IsTrue, Option, Some, None}
use Rattle.std.specs.Prelude.{All, Result, Ok, Err, IfOk, OnOk}
use Rattle.std.specs.Result.{is_ok}
use Rattle.std.proofs.lemmas.List.{length-map}
use Rattle.std.proofs.lemmas.List.Elements.{All-cons}
use Rattle.registry_core.specs.declared.messages.Envelope.{Envelope}
use Rattle.registry_core.specs.Heard.{IsHeard}
use Rattle.registry_core.specs.Settings.{Settings}
use Rattle.sqlite_value.specs.Order.{Row}
use Rattle.sqlite_trees.specs.Tree.{Trees}
use Rattle.sqlite_trees.specs.View.{View, IsClean, IsRolledBack}
use Rattle.sqlite_trees.specs.declared.store.Store.{Ghosts}
use Rattle.sqlite.specs.State.{State, IsUnchanged}
use Rattle.sqlite.specs.Steps.{IsFresh}
use Rattle.sqlite.specs.Effect.{Database, IsDatabase}
use Rattle.sqlite.specs.Held.{Held, state}
use Rattle.desk_store.specs.Kept.{Kept}
use Rattle.desk_rows.specs.Rows.{Holds, Rows, reply_cells, rowids_from}
use Rattle.desk_rows.specs.Schema.{desk_schema, reply_tree}
use Rattle.desk_tables.specs.InOrder.{IsOfDesk, entry_in}
use Rattle.desk_engine.specs.InOrder.{kept_after}
use Rattle.desk_engine.specs.Laws.{AsManyEntriesAsMessages}
use Rattle.desk_cli.specs.declared.audit.Finding.{Finding}
use Rattle.desk_cli.specs.declared.audit.Finding.TheVariants.{InOrder, Differs}
use Rattle.desk_cli.specs.declared.audit.Place.{Place}
use Rattle.desk_cli.specs.declared.audit.Table.TheVariants.{Meta, Reply}
use Rattle.desk_cli.specs.declared.audit.walking.Comparison.{Comparison}
use Rattle.desk_cli.specs.declared.audit.walking.Comparison.TheVariants.{Same}
use Rattle.desk_cli.specs.steps.Audit.{Compares, HaveSame, IsDeskIf, IsFirstPlace, IsFoundBeside, OnlyMoves, BecameStore, later_tables, tree_of}

-- ---- places

module _ (one other : Trees) (same : HaveSame one other Reply) where
  pub found_later : (count : ℕ) → length (one (tree_of Reply)) ≡ count → IsFirstPlace one other later_tables None → IsFoundBeside one other (InOrder count)
  found_later count is all = (All-cons (HaveSame one other) Reply later_tables same all, is)

  pub differs_later : (place : Place) → IsFirstPlace one other later_tables (Some place) → IsFoundBeside one other (Differs place)
  differs_later place at = record {
    before = suc at.before;
    table = at.table;
    front = All-cons (HaveSame one other) Reply _ same at.front;
    row = at.row;
  }

-- the replies are the same, and so are the later tables, or they differ there
abbrev pub finding_of : ℕ → Option Place → Finding
finding_of count None = InOrder count
finding_of count (Some place) = Differs place

found_or_differs : (one other : Trees) (count : ℕ) → HaveSame one other Reply → length (one (tree_of Reply)) ≡ count → (it : Option Place) → IsFirstPlace one other later_tables it
    → IsFoundBeside one other (finding_of count it)
found_or_differs one other count same is None all = found_later one other same count is all
found_or_differs one other count same is (Some place) at_place = differs_later one other same place at_place

pub then_later : (a b x y : View) (tree count : ℕ) (rows : Comparison) (found is : Option Place) → tree ≡ tree_of Reply → rows ≡ Same count → found ≡ is
    → OnlyMoves a b true → OnlyMoves x y true → IsClean b → IsClean y → Compares (a.trees tree) (x.trees tree) rows → IsFirstPlace b.trees y.trees later_tables found
    → IsFoundBeside a.trees x.trees (finding_of count is)
then_later a b x y tree count rows found is at same e one other sure other_sure replies later =
    let left : b.trees ≡ a.trees = ap (λ (v : View). v.trees) (one.same sure refl) in
    let right : y.trees ≡ x.trees = ap (λ (v : View). v.trees) (other.same other_sure refl) in
    let first : Compares (a.trees (tree_of Reply)) (x.trees (tree_of Reply)) (Same count) = subst₂ (λ t r. Compares (a.trees t) (x.trees t) r) at same replies in
    found_or_differs a.trees x.trees count first.0 first.1 is (subst₂ (λ l r. IsFirstPlace l r later_tables is) left right (subst (IsFirstPlace b.trees y.trees later_tables) e later))

-- ---- the same rows

module _ (db other : Database) (schema : db.schema ≡ desk_schema) (sound : IsDatabase db) (same : All (HaveSame db.trees other.trees) (Reply ∷ later_tables)) where
  holds_too : (r : Rows) → Holds other r → Holds db r
  holds_too r h = record {
    ten = record {
      schema = schema;
      sound = sound;
      in_range = h.ten.in_range;
      meta = same 1 Meta (omega arith) ∙ h.ten.meta;
      sender = same 2 Meta (omega arith) ∙ h.ten.sender;
      reply = same 0 Meta (omega arith) ∙ h.ten.reply;
      owner = same 3 Meta (omega arith) ∙ h.ten.owner;
      gateway = same 4 Meta (omega arith) ∙ h.ten.gateway;
      device = same 5 Meta (omega arith) ∙ h.ten.device;
      session = same 6 Meta (omega arith) ∙ h.ten.session;
      uplink = same 7 Meta (omega arith) ∙ h.ten.uplink;
      copy = same 8 Meta (omega arith) ∙ h.ten.copy;
      booking = same 9 Meta (omega arith) ∙ h.ten.booking;
    };
    limit = same 10 Meta (omega arith) ∙ h.limit;
  }

  pub of_desk_too : (c : Settings) (kept : Kept) → IsOfDesk c kept other → IsOfDesk c kept db
  of_desk_too c kept it = record {
    in_order = record { rows = it.in_order.rows; held = holds_too it.in_order.rows it.in_order.held; are = it.in_order.are; entries = it.in_order.entries };
    config = it.config;
    few = it.few;
  }

-- ---- as many rows as messages

length_numbered : (n : ℕ) (rows : List Row) → length (rowids_from n rows) ≡ length rows
length_numbered n [] = refl
length_numbered n (row ∷ rows) = ap suc (length_numbered (n + 1) rows)

pub replies_of : AsManyEntriesAsMessages → (c : Settings) (heard : List Envelope) (db : Database) → IsOfDesk c (kept_after c heard) db → length heard ≡ length (db.trees reply_tree)
replies_of many c heard db it =
    sym (many c heard) ∙ ap length it.in_order.entries ∙ length-map it.in_order.rows.replies entry_in
    ∙ sym (length-map it.in_order.rows.replies reply_cells) ∙ sym (length_numbered 1 (map reply_cells it.in_order.rows.replies)) ∙ sym (ap length it.in_order.held.ten.reply)

-- ---- a connection that becomes a store

open_if : (is_open is_broken : Bool) → (is_open ≡ false → IsTrue is_broken) → is_broken ≡ false → IsTrue is_open
open_if true b law sound = refl
open_if false b law sound = absurd (true≢false (sym (law refl) ∙ sound))

pub if_ok : {X E : Type 0} {P Q : X → Type 0} (r : Result X E) → ((x : X) → P x → Q x) → IfOk r P → IfOk r Q
if_ok (Ok x) f h = f x h
if_ok (Err e) f h = tt

-- what is so of a result that is known to be Ok
pub at_ok : {X E : Type 0} (P : X → Type 0) (r : Result X E) (x : X) → r ≡ Ok x → IfOk r P → P x
at_ok P r x is h = subst (λ s. IfOk s P) is h

pub at_on_ok : {X E : Type 0} (P : Type 0) (r : Result X E) (x : X) → r ≡ Ok x → OnOk r P → P
at_on_ok P r x is h = subst (λ s. OnOk s P) is h

pub on_ok : {X E : Type 0} {P : Type 0} (r : Result X E) → (IsTrue (is_ok r) → P) → OnOk r P
on_ok (Ok x) f = f refl
on_ok (Err e) f = tt

-- what a store was as a connection that was at rest
pub record WasAtRest (s : State) (trees : Trees) : Type 0 where
  pub is_open : IsTrue s.is_open
  pub settled : s.now ≡ s.committed
  pub trees_are : s.now.trees ≡ trees

pub at_rest : (s : State) (old new : View) → (s.is_open ≡ old.is_open) → s.committed.trees ≡ old.committed → (IsTrue s.is_open → s.now ≡ s.committed) → IsRolledBack old new → IsClean new
    → (new.is_open ≡ false → IsTrue new.is_broken) → new.is_broken ≡ false → WasAtRest s new.trees
at_rest s old new opened committed settled undone sure law sound =
    let up : IsTrue new.is_open = open_if new.is_open new.is_broken law sound in
    let was : IsTrue s.is_open = opened ∙ (undone.kept sure).was_open up in
    record {
      is_open = was;
      settled = settled was;
      trees_are = ap (λ (d : Database). d.trees) (settled was) ∙ committed ∙ sym (undone.undone up).0;
    }

-- a store that was rolled back, and in which only cursors moved then, is as one that was just opened
pub still_fresh : (old mid new : View) → IsRolledBack old mid → (IsClean mid → IsTrue mid.is_numbered) → (mid.is_open ≡ false → IsTrue mid.is_broken) → (IsClean mid → mid.is_broken ≡ false)
    → (ok : Bool) → IsTrue ok → OnlyMoves mid new ok → IsClean new → IsFresh new
still_fresh old mid new undone numbered law sound ok done moves sure =
    let before : IsClean mid = omega (arith, moves.clean, sure) in
    let up : IsTrue mid.is_open = open_if mid.is_open mid.is_broken law (sound before) in
    record {
      sound = ap (λ (v : View). v.is_broken) (moves.same sure done) ∙ sound before;
      numbered = ap (λ (v : View). v.is_numbered) (moves.same sure done) ∙ numbered before;
      clean = ap (λ (v : View). v.trees) (moves.same sure done) ∙ (undone.undone up).0 ∙ sym ((undone.kept before).committed up) ∙ sym (ap (λ (v : View). v.committed) (moves.same sure done));
      unmarked = ap (λ (v : View). v.marks) (moves.same sure done) ∙ (undone.kept before).marks up;
    }

module _ {S : Type 0} (g : Ghosts S) (conn : Held S) where
  pub became_store : (store : S) (mine : Trees) → WasAtRest (state g conn) mine → IsDatabase (state g conn).now → (g.view store).trees ≡ mine → BecameStore g conn store
  became_store store mine rest sound rows = record { is_open = rest.is_open; committed = rest.settled; sound = sound; rows = rows ∙ sym rest.trees_are }

  -- the same of the connection before it was read
  pub became_store_too : (old : Held S) (store : S) → BecameStore g conn store → IsUnchanged (state g old) (state g conn) → BecameStore g old store
  became_store_too old store it same = record {
    is_open = same.0.was_open;
    committed = sym same.0.now_is ∙ it.committed ∙ same.0.committed_is;
    sound = subst IsDatabase same.0.now_is it.sound;
    rows = it.rows ∙ ap (λ (d : Database). d.trees) same.0.now_is;
  }

-- the replies and all other tables are those of a desk which has heard the log
pub is_desk : AsManyEntriesAsMessages → (db other : Database) → db.schema ≡ desk_schema → IsDatabase db → (c : Settings) (heard : List Envelope) → IsHeard c heard → IsOfDesk c (kept_after c heard) other
    → (finding : Finding) → IsFoundBeside db.trees other.trees finding → IsDeskIf c db finding
is_desk many db other schema sound c heard list desk (InOrder count) found =
    let too : IsOfDesk c (kept_after c heard) db = of_desk_too db other schema sound found.0 c (kept_after c heard) desk in
    (heard, replies_of many c heard db too ∙ found.1, list, too)
is_desk many db other schema sound c heard list desk (Differs place) found = tt

-- the same of the database as it was before it was read
pub is_desk_too : AsManyEntriesAsMessages → (old new : State) (other : Database) → IsUnchanged old new → old.now.schema ≡ desk_schema → IsDatabase old.now
    → (c : Settings) → (heard : List Envelope) × IsHeard c heard × IsOfDesk c (kept_after c heard) other
    → (finding : Finding) → IsFoundBeside new.now.trees other.trees finding → IsDeskIf c old.now finding
is_desk_too many old new other same schema sound c log finding found =
    is_desk many old.now other schema sound c log.0 log.1 log.2 finding (subst (λ (d : Database). IsFoundBeside d.trees other.trees finding) same.0.now_is found)
