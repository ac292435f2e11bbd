-- The tables as one list, so that one statement about a change of one of them covers the others.
use Rattle.std.proofs.Common.{◌≡◌, ◌≢◌, ℕ, ◌==◌, ◌∙◌, List, [], ◌∷◌, ◌++◌, map, cond, Bool, true, false, refl, sym, ap, eqb-true, true≢false, subst}
use Rattle.std.specs.List.{AllByRecursion}
use Rattle.std.proofs.lemmas.Bool.{eq-eqb}
use Rattle.sqlite_value.specs.Order.{Row}
use Rattle.sqlite_trees.specs.Tree.{Trees}
use Rattle.sqlite.specs.Effect.{Database, IsDatabase}
use Rattle.desk_rows.specs.Schema.{desk_schema, limit_tree}
use Rattle.desk_rows.specs.steps.Change.{KeepsOthers}
use Rattle.desk_rows.specs.Rows.{Rows, Holds, HoldsTen, InRange, table_of, meta_cells, sender_cells, reply_cells, name_cells, device_cells, session_cells, uplink_cells, reception_cells, booking_cells, limit_cells}

-- the rows of each tree that has a table, under a version of the schema
abbrev pub tables_as : ℕ → Rows → List (ℕ × List Row)
tables_as version r =
    (0, table_of (meta_cells version) (r.settings ∷ [])) ∷ (1, table_of sender_cells r.senders) ∷ (3, table_of reply_cells r.replies) ∷ (5, table_of name_cells r.owners) ∷ (7, table_of name_cells r.gateways)
    ∷ (9, table_of device_cells r.devices) ∷ (11, table_of session_cells r.sessions) ∷ (13, table_of uplink_cells r.uplinks) ∷ (15, table_of reception_cells r.receptions) ∷ (17, table_of booking_cells r.bookings)
    ∷ (22, table_of limit_cells r.limits) ∷ []

abbrev pub tables : Rows → List (ℕ × List Row)
tables r = tables_as 2 r

abbrev pub AreHeld : Trees → List (ℕ × List Row) → Type 0
AreHeld db held = AllByRecursion (λ t. db t.0 ≡ t.1) held

pub held_of : (version : ℕ) (db : Database) (r : Rows) → HoldsTen version desk_schema db r → db.trees limit_tree ≡ table_of limit_cells r.limits
    → AreHeld db.trees (tables_as version r)
held_of version db r h limit = (h.meta, (h.sender, (h.reply, (h.owner, (h.gateway, (h.device, (h.session, (h.uplink, (h.copy, (h.booking, (limit, tt)))))))))))

pub holds_from : (db : Database) (r : Rows) → db.schema ≡ desk_schema → IsDatabase db → InRange r → AreHeld db.trees (tables r) → Holds db r
holds_from db r schema sound in_range (a, (b, (c, (d, (e, (f, (g, (h, (i, (j, (k, _))))))))))) = record {
  ten = record {
    schema = schema;
    sound = sound;
    in_range = in_range;
    meta = a;
    sender = b;
    reply = c;
    owner = d;
    gateway = e;
    device = f;
    session = g;
    uplink = h;
    copy = i;
    booking = j;
  };
  limit = k;
}

-- the same with these rows in one tree
abbrev pub with_table : ℕ → List Row → List (ℕ × List Row) → List (ℕ × List Row)
with_table tree rows = map (λ t. (t.0, cond (t.0 == tree) rows t.1))

module _ (old new : Trees) (tree : ℕ) (rows : List Row) (is : new tree ≡ rows) where
  held_with : (held : List (ℕ × List Row)) → AllByRecursion (λ t. t.0 ≢ tree → new t.0 ≡ old t.0) held → AreHeld old held → AreHeld new (with_table tree rows held)
  held_with [] others was = tt
  held_with (t ∷ held) others was = (go (t.0 == tree) refl, held_with held others.1 was.1)
    where
      go : (b : Bool) → (t.0 == tree) ≡ b → new t.0 ≡ cond b rows t.1
      go true same = ap new (eqb-true t.0 tree same) ∙ is
      go false other = others.0 (λ e. true≢false (sym (eq-eqb t.0 tree e) ∙ other)) ∙ was.0

-- a change of one table
pub holds_by : (old new : Database) (held : List (ℕ × List Row)) (after : Rows) (tree : ℕ) (rows : List Row) → AreHeld old.trees held → new.schema ≡ desk_schema → IsDatabase new → InRange after
    → AllByRecursion (λ (t : ℕ × List Row). t.0 ≢ tree → new.trees t.0 ≡ old.trees t.0) held
    → new.trees tree ≡ rows → tables after ≡ with_table tree rows held → Holds new after
holds_by old new held after tree rows has schema sound in_range others is same =
    holds_from new after schema sound in_range (subst (AreHeld new.trees) (sym same) (held_with old.trees new.trees tree rows is held others has))

pub holds_with : (old new : Database) (r after : Rows) (tree : ℕ) (rows : List Row) → Holds old r → new.schema ≡ desk_schema → IsDatabase new → InRange after → KeepsOthers tree old.trees new.trees
    → new.trees tree ≡ rows → tables after ≡ with_table tree rows (tables r) → Holds new after
holds_with old new r after tree rows has = holds_by old new (tables r) after tree rows (held_of 2 old r has.ten has.limit)

-- ---- ranges of a list that is changed

pub all_more : {X : Type 0} (P : X → Type 0) (xs : List X) (x : X) → AllByRecursion P xs → P x → AllByRecursion P (xs ++ x ∷ [])
all_more P [] x all one = (one, tt)
all_more P (y ∷ xs) x all one = (all.0, all_more P xs x all.1 one)
