-- What a store over the tables represents, and what a crash leaves of it.
use Rattle.std.specs.Prelude.{◌≡◌, Bool, false, List, [], ◌∷◌, length, None, IsTrue, refl}
use Rattle.std.proofs.Common.{sym, ap, ap₂, ◌∙◌, subst, inl}
use Rattle.std.proofs.Math.Logic.{∥∥₁_map}
use Rattle.registry_core.specs.Settings.{Settings}
use Rattle.sqlite_trees.specs.Tree.{Trees}
use Rattle.sqlite_trees.specs.View.{doubt}
use Rattle.sqlite_trees.specs.declared.store.Store.{Ghosts}
use Rattle.sqlite.specs.Effect.{Database}
use Rattle.sqlite.specs.State.{State, HasCleanDisk}
use Rattle.sqlite.specs.Held.{state}
use Rattle.desk_store.specs.Kept.{Kept, IsOneOf, HaveCommon}
use Rattle.desk_store.specs.Meaning.{Meaning}
use Rattle.desk_store.specs.Parts.{AreCounts}
use Rattle.desk_rows.specs.Rows.{Rows}
use Rattle.desk_rows.specs.Schema.{desk_schema}
use Rattle.desk_rows.specs.Decode.{held_again}
use Rattle.desk_tables.specs.InOrder.{AreOfDesk, AreInOrder, IsOfDesk, kept_in}
use Rattle.desk_tables.specs.Seen.{AreSeen}
use Rattle.desk_tables.specs.declared.tables.Tables.{Tables}

-- a connection between two calls: it is open, and everything is committed
pub record IsSettled (s : State) : Type 0 where
  pub open_still : IsTrue s.is_open
  pub autocommit : s.in_transaction ≡ false
  pub committed : s.now ≡ s.committed
  pub unlimited : s.step_limit ≡ None

-- a connection between two calls whose database is this, with the desk's schema, whatever rows the tables have
pub record IsSettledOver (s : State) (db : Database) : Type 0 where
  pub settled : IsSettled s
  pub stored : s.now ≡ db
  pub schema : db.schema ≡ desk_schema

module _ {S : Type 0} (g : Ghosts S) (k : Tables S) where
  -- so far the disk has returned what was written to it
  abbrev pub IsSound : Type 0
  IsSound = HasCleanDisk (state g k.conn)

  -- the database is of a desk that represents these, the counts are theirs, and the cache is right for its rows
  pub record Stands (kept : Kept) : Type 0 where
    pub settled : IsSettled (state g k.conn)
    pub desk : IsOfDesk k.config kept (state g k.conn).now
    pub heard : k.heard ≡ length kept.entries
    pub counts : AreCounts kept.facts k.counts
    pub seen : AreSeen k.seen (state g k.conn).now

  -- of a failed store this states nothing
  abbrev pub HoldsKept : Kept → Type 0
  HoldsKept kept = k.failed ≡ false → Stands kept

  -- each database that a crash may leave is of a desk that represents one of these
  abbrev pub Leaves : List Kept → Type 0
  Leaves all = (db : Trees) → (state g k.conn).may_leave db → (kept : Kept) × IsOneOf all kept × AreOfDesk k.config kept db

  -- its connection is at rest over this database; of a failed store this states nothing
  abbrev pub Rests : Database → Type 0
  Rests db = k.failed ≡ false → IsSettledOver (state g k.conn) db

-- what a store over the tables means
abbrev pub meaning_of : {S : Type 0} → Ghosts S → Meaning (Tables S)
meaning_of g = record {
  configuration = λ k. k.config;
  sound = IsSound g;
  failed = λ k. k.failed;
  not_a_desk = λ k. k.not_a_desk;
  out_of_space = λ k. IsTrue k.out_of_space;
  holds = HoldsKept g;
  leaves = Leaves g;
  Stored = Database;
  rests = Rests g;
}

-- ---- laws

-- a database represents one thing
pub one_kept : (c : Settings) (db : Database) (a b : Kept) → AreInOrder c db a → AreInOrder c db b → a ≡ b
one_kept c db a b h i =
    told a h.rows h.are.is h.entries ∙ ap kept_in (held_again db h.rows h.held ∙ sym (held_again db i.rows i.held)) ∙ sym (told b i.rows i.are.is i.entries)
  where
    told : (kept : Kept) (r : Rows) → kept.facts ≡ (kept_in r).facts → kept.entries ≡ (kept_in r).entries → kept ≡ kept_in r
    told kept r facts entries = λ i. record { facts = facts i; entries = entries i }

module _ {S : Type 0} (g : Ghosts S) where
  -- If the store isn't failed, a crash leaves what it represents.
  pub own_law : ((s : S) (db : Trees) → IsTrue (g.view s).is_open → g.recovers s db → db ≡ (g.view s).committed)
      → (k : Tables S) (kept : Kept) → IsSound g k → k.failed ≡ false → HoldsKept g k kept → Leaves g k (kept ∷ [])
  own_law settled k kept clean up holds = λ db may.
      let stands = holds up in
      let trees : (state g k.conn).now.trees ≡ db = ap (λ (d : Database). d.trees) stands.settled.committed ∙ sym (settled k.conn.store db stands.settled.open_still may) in
      let same : (state g k.conn).now ≡ record { schema = desk_schema; trees = db } =
      ap₂ (λ schema trees. record { schema = schema; trees = trees }) stands.desk.in_order.held.ten.schema trees in
      (kept, inl refl, subst (IsOfDesk k.config kept) same stands.desk)

  -- If the store isn't failed, it represents at most one thing.
  pub one_law : (k : Tables S) (a b : Kept) → IsSound g k → k.failed ≡ false → HoldsKept g k a → HoldsKept g k b → a ≡ b
  one_law k a b clean up one other = one_kept k.config (state g k.conn).now a b (one up).desk.in_order (other up).desk.in_order

module _ {S : Type 0} (is_clean : S → Bool) (recovers : S → Trees → Type 0) where
  -- A crash leaves something, and that represents one thing.
  pub common_law : ((s : S) → doubt (is_clean s) ≡ 0 → ∥ ((db : Trees) × recovers s db) ∥₁)
      → (k : Tables S) (a b : List Kept) → doubt (is_clean k.conn.store) ≡ 0
      → ((db : Trees) → recovers k.conn.store db → (kept : Kept) × IsOneOf a kept × AreOfDesk k.config kept db)
      → ((db : Trees) → recovers k.conn.store db → (kept : Kept) × IsOneOf b kept × AreOfDesk k.config kept db) → HaveCommon a b
  common_law survives k a b clean one other = ∥∥₁_map (survives k.conn.store clean) (λ left.
      let first = one left.0 left.1 in
      let second = other left.0 left.1 in
      let same : first.0 ≡ second.0 = one_kept k.config _ first.0 second.0 first.2.in_order second.2.in_order in
      (second.0, subst (IsOneOf a) same first.1, second.1))
