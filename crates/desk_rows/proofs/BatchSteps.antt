-- What one CREATE of a batch makes, and that it is never refused.
use Rattle.std.proofs.Common.{◌≡◌, inl, inr, ℕ, ◌≤◌, List, [], ◌∷◌, ◌++◌, length, slice_get, Bool, true, false, IsTrue, Some, None, Ok, Err, sym, ap, subst, subst₂, ◌∙◌}
use Rattle.std.specs.List.{AllByRecursion}
use Rattle.std.proofs.lemmas.Bool.{cases_Bool}
use Rattle.sqlite_trees.specs.Tree.{Trees}
use Rattle.sqlite_schema.specs.declared.schema.Table.{Table}
use Rattle.sqlite_schema.specs.declared.schema.Index.{Index}
use Rattle.sqlite_schema.specs.declared.schema.Schema.{Schema}
use Rattle.sqlite_resolve.specs.declared.compiled.Compiled.{Compiled}
use Rattle.sqlite_resolve.specs.Compile.{table_defined_by, index_defined_by}
use Rattle.sqlite_catalog.specs.Change.{created, indexed, next_tree, KeepsRows}
use Rattle.sqlite.specs.Command.{Command}
use Rattle.sqlite.specs.Command.TheVariants.{CreateTable, CreateIndex}
use Rattle.sqlite.specs.Effect.{Database, IsDatabase}
use Rattle.sqlite.specs.Does.{Tally, Does, AtPlace, Defines, MakesIndex, lacks_sequence}
use Rattle.sqlite.specs.Listing.{understood}
use Rattle.sqlite.specs.Clock.{timed}
use Rattle.sqlite.specs.State.{State, Runs, ExecutesIn, EndsScope, text_of, shows_rows, mode_of}
use Rattle.sqlite.specs.declared.error.Error.{Error}
use Rattle.sqlite.proofs.Callers.{IsPlain, command_of, statement_of}
use Rattle.desk_rows.specs.Faults.{row_fault}
use Rattle.desk_rows.specs.Making.{IsEmptied}
use Rattle.desk_rows.specs.declared.faults.RowFault.TheVariants.{Refused}
use Rattle.desk_rows.proofs.CreateRefusals.{accepts_table, accepts_index, no_table, no_index}
use Rattle.desk_rows.proofs.TurnedDown.{WritesRows, executed, not_ended, table_writes, index_writes}
use Rattle.desk_rows.proofs.InsertLemmas.{went, same_value}

module _ (in_batch : Bool) (sql : List ℕ) (old new : State) (schema : Schema) (has : old.now.schema ≡ schema) (command : Command) (is : command_of (understood schema sql) ≡ command)
    (plain : IsPlain (understood schema sql)) where
  ran_as : (count : ℕ) → ExecutesIn in_batch sql [] old new (Ok count) → Runs old new None command (statement_of sql (understood schema sql)) [] count
  unfolding ExecutesIn
  ran_as count h =
      let known = sym h.1.is ∙ ap (λ s. understood s sql) has in
      let bare = subst IsPlain (sym known) plain in
      let ran : Runs old new h.0.returning h.0.command (text_of sql h.0) (timed [] h.0.formats h.1.now) count = elim (cases_Bool (shows_rows in_batch h.0)) [
        | inl shows ↦ absurd (let e = (rw shows at h.2).0 in cc)
        | inr runs ↦ rw runs at h.2
      ] in
      subst₂ (λ k t. Runs old new None k t [] count) (ap command_of known ∙ is) (ap (statement_of sql) known) (rw (bare.0, bare.1) at ran)

-- from tables that are all empty, of the one schema, to such tables of the other, over a store that is open
abbrev pub Leads : List ℕ → Schema → Schema → Type 1
Leads sql before after = (old new : State) (count : ℕ) → old.now.schema ≡ before → IsEmptied old.now → ExecutesIn true sql [] old new (Ok count)
    → (new.now.schema ≡ after) × IsEmptied new.now × IsDatabase new.now × IsTrue new.is_open

still_empty : (old new : Trees) (tables : List Table) → KeepsRows tables old new → AllByRecursion (λ t. old t.tree ≡ []) tables → AllByRecursion (λ t. new t.tree ≡ []) tables
still_empty old new [] kept all = tt
still_empty old new (t ∷ tables) kept all = (kept.0 ∙ all.0, still_empty old new tables kept.1 all.1)

one_more : (trees : Trees) (table : Table) (tables : List Table) → AllByRecursion (λ t. trees t.tree ≡ []) tables → trees table.tree ≡ [] → AllByRecursion (λ t. trees t.tree ≡ []) (tables ++ table ∷ [])
one_more trees table [] all one = (one, tt)
one_more trees table (t ∷ tables) all one = (all.0, one_more trees table tables all.1 one)

-- what a CREATE TABLE leaves, whatever the other tables have
pub record HasMade (before : Schema) (table : Table) (old new : State) : Type 0 where
  pub schema : new.now.schema ≡ created before table
  pub empty : new.now.trees (next_tree before) ≡ []
  pub others : KeepsRows before.tables old.now.trees new.now.trees
  pub sound : IsDatabase new.now
  pub is_open : IsTrue new.is_open

-- in a batch, or alone
module _ (in_batch : Bool) (sql : List ℕ) (before : Schema) (table : Table) (is : command_of (understood before sql) ≡ CreateTable)
    (plain : IsPlain (understood before sql)) (means : table_defined_by (statement_of sql (understood before sql)) ≡ Ok table)
    (old new : State) (has : old.now.schema ≡ before) (count : ℕ) (h : ExecutesIn in_batch sql [] old new (Ok count)) where
  pub table_made : lacks_sequence (created before table) ≡ false → HasMade before table old new
  table_made counted =
      let w = ran_as in_batch sql old new before has CreateTable is plain count h in
      let all = went w.changed in
      let first = went all.1 in
      let made = first.1 in
      let both : Ok made.table ≡ Ok table = sym made.defined ∙ means in
      let same : made.table ≡ table = cc in
      let schema : first.0.schema ≡ created before table = made.is ∙ ap (λ s. created s made.table) has ∙ ap (created before) same in
      let plain : lacks_sequence first.0.schema ≡ false = ap lacks_sequence schema ∙ counted in
      let now : new.now ≡ first.0 = ap (λ (p : Tally × Database). p.1) (same_value all.2) ∙ same_value (rw plain at first.2) in
      record {
        schema = ap (λ (d : Database). d.schema) now ∙ schema;
        empty = ap (λ (d : Database). d.trees (next_tree before)) now ∙ subst (λ s. first.0.trees (next_tree s) ≡ []) has made.empty;
        others = subst (λ (d : Database). KeepsRows before.tables old.now.trees d.trees) (sym now)
            (subst (λ (s : Schema). KeepsRows s.tables old.now.trees first.0.trees) has made.others);
        sound = w.sound;
        is_open = w.shown.is_open;
      }

table_leads : (sql : List ℕ) (before : Schema) (table : Table) → command_of (understood before sql) ≡ CreateTable → IsPlain (understood before sql)
    → table_defined_by (statement_of sql (understood before sql)) ≡ Ok table → lacks_sequence (created before table) ≡ false → Leads sql before (created before table)
table_leads sql before table is plain means counted old new count has empty h =
    let made = table_made true sql before table is plain means old new has count h counted in
    let old_ones = still_empty old.now.trees new.now.trees before.tables made.others
    (subst (λ (s : Schema). AllByRecursion (λ t. old.now.trees t.tree ≡ []) s.tables) has empty) in
    let every : AllByRecursion (λ t. new.now.trees t.tree ≡ []) (created before table).tables =
    one_more new.now.trees (record table { tree = next_tree before }) before.tables old_ones made.empty in
    (made.schema, subst (λ (s : Schema). AllByRecursion (λ t. new.now.trees t.tree ≡ []) s.tables) (sym made.schema) every, made.sound, made.is_open)

index_leads : (sql : List ℕ) (before : Schema) (at : ℕ) (table : Table) (index : Index) → command_of (understood before sql) ≡ CreateIndex at → slice_get before.tables at ≡ Some table
    → IsPlain (understood before sql) → index_defined_by table (statement_of sql (understood before sql)) ≡ Ok index → Leads sql before (indexed before table index)
index_leads sql before at table index is there plain means old new count has empty h =
    let w = ran_as true sql old new before has (CreateIndex at) is plain count h in
    let text = statement_of sql (understood before sql) in
    let does = subst (λ s. Does old.step_limit (mode_of old) [] (record old.now { schema = s }) text None (CreateIndex at) (Ok (w.tally, new.now))) has w.changed in
    let db : Database = record old.now { schema = before } in
    let found = subst (λ o. AtPlace (λ t. Defines (mode_of old) (MakesIndex text db t)) o (Ok (w.tally, new.now))) there does in
    let all = went found in
    let made = all.1 in
    let both : Ok made.index ≡ Ok index = sym made.defined ∙ means in
    let same : made.index ≡ index = cc in
    let schema : all.0.schema ≡ indexed before table index = made.is ∙ ap (indexed before table) same in
    let now : new.now ≡ all.0 = ap (λ (p : Tally × Database). p.1) (same_value all.2) in
    let listed = subst (λ (s : Schema). AllByRecursion (λ t. old.now.trees t.tree ≡ []) s.tables) has empty in
    let every = still_empty old.now.trees all.0.trees before.tables made.rows listed in
    let emptied : IsEmptied all.0 = subst (λ (s : Schema). AllByRecursion (λ t. all.0.trees t.tree ≡ []) s.tables) (sym schema) every in
    (ap (λ (d : Database). d.schema) now ∙ schema, subst IsEmptied (sym now) emptied, w.sound, w.shown.is_open)

-- ---- and is never refused

-- over empty tables of the schema, it fails neither for its text nor for its place
pub record IsSpared (sql : List ℕ) (before : Schema) : Type 1 where
  pub runs : (old new : State) (e : Error) → old.now.schema ≡ before → IsEmptied old.now → row_fault e ≡ Refused → ExecutesIn true sql [] old new (Err e) → ⊥
  pub stays : (old : State) → old.now.schema ≡ before → EndsScope 0 sql [] old → ⊥

-- over this schema the text is this command alone, with no parameter
pub record IsCommand (sql : List ℕ) (before : Schema) (command : Command) : Type 0 where
  pub compiled : Compiled
  pub means : understood before sql ≡ Ok compiled
  pub is : compiled.command ≡ command
  pub plain : (compiled.returning ≡ None) × (compiled.formats ≡ [])
  pub whole : length sql ≤ compiled.tail
  pub given : 0 ≡ length compiled.names

-- what one statement of the batch does
pub record CreatesOne (sql : List ℕ) (before after : Schema) : Type 1 where
  pub leads : Leads sql before after
  pub spared : IsSpared sql before

module _ (sql : List ℕ) (before : Schema) (command : Command) (text : IsCommand sql before command) where
  pub is_command : command_of (understood before sql) ≡ command
  is_command = ap command_of text.means ∙ text.is

  pub is_plain : IsPlain (understood before sql)
  is_plain = subst IsPlain (sym text.means) text.plain

  spared : (writes : WritesRows command)
      → ((old : State) (e : Error) → IsEmptied (record old.now { schema = before })
      → Does old.step_limit (mode_of old) [] (record old.now { schema = before }) (text_of sql text.compiled) None command (Err (Some e)) → ⊥)
      → IsSpared sql before
  spared writes never = record {
    runs = λ old new e has empty told ran. never old e (subst (λ (s : Schema). IsEmptied (record old.now { schema = s })) has empty)
        (executed true before sql [] old new has command writes text.compiled text.means text.is text.plain text.whole text.given e told ran);
    stays = λ old has. not_ended true before sql [] old old has command writes text.compiled text.means text.is text.plain text.whole text.given;
  }

pub table_step : (sql : List ℕ) (before : Schema) (table : Table) (text : IsCommand sql before CreateTable) → table_defined_by (text_of sql text.compiled) ≡ Ok table
    → lacks_sequence (created before table) ≡ false → accepts_table before (text_of sql text.compiled) table ≡ true → CreatesOne sql before (created before table)
table_step sql before table text defined counted accepted = record {
  leads = table_leads sql before table (is_command sql before CreateTable text) (is_plain sql before CreateTable text)
      (ap (λ c. table_defined_by (statement_of sql c)) text.means ∙ defined) counted;
  spared = spared sql before CreateTable text table_writes (λ old e empty. no_table before (text_of sql text.compiled) table defined accepted counted old e);
}

pub index_step : (sql : List ℕ) (before : Schema) (at : ℕ) (table : Table) (index : Index) (text : IsCommand sql before (CreateIndex at)) → slice_get before.tables at ≡ Some table
    → index_defined_by table (text_of sql text.compiled) ≡ Ok index → accepts_index before (text_of sql text.compiled) table index ≡ true
    → CreatesOne sql before (indexed before table index)
index_step sql before at table index text there defined accepted = record {
  leads = index_leads sql before at table index (is_command sql before (CreateIndex at) text) there (is_plain sql before (CreateIndex at) text)
      (ap (λ c. index_defined_by table (statement_of sql c)) text.means ∙ defined);
  spared = spared sql before (CreateIndex at) text (index_writes at) (λ old e empty. no_index before (text_of sql text.compiled) at table index there defined accepted old empty e);
}
