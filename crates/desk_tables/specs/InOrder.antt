-- Tables that represent facts and entries: they have exactly their rows, under a configuration.
use Rattle.std.specs.Prelude.{◌≡◌, ◌≤◌, length, map}
use Rattle.registry_core.specs.Heard.{most_heard}
use Rattle.registry_core.specs.Settings.{Settings}
use Rattle.sqlite_trees.specs.Tree.{Trees}
use Rattle.sqlite.specs.Effect.{Database}
use Rattle.desk_store.specs.Kept.{Entry, Kept}
use Rattle.desk_rows.specs.Meta.{IsConfig}
use Rattle.desk_rows.specs.Rows.{Rows, ReplyRow, Holds}
use Rattle.desk_rows.specs.Schema.{desk_schema}
use Rattle.desk_rows.specs.order.Facts.{facts_in}
use Rattle.desk_rows.specs.order.RowsOf.{AreRowsOf}

abbrev pub entry_in : ReplyRow → Entry
entry_in r = record { sender = r.sender; transaction = r.number; message = r.message; answer = r.answer }

-- the facts and entries that rows represent
abbrev pub kept_in : Rows → Kept
kept_in r = record { facts = facts_in r; entries = map entry_in r.replies }

-- ---- with either schema

-- the database has exactly the rows of these facts and entries, under this configuration
pub record AreInOrderBy (Has : Database → Rows → Type 0) (c : Settings) (db : Database) (kept : Kept) : Type 0 where
  pub rows : Rows
  pub held : Has db rows
  pub are : AreRowsOf c kept.facts rows
  pub entries : kept.entries ≡ map entry_in rows.replies

-- the database's tables represent this, the configuration is one that a desk can have, and there are no more messages than there may be
pub record IsOfDeskBy (Has : Database → Rows → Type 0) (c : Settings) (kept : Kept) (db : Database) : Type 0 where
  pub in_order : AreInOrderBy Has c db kept
  pub config : IsConfig c
  pub few : length kept.entries ≤ most_heard

-- ---- the eleven tables of schema 2

abbrev pub AreInOrder : Settings → Database → Kept → Type 0
AreInOrder = AreInOrderBy Holds

abbrev pub IsOfDesk : Settings → Kept → Database → Type 0
IsOfDesk = IsOfDeskBy Holds

-- the same of what a crash leaves: the schema is the desk's
abbrev pub AreOfDesk : Settings → Kept → Trees → Type 0
AreOfDesk c kept trees = IsOfDesk c kept (record { schema = desk_schema; trees = trees })
