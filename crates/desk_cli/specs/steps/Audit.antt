-- The parts of an audit: the comparison of two databases, and a log that is heard anew.
use Rattle.std.specs.Prelude.{◌≡◌, ◌≢◌, ◌≤◌, ℕ, ◌+◌, Bool, false, List, [], ◌∷◌, length, take, slice_get, All, Option, Some, None, IsTrue}
use Rattle.sqlite_value.specs.Order.{Row}
use Rattle.sqlite.specs.Effect.{Database, IsDatabase}
use Rattle.sqlite.specs.Held.{Held, state}
use Rattle.sqlite_trees.specs.Tree.{Trees}
use Rattle.sqlite_trees.specs.declared.store.Store.{Ghosts}
use Rattle.sqlite_trees.specs.View.{View, IsClean, doubt}
use Rattle.registry_core.specs.declared.messages.Envelope.{Envelope}
use Rattle.registry_core.specs.Heard.{IsHeard}
use Rattle.registry_core.specs.Settings.{Settings}
use Rattle.desk_store.specs.Meaning.{Meaning}
use Rattle.desk_engine.specs.Hearing.{Hears}
use Rattle.desk_engine.specs.InOrder.{kept_after}
use Rattle.desk_tables.specs.InOrder.{IsOfDesk}
use Rattle.desk_cli.specs.declared.audit.Finding.{Finding}
use Rattle.desk_cli.specs.declared.audit.Finding.TheVariants.{InOrder, Differs as DiffersAt}
use Rattle.desk_cli.specs.declared.audit.Place.{Place}
use Rattle.desk_cli.specs.declared.audit.Table.{Table}
use Rattle.desk_cli.specs.declared.audit.Table.TheVariants.{Meta, Sender, Reply, Owner, Gateway, Device, Session, Uplink, Copy, Booking, BandLimit}
use Rattle.desk_cli.specs.declared.audit.walking.Comparison.{Comparison}
use Rattle.desk_cli.specs.declared.audit.walking.Comparison.TheVariants.{Same, Differs}
use Rattle.desk_rows.specs.Schema.{booking_tree, copy_tree, device_tree, gateway_tree, limit_tree, meta_tree, owner_tree, reply_tree, sender_tree, session_tree, uplink_tree}

-- ---- two lists of rows

-- at this place, from 1, two lists of rows first differ, or one of them has no row there
pub record DifferFirst (one other : List Row) (place : ℕ) : Type 0 where
  pub before : ℕ
  pub next : place ≡ before + 1
  pub front : take before one ≡ take before other
  pub there : slice_get one before ≢ slice_get other before

-- how two lists of rows compare
abbrev pub Compares : List Row → List Row → Comparison → Type 0
Compares one other (Same count) = (one ≡ other) × (length one ≡ count)
Compares one other (Differs place) = DifferFirst one other place

-- ---- two databases

-- the number of a table's tree
abbrev pub tree_of : Table → ℕ
tree_of Meta = meta_tree
tree_of Sender = sender_tree
tree_of Reply = reply_tree
tree_of Owner = owner_tree
tree_of Gateway = gateway_tree
tree_of Device = device_tree
tree_of Session = session_tree
tree_of Uplink = uplink_tree
tree_of Copy = copy_tree
tree_of Booking = booking_tree
tree_of BandLimit = limit_tree

-- the tables that are compared after the replies, in the order of the schema
abbrev pub later_tables : List Table
later_tables = Meta ∷ Sender ∷ Owner ∷ Gateway ∷ Device ∷ Session ∷ Uplink ∷ Copy ∷ Booking ∷ BandLimit ∷ []

module _ (one other : Trees) where
  -- both have the same rows in the table
  abbrev pub HaveSame : Table → Type 0
  HaveSame t = one (tree_of t) ≡ other (tree_of t)

  -- of these tables, this is the first place at which they differ
  pub record DifferAt (tables : List Table) (place : Place) : Type 0 where
    pub before : ℕ
    pub table : slice_get tables before ≡ Some place.table
    pub front : All HaveSame (take before tables)
    pub row : DifferFirst (one (tree_of place.table)) (other (tree_of place.table)) place.row

  -- the first place in these tables at which they differ, or none
  abbrev pub IsFirstPlace : List Table → Option Place → Type 0
  IsFirstPlace tables None = All HaveSame tables
  IsFirstPlace tables (Some place) = DifferAt tables place

  -- what an audit finds: the replies are compared first, and counted
  abbrev pub IsFoundBeside : Finding → Type 0
  IsFoundBeside (InOrder count) = All HaveSame (Reply ∷ later_tables) × (length (one (tree_of Reply)) ≡ count)
  IsFoundBeside (DiffersAt place) = DifferAt (Reply ∷ later_tables) place

-- an open connection at which all was committed became this store, which has the rows of its database
pub record BecameStore {S : Type 0} (g : Ghosts S) (conn : Held S) (store : S) : Type 0 where
  pub is_open : IsTrue (state g conn).is_open
  pub committed : (state g conn).now ≡ (state g conn).committed
  pub sound : IsDatabase (state g conn).now
  pub rows : (g.view store).trees ≡ (state g conn).now.trees

-- the database is that of a desk of this configuration which has heard as many messages as were found
abbrev pub IsDeskIf : Settings → Database → Finding → Type 0
IsDeskIf c db (InOrder count) = (heard : List Envelope) × (length heard ≡ count) × IsHeard c heard × IsOfDesk c (kept_after c heard) db
IsDeskIf c db (DiffersAt place) = Unit {0}

-- ---- a walk through a store, and a log that is heard

-- only cursors have moved, if the walk came to its end
pub record OnlyMoves (old new : View) (ok : Bool) : Type 0 where
  pub clean : doubt old.is_clean ≤ doubt new.is_clean
  pub same : IsClean new → IsTrue ok → new ≡ record old { cursors = new.cursors }

-- calls without an error, in which some messages were heard
pub record HearsSome {K : Type 0} (m : Meaning K) (old new : K) : Type 0 where
  pub after : Settings → List Envelope → List Envelope
  pub doubtful : Settings → Option Envelope
  pub hears : Hears m old new false false after doubtful
