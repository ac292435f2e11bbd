-- What the text of a look-up asks for, as SQLite reads it over the tables of schema 2.
use Rattle.std.specs.Prelude.{◌≡◌, ℕ, zero, suc, ◌+◌, pos, negsuc, List, [], ◌∷◌, Bool, true, false, None, Ok, length, cond}
use Rattle.sqlite_value.specs.declared.keys.Collation.TheVariants.{Binary}
use Rattle.sqlite_value.specs.declared.keys.Key.{Key}
use Rattle.sqlite_value.specs.declared.value.Value.TheVariants.{Int}
use Rattle.sqlite_sql.specs.declared.ops.BinaryOp.TheVariants.{Compare}
use Rattle.sqlite_sql.specs.declared.ops.CompareOp.TheVariants.{Eq, Ge, Gt, Lt, Ne}
use Rattle.sqlite_sql.specs.Term.{Term, lit, col, op2}
use Rattle.sqlite_sql.specs.Query.{Query, Join, inner, end}
use Rattle.sqlite_schema.specs.declared.schema.Schema.{Schema}
use Rattle.sqlite_resolve.specs.declared.compiled.Compiled.{Compiled}
use Rattle.sqlite.specs.Command.{Command}
use Rattle.sqlite.specs.Command.TheVariants.{Insert, Select, Update}
use Rattle.sqlite.specs.Listing.{understood, reads_listing}
use Rattle.sqlite.specs.Source.TheVariants.{Values}
use Rattle.desk_rows.specs.Schema.{booking_tree, copy_tree, desk_schema, device_tree, reply_tree, sender_tree, session_tree, uplink_tree}

-- ---- queries

-- each row of a table with each of the next
abbrev pub joined : List ℕ → Join
joined [] = end
joined (tree ∷ trees) = inner tree (joined trees)

-- which rows of these tables pass, what is shown of each, in which order, and whether only the first is asked for
pub record Asked (trees : List ℕ) : Type 0 where
  pub terms : List Term
  pub project : List Term
  pub order : List (Term × Key)
  pub one : Bool

abbrev pub query_of : {trees : List ℕ} → Asked trees → Query
query_of {trees} a = record {
  from = joined trees;
  filter = a.terms;
  group = None;
  project = a.project;
  distinct = false;
  collations = [];
  order = a.order;
  limit = cond a.one (lit (Int (pos 1))) (lit (Int (negsuc 0)));
  offset = lit (Int (pos 0));
}

abbrev pub rising : Key
rising = record { collation = Binary; descending = false }

abbrev pub falling : Key
falling = record { collation = Binary; descending = true }

-- all that pass, by rising rowid
abbrev pub by_rowid : (tree : ℕ) → List Term → List Term → Asked (tree ∷ [])
by_rowid tree terms project = record { terms = terms; project = project; order = (col 1 0, rising) ∷ []; one = false }

-- all that pass, in this order
abbrev pub all_by : (trees : List ℕ) → List Term → List Term → List (Term × Key) → Asked trees
all_by trees terms project order = record { terms = terms; project = project; order = order; one = false }

-- ---- tests of a row

-- the column at a place is the parameter at a place
abbrev pub is : ℕ → ℕ → Term
is place param = op2 (Compare Eq Binary) (col 1 place) (col 0 param)

-- the booking isn't dropped
abbrev pub undropped : Term
undropped = op2 (Compare Ne Binary) (col 1 9) (lit (Int (pos 2)))

-- ---- texts

-- one of the first nine parameters
abbrev pub param : ℕ → List ℕ
param n = 63 ∷ (48 + n) ∷ []

abbrev pub params_from : ℕ → ℕ → List (List ℕ)
params_from n zero = []
params_from n (suc many) = param n ∷ params_from (n + 1) many

-- what the resolver makes of a text that is one query, with this number of parameters and these names of columns
abbrev pub finding : List ℕ → ℕ → {trees : List ℕ} → Asked trees → List (List ℕ) → Compiled
finding sql many a names = record {
  command = Select (record { lets = []; body = query_of a }) names;
  returning = None;
  names = params_from 1 many;
  formats = [];
  start = 0;
  end = length sql;
  tail = length sql;
}

-- over tables of this schema SQLite reads the text as such a query, and not as one of the schema's own table
abbrev pub AsksOf : Schema → List ℕ → ℕ → {trees : List ℕ} → Asked trees → List (List ℕ) → Type 0
AsksOf desk sql many a names = (understood desk sql ≡ Ok (finding sql many a names)) × (reads_listing desk sql ≡ false)

-- the same over schema 2
abbrev pub AsksFor : List ℕ → ℕ → {trees : List ℕ} → Asked trees → List (List ℕ) → Type 0
AsksFor = AsksOf desk_schema

-- ---- what some of them ask for

-- a booking that isn't dropped answers the uplink or not
abbrev pub answer_asked : Asked (booking_tree ∷ [])
answer_asked = by_rowid booking_tree (is 2 0 ∷ undropped ∷ []) (lit (Int (pos 1)) ∷ [])

-- start and airtime of the bookings of a gateway in a band that aren't dropped, by start and then by number
abbrev pub bookings_asked : Asked (booking_tree ∷ [])
bookings_asked = all_by (booking_tree ∷ []) (is 3 0 ∷ is 6 1 ∷ undropped ∷ []) (col 1 7 ∷ col 1 8 ∷ []) ((col 1 7, rising) ∷ (col 1 0, rising) ∷ [])

-- a column is above a parameter, not below one, and below one
abbrev pub above : ℕ → ℕ → Term
above place param = op2 (Compare Gt Binary) (col 1 place) (col 0 param)

abbrev pub at_least : ℕ → ℕ → Term
at_least place param = op2 (Compare Ge Binary) (col 1 place) (col 0 param)

abbrev pub below : ℕ → ℕ → Term
below place param = op2 (Compare Lt Binary) (col 1 place) (col 0 param)

-- start, airtime and band of a gateway's bookings between two starts that aren't dropped, by start and then by number
abbrev pub near_asked : Asked (booking_tree ∷ [])
near_asked = all_by (booking_tree ∷ []) (is 3 0 ∷ above 7 1 ∷ below 7 2 ∷ undropped ∷ []) (col 1 7 ∷ col 1 8 ∷ col 1 6 ∷ []) ((col 1 7, rising) ∷ (col 1 0, rising) ∷ [])

-- the numbers of a gateway's bookings that start at a parameter or later and before another, by start and then by number
abbrev pub bookings_between_asked : Asked (booking_tree ∷ [])
bookings_between_asked = all_by (booking_tree ∷ []) (is 3 0 ∷ at_least 7 1 ∷ below 7 2 ∷ []) (col 1 0 ∷ []) ((col 1 7, rising) ∷ (col 1 0, rising) ∷ [])

-- two columns, or a column and a parameter, are equal
abbrev pub equal : Term → Term → Term
equal a b = op2 (Compare Eq Binary) a b

-- Of each session with the device in a parameter, and each uplink that names it and starts at a parameter or later and before another: these
-- columns of those that pass more tests, by start and then by number.
abbrev pub uplinks_asked : List Term → List Term → Asked (session_tree ∷ uplink_tree ∷ [])
uplinks_asked more project = all_by (session_tree ∷ uplink_tree ∷ []) (equal (col 2 2) (col 1 0) ∷ equal (col 1 2) (col 0 0)
    ∷ op2 (Compare Ge Binary) (col 2 6) (col 0 1) ∷ op2 (Compare Lt Binary) (col 2 6) (col 0 2) ∷ more)
    project ((col 2 6, rising) ∷ (col 2 0, rising) ∷ [])

-- the numbers of a device's uplinks in a range of starts
abbrev pub uplinks_between_asked : Asked (session_tree ∷ uplink_tree ∷ [])
uplinks_between_asked = uplinks_asked [] (col 2 0 ∷ [])

-- both texts of the message with a sender and a transaction number
abbrev pub reply_asked : Asked (reply_tree ∷ [])
reply_asked = by_rowid reply_tree (is 2 0 ∷ is 3 1 ∷ []) (col 1 4 ∷ col 1 5 ∷ [])

-- the next downlink counter of the session with the number
abbrev pub next_down_asked : Asked (session_tree ∷ [])
next_down_asked = by_rowid session_tree (is 0 0 ∷ []) (col 1 4 ∷ [])

-- the role of the sender with the name
abbrev pub role_asked : Asked (sender_tree ∷ [])
role_asked = by_rowid sender_tree (is 1 0 ∷ []) (col 1 2 ∷ [])

-- the DevEUI of an owner's first device above another
abbrev pub device_after_asked : Asked (device_tree ∷ [])
device_after_asked = record { terms = is 3 0 ∷ above 1 1 ∷ []; project = col 1 1 ∷ []; order = (col 1 1, rising) ∷ (col 1 0, rising) ∷ []; one = true }

-- a column of the rows that pass, in its order and then by rowid
abbrev pub column_asked : (tree : ℕ) → List Term → ℕ → Asked (tree ∷ [])
column_asked tree terms place = all_by (tree ∷ []) terms (col 1 place ∷ []) ((col 1 place, rising) ∷ (col 1 0, rising) ∷ [])

-- the first column of all rows
abbrev pub all_asked : (tree : ℕ) → Asked (tree ∷ [])
all_asked tree = column_asked tree [] 1

-- the gateways of an uplink's receptions
abbrev pub gateways_asked : Asked (copy_tree ∷ [])
gateways_asked = column_asked copy_tree (is 1 0 ∷ []) 2

-- ---- texts of INSERT and UPDATE

-- what the resolver makes of a text that is one such statement, with this number of parameters
abbrev pub changing : List ℕ → ℕ → Command → Compiled
changing sql many command = record {
  command = command;
  returning = None;
  names = params_from 1 many;
  formats = [];
  start = 0;
  end = length sql;
  tail = length sql;
}

-- Over tables of schema 2 SQLite reads the text as an INSERT of one row into the table at a place. The row has this width and these values.
abbrev pub InsertsRow : List ℕ → ℕ → ℕ → List Term → ℕ → Type 0
InsertsRow sql many at terms width = understood desk_schema sql ≡ Ok (changing sql many (Insert at (Values terms width)))

-- It reads the text as an UPDATE of the rows that pass in the table at a place, which has this tree. The new values of a row are the
-- projected ones.
abbrev pub UpdatesRows : List ℕ → ℕ → ℕ → ℕ → List Term → List Term → Type 0
UpdatesRows sql many at tree terms project =
    understood desk_schema sql ≡ Ok (changing sql many (Update at (record { lets = []; body = query_of (all_by (tree ∷ []) terms (col 1 0 ∷ project) []) })))
