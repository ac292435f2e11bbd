-- The batch that makes a desk's tables, its texts derived from the schema. Run in turn they lead to the desk's schema, and none is
-- refused.
use Rattle.std.proofs.Common.{ℕ, ◌+◌, ◌==◌, ◌++◌, List, [], ◌∷◌, codes, drop, get_or, map, take, Option, Some, None, Bool, false, if◌then◌else◌, refl, arith}
use Rattle.sqlite_schema.specs.declared.schema.Column.{Column}
use Rattle.sqlite_schema.specs.declared.schema.Kind.{Kind}
use Rattle.sqlite_schema.specs.declared.schema.Kind.TheVariants as kind
use Rattle.sqlite_schema.specs.declared.schema.Schema.{Schema}
use Rattle.sqlite_schema.specs.declared.schema.Table.{Table}
use Rattle.sqlite_tied.specs.Compute.{everything}
use Rattle.sqlite_value.specs.Order.{value_cmp}
use Rattle.sqlite_trees.specs.Sound.{fits_kind, is_free_name, begins, same_name}
use Rattle.sqlite.specs.Listing.{understood}
use Rattle.desk_rows.specs.Schema.{desk_tables, desk_indexes, meta_table, sender_table, reply_table, owner_table, gateway_table, device_table, session_table, uplink_table, copy_table, booking_table, limit_table}
use Rattle.desk_rows.proofs.BatchLemmas.{Begins, Makes, Starts, makes, nothing_more, starts}
use Rattle.desk_rows.proofs.BatchSteps.{CreatesOne, index_step, table_step}
use Rattle.desk_rows.proofs.StatementTexts.{joined_by, name_at}

-- ---- texts

abbrev pub kind_text : Kind → List ℕ
kind_text kind.Integer = codes " INTEGER"
kind_text kind.Text = codes " TEXT"
kind_text kind.Blob = codes " BLOB"
kind_text other = []

-- the column is the whole key
abbrev pub is_key_alone : List ℕ → ℕ → Bool
is_key_alone (p ∷ []) place = p == place
is_key_alone places place = false

abbrev pub column_text : List ℕ → ℕ → Column → List ℕ
column_text primary place c =
    c.name ++ (kind_text c.kind ++ (if is_key_alone primary place then codes " PRIMARY KEY" else (if c.not_null then codes " NOT NULL" else [])))

abbrev pub column_texts : List ℕ → ℕ → List Column → List (List ℕ)
column_texts primary place [] = []
column_texts primary place (c ∷ cs) = column_text primary place c ∷ column_texts primary (place + 1) cs

abbrev pub key_text : Table → List ℕ → List ℕ → List ℕ
key_text t what places = what ++ (codes " (" ++ (joined_by (codes ", ") (map (name_at t) places) ++ codes ")"))

-- the unique keys of a table whose rowid has a name; of another table its key, where that has several columns
abbrev pub key_texts : Table → Option ℕ → List ℕ → List (List ℕ)
key_texts t (Some at) primary = map (key_text t (codes "UNIQUE")) t.uniques
key_texts t None (p ∷ q ∷ ps) = key_text t (codes "PRIMARY KEY") (p ∷ q ∷ ps) ∷ []
key_texts t None primary = []

-- the place of the first column: 0 where it names the rowid, else 1
abbrev pub first_place : Option ℕ → ℕ
first_place (Some at) = 0
first_place None = 1

abbrev pub create_text : Table → List ℕ
create_text t = codes "CREATE TABLE " ++ (t.name ++ (codes " (" ++ (joined_by (codes ", ") (column_texts t.primary (first_place t.key) t.columns ++ key_texts t t.key t.primary) ++ codes ") STRICT")))

abbrev pub index_text : Table → List ℕ → List ℕ → List ℕ
index_text t name places = key_text t (codes "CREATE INDEX " ++ (name ++ (codes " ON " ++ t.name))) places

abbrev pub statements : List (List ℕ)
statements = map create_text (take 10 desk_tables)
    ++ (index_text device_table (codes "device_owner") (3 ∷ 1 ∷ []) ∷ index_text uplink_table (codes "uplink_start") (2 ∷ 6 ∷ []) ∷ index_text booking_table (codes "booking_start") (3 ∷ 7 ∷ [])
    ∷ index_text booking_table (codes "booking_uplink") (2 ∷ []) ∷ create_text limit_table ∷ [])

-- one after another
abbrev pub batch_of : List (List ℕ) → List ℕ
batch_of [] = []
batch_of (s ∷ []) = s
batch_of (s ∷ t ∷ more) = s ++ (codes "; " ++ batch_of (t ∷ more))

abbrev pub batch : List ℕ
batch = batch_of statements

-- the batch from a later statement on, and that statement alone
abbrev from : ℕ → List ℕ
from n = codes " " ++ batch_of (drop n statements)

abbrev text : ℕ → List ℕ
text n = codes " " ++ (get_or statements n [] ++ codes ";")

abbrev pub after : ℕ → ℕ → Schema
after tables indexes = record { tables = take tables desk_tables; indexes = take indexes desk_indexes; views = [] }

-- ---- what they make, the last first

limit_made : Makes (from 14) (after 10 12) (after 11 13)
unfolding understood everything fits_kind is_free_name begins same_name value_cmp lib.Ieee.is_nan lib.Ieee.lt
limit_made = makes (from 14) (from 14) [] (record { some = λ e. cc; first_is = refl; rest_is = refl }) (table_step (from 14) (after 10 12) (record limit_table { tree = 0 }) (record { compiled = _; means = refl; is = refl; plain = (refl, refl); whole = omega arith; given = refl }) refl refl refl) (nothing_more (after 11 13))

booking_uplink_made : Makes (from 13) (after 10 11) (after 11 13)
unfolding understood everything fits_kind is_free_name begins same_name value_cmp lib.Ieee.is_nan lib.Ieee.lt
booking_uplink_made = makes (from 13) (text 13) (from 14) (record { some = λ e. cc; first_is = refl; rest_is = refl }) (index_step (text 13) (after 10 11) 9 booking_table _ (record { compiled = _; means = refl; is = refl; plain = (refl, refl); whole = omega arith; given = refl }) refl refl refl) limit_made

booking_start_made : Makes (from 12) (after 10 10) (after 11 13)
unfolding understood everything fits_kind is_free_name begins same_name value_cmp lib.Ieee.is_nan lib.Ieee.lt
booking_start_made = makes (from 12) (text 12) (from 13) (record { some = λ e. cc; first_is = refl; rest_is = refl }) (index_step (text 12) (after 10 10) 9 booking_table _ (record { compiled = _; means = refl; is = refl; plain = (refl, refl); whole = omega arith; given = refl }) refl refl refl) booking_uplink_made

uplink_start_made : Makes (from 11) (after 10 9) (after 11 13)
unfolding understood everything fits_kind is_free_name begins same_name value_cmp lib.Ieee.is_nan lib.Ieee.lt
uplink_start_made = makes (from 11) (text 11) (from 12) (record { some = λ e. cc; first_is = refl; rest_is = refl }) (index_step (text 11) (after 10 9) 7 uplink_table _ (record { compiled = _; means = refl; is = refl; plain = (refl, refl); whole = omega arith; given = refl }) refl refl refl) booking_start_made

device_owner_made : Makes (from 10) (after 10 8) (after 11 13)
unfolding understood everything fits_kind is_free_name begins same_name value_cmp lib.Ieee.is_nan lib.Ieee.lt
device_owner_made = makes (from 10) (text 10) (from 11) (record { some = λ e. cc; first_is = refl; rest_is = refl }) (index_step (text 10) (after 10 8) 5 device_table _ (record { compiled = _; means = refl; is = refl; plain = (refl, refl); whole = omega arith; given = refl }) refl refl refl) uplink_start_made

booking_made : Makes (from 9) (after 9 8) (after 11 13)
unfolding understood everything fits_kind is_free_name begins same_name value_cmp lib.Ieee.is_nan lib.Ieee.lt
booking_made = makes (from 9) (text 9) (from 10) (record { some = λ e. cc; first_is = refl; rest_is = refl }) (table_step (text 9) (after 9 8) (record booking_table { tree = 0 }) (record { compiled = _; means = refl; is = refl; plain = (refl, refl); whole = omega arith; given = refl }) refl refl refl) device_owner_made

copy_made : Makes (from 8) (after 8 7) (after 11 13)
unfolding understood everything fits_kind is_free_name begins same_name value_cmp lib.Ieee.is_nan lib.Ieee.lt
copy_made = makes (from 8) (text 8) (from 9) (record { some = λ e. cc; first_is = refl; rest_is = refl }) (table_step (text 8) (after 8 7) (record copy_table { tree = 0 }) (record { compiled = _; means = refl; is = refl; plain = (refl, refl); whole = omega arith; given = refl }) refl refl refl) booking_made

uplink_made : Makes (from 7) (after 7 6) (after 11 13)
unfolding understood everything fits_kind is_free_name begins same_name value_cmp lib.Ieee.is_nan lib.Ieee.lt
uplink_made = makes (from 7) (text 7) (from 8) (record { some = λ e. cc; first_is = refl; rest_is = refl }) (table_step (text 7) (after 7 6) (record uplink_table { tree = 0 }) (record { compiled = _; means = refl; is = refl; plain = (refl, refl); whole = omega arith; given = refl }) refl refl refl) copy_made

session_made : Makes (from 6) (after 6 5) (after 11 13)
unfolding understood everything fits_kind is_free_name begins same_name value_cmp lib.Ieee.is_nan lib.Ieee.lt
session_made = makes (from 6) (text 6) (from 7) (record { some = λ e. cc; first_is = refl; rest_is = refl }) (table_step (text 6) (after 6 5) (record session_table { tree = 0 }) (record { compiled = _; means = refl; is = refl; plain = (refl, refl); whole = omega arith; given = refl }) refl refl refl) uplink_made

device_made : Makes (from 5) (after 5 4) (after 11 13)
unfolding understood everything fits_kind is_free_name begins same_name value_cmp lib.Ieee.is_nan lib.Ieee.lt
device_made = makes (from 5) (text 5) (from 6) (record { some = λ e. cc; first_is = refl; rest_is = refl }) (table_step (text 5) (after 5 4) (record device_table { tree = 0 }) (record { compiled = _; means = refl; is = refl; plain = (refl, refl); whole = omega arith; given = refl }) refl refl refl) session_made

gateway_made : Makes (from 4) (after 4 3) (after 11 13)
unfolding understood everything fits_kind is_free_name begins same_name value_cmp lib.Ieee.is_nan lib.Ieee.lt
gateway_made = makes (from 4) (text 4) (from 5) (record { some = λ e. cc; first_is = refl; rest_is = refl }) (table_step (text 4) (after 4 3) (record gateway_table { tree = 0 }) (record { compiled = _; means = refl; is = refl; plain = (refl, refl); whole = omega arith; given = refl }) refl refl refl) device_made

owner_made : Makes (from 3) (after 3 2) (after 11 13)
unfolding understood everything fits_kind is_free_name begins same_name value_cmp lib.Ieee.is_nan lib.Ieee.lt
owner_made = makes (from 3) (text 3) (from 4) (record { some = λ e. cc; first_is = refl; rest_is = refl }) (table_step (text 3) (after 3 2) (record owner_table { tree = 0 }) (record { compiled = _; means = refl; is = refl; plain = (refl, refl); whole = omega arith; given = refl }) refl refl refl) gateway_made

reply_made : Makes (from 2) (after 2 1) (after 11 13)
unfolding understood everything fits_kind is_free_name begins same_name value_cmp lib.Ieee.is_nan lib.Ieee.lt
reply_made = makes (from 2) (text 2) (from 3) (record { some = λ e. cc; first_is = refl; rest_is = refl }) (table_step (text 2) (after 2 1) (record reply_table { tree = 0 }) (record { compiled = _; means = refl; is = refl; plain = (refl, refl); whole = omega arith; given = refl }) refl refl refl) owner_made

sender_made : Makes (from 1) (after 1 0) (after 11 13)
unfolding understood everything fits_kind is_free_name begins same_name value_cmp lib.Ieee.is_nan lib.Ieee.lt
sender_made = makes (from 1) (text 1) (from 2) (record { some = λ e. cc; first_is = refl; rest_is = refl }) (table_step (text 1) (after 1 0) (record sender_table { tree = 0 }) (record { compiled = _; means = refl; is = refl; plain = (refl, refl); whole = omega arith; given = refl }) refl refl refl) reply_made

meta_step : CreatesOne (create_text meta_table ++ codes ";") (after 0 0) (after 1 0)
unfolding understood everything fits_kind is_free_name begins same_name value_cmp lib.Ieee.is_nan lib.Ieee.lt
meta_step = table_step (create_text meta_table ++ codes ";") (after 0 0) (record meta_table { tree = 0 }) (record { compiled = _; means = refl; is = refl; plain = (refl, refl); whole = omega arith; given = refl }) refl refl refl

begins_meta : Begins batch (create_text meta_table ++ codes ";") (from 1)
unfolding everything
begins_meta = (record { some = λ e. cc; first_is = refl; rest_is = refl })

pub makes_all : Starts batch (after 0 0) (after 11 13)
makes_all = starts batch (create_text meta_table ++ codes ";") (from 1) (after 0 0) (after 1 0) (after 11 13) begins_meta meta_step.leads sender_made.through

pub all_made : Makes batch (after 0 0) (after 11 13)
all_made = makes batch (create_text meta_table ++ codes ";") (from 1) begins_meta meta_step sender_made
