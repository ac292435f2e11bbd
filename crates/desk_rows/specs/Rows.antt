-- The typed rows of the tables, and how they are stored in a database.
use Rattle.std.specs.Prelude.{◌≡◌, ◌==◌, ◌&&◌, Bool, bytes_eq, ℕ, ◌+◌, ◌<◌, ◌≤◌, ◌^◌, pos, List, [], ◌∷◌, length, map, Option, Some, None}
use Rattle.std.specs.Int.{to_be_bytes, w64}
use Rattle.std.specs.List.{AllByRecursion}
use Rattle.radio_core.specs.Bands.{band_number}
use Rattle.radio_core.specs.DataRates.{dr_number}
use Rattle.duty_core.specs.Range.{IsStart}
use Rattle.registry_core.specs.declared.facts.Booking.{Booking}
use Rattle.registry_core.specs.declared.facts.Device.{Device}
use Rattle.registry_core.specs.declared.facts.Kind.{Kind}
use Rattle.registry_core.specs.declared.facts.Kind.TheVariants.{Join, Data}
use Rattle.registry_core.specs.declared.facts.Reception.{Reception}
use Rattle.registry_core.specs.declared.facts.Session.{Session}
use Rattle.registry_core.specs.declared.facts.Standing.{Standing}
use Rattle.registry_core.specs.declared.facts.Standing.TheVariants.{Booked, Sent, Dropped}
use Rattle.registry_core.specs.declared.facts.Uplink.{Uplink}
use Rattle.registry_core.specs.declared.messages.Role.{Role}
use Rattle.registry_core.specs.declared.messages.Role.TheVariants.{Operator, Radio}
use Rattle.registry_core.specs.Limits.{Limit}
use Rattle.registry_core.specs.Ranges.{IsEui, IsName}
use Rattle.registry_core.specs.Settings.{Settings}
use Rattle.registry_core.specs.JsonIntegers.{IsJsonInteger}
use Rattle.sqlite_value.specs.declared.value.Value.{Value}
use Rattle.sqlite_value.specs.declared.value.Value.TheVariants.{Null, Int, Text, Blob}
use Rattle.sqlite_schema.specs.declared.schema.Schema.{Schema}
use Rattle.sqlite_value.specs.Order.{Row}
use Rattle.sqlite.specs.Effect.{Database, IsDatabase}
use Rattle.desk_rows.specs.Schema.{booking_tree, copy_tree, desk_schema, device_tree, gateway_tree, limit_tree, meta_tree, owner_tree, reply_tree, schema_version, sender_tree, session_tree, uplink_tree}

-- ---- values

abbrev pub number : ℕ → Value
number n = Int (pos n)

-- 8 octets, the most significant first
abbrev pub eui : ℕ → Value
eui n = Blob (to_be_bytes w64 n)

abbrev pub or_null : {X : Type 0} → (X → Value) → Option X → Value
or_null f None = Null
or_null f (Some x) = f x

abbrev pub role_number : Role → ℕ
role_number Operator = 0
role_number Radio = 1

abbrev pub kind_number : Kind → ℕ
kind_number Join = 0
kind_number Data = 1

abbrev pub standing_number : Standing → ℕ
standing_number Booked = 0
standing_number Sent = 1
standing_number Dropped = 2

-- ---- rows

pub record SenderRow : Type 0 where
  pub name : List ℕ
  pub role : Role

-- a message that was heard, and its answer
pub record ReplyRow : Type 0 where
  pub sender : List ℕ
  pub number : ℕ
  pub message : List ℕ
  pub answer : List ℕ

pub record DeviceRow : Type 0 where
  pub dev_eui : ℕ
  pub device : Device
  -- the greatest number of a session of the device that has a data uplink
  pub floor : Option ℕ

pub record SessionRow : Type 0 where
  pub session : Session
  -- the number of bookings that answer its data uplinks
  pub next_down : ℕ

pub record ReceptionRow : Type 0 where
  pub uplink : ℕ
  pub gateway : List ℕ
  pub reception : Reception

pub record BookingRow : Type 0 where
  pub booking : Booking
  -- the session and the kind of its uplink
  pub session : ℕ
  pub kind : Kind

-- the limit of a gateway's band: the one that was set last
pub record LimitRow : Type 0 where
  pub gateway : List ℕ
  pub limit : Limit

-- the rows of the tables, each in the order in which they were added
pub record Rows : Type 0 where
  pub settings : Settings
  pub senders : List SenderRow
  pub replies : List ReplyRow
  pub owners : List (List ℕ)
  pub gateways : List (List ℕ)
  pub devices : List DeviceRow
  pub sessions : List SessionRow
  pub uplinks : List Uplink
  pub receptions : List ReceptionRow
  pub bookings : List BookingRow
  pub limits : List LimitRow

-- ---- keys

abbrev pub is_sender_named : List ℕ → SenderRow → Bool
is_sender_named name s = bytes_eq s.name name

abbrev pub is_reply : List ℕ → ℕ → ReplyRow → Bool
is_reply sender number r = bytes_eq r.sender sender && r.number == number

abbrev pub is_device : ℕ → DeviceRow → Bool
is_device dev_eui d = d.dev_eui == dev_eui

abbrev pub is_session : ℕ → ℕ → SessionRow → Bool
is_session device nonce s = s.session.device == device && s.session.nonce == nonce

abbrev pub is_uplink : ℕ → Kind → ℕ → Uplink → Bool
is_uplink session kind counter u = u.session == session && (kind_number u.kind == kind_number kind && u.counter == counter)

abbrev pub is_reception : ℕ → List ℕ → ReceptionRow → Bool
is_reception uplink gateway c = c.uplink == uplink && bytes_eq c.gateway gateway

-- a gateway and a band, by the band's number
abbrev pub is_limit : List ℕ → ℕ → LimitRow → Bool
is_limit gateway band l = bytes_eq l.gateway gateway && band_number l.limit.band == band

-- ---- cells: a row without its rowid, with NULL in the column of an INTEGER PRIMARY KEY

-- with this version of the schema
abbrev pub meta_cells : ℕ → Settings → Row
meta_cells version c = Null ∷ number version ∷ Text c.receiver ∷ Text c.operator ∷ number c.base ∷ number c.addresses ∷ []

abbrev pub sender_cells : SenderRow → Row
sender_cells s = Text s.name ∷ number (role_number s.role) ∷ []

abbrev pub reply_cells : ReplyRow → Row
reply_cells r = Null ∷ Text r.sender ∷ number r.number ∷ Blob r.message ∷ Blob r.answer ∷ []

abbrev pub name_cells : List ℕ → Row
name_cells name = Text name ∷ []

abbrev pub device_cells : DeviceRow → Row
device_cells d = eui d.dev_eui ∷ eui d.device.join_eui ∷ Text d.device.owner ∷ or_null number d.floor ∷ []

abbrev pub session_cells : SessionRow → Row
session_cells s = Null ∷ eui s.session.device ∷ number s.session.nonce ∷ number s.next_down ∷ []

abbrev pub uplink_cells : Uplink → Row
uplink_cells u = Null ∷ number u.session ∷ number (kind_number u.kind) ∷ number u.counter ∷ Blob u.octets ∷ number u.start ∷ number u.airtime ∷ number (band_number u.band) ∷ []

abbrev pub reception_cells : ReceptionRow → Row
reception_cells c = number c.uplink ∷ Text c.gateway ∷ number c.reception.end ∷ number c.reception.rate.freq ∷ number (dr_number c.reception.rate.dr) ∷ []

abbrev pub booking_cells : BookingRow → Row
booking_cells b =
    Null ∷ number b.booking.uplink ∷ Text b.booking.gateway ∷ number b.session ∷ number (kind_number b.kind) ∷ number (band_number b.booking.band)
    ∷ Int b.booking.span.start ∷ number b.booking.span.len ∷ number (standing_number b.booking.standing) ∷ []

abbrev pub limit_cells : LimitRow → Row
limit_cells l = Text l.gateway ∷ number (band_number l.limit.band) ∷ number l.limit.most ∷ []

-- ---- tables

-- rows with rowids from a number on, in order
abbrev pub rowids_from : ℕ → List Row → List Row
rowids_from n [] = []
rowids_from n (cells ∷ more) = (Int (pos n) ∷ cells) ∷ rowids_from (n + 1) more

abbrev pub table_of : {X : Type 0} → (X → Row) → List X → List Row
table_of cells rows = rowids_from 1 (map cells rows)

-- the number of the last row
abbrev pub last_number : {X : Type 0} → List X → Option ℕ
last_number [] = None
last_number (x ∷ xs) = Some (1 + length xs)

-- ---- ranges: those of the types that rows are read as

abbrev pub IsSender : SenderRow → Type 0
IsSender s = IsName s.name

pub record IsDevice (d : DeviceRow) : Type 0 where
  pub dev_eui : IsEui d.dev_eui
  pub join_eui : IsEui d.device.join_eui
  pub owner : IsName d.device.owner

pub record IsSession (s : SessionRow) : Type 0 where
  pub device : IsEui s.session.device
  pub nonce : s.session.nonce < 2 ^ 16

pub record IsUplink (u : Uplink) : Type 0 where
  pub counter : u.counter < 2 ^ 32
  pub octets : length u.octets ≤ 255
  pub start : IsJsonInteger u.start
  pub airtime : u.airtime < 2 ^ 32

pub record IsReceptionRow (c : ReceptionRow) : Type 0 where
  pub gateway : IsName c.gateway
  pub end : IsJsonInteger c.reception.end
  pub freq : c.reception.rate.freq < 2 ^ 32

pub record IsBooking (b : BookingRow) : Type 0 where
  pub gateway : IsName b.booking.gateway
  pub start : IsStart b.booking.span.start
  pub len : b.booking.span.len < 2 ^ 32

pub record InRange (r : Rows) : Type 0 where
  pub senders : AllByRecursion IsSender r.senders
  pub owners : AllByRecursion IsName r.owners
  pub gateways : AllByRecursion IsName r.gateways
  pub devices : AllByRecursion IsDevice r.devices
  pub sessions : AllByRecursion IsSession r.sessions
  pub uplinks : AllByRecursion IsUplink r.uplinks
  pub receptions : AllByRecursion IsReceptionRow r.receptions
  pub bookings : AllByRecursion IsBooking r.bookings

-- The database has this schema and nothing else, meta has this version of it, and the ten tables that each version has store exactly these
-- rows.
pub record HoldsTen (version : ℕ) (desk : Schema) (db : Database) (r : Rows) : Type 0 where
  pub schema : db.schema ≡ desk
  pub sound : IsDatabase db
  pub in_range : InRange r
  pub meta : db.trees meta_tree ≡ table_of (meta_cells version) (r.settings ∷ [])
  pub sender : db.trees sender_tree ≡ table_of sender_cells r.senders
  pub reply : db.trees reply_tree ≡ table_of reply_cells r.replies
  pub owner : db.trees owner_tree ≡ table_of name_cells r.owners
  pub gateway : db.trees gateway_tree ≡ table_of name_cells r.gateways
  pub device : db.trees device_tree ≡ table_of device_cells r.devices
  pub session : db.trees session_tree ≡ table_of session_cells r.sessions
  pub uplink : db.trees uplink_tree ≡ table_of uplink_cells r.uplinks
  pub copy : db.trees copy_tree ≡ table_of reception_cells r.receptions
  pub booking : db.trees booking_tree ≡ table_of booking_cells r.bookings

-- The database has schema 2 and nothing else, and its eleven tables store exactly these rows.
pub record Holds (db : Database) (r : Rows) : Type 0 where
  pub ten : HoldsTen schema_version desk_schema db r
  pub limit : db.trees limit_tree ≡ table_of limit_cells r.limits
