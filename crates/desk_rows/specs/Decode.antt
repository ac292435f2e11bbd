-- The typed rows that the tables' rows represent. A database has only one list of them.
use Rattle.std.specs.Prelude.{◌≡◌, ℕ, ◌+◌, ◌==◌, if◌then◌else◌, ℤ, pos, List, [], ◌∷◌, map, Option, Some, None, refl}
use Rattle.std.specs.Int.{from_be_bytes, w64}
use Rattle.std.specs.List.{AllByRecursion}
use Rattle.std.proofs.Common.{sym, ap, ap₂, ◌∙◌}
use Rattle.std.proofs.lemmas.Nat.{from_be_bytes-to_be_bytes_8}
use Rattle.radio_core.specs.declared.bands.Band.{Band}
use Rattle.radio_core.specs.declared.bands.Band.TheVariants.{B1, B2, B3, B4, B5, B6}
use Rattle.radio_core.specs.declared.data_rates.DataRate.{DataRate}
use Rattle.radio_core.specs.declared.data_rates.DataRate.TheVariants.{Dr0, Dr1, Dr2, Dr3, Dr4, Dr5, Dr6, Dr7}
use Rattle.radio_core.specs.Bands.{band_number}
use Rattle.radio_core.specs.DataRates.{dr_number}
use Rattle.registry_core.specs.declared.facts.Kind.{Kind}
use Rattle.registry_core.specs.declared.facts.Kind.TheVariants.{Join, Data}
use Rattle.registry_core.specs.declared.facts.Standing.{Standing}
use Rattle.registry_core.specs.declared.facts.Standing.TheVariants.{Booked, Sent, Dropped}
use Rattle.registry_core.specs.declared.facts.Uplink.{Uplink}
use Rattle.registry_core.specs.declared.messages.Role.{Role}
use Rattle.registry_core.specs.declared.messages.Role.TheVariants.{Operator, Radio}
use Rattle.registry_core.specs.Settings.{Settings}
use Rattle.sqlite_value.specs.declared.value.Value.{Value}
use Rattle.sqlite_value.specs.declared.value.Value.TheVariants.{Int}
use Rattle.sqlite_value.specs.Order.{Row, column, bytes}
use Rattle.sqlite_trees.specs.Tree.{Trees}
use Rattle.sqlite.specs.Effect.{Database}
use Rattle.desk_rows.specs.Rows.{SenderRow, ReplyRow, DeviceRow, SessionRow, ReceptionRow, BookingRow, LimitRow, IsDevice, IsSession, Rows, Holds, role_number, kind_number, standing_number, rowids_from, table_of, sender_cells, reply_cells, name_cells, device_cells, session_cells, uplink_cells, reception_cells, booking_cells, limit_cells, or_null, number}
use Rattle.desk_rows.specs.Schema.{booking_tree, copy_tree, device_tree, gateway_tree, limit_tree, meta_tree, owner_tree, reply_tree, sender_tree, session_tree, uplink_tree}

-- ---- values

abbrev pub int_in : Value → ℤ
int_in (Int n) = n
int_in _ = pos 0

abbrev pub nat_in : Value → ℕ
nat_in (Int (pos n)) = n
nat_in _ = 0

abbrev pub option_in : Value → Option ℕ
option_in (Int (pos n)) = Some n
option_in _ = None

abbrev pub eui_from : Value → ℕ
eui_from v = from_be_bytes w64 (bytes v)

abbrev pub role_in : Value → Role
role_in v = if nat_in v == 0 then Operator else Radio

abbrev pub kind_in : Value → Kind
kind_in v = if nat_in v == 0 then Join else Data

abbrev pub standing_in : Value → Standing
standing_in v = if nat_in v == 0 then Booked else (if nat_in v == 1 then Sent else Dropped)

abbrev pub band_in : Value → Band
band_in v = if nat_in v == 1 then B1 else (if nat_in v == 2 then B2 else (if nat_in v == 3 then B3 else (if nat_in v == 4 then B4 else (if nat_in v == 5 then B5 else B6))))

abbrev pub dr_in : Value → DataRate
dr_in v =
    if nat_in v == 0 then Dr0
    else (if nat_in v == 1 then Dr1 else (if nat_in v == 2 then Dr2 else (if nat_in v == 3 then Dr3 else (if nat_in v == 4 then Dr4 else (if nat_in v == 5 then Dr5 else (if nat_in v == 6 then Dr6 else Dr7))))))

role_again : (r : Role) → role_in (number (role_number r)) ≡ r
role_again Operator = refl
role_again Radio = refl

kind_again : (k : Kind) → kind_in (number (kind_number k)) ≡ k
kind_again Join = refl
kind_again Data = refl

standing_again : (s : Standing) → standing_in (number (standing_number s)) ≡ s
standing_again Booked = refl
standing_again Sent = refl
standing_again Dropped = refl

band_again : (b : Band) → band_in (number (band_number b)) ≡ b
band_again B1 = refl
band_again B2 = refl
band_again B3 = refl
band_again B4 = refl
band_again B5 = refl
band_again B6 = refl

dr_again : (d : DataRate) → dr_in (number (dr_number d)) ≡ d
dr_again Dr0 = refl
dr_again Dr1 = refl
dr_again Dr2 = refl
dr_again Dr3 = refl
dr_again Dr4 = refl
dr_again Dr5 = refl
dr_again Dr6 = refl
dr_again Dr7 = refl

option_again : (o : Option ℕ) → option_in (or_null number o) ≡ o
option_again None = refl
option_again (Some n) = refl

-- ---- rows, with the rowid at place 0

abbrev pub settings_in : Row → Settings
settings_in r = record { receiver = bytes (column r 3); operator = bytes (column r 4); base = nat_in (column r 5); addresses = nat_in (column r 6) }

abbrev pub sender_in : Row → SenderRow
sender_in r = record { name = bytes (column r 1); role = role_in (column r 2) }

abbrev pub reply_in : Row → ReplyRow
reply_in r = record { sender = bytes (column r 2); number = nat_in (column r 3); message = bytes (column r 4); answer = bytes (column r 5) }

abbrev pub name_in : Row → List ℕ
name_in r = bytes (column r 1)

abbrev pub device_in : Row → DeviceRow
device_in r = record { dev_eui = eui_from (column r 1); device = record { join_eui = eui_from (column r 2); owner = bytes (column r 3) }; floor = option_in (column r 4) }

abbrev pub session_in : Row → SessionRow
session_in r = record { session = record { device = eui_from (column r 2); nonce = nat_in (column r 3) }; next_down = nat_in (column r 4) }

abbrev pub uplink_in : Row → Uplink
uplink_in r = record {
  session = nat_in (column r 2);
  kind = kind_in (column r 3);
  counter = nat_in (column r 4);
  octets = bytes (column r 5);
  start = nat_in (column r 6);
  airtime = nat_in (column r 7);
  band = band_in (column r 8);
}

abbrev pub reception_in : Row → ReceptionRow
reception_in r = record {
  uplink = nat_in (column r 1);
  gateway = bytes (column r 2);
  reception = record { end = nat_in (column r 3); rate = record { freq = nat_in (column r 4); dr = dr_in (column r 5) } };
}

abbrev pub booking_in : Row → BookingRow
booking_in r = record {
  booking = record {
    uplink = nat_in (column r 2);
    gateway = bytes (column r 3);
    band = band_in (column r 6);
    span = record { start = int_in (column r 7); len = nat_in (column r 8) };
    standing = standing_in (column r 9);
  };
  session = nat_in (column r 4);
  kind = kind_in (column r 5);
}

abbrev pub limit_in : Row → LimitRow
limit_in r = record { gateway = bytes (column r 1); limit = record { band = band_in (column r 2); most = nat_in (column r 3) } }

-- ---- tables

all_decoded : {X : Type 0} (P : X → Type 0) (cells : X → Row) (of : Row → X) → ((n : ℕ) (x : X) → P x → of (Int (pos n) ∷ cells x) ≡ x)
    → (n : ℕ) (xs : List X) → AllByRecursion P xs → map of (rowids_from n (map cells xs)) ≡ xs
all_decoded P cells of back n [] all = refl
all_decoded P cells of back n (x ∷ xs) all = ap₂ (λ y ys. y ∷ ys) (back n x all.0) (all_decoded P cells of back (n + 1) xs all.1)

every : {X : Type 0} (xs : List X) → AllByRecursion (λ x. Unit {0}) xs
every [] = tt
every (x ∷ xs) = (tt, every xs)

-- the typed rows of a table, if each row is decoded
abbrev again : {X : Type 0} (P : X → Type 0) (cells : X → Row) (of : Row → X) → ((n : ℕ) (x : X) → P x → of (Int (pos n) ∷ cells x) ≡ x)
    → (xs : List X) → AllByRecursion P xs → (rows : List Row) → rows ≡ table_of cells xs → xs ≡ map of rows
again P cells of back xs all rows is = sym (all_decoded P cells of back 1 xs all) ∙ ap (map of) (sym is)

abbrev pub first_of : List Settings → Settings
first_of [] = record { receiver = []; operator = []; base = 0; addresses = 0 }
first_of (c ∷ cs) = c

abbrev pub rows_in : Trees → Rows
rows_in db = record {
  settings = first_of (map settings_in (db 0));
  senders = map sender_in (db 1);
  replies = map reply_in (db 3);
  owners = map name_in (db 5);
  gateways = map name_in (db 7);
  devices = map device_in (db 9);
  sessions = map session_in (db 11);
  uplinks = map uplink_in (db 13);
  receptions = map reception_in (db 15);
  bookings = map booking_in (db 17);
  limits = map limit_in (db 22);
}

module _ (db : Database) (r : Rows) (h : Holds db r) where
  settings_is : r.settings ≡ first_of (map settings_in (db.trees meta_tree))
  settings_is = ap (λ rows. first_of (map settings_in rows)) (sym h.ten.meta)

  senders_are : r.senders ≡ map sender_in (db.trees sender_tree)
  senders_are = again (λ x. Unit {0}) sender_cells sender_in (λ n x p i. record { name = x.name; role = role_again x.role i }) r.senders (every r.senders) (db.trees sender_tree) h.ten.sender

  replies_are : r.replies ≡ map reply_in (db.trees reply_tree)
  replies_are = again (λ x. Unit {0}) reply_cells reply_in (λ n x p. refl) r.replies (every r.replies) (db.trees reply_tree) h.ten.reply

  owners_are : r.owners ≡ map name_in (db.trees owner_tree)
  owners_are = again (λ x. Unit {0}) name_cells name_in (λ n x p. refl) r.owners (every r.owners) (db.trees owner_tree) h.ten.owner

  gateways_are : r.gateways ≡ map name_in (db.trees gateway_tree)
  gateways_are = again (λ x. Unit {0}) name_cells name_in (λ n x p. refl) r.gateways (every r.gateways) (db.trees gateway_tree) h.ten.gateway

  devices_are : r.devices ≡ map device_in (db.trees device_tree)
  devices_are = again IsDevice device_cells device_in
      (λ n x p i. record {
        dev_eui = from_be_bytes-to_be_bytes_8 x.dev_eui p.dev_eui i;
        device = record { join_eui = from_be_bytes-to_be_bytes_8 x.device.join_eui p.join_eui i; owner = x.device.owner };
        floor = option_again x.floor i;
      }) r.devices h.ten.in_range.devices (db.trees device_tree) h.ten.device

  sessions_are : r.sessions ≡ map session_in (db.trees session_tree)
  sessions_are = again IsSession session_cells session_in
      (λ n x p i. record { session = record { device = from_be_bytes-to_be_bytes_8 x.session.device p.device i; nonce = x.session.nonce }; next_down = x.next_down }) r.sessions h.ten.in_range.sessions (db.trees session_tree) h.ten.session

  uplinks_are : r.uplinks ≡ map uplink_in (db.trees uplink_tree)
  uplinks_are = again (λ x. Unit {0}) uplink_cells uplink_in
      (λ n x p i. record { session = x.session; kind = kind_again x.kind i; counter = x.counter; octets = x.octets; start = x.start; airtime = x.airtime; band = band_again x.band i }) r.uplinks (every r.uplinks) (db.trees uplink_tree) h.ten.uplink

  receptions_are : r.receptions ≡ map reception_in (db.trees copy_tree)
  receptions_are = again (λ x. Unit {0}) reception_cells reception_in
      (λ n x p i. record { uplink = x.uplink; gateway = x.gateway; reception = record { end = x.reception.end; rate = record { freq = x.reception.rate.freq; dr = dr_again x.reception.rate.dr i } } }) r.receptions (every r.receptions) (db.trees copy_tree) h.ten.copy

  bookings_are : r.bookings ≡ map booking_in (db.trees booking_tree)
  bookings_are = again (λ x. Unit {0}) booking_cells booking_in
      (λ n x p i. record {
        booking = record {
          uplink = x.booking.uplink;
          gateway = x.booking.gateway;
          band = band_again x.booking.band i;
          span = record { start = x.booking.span.start; len = x.booking.span.len };
          standing = standing_again x.booking.standing i;
        };
        session = x.session;
        kind = kind_again x.kind i;
      }) r.bookings (every r.bookings) (db.trees booking_tree) h.ten.booking

  limits_are : r.limits ≡ map limit_in (db.trees limit_tree)
  limits_are = again (λ x. Unit {0}) limit_cells limit_in
      (λ n x p i. record { gateway = x.gateway; limit = record { band = band_again x.limit.band i; most = x.limit.most } }) r.limits (every r.limits) (db.trees limit_tree) h.limit

  -- the rows are those that the trees represent
  pub held_again : r ≡ rows_in db.trees
  held_again = λ i. record {
    settings = settings_is i;
    senders = senders_are i;
    replies = replies_are i;
    owners = owners_are i;
    gateways = gateways_are i;
    devices = devices_are i;
    sessions = sessions_are i;
    uplinks = uplinks_are i;
    receptions = receptions_are i;
    bookings = bookings_are i;
    limits = limits_are i;
  }
