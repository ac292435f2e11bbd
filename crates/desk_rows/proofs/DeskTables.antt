-- The tables of the desk, each with its key.
pub use Rattle.std.proofs.Common.{refl}
unfoldable pub use Rattle.sqlite.specs.Listing.{understood}
unfoldable pub use Rattle.sqlite_tied.specs.Compute.{everything}
pub use Rattle.desk_rows.proofs.Stored.{adds, adds_free, adds_given, finds_asked, finds_asked_key, finds_asked_plain, finds_first, finds_key, finds_number, finds_plain, knows_key, reads_first, reads_number}
pub use Rattle.desk_rows.proofs.StatementTexts.{insert_is, inserts, update_is, updates}
pub use Rattle.desk_rows.proofs.StoredUpdates.{changes_at, changes_key}
use Rattle.std.proofs.Common.{◌≡◌, ℕ, List, [], ◌∷◌, ◌&&◌, true, codes, Option, Some, None, bytes_eq, ap₂, ◌∙◌}
use Rattle.sqlite_value.specs.declared.value.Value.TheVariants.{Text}
use Rattle.sqlite_trees.specs.Tree.{Trees}
use Rattle.sqlite_schema.specs.declared.schema.Index.{Index}
use Rattle.radio_core.specs.Bands.{band_number}
use Rattle.registry_core.specs.declared.facts.Kind.{Kind}
use Rattle.registry_core.specs.declared.facts.Uplink.{Uplink}
use Rattle.registry_core.specs.Ranges.{IsEui, IsName}
use Rattle.desk_rows.specs.Schema.{sender_table, reply_table, owner_table, gateway_table, device_table, session_table, uplink_table, copy_table, booking_table, limit_table, unique_index}
use Rattle.desk_rows.specs.Rows.{SenderRow, ReplyRow, DeviceRow, SessionRow, ReceptionRow, BookingRow, LimitRow, IsSender, IsDevice, IsSession, IsUplink, IsReceptionRow, IsBooking, sender_cells, reply_cells, name_cells, device_cells, session_cells, uplink_cells, reception_cells, booking_cells, limit_cells, number, eui, or_null, kind_number, is_sender_named, is_reply, is_device, is_session, is_uplink, is_reception, is_limit}
use Rattle.desk_rows.proofs.Ordered.{every}
use Rattle.desk_rows.proofs.Stored.{Keyed, Stored, passes_alone}
use Rattle.desk_rows.proofs.Terms.{and_true, eui_equal, number_equal, text_equal}

pub device_obeys : (db : Trees) (n : ℕ) (x : DeviceRow) → passes_alone db device_table n (device_cells x) ≡ true
device_obeys db n x = go x.floor
  where
    go : (floor : Option ℕ) → passes_alone db device_table n (eui x.dev_eui ∷ eui x.device.join_eui ∷ Text x.device.owner ∷ or_null number floor ∷ []) ≡ true
    go None = refl
    go (Some m) = refl

abbrev pub senders : Stored SenderRow IsSender
senders = record {
  at = 1;
  table = sender_table;
  rows = λ r. r.senders;
  put = λ r xs. record r { senders = xs };
  cells = sender_cells;
  held = λ db r has. has.ten.sender;
  ranges = λ r h. h.senders;
  in_range = λ r xs h all. record { senders = all; owners = h.owners; gateways = h.gateways; devices = h.devices; sessions = h.sessions; uplinks = h.uplinks; receptions = h.receptions; bookings = h.bookings };
  computes = (refl, λ r xs. refl, λ db n x. refl, refl, refl);
}

abbrev pub sender_key : Keyed senders (List ℕ) (λ _. Unit {0})
sender_key = record {
  places = 1 ∷ [];
  key_of = λ x. x.name;
  values = λ name. Text name ∷ [];
  has = is_sender_named;
  tells = λ name x in_range fits. and_true _ ∙ text_equal x.name name;
  known = λ x fits. tt;
  computes = (λ db all row free. rw free refl, λ n x. refl, λ n name x. refl);
}

abbrev pub replies : Stored ReplyRow (λ _. Unit {0})
replies = record {
  at = 2;
  table = reply_table;
  rows = λ r. r.replies;
  put = λ r xs. record r { replies = xs };
  cells = reply_cells;
  held = λ db r has. has.ten.reply;
  ranges = λ r h. every r.replies;
  in_range = λ r xs h all. record { senders = h.senders; owners = h.owners; gateways = h.gateways; devices = h.devices; sessions = h.sessions; uplinks = h.uplinks; receptions = h.receptions; bookings = h.bookings };
  computes = (refl, λ r xs. refl, λ db n x. refl, refl, refl);
}

abbrev pub reply_key : Keyed replies (List ℕ × ℕ) (λ _. Unit {0})
reply_key = record {
  places = 2 ∷ 3 ∷ [];
  key_of = λ x. (x.sender, x.number);
  values = λ k. Text k.0 ∷ number k.1 ∷ [];
  has = λ k. is_reply k.0 k.1;
  tells = λ k x in_range fits. ap₂ (λ s t. s && t) (text_equal x.sender k.0) (and_true _ ∙ number_equal x.number k.1);
  known = λ x fits. tt;
  computes = (λ db all row free. rw free refl, λ n x. refl, λ n k x. refl);
}

abbrev pub owners : Stored (List ℕ) IsName
owners = record {
  at = 3;
  table = owner_table;
  rows = λ r. r.owners;
  put = λ r xs. record r { owners = xs };
  cells = name_cells;
  held = λ db r has. has.ten.owner;
  ranges = λ r h. h.owners;
  in_range = λ r xs h all. record { senders = h.senders; owners = all; gateways = h.gateways; devices = h.devices; sessions = h.sessions; uplinks = h.uplinks; receptions = h.receptions; bookings = h.bookings };
  computes = (refl, λ r xs. refl, λ db n x. refl, refl, refl);
}

abbrev pub owner_key : Keyed owners (List ℕ) (λ _. Unit {0})
owner_key = record {
  places = 1 ∷ [];
  key_of = λ x. x;
  values = λ name. Text name ∷ [];
  has = λ name x. bytes_eq x name;
  tells = λ name x in_range fits. and_true _ ∙ text_equal x name;
  known = λ x fits. tt;
  computes = (λ db all row free. rw free refl, λ n x. refl, λ n name x. refl);
}

abbrev pub gateways : Stored (List ℕ) IsName
gateways = record {
  at = 4;
  table = gateway_table;
  rows = λ r. r.gateways;
  put = λ r xs. record r { gateways = xs };
  cells = name_cells;
  held = λ db r has. has.ten.gateway;
  ranges = λ r h. h.gateways;
  in_range = λ r xs h all. record { senders = h.senders; owners = h.owners; gateways = all; devices = h.devices; sessions = h.sessions; uplinks = h.uplinks; receptions = h.receptions; bookings = h.bookings };
  computes = (refl, λ r xs. refl, λ db n x. refl, refl, refl);
}

abbrev pub gateway_key : Keyed gateways (List ℕ) (λ _. Unit {0})
gateway_key = record {
  places = 1 ∷ [];
  key_of = λ x. x;
  values = λ name. Text name ∷ [];
  has = λ name x. bytes_eq x name;
  tells = λ name x in_range fits. and_true _ ∙ text_equal x name;
  known = λ x fits. tt;
  computes = (λ db all row free. rw free refl, λ n x. refl, λ n name x. refl);
}

abbrev pub devices : Stored DeviceRow IsDevice
devices = record {
  at = 5;
  table = device_table;
  rows = λ r. r.devices;
  put = λ r xs. record r { devices = xs };
  cells = device_cells;
  held = λ db r has. has.ten.device;
  ranges = λ r h. h.devices;
  in_range = λ r xs h all. record { senders = h.senders; owners = h.owners; gateways = h.gateways; devices = all; sessions = h.sessions; uplinks = h.uplinks; receptions = h.receptions; bookings = h.bookings };
  computes = (refl, λ r xs. refl, device_obeys, refl, refl);
}

abbrev pub device_key : Keyed devices ℕ IsEui
device_key = record {
  places = 1 ∷ [];
  key_of = λ x. x.dev_eui;
  values = λ n. eui n ∷ [];
  has = is_device;
  tells = λ n x in_range fits. and_true _ ∙ eui_equal x.dev_eui n fits.dev_eui in_range;
  known = λ x fits. fits.dev_eui;
  computes = (λ db all row free. rw free refl, λ n x. refl, λ n m x. refl);
}

abbrev pub device_index : Index
device_index = unique_index (codes "device") 10 9 (1 ∷ [])

abbrev pub sessions : Stored SessionRow IsSession
sessions = record {
  at = 6;
  table = session_table;
  rows = λ r. r.sessions;
  put = λ r xs. record r { sessions = xs };
  cells = session_cells;
  held = λ db r has. has.ten.session;
  ranges = λ r h. h.sessions;
  in_range = λ r xs h all. record { senders = h.senders; owners = h.owners; gateways = h.gateways; devices = h.devices; sessions = all; uplinks = h.uplinks; receptions = h.receptions; bookings = h.bookings };
  computes = (refl, λ r xs. refl, λ db n x. refl, refl, refl);
}

abbrev pub session_key : Keyed sessions (ℕ × ℕ) (λ k. IsEui k.0)
session_key = record {
  places = 2 ∷ 3 ∷ [];
  key_of = λ x. (x.session.device, x.session.nonce);
  values = λ k. eui k.0 ∷ number k.1 ∷ [];
  has = λ k. is_session k.0 k.1;
  tells = λ k x in_range fits. ap₂ (λ s t. s && t) (eui_equal x.session.device k.0 fits.device in_range) (and_true _ ∙ number_equal x.session.nonce k.1);
  known = λ x fits. fits.device;
  computes = (λ db all row free. rw free refl, λ n x. refl, λ n k x. refl);
}

abbrev pub uplinks : Stored Uplink IsUplink
uplinks = record {
  at = 7;
  table = uplink_table;
  rows = λ r. r.uplinks;
  put = λ r xs. record r { uplinks = xs };
  cells = uplink_cells;
  held = λ db r has. has.ten.uplink;
  ranges = λ r h. h.uplinks;
  in_range = λ r xs h all. record { senders = h.senders; owners = h.owners; gateways = h.gateways; devices = h.devices; sessions = h.sessions; uplinks = all; receptions = h.receptions; bookings = h.bookings };
  computes = (refl, λ r xs. refl, λ db n x. refl, refl, refl);
}

abbrev pub uplink_key : Keyed uplinks (ℕ × Kind × ℕ) (λ _. Unit {0})
uplink_key = record {
  places = 2 ∷ 3 ∷ 4 ∷ [];
  key_of = λ x. (x.session, x.kind, x.counter);
  values = λ k. number k.0 ∷ number (kind_number k.1) ∷ number k.2 ∷ [];
  has = λ k. is_uplink k.0 k.1 k.2;
  tells = λ k x in_range fits. ap₂ (λ s t. s && t) (number_equal x.session k.0) (ap₂ (λ s t. s && t) (number_equal (kind_number x.kind) (kind_number k.1)) (and_true _ ∙ number_equal x.counter k.2));
  known = λ x fits. tt;
  computes = (λ db all row free. rw free refl, λ n x. refl, λ n k x. refl);
}

abbrev pub receptions : Stored ReceptionRow IsReceptionRow
receptions = record {
  at = 8;
  table = copy_table;
  rows = λ r. r.receptions;
  put = λ r xs. record r { receptions = xs };
  cells = reception_cells;
  held = λ db r has. has.ten.copy;
  ranges = λ r h. h.receptions;
  in_range = λ r xs h all. record { senders = h.senders; owners = h.owners; gateways = h.gateways; devices = h.devices; sessions = h.sessions; uplinks = h.uplinks; receptions = all; bookings = h.bookings };
  computes = (refl, λ r xs. refl, λ db n x. refl, refl, refl);
}

abbrev pub reception_key : Keyed receptions (ℕ × List ℕ) (λ _. Unit {0})
reception_key = record {
  places = 1 ∷ 2 ∷ [];
  key_of = λ x. (x.uplink, x.gateway);
  values = λ k. number k.0 ∷ Text k.1 ∷ [];
  has = λ k. is_reception k.0 k.1;
  tells = λ k x in_range fits. ap₂ (λ s t. s && t) (number_equal x.uplink k.0) (and_true _ ∙ text_equal x.gateway k.1);
  known = λ x fits. tt;
  computes = (λ db all row free. rw free refl, λ n x. refl, λ n k x. refl);
}

abbrev pub bookings : Stored BookingRow IsBooking
bookings = record {
  at = 9;
  table = booking_table;
  rows = λ r. r.bookings;
  put = λ r xs. record r { bookings = xs };
  cells = booking_cells;
  held = λ db r has. has.ten.booking;
  ranges = λ r h. h.bookings;
  in_range = λ r xs h all. record { senders = h.senders; owners = h.owners; gateways = h.gateways; devices = h.devices; sessions = h.sessions; uplinks = h.uplinks; receptions = h.receptions; bookings = all };
  computes = (refl, λ r xs. refl, λ db n x. refl, refl, refl);
}

abbrev pub limits : Stored LimitRow (λ _. Unit {0})
limits = record {
  at = 10;
  table = limit_table;
  rows = λ r. r.limits;
  put = λ r xs. record r { limits = xs };
  cells = limit_cells;
  held = λ db r has. has.limit;
  ranges = λ r h. every r.limits;
  in_range = λ r xs h all. record { senders = h.senders; owners = h.owners; gateways = h.gateways; devices = h.devices; sessions = h.sessions; uplinks = h.uplinks; receptions = h.receptions; bookings = h.bookings };
  computes = (refl, λ r xs. refl, λ db n x. refl, refl, refl);
}

abbrev pub limit_key : Keyed limits (List ℕ × ℕ) (λ _. Unit {0})
limit_key = record {
  places = 1 ∷ 2 ∷ [];
  key_of = λ x. (x.gateway, band_number x.limit.band);
  values = λ k. Text k.0 ∷ number k.1 ∷ [];
  has = λ k. is_limit k.0 k.1;
  tells = λ k x in_range fits. ap₂ (λ s t. s && t) (text_equal x.gateway k.0) (and_true _ ∙ number_equal (band_number x.limit.band) k.1);
  known = λ x fits. tt;
  computes = (λ db all row free. rw free refl, λ n x. refl, λ n k x. refl);
}
