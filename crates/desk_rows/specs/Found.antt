-- What look-ups find in the rows.
use Rattle.std.specs.Prelude.{◌==◌, ℕ, ℤ, Bool, List, bytes_eq, filter, find, map, Option, option_map}
use Rattle.std.specs.List.{list_any}
use Rattle.radio_core.specs.declared.bands.Band.{Band}
use Rattle.duty_core.specs.Use.{Interval}
use Rattle.registry_core.specs.declared.facts.Booking.{Booking}
use Rattle.registry_core.specs.declared.facts.Kind.{Kind}
use Rattle.registry_core.specs.declared.facts.Session.{Session}
use Rattle.registry_core.specs.declared.facts.Uplink.{Uplink}
use Rattle.registry_core.specs.declared.views.NearBooking.{NearBooking}
use Rattle.registry_core.specs.Bookings.{is_answer_to, stands_in}
use Rattle.registry_core.specs.Numbered.{first_that, greatest, item_at}
use Rattle.registry_core.specs.Reports.{interval_of}
use Rattle.desk_rows.specs.Replies.{reply_texts}
use Rattle.desk_rows.specs.Rows.{Rows, BookingRow, DeviceRow, ReplyRow, SessionRow, is_device, is_reply, is_session, is_uplink}
use Rattle.desk_rows.specs.order.Arranged.{booking_span, by_eui, by_start, is_near_at, is_next_of, is_uplink_of, near_by, spans_by}
use Rattle.desk_rows.specs.order.LookUps.{first_by}

-- ---- messages

-- the texts of the message with this sender and transaction number, and of its answer
abbrev pub texts_found : List ℕ → ℕ → Rows → Option (List ℕ × List ℕ)
texts_found sender number r = option_map reply_texts (find (is_reply sender number) r.replies)

-- the texts of the message with this number, and of its answer
abbrev pub texts_numbered : ℕ → Rows → Option (List ℕ × List ℕ)
texts_numbered number r = option_map reply_texts (item_at r.replies number)

-- the greatest transaction number of the sender's messages
abbrev pub last_transaction_of : List ℕ → Rows → Option ℕ
last_transaction_of sender r = greatest (map (λ (row : ReplyRow). row.number) (filter (λ (row : ReplyRow). bytes_eq row.sender sender) r.replies))

-- ---- devices

-- the floor of the device with this DevEUI
abbrev pub floor_found : ℕ → Rows → Option (Option ℕ)
floor_found dev_eui r = option_map (λ (row : DeviceRow). row.floor) (find (is_device dev_eui) r.devices)

-- the least DevEUI of the owner's devices, above `after` if that is given
abbrev pub next_device_of : List ℕ → Option ℕ → Rows → Option ℕ
next_device_of owner after r = first_by (λ (d : DeviceRow). d.dev_eui) by_eui (is_next_of owner after) r.devices

-- ---- sessions

-- the session with this number
abbrev pub session_found : ℕ → Rows → Option Session
session_found number r = option_map (λ (row : SessionRow). row.session) (item_at r.sessions number)

-- the next downlink counter of the session with this number
abbrev pub next_down_found : ℕ → Rows → Option ℕ
next_down_found number r = option_map (λ (row : SessionRow). row.next_down) (item_at r.sessions number)

-- the number of the session of the device with this nonce
abbrev pub number_of_session : ℕ → ℕ → Rows → Option ℕ
number_of_session device nonce r = option_map (λ (found : ℕ × SessionRow). found.0) (first_that (is_session device nonce) r.sessions)

-- the greatest nonce of the device's sessions
abbrev pub last_nonce_of : ℕ → Rows → Option ℕ
last_nonce_of device r = greatest (map (λ (row : SessionRow). row.session.nonce) (filter (λ (row : SessionRow). row.session.device == device) r.sessions))

-- ---- uplinks

-- the uplink with this number, and its number
abbrev pub uplink_found : ℕ → Rows → Option (ℕ × Uplink)
uplink_found number r = option_map (λ (uplink : Uplink). (number, uplink)) (item_at r.uplinks number)

-- the uplink of the session of this kind with this counter, and its number
abbrev pub frame_found : ℕ → Kind → ℕ → Rows → Option (ℕ × Uplink)
frame_found session kind counter r = first_that (is_uplink session kind counter) r.uplinks

-- the times on air of the device's uplinks in the band that start at `from` or later and before `to`, by start
abbrev pub uplink_spans : ℕ → Band → ℤ → ℤ → Rows → List Interval
uplink_spans device band from to r =
    spans_by interval_of (by_start (λ (u : Uplink). (interval_of u).start)) (is_uplink_of r.sessions device band from to) r.uplinks

-- ---- bookings

-- the booking with this number
abbrev pub booking_found : ℕ → Rows → Option Booking
booking_found number r = option_map (λ (row : BookingRow). row.booking) (item_at r.bookings number)

-- a booking that isn't dropped answers the uplink
abbrev pub has_answer : ℕ → Rows → Bool
has_answer uplink r = list_any (λ (row : BookingRow). is_answer_to uplink row.booking) r.bookings

-- the times on air of the gateway's bookings in the band that aren't dropped, by start
abbrev pub booking_spans : List ℕ → Band → Rows → List Interval
booking_spans gateway band r =
    spans_by booking_span (by_start (λ (b : BookingRow). (booking_span b).start)) (λ b. stands_in gateway band b.booking) r.bookings

-- the gateway's bookings near the start that aren't dropped, by start
abbrev pub near_found : List ℕ → ℤ → Rows → List NearBooking
near_found gateway start r = near_by (by_start (λ (b : BookingRow). (booking_span b).start)) (is_near_at gateway start) r.bookings
