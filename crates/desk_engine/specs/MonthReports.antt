-- What was received of a device in a month, and what is booked at a gateway in a month, as texts octet for octet.
use Rattle.std.specs.Prelude.{◌≡◌, ℕ, ℤ, List, [], ◌∷◌, ◌++◌, IfSome, Option, option_map, codes}
use Rattle.std.specs.Fmt.{decimal, signed_decimal}
use Rattle.std.specs.Option.{option_map_or}
use Rattle.radio_core.specs.Bands.{band_number}
use Rattle.radio_core.specs.DataRates.{dr_number}
use Rattle.registry_core.specs.declared.facts.Booking.{Booking}
use Rattle.registry_core.specs.declared.facts.Kind.{Kind}
use Rattle.registry_core.specs.declared.facts.Kind.TheVariants.{Data, Join}
use Rattle.registry_core.specs.declared.facts.Reception.{Reception}
use Rattle.registry_core.specs.declared.facts.Standing.{Standing}
use Rattle.registry_core.specs.declared.facts.Standing.TheVariants.{Booked, Dropped, Sent}
use Rattle.registry_core.specs.declared.facts.Uplink.{Uplink}
use Rattle.registry_core.specs.Listing.{AreBookingsFrom, AreReceptionsFrom}
use Rattle.registry_core.specs.Numbered.{item_at}
use Rattle.registry_core.specs.State.{State}
use Rattle.desk_wire.specs.Hexadecimal.{eui_of_digits, octet_digits}
use Rattle.desk_engine.specs.Lines.{line_feed}
use Rattle.desk_engine.specs.Listing.{or_empty, table_text}

-- the name of a frame's kind
abbrev pub kind_name : Kind → List ℕ
kind_name Join = codes "join"
kind_name Data = codes "data"

-- ---- a device's receptions in a month

abbrev pub receptions_header : List ℕ
receptions_header = codes "uplink,session,kind,counter,gateway,end_us,freq_hz,dr,start_us,airtime_us,band,phy" ++ line_feed ∷ []

-- A reception's line: the number of the uplink, its session, its kind, and its counter; the gateway, and by its report when the last symbol
-- ended, the frequency in hertz and the data rate; the uplink's start, its time on air, its band, and its octets. Times are in microseconds,
-- moments since 1970 UTC.
unfoldable pub reception_line : ℕ → Uplink → List ℕ → Reception → List ℕ
reception_line number uplink gateway reception =
    decimal number
    ++ (codes "," ++ (decimal uplink.session
    ++ (codes "," ++ (kind_name uplink.kind
    ++ (codes "," ++ (decimal uplink.counter
    ++ (codes "," ++ (gateway
    ++ (codes "," ++ (decimal reception.end
    ++ (codes "," ++ (decimal reception.rate.freq
    ++ (codes "," ++ (decimal (dr_number reception.rate.dr)
    ++ (codes "," ++ (decimal uplink.start
    ++ (codes "," ++ (decimal uplink.airtime
    ++ (codes ",B" ++ (decimal (band_number uplink.band)
    ++ (codes "," ++ (octet_digits uplink.octets
    ++ line_feed ∷ []))))))))))))))))))))))

-- the line of the reception of the uplink with this number at the gateway, if there is one
abbrev pub line_of_reception : State → ℕ × List ℕ → List ℕ
line_of_reception s of = option_map_or (λ (uplink : Uplink). option_map_or (reception_line of.0 uplink of.1) (s.receptions of.0 of.1) []) (item_at s.uplinks of.0) []

-- the report on the receptions of the device's uplinks that start at `from` or later and before `to`
pub record IsReceptionReport (s : State) (dev_eui : ℕ) (from to : ℤ) (text : List ℕ) : Type 0 where
  -- the receptions, by the uplink's start, then its number, then the gateway
  pub receptions : List (ℕ × List ℕ)
  pub receptions_are : AreReceptionsFrom s dev_eui from to receptions
  pub text_is : text ≡ table_text receptions_header (line_of_reception s) receptions

-- the same of the device with the DevEUI that the text writes
abbrev pub IsReceptionReportOf : State → List ℕ → ℤ → ℤ → List ℕ → Type 0
IsReceptionReportOf s dev_eui from to text = IfSome (eui_of_digits dev_eui) (λ device. IsReceptionReport s device from to text)

-- ---- a gateway's downlinks in a month

abbrev pub downlinks_header : List ℕ
downlinks_header = codes "booking,uplink,kind,band,start_us,airtime_us,state" ++ line_feed ∷ []

-- the name of a booking's state
abbrev pub standing_name : Standing → List ℕ
standing_name Booked = codes "booked"
standing_name Sent = codes "sent"
standing_name Dropped = codes "dropped"

-- A booking's line: its number, the uplink that it answers and that one's kind; its band, its start, its time on air, and its state. Times
-- are in microseconds, moments since 1970 UTC.
unfoldable pub downlink_line : ℕ → Booking → Option Kind → List ℕ
downlink_line number booking kind =
    decimal number
    ++ (codes "," ++ (decimal booking.uplink
    ++ (codes "," ++ (or_empty kind_name kind
    ++ (codes ",B" ++ (decimal (band_number booking.band)
    ++ (codes "," ++ (signed_decimal booking.span.start
    ++ (codes "," ++ (decimal booking.span.len
    ++ (codes "," ++ (standing_name booking.standing
    ++ line_feed ∷ []))))))))))))

-- the kind of the uplink with this number, if there is one
abbrev pub kind_at : State → ℕ → Option Kind
kind_at s number = option_map (λ (uplink : Uplink). uplink.kind) (item_at s.uplinks number)

-- the line of the booking with this number, if there is one
abbrev pub line_of_downlink : State → ℕ → List ℕ
line_of_downlink s number = option_map_or (λ (booking : Booking). downlink_line number booking (kind_at s booking.uplink)) (item_at s.bookings number) []

-- the report on the gateway's bookings that start at `from` or later and before `to`, dropped ones too
pub record IsDownlinkReport (s : State) (gateway : List ℕ) (from to : ℤ) (text : List ℕ) : Type 0 where
  -- the bookings' numbers, by start
  pub bookings : List ℕ
  pub bookings_are : AreBookingsFrom s gateway from to bookings
  pub text_is : text ≡ table_text downlinks_header (line_of_downlink s) bookings
