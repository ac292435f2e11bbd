-- How much a gateway may still send from a time on, by band, and as a text, octet for octet.
use Rattle.std.specs.Prelude.{◌≡◌, ◌↔◌, ℕ, ◌+◌, ◌<◌, ◌≤◌, Bool, true, false, List, [], ◌∷◌, ◌++◌, Option, Some, IsTrue, is_ok, pos, ◌-ℤ◌, codes}
use Rattle.std.specs.Fmt.{decimal}
use Rattle.std.specs.List.{flat_map}
use Rattle.radio_core.specs.declared.bands.Band.{Band}
use Rattle.radio_core.specs.declared.data_rates.Rate.{Rate}
use Rattle.radio_core.specs.Bands.{band_at, band_number, bands}
use Rattle.duty_core.specs.Near.{greatest_length}
use Rattle.duty_core.specs.Room.{IsRoom}
use Rattle.duty_core.specs.Use.{hour, use_of}
use Rattle.registry_core.specs.declared.answers.Answer.{Answer}
use Rattle.registry_core.specs.declared.answers.Answer.TheVariants.{DownSuccess, Refused}
use Rattle.registry_core.specs.declared.answers.Refusal.TheVariants.{Collision, Duty}
use Rattle.registry_core.specs.declared.facts.Reception.{Reception}
use Rattle.registry_core.specs.declared.facts.Uplink.{Uplink}
use Rattle.registry_core.specs.declared.messages.Envelope.{Envelope}
use Rattle.registry_core.specs.declared.messages.Message.TheVariants.{DownBook}
use Rattle.registry_core.specs.declared.windows.Window.{Window}
use Rattle.registry_core.specs.Bookings.{downlinks, downlinks_in, limit_standing}
use Rattle.registry_core.specs.DownlinkLaws.{tells_booking}
use Rattle.registry_core.specs.Downlinks.{down_added, on_air}
use Rattle.registry_core.specs.Heard.{state_of}
use Rattle.registry_core.specs.Numbered.{item_at}
use Rattle.registry_core.specs.Settings.{Settings}
use Rattle.registry_core.specs.State.{State}
use Rattle.registry_core.specs.Step.{step}
use Rattle.registry_core.specs.Uplinks.{is_time}
use Rattle.registry_core.specs.Windows.{delay, rate_in}
use Rattle.desk_wire.specs.Decimals.{decimal_in}
use Rattle.desk_wire.specs.Optional.{◌>>=◌, only_if}
use Rattle.desk_engine.specs.Lines.{line_feed}

-- the time that a text writes, in microseconds since 1970 UTC: one to sixteen decimal digits, from the beginning of 2000 to the beginning
-- of 2100
unfoldable pub time_in : List ℕ → Option ℕ
time_in text = decimal_in text >>= only_if is_time

-- The room: the greatest length, from 1 to 3,000,000 microseconds, that a downlink of the gateway in the band may have if it begins at the
-- time. Such a downlink shares no microsecond with another downlink of the gateway that isn't dropped, in any band. With it no hour of the
-- gateway's band is above the limit. The room is 0 if no length satisfies this.
abbrev pub IsBandRoom : State → List ℕ → Band → ℕ → ℕ → Type 0
IsBandRoom s gateway band time room =
    IsRoom (downlinks s.bookings gateway) (downlinks_in s.bookings gateway band) (pos time) (limit_standing s gateway band) greatest_length room

-- the use of the hour that ends at the time, by the gateway's downlinks in the band that aren't dropped
abbrev pub used_before : State → List ℕ → Band → ℕ → ℕ
used_before s gateway band time = use_of (downlinks_in s.bookings gateway band) (pos time -ℤ pos hour)

-- ---- the text

abbrev pub room_header : List ℕ
room_header = codes "band,limit_us,used_us,room_us" ++ line_feed ∷ []

-- a band's line: its number, its limit, how much of it is used, and its room
unfoldable pub room_line : Band → ℕ → ℕ → ℕ → List ℕ
room_line band limit used room =
    codes "B" ++ (decimal (band_number band) ++ (codes "," ++ (decimal limit ++ (codes "," ++ (decimal used ++ (codes "," ++ (decimal room ++ line_feed ∷ [])))))))

-- the report on a gateway's room at the time
pub record IsRoomReport (s : State) (gateway : List ℕ) (time : ℕ) (text : List ℕ) : Type 0 where
  pub room : Band → ℕ
  pub room_is : (band : Band) → IsBandRoom s gateway band time (room band)
  pub text_is : text ≡ room_header ++ flat_map (λ band. room_line band (limit_standing s gateway band) (used_before s gateway band time) (room band)) bands

-- ---- what a DownBook is answered

-- of the lengths from 1 to 3,000,000 microseconds, exactly those up to the room pass the last two checks of a DownBook: the gateway isn't
-- on the air then, and no hour of its band is above the limit
abbrev pub RoomPassesChecks : Type 0
RoomPassesChecks = (s : State) (number : ℕ) (gateway : List ℕ) (band : Band) (time room n : ℕ) → IsBandRoom s gateway band time room → 0 < n → n ≤ greatest_length
    → (n ≤ room) ↔ IsTrue (is_ok (down_added s number gateway band time (record { start = pos time; len = n })))

-- one of those two checks decides the answer: each check before them passes
abbrev pub comes_of_air : Answer → Bool
comes_of_air (DownSuccess airtime band booking start) = true
comes_of_air (Refused Collision) = true
comes_of_air (Refused Duty) = true
comes_of_air _ = false

-- Whatever was heard, let each check of a DownBook before those two pass. Then it is booked if and only if its airtime is at most the room
-- of its gateway and band at its start. Otherwise one of the two refuses it.
abbrev pub RoomAgrees : Type 0
RoomAgrees = (c : Settings) (heard : List Envelope) (e : Envelope) (number : ℕ) (gateway : List ℕ) (window : Window) (octets : List ℕ) (uplink : Uplink) (reception : Reception) (band : Band) (room : ℕ)
    → e.message ≡ DownBook number gateway window octets
    → let s : State = state_of c heard in
    let start : ℕ = reception.end + delay uplink.kind window in
    let rate : Rate = rate_in window reception.rate in
    item_at s.uplinks number ≡ Some uplink → s.receptions number gateway ≡ Some reception → band_at rate.freq rate.dr ≡ Some band
    → IsBandRoom s gateway band start room → IsTrue (comes_of_air (step c s e).1)
    → IsTrue (tells_booking (step c s e).1) ↔ ((on_air start rate octets).len ≤ room)
