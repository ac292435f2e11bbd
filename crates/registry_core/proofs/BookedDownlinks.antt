-- Each booking is a downlink in a receive window, whatever was heard.
use Rattle.std.proofs.Common.{◌≡◌, ℕ, ◌+◌, ◌≤◌, List, [], ◌∷◌, ◌++◌, length, Bool, true, false, Option, Some, None, refl, ap, arith, subst, inl, inr, length-append, if◌then◌else◌}
use Rattle.std.specs.Prelude.{◌⊎◌, nat_le, not}
use Rattle.std.proofs.lemmas.Bool.{leb-true}
use Rattle.radio_core.specs.declared.bands.Band.{Band}
use Rattle.radio_core.specs.declared.data_rates.DataRate.{DataRate}
use Rattle.radio_core.specs.declared.data_rates.Rate.{Rate}
use Rattle.radio_core.specs.declared.frames.Phy.{Phy}
use Rattle.radio_core.specs.declared.frames.Phy.TheVariants as frames
use Rattle.radio_core.specs.Bands.{BandIsFound, band_at}
use Rattle.radio_core.specs.DataRates.{max_length}
use Rattle.radio_core.specs.Frames.{FrameIsFound, IsAccept, IsData, frame_of}
use Rattle.radio_core.specs.TimeOnAir.{AirtimeIsComputed}
use Rattle.duty_core.specs.Computed.{is_clear, hours_within}
use Rattle.duty_core.specs.Use.{Interval}
use Rattle.registry_core.specs.declared.answers.Refusal.TheVariants.{UnknownGateway, UnknownDevAddr, BadFrame, OutOfBand, NoUplink, DownCounter, Collision, Duty, Answered}
use Rattle.registry_core.specs.declared.effects.Effect.{Effect}
use Rattle.registry_core.specs.declared.effects.Effect.TheVariants.{Nothing, AddsBooking, EndsBooking}
use Rattle.registry_core.specs.declared.facts.Booking.{Booking}
use Rattle.registry_core.specs.declared.facts.Standing.{Standing}
use Rattle.registry_core.specs.declared.facts.Standing.TheVariants.{Booked}
use Rattle.registry_core.specs.declared.facts.Kind.{Kind}
use Rattle.registry_core.specs.declared.facts.Kind.TheVariants.{Join, Data}
use Rattle.registry_core.specs.declared.frames.Downlink.{Downlink}
use Rattle.registry_core.specs.declared.windows.Window.{Window}
use Rattle.registry_core.specs.AirtimeLaws.{BookingsAreDownlinks, HasDownlinkSize, IsDownlink, IsDownlinkSize}
use Rattle.registry_core.specs.Bookings.{downlinks, downlinks_in, is_answered, limit_standing, next_down}
use Rattle.registry_core.specs.Derived.{address_of}
use Rattle.registry_core.specs.Downlinks.{down_added, down_book, on_air}
use Rattle.registry_core.specs.Frames.{counts_as, downlink_to, frame_at_rate, goes_to}
use Rattle.registry_core.specs.Numbered.{item_at}
use Rattle.registry_core.specs.Settings.{Settings}
use Rattle.registry_core.specs.State.{State, ended, state_with}
use Rattle.registry_core.specs.Step.{decision_of}
use Rattle.registry_core.specs.Windows.{delay, rate_in}
use Rattle.registry_core.proofs.Decisions.{whatever_heard}
use Rattle.registry_core.proofs.HeardStates.{IsAllowed}
use Rattle.registry_core.proofs.Items.{item_last, item_within}
use Rattle.registry_core.proofs.BookingsApart.{item_was}
use Rattle.registry_core.proofs.KeptReceptions.{reception_stays_with}
use Rattle.registry_core.proofs.NewItems.{Lets, OfBooking, lets_needs, lets_wants, new_booking}
use Rattle.registry_core.proofs.UplinkLaws.{uplink_stays_with}

-- ---- how many octets a downlink has

data_size : (frame_type : ℕ) (octets : List ℕ) (addr fcnt : ℕ) → IsData frame_type octets addr fcnt → 12 ≤ length octets
data_size frame_type octets addr fcnt is =
    omega (
      arith,
      simp length-append at (ap length is.joined),
      is.address_field.width,
      is.counter_field.width,
      is.mic_width,
    )

accept_size : (octets : List ℕ) (rest : ℕ) → length octets ≡ 1 + rest → (rest ≡ 16) ⊎ (rest ≡ 32) → (length octets ≡ 17) ⊎ (length octets ≡ 33)
accept_size octets rest is (inl short) = inl (omega (arith, is, short))
accept_size octets rest is (inr long) = inr (omega (arith, is, long))

size_of : FrameIsFound → (kind : Kind) (octets : List ℕ) (found : Option Phy) (down : Downlink) → frame_of octets ≡ found → downlink_to kind found ≡ Some down → HasDownlinkSize kind (length octets)
size_of reads Join octets (Some frames.Accept) down is there = let accept : IsAccept octets = (reads octets frames.Accept).0 is in accept_size octets (length accept.rest) (omega (arith, ap length accept.joined)) accept.width
size_of reads Data octets (Some (frames.Down confirmed addr fcnt)) down is there = data_size _ octets addr fcnt ((reads octets (frames.Down confirmed addr fcnt)).0 is)
size_of reads kind octets found down is there = cc

none_to : (kind : Kind) (down : Downlink) → downlink_to kind None ≡ Some down → ⊥
none_to Join down there = cc
none_to Data down there = cc

down_size : FrameIsFound → (kind : Kind) (dr : DataRate) (octets : List ℕ) (down : Downlink) → downlink_to kind (frame_at_rate dr octets) ≡ Some down → IsDownlinkSize kind dr (length octets)
down_size reads kind dr octets down frame = by (nat_le (length octets) (max_length dr)) refl frame
  where
    by : (b : Bool) → nat_le (length octets) (max_length dr) ≡ b → downlink_to kind (if b then frame_of octets else None) ≡ Some down → IsDownlinkSize kind dr (length octets)
    by true within there = record { frame = size_of reads kind octets (frame_of octets) down refl there; carried = leb-true (length octets) (max_length dr) within }
    by false within there = absurd (none_to kind down there)

-- ---- a new booking

abbrev New : Settings → State → Effect → Type 0
New c s = OfBooking (IsDownlink c s)

added_downlink : (c : Settings) (s : State) (number : ℕ) (gateway : List ℕ) (band : Band) (start : ℕ) (span : Interval)
    → IsDownlink c s (record { uplink = number; gateway = gateway; band = band; span = span; standing = Booked }) → Lets (New c s) (down_added s number gateway band start span)
unfolding down_added
added_downlink c s number gateway band start span is =
    lets_wants (New c s) tt (is_clear (downlinks s.bookings gateway) span) Collision _ (λ _.
    lets_wants (New c s) tt (hours_within (downlinks_in s.bookings gateway band ++ span ∷ []) (limit_standing s gateway band)) Duty _ (λ _. is))

book_downlink : AirtimeIsComputed → BandIsFound → FrameIsFound → (c : Settings) (s : State) (number : ℕ) (gateway : List ℕ) (window : Window) (octets : List ℕ) → Lets (New c s) (down_book c s number gateway window octets)
unfolding down_book
book_downlink computed found reads c s number gateway window octets =
    lets_wants (New c s) tt (s.gateways gateway) UnknownGateway _ (λ _.
    lets_needs (New c s) tt (item_at s.uplinks number) NoUplink _ (λ uplink there.
    lets_needs (New c s) tt (s.receptions number gateway) NoUplink _ (λ reception heard.
    let rate : Rate = rate_in window reception.rate in
    lets_needs (New c s) tt (downlink_to uplink.kind (frame_at_rate rate.dr octets)) BadFrame _ (λ down frame.
    lets_wants (New c s) tt (goes_to (address_of c uplink.session) down) UnknownDevAddr _ (λ address.
    lets_wants (New c s) tt (not (is_answered s.bookings number)) Answered _ (λ _.
    lets_wants (New c s) tt (counts_as (next_down s.bookings s.uplinks uplink.session) down) DownCounter _ (λ _.
    lets_needs (New c s) tt (band_at rate.freq rate.dr) OutOfBand _ (λ band lies.
    added_downlink c s number gateway band (reception.end + delay uplink.kind window) (on_air (reception.end + delay uplink.kind window) rate octets) (record {
      uplink = uplink;
      there = there;
      reception = reception;
      heard = heard;
      window = window;
      rate = rate;
      sent_so = refl;
      octets = octets;
      down = down;
      frame = frame;
      size = down_size reads uplink.kind rate.dr octets down frame;
      address = address;
      start = refl;
      airtime = computed rate.dr (length octets) false;
      band = (found rate.freq rate.dr band).0 lies;
    })))))))))

-- ---- it stays one

-- also if it is sent or dropped, in a state with the same uplink and the same reception at the gateway
downlink_in : (c : Settings) (s after : State) (booking : Booking) (standing : Standing) (h : IsDownlink c s booking) → item_at after.uplinks booking.uplink ≡ Some h.uplink
    → after.receptions booking.uplink booking.gateway ≡ Some h.reception → IsDownlink c after (record booking { standing = standing })
downlink_in c s after booking standing h there heard = record {
  uplink = h.uplink;
  there = there;
  reception = h.reception;
  heard = heard;
  window = h.window;
  rate = h.rate;
  sent_so = h.sent_so;
  octets = h.octets;
  down = h.down;
  frame = h.frame;
  size = h.size;
  address = h.address;
  start = h.start;
  airtime = h.airtime;
  band = h.band;
}

downlink_stays : (c : Settings) (s : State) (effect : Effect) → IsAllowed c s effect → (booking : Booking) → IsDownlink c s booking → IsDownlink c (state_with s effect) booking
downlink_stays c s effect k booking h =
    downlink_in c s (state_with s effect) booking booking.standing h (uplink_stays_with s effect booking.uplink h.uplink h.there)
    (reception_stays_with c s effect k booking.uplink booking.gateway h.reception h.heard)

-- ---- each change

abbrev AreDownlinks : Settings → State → Type 0
AreDownlinks c s = (n : ℕ) (booking : Booking) → item_at s.bookings n ≡ Some booking → IsDownlink c s booking

-- where no booking comes or is changed
downlinks_stay : (c : Settings) (s : State) (effect : Effect) → IsAllowed c s effect → AreDownlinks c s → (n : ℕ) (booking : Booking) → item_at s.bookings n ≡ Some booking → IsDownlink c (state_with s effect) booking
downlinks_stay c s effect k h n booking e = downlink_stays c s effect k booking (h n booking e)

change_downlinks : (c : Settings) (s : State) (effect : Effect) → IsAllowed c s effect → New c s effect → AreDownlinks c s → AreDownlinks c (state_with s effect)
change_downlinks c s Nothing k new h = h
change_downlinks c s (AddsBooking booking) k new h = λ n b e. downlink_stays c s (AddsBooking booking) k b (by n b (item_last s.bookings booking n b e))
  where
    by : (n : ℕ) (b : Booking) → (item_at s.bookings n ≡ Some b) ⊎ ((n ≡ length s.bookings + 1) × (booking ≡ b)) → IsDownlink c s b
    by n b (inl old) = h n b old
    by n b (inr added) = subst (IsDownlink c s) added.1 new
change_downlinks c s (EndsBooking number sent) k new h = λ n b e. downlink_stays c s (EndsBooking number sent) k b (by n b (item_was (ended sent) s.bookings number n b e))
  where
    by : (n : ℕ) (b : Booking) → (x : Booking) × (item_at s.bookings n ≡ Some x) × ((x ≡ b) ⊎ ((n ≡ number) × (ended sent x ≡ b))) → IsDownlink c s b
    by n b (x, at, inl same) = subst (IsDownlink c s) same (h n x at)
    by n b (x, at, inr changed) = subst (IsDownlink c s) changed.1 (let down = h n x at in downlink_in c s s x (ended sent x).standing down down.there down.heard)
change_downlinks c s effect k new h = downlinks_stay c s effect k h

pub bookings_are_downlinks : AirtimeIsComputed → BandIsFound → FrameIsFound → BookingsAreDownlinks
bookings_are_downlinks computed found reads c = whatever_heard c (AreDownlinks c) (λ n booking e. absurd (omega (arith, item_within [] n booking e)))
    (λ s e allowed h. change_downlinks c s (decision_of c s e).0 allowed (new_booking (IsDownlink c s) c s (book_downlink computed found reads c s) e e.message) h)
