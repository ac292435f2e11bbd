-- Which downlinks are booked, and that each has a band.
use Rattle.std.proofs.Common.{◌≡◌, ℕ, ◌+◌, ◌≤◌, List, [], ◌∷◌, ◌++◌, Bool, true, false, not, Option, Some, None, refl, sym, ◌∙◌, ap, subst}
use Rattle.std.specs.Prelude.{is_some}
use Rattle.radio_core.specs.declared.bands.Band.{Band}
use Rattle.radio_core.specs.declared.data_rates.Rate.{Rate}
use Rattle.radio_core.specs.Bands.{band_at}
use Rattle.radio_core.specs.TimeOnAir.{AirtimeIsBounded}
use Rattle.std.proofs.lemmas.Bool.{not-true}
use Rattle.std.proofs.lemmas.List.Elements.{All-from_recursion}
use Rattle.duty_core.specs.Computed.{is_clear, hours_within}
use Rattle.duty_core.specs.Laws.{HoursWithinTells, IsClearTells}
use Rattle.duty_core.specs.Near.{greatest_length}
use Rattle.duty_core.specs.Use.{Interval}
use Rattle.registry_core.specs.declared.answers.Answer.{Answer}
use Rattle.registry_core.specs.declared.answers.Answer.TheVariants.{Refused}
use Rattle.registry_core.specs.declared.answers.Refusal.{Refusal}
use Rattle.registry_core.specs.declared.answers.Refusal.TheVariants.{UnknownGateway, UnknownDevAddr, BadFrame, OutOfBand, NoUplink, DownCounter, Collision, Duty, Answered}
use Rattle.registry_core.specs.declared.facts.Booking.{Booking}
use Rattle.registry_core.specs.declared.facts.Reception.{Reception}
use Rattle.registry_core.specs.declared.facts.Uplink.{Uplink}
use Rattle.registry_core.specs.declared.messages.Envelope.{Envelope}
use Rattle.registry_core.specs.declared.windows.Window.{Window}
use Rattle.registry_core.specs.declared.windows.Window.TheVariants.{First, Second}
use Rattle.registry_core.specs.Bookings.{downlinks, downlinks_in, is_answered, limit_standing, next_down}
use Rattle.registry_core.specs.Checks.{Checked, ◌>>=◌, ◌>>◌, wants, needs}
use Rattle.registry_core.specs.Decision.{Decision, decision_or_refusal}
use Rattle.registry_core.specs.Derived.{address_of}
use Rattle.registry_core.specs.DownlinkLaws.{BookedExactly, DownlinksAreShort, DownlinksHaveBands, IsAccepted, ReceptionsLieInBands, tells_booking}
use Rattle.registry_core.specs.Downlinks.{down_added, down_book, on_air}
use Rattle.registry_core.specs.Frames.{counts_as, downlink_to, frame_at_rate, goes_to}
use Rattle.registry_core.specs.Heard.{state_of}
use Rattle.registry_core.specs.Numbered.{item_at}
use Rattle.registry_core.specs.Settings.{Settings}
use Rattle.registry_core.specs.State.{State}
use Rattle.registry_core.specs.Step.{checked_decision}
use Rattle.registry_core.specs.Windows.{delay, rate_in}
use Rattle.registry_core.proofs.BookedHours.{kept_of}
use Rattle.registry_core.proofs.Decisions.{sound_of}
use Rattle.registry_core.proofs.Telling.{NoRefusal, AnswerPasses, from_needs, from_wants, to_needs, to_wants}

pub downlinks_are_short : AirtimeIsBounded → HoursWithinTells → DownlinksAreShort
downlinks_are_short bounded tells c heard = All-from_recursion (λ (b : Booking). b.span.len ≤ greatest_length) (state_of c heard).bookings (kept_of bounded tells c heard).short

-- ---- what is booked

abbrev Books : Checked Decision → Type 0
Books checked = AnswerPasses tells_booking checked

no_refusal : NoRefusal tells_booking
no_refusal r = refl

-- on the air it is clear, and every hour is within the limit
added_on_air : (s : State) (number : ℕ) (gateway : List ℕ) (band : Band) (start : ℕ) (span : Interval) → Books (down_added s number gateway band start span)
    → (is_clear (downlinks s.bookings gateway) span ≡ true) × (hours_within (downlinks_in s.bookings gateway band ++ span ∷ []) (limit_standing s gateway band) ≡ true)
unfolding down_added
added_on_air s number gateway band start span h =
    let first = from_wants tells_booking no_refusal (is_clear (downlinks s.bookings gateway) span) Collision _ h in
    (first.0, (from_wants tells_booking no_refusal (hours_within (downlinks_in s.bookings gateway band ++ span ∷ []) (limit_standing s gateway band)) Duty _ first.1).0)

added_books : (s : State) (number : ℕ) (gateway : List ℕ) (band : Band) (start : ℕ) (span : Interval) → is_clear (downlinks s.bookings gateway) span ≡ true
    → hours_within (downlinks_in s.bookings gateway band ++ span ∷ []) (limit_standing s gateway band) ≡ true → Books (down_added s number gateway band start span)
unfolding down_added
added_books s number gateway band start span clear within = rw (clear, within) refl

accepted_of : IsClearTells → HoursWithinTells → (c : Settings) (s : State) (number : ℕ) (gateway : List ℕ) (window : Window) (octets : List ℕ) → Books (down_book c s number gateway window octets)
    → IsAccepted c s number gateway window octets
unfolding down_book
accepted_of clear hours c s number gateway window octets h =
    let known = from_wants tells_booking no_refusal (s.gateways gateway) UnknownGateway _ h in
    let there = from_needs tells_booking no_refusal (item_at s.uplinks number) NoUplink _ known.1 in
    let uplink : Uplink = there.0 in
    let heard = from_needs tells_booking no_refusal (s.receptions number gateway) NoUplink _ there.2 in
    let rate : Rate = rate_in window heard.0.rate in
    let span : Interval = on_air (heard.0.end + delay uplink.kind window) rate octets in
    let frame = from_needs tells_booking no_refusal (downlink_to uplink.kind (frame_at_rate rate.dr octets)) BadFrame _ heard.2 in
    let address = from_wants tells_booking no_refusal (goes_to (address_of c uplink.session) frame.0) UnknownDevAddr _ frame.2 in
    let unanswered = from_wants tells_booking no_refusal (not (is_answered s.bookings number)) Answered _ address.1 in
    let counter = from_wants tells_booking no_refusal (counts_as (next_down s.bookings s.uplinks uplink.session) frame.0) DownCounter _ unanswered.1 in
    let lies = from_needs tells_booking no_refusal (band_at rate.freq rate.dr) OutOfBand _ counter.1 in
    let added = added_on_air s number gateway lies.0 (heard.0.end + delay uplink.kind window) span lies.2 in
    record {
      known = known.0;
      uplink = uplink;
      there = there.1;
      reception = heard.0;
      heard = heard.1;
      down = frame.0;
      frame = frame.1;
      address = address.0;
      unanswered = not-true (is_answered s.bookings number) unanswered.0;
      counter = counter.0;
      band = lies.0;
      lies_in_it = lies.1;
      clear = (clear (downlinks s.bookings gateway) span).0 added.0;
      hours = (hours (downlinks_in s.bookings gateway lies.0 ++ span ∷ []) (limit_standing s gateway lies.0)).0 added.1;
    }

booked_of : IsClearTells → HoursWithinTells → (c : Settings) (s : State) (number : ℕ) (gateway : List ℕ) (window : Window) (octets : List ℕ) → IsAccepted c s number gateway window octets
    → Books (down_book c s number gateway window octets)
unfolding down_book
booked_of clear hours c s number gateway window octets a =
    let rate : Rate = rate_in window a.reception.rate in
    let start : ℕ = a.reception.end + delay a.uplink.kind window in
    let span : Interval = on_air start rate octets in
    to_wants tells_booking (s.gateways gateway) UnknownGateway _ a.known
    (to_needs tells_booking (item_at s.uplinks number) NoUplink _ a.uplink a.there
    (to_needs tells_booking (s.receptions number gateway) NoUplink _ a.reception a.heard
    (to_needs tells_booking (downlink_to a.uplink.kind (frame_at_rate rate.dr octets)) BadFrame _ a.down a.frame
    (to_wants tells_booking (goes_to (address_of c a.uplink.session) a.down) UnknownDevAddr _ a.address
    (to_wants tells_booking (not (is_answered s.bookings number)) Answered _ (ap not a.unanswered)
    (to_wants tells_booking (counts_as (next_down s.bookings s.uplinks a.uplink.session) a.down) DownCounter _ a.counter
    (to_needs tells_booking (band_at rate.freq rate.dr) OutOfBand _ a.band a.lies_in_it
    (added_books s number gateway a.band start span ((clear (downlinks s.bookings gateway) span).1 a.clear) ((hours (downlinks_in s.bookings gateway a.band ++ span ∷ []) (limit_standing s gateway a.band)).1 a.hours)))))))))

pub booked_exactly : IsClearTells → HoursWithinTells → BookedExactly
booked_exactly clear hours c s e number gateway window octets same = (
  λ h. accepted_of clear hours c s number gateway window octets (subst Books (ap (checked_decision c s e) same) h),
  λ a. subst Books (sym (ap (checked_decision c s e) same)) (booked_of clear hours c s number gateway window octets a),
)

-- ---- each has a band

-- the second window has one, and the first that of the reception
window_has_band : (window : Window) (reception : Reception) → is_some (band_at reception.rate.freq reception.rate.dr) ≡ true → is_some (band_at (rate_in window reception.rate).freq (rate_in window reception.rate).dr) ≡ true
unfolding band_at
window_has_band First reception h = h
window_has_band Second reception h = refl

tells_no_band : Answer → Bool
tells_no_band (Refused OutOfBand) = true
tells_no_band _ = false

HasBand : Checked Decision → Type 0
HasBand checked = tells_no_band (decision_or_refusal checked).1 ≡ false

wants_band : (b : Bool) (r : Refusal) (rest : Checked Decision) → tells_no_band (Refused r) ≡ false → HasBand rest → HasBand (wants b r >> rest)
unfolding HasBand
wants_band true r rest is h = h
wants_band false r rest is h = is

needs_band : {X : Type 0} (x : Option X) (r : Refusal) (rest : X → Checked Decision) → tells_no_band (Refused r) ≡ false → ((y : X) → x ≡ Some y → HasBand (rest y)) → HasBand (needs x r >>= rest)
unfolding HasBand
needs_band (Some x) r rest is h = h x refl
needs_band None r rest is h = is

there_band : (x : Option Band) (rest : Band → Checked Decision) → is_some x ≡ true → ((y : Band) → HasBand (rest y)) → HasBand (needs x OutOfBand >>= rest)
there_band (Some x) rest is h = h x
there_band None rest is h = cc

added_band : (s : State) (number : ℕ) (gateway : List ℕ) (band : Band) (start : ℕ) (span : Interval) → HasBand (down_added s number gateway band start span)
unfolding down_added tells_no_band HasBand
added_band s number gateway band start span =
    wants_band (is_clear (downlinks s.bookings gateway) span) Collision _ refl (wants_band (hours_within (downlinks_in s.bookings gateway band ++ span ∷ []) (limit_standing s gateway band)) Duty _ refl refl)

book_band : (c : Settings) (heard : List Envelope) (number : ℕ) (gateway : List ℕ) (window : Window) (octets : List ℕ) → HasBand (down_book c (state_of c heard) number gateway window octets)
unfolding down_book tells_no_band
book_band c heard number gateway window octets =
    let s : State = state_of c heard in
    wants_band (s.gateways gateway) UnknownGateway _ refl
    (needs_band (item_at s.uplinks number) NoUplink _ refl (λ uplink _.
    needs_band (s.receptions number gateway) NoUplink _ refl (λ reception at.
    needs_band (downlink_to uplink.kind (frame_at_rate (rate_in window reception.rate).dr octets)) BadFrame _ refl (λ down _.
    wants_band (goes_to (address_of c uplink.session) down) UnknownDevAddr _ refl
    (wants_band (not (is_answered s.bookings number)) Answered _ refl
    (wants_band (counts_as (next_down s.bookings s.uplinks uplink.session) down) DownCounter _ refl
    (there_band (band_at (rate_in window reception.rate).freq (rate_in window reception.rate).dr) _ (window_has_band window reception ((sound_of c heard).in_bands number gateway reception at)) (λ band.
    added_band s number gateway band (reception.end + delay uplink.kind window) (on_air (reception.end + delay uplink.kind window) (rate_in window reception.rate) octets)))))))))

pub receptions_lie_in_bands : ReceptionsLieInBands
receptions_lie_in_bands c heard = (sound_of c heard).in_bands

pub downlinks_have_bands : DownlinksHaveBands
unfolding HasBand tells_no_band
downlinks_have_bands c heard e number gateway window octets same refused =
    let has : HasBand (checked_decision c (state_of c heard) e e.message) = subst HasBand (sym (ap (checked_decision c (state_of c heard) e) same)) (book_band c heard number gateway window octets) in
    let told : true ≡ false = sym (ap tells_no_band refused) ∙ has in cc
