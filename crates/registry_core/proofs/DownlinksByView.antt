-- With the view that a state has for a downlink, the checks by the view are those of the state.
use Rattle.std.proofs.Common.{◌≡◌, ℕ, ◌+◌, ◌≤◌, List, [], ◌∷◌, ◌++◌, Bool, false, not, length, map, filter, Option, Some, None, Ok, refl, ap, ◌∙◌, arith, subst}
use Rattle.std.specs.Prelude.{pos, All, IsPermutation, option_and_then, option_map}
use Rattle.std.specs.Option.{option_map_or}
use Rattle.std.proofs.lemmas.List.Elements.{All-filter, All-from_recursion, All-map}
use Rattle.radio_core.specs.declared.bands.Band.{Band}
use Rattle.radio_core.specs.declared.data_rates.Rate.{Rate}
use Rattle.radio_core.specs.Bands.{band_at}
use Rattle.radio_core.specs.TimeOnAir.{AirtimeIsBounded}
use Rattle.duty_core.specs.Computed.{is_clear, hours_within}
use Rattle.duty_core.specs.Laws.{HoursWithinByNearOnes, IsClearByNearOnes}
use Rattle.duty_core.specs.Near.{greatest_length, near_ones}
use Rattle.duty_core.specs.Use.{Interval}
use Rattle.registry_core.specs.declared.answers.Answer.TheVariants.{Success}
use Rattle.registry_core.specs.declared.answers.Refusal.TheVariants.{UnknownGateway, UnknownDevAddr, BadFrame, OutOfBand, NoUplink, DownCounter, Answered, NoBooking, Done}
use Rattle.registry_core.specs.declared.effects.Effect.TheVariants.{EndsBooking}
use Rattle.registry_core.specs.declared.facts.Booking.{Booking}
use Rattle.registry_core.specs.declared.facts.Reception.{Reception}
use Rattle.registry_core.specs.declared.facts.Uplink.{Uplink}
use Rattle.registry_core.specs.declared.frames.Downlink.{Downlink}
use Rattle.registry_core.specs.declared.messages.Envelope.{Envelope}
use Rattle.registry_core.specs.declared.messages.Message.TheVariants.{DownBook, DownDone}
use Rattle.registry_core.specs.declared.views.UplinkView.{UplinkView}
use Rattle.registry_core.specs.declared.views.View.{View}
use Rattle.registry_core.specs.declared.windows.Window.{Window}
use Rattle.registry_core.specs.Bookings.{downlinks, downlinks_in, is_answered, is_booked, limit_standing, next_down, stands_at, stands_in}
use Rattle.registry_core.specs.steps.ByView.{address_by}
use Rattle.registry_core.specs.Checks.{Checked, ◌>>=◌, ◌>>◌, wants, needs}
use Rattle.registry_core.specs.Decision.{Decision}
use Rattle.registry_core.specs.Derived.{address_of}
use Rattle.registry_core.specs.Downlinks.{down_added, down_book, down_done, on_air}
use Rattle.registry_core.specs.steps.DownlinksByView.{down_added_by, down_book_by, down_done_by}
use Rattle.registry_core.specs.Frames.{counts_as, downlink_to, frame_at_rate, goes_to}
use Rattle.registry_core.specs.Numbered.{item_at}
use Rattle.registry_core.specs.Settings.{Settings}
use Rattle.registry_core.specs.State.{State}
use Rattle.registry_core.specs.Viewed.{IsView, answered_for, booking_for, gateway_known, in_band_for, limit_in_window, limit_for, near_for, near_in, next_down_for, uplink_for, view_of_uplink}
use Rattle.registry_core.specs.Windows.{delay, rate_in, window_of}
use Rattle.registry_core.proofs.BookedHours.{AreShort, IsKept}
use Rattle.registry_core.proofs.Decisions.{carried_down}

-- ---- the downlinks near it

-- the spans of bookings that pass a test are short where the bookings are
short_spans : (p : Booking → Bool) (bookings : List Booking) → AreShort bookings → All (λ (a : Interval). a.len ≤ greatest_length) (map (λ (b : Booking). b.span) (filter p bookings))
short_spans p bookings short = All-map (λ (a : Interval). a.len ≤ greatest_length) (λ (b : Booking). b.span) (filter p bookings)
    (All-filter p (λ (b : Booking). b.span.len ≤ greatest_length) bookings (All-from_recursion (λ (b : Booking). b.span.len ≤ greatest_length) bookings short))

clear_same : IsClearByNearOnes → (s : State) (gateway : List ℕ) (near : List Interval) (span : Interval) → AreShort s.bookings → span.len ≤ greatest_length
    → IsPermutation (near_ones span.start (downlinks s.bookings gateway)) near → is_clear near span ≡ is_clear (downlinks s.bookings gateway) span
clear_same by_near s gateway near span short new_short moved = by_near (downlinks s.bookings gateway) near span moved (short_spans (stands_at gateway) s.bookings short) new_short

hours_same : HoursWithinByNearOnes → (s : State) (gateway : List ℕ) (band : Band) (near : List Interval) (span : Interval) → IsKept s → span.len ≤ greatest_length
    → IsPermutation (near_ones span.start (downlinks_in s.bookings gateway band)) near
    → hours_within (near ++ span ∷ []) (limit_standing s gateway band) ≡ hours_within (downlinks_in s.bookings gateway band ++ span ∷ []) (limit_standing s gateway band)
hours_same by_near s gateway band near span kept new_short moved =
    by_near (downlinks_in s.bookings gateway band) near span (limit_standing s gateway band) moved (short_spans (stands_in gateway band) s.bookings kept.short) new_short (λ t. kept.hours gateway band t)

added_same : (clear : IsClearByNearOnes) (hours : HoursWithinByNearOnes) (s : State) (v : View) (number : ℕ) (gateway : List ℕ) (band : Band) (start : ℕ) (span : Interval) → IsKept s → span.len ≤ greatest_length
    → v.bookings ≡ length s.bookings → IsPermutation (near_ones span.start (downlinks s.bookings gateway)) v.near.items → IsPermutation (near_ones span.start (downlinks_in s.bookings gateway band)) v.in_band.items
    → v.limit ≡ limit_standing s gateway band → down_added_by v number gateway band start span ≡ down_added s number gateway band start span
unfolding down_added_by down_added
added_same clear hours s v number gateway band start span kept short count near in_band limit =
    rw (limit, clear_same clear s gateway v.near.items span kept.short short near, hours_same hours s gateway band v.in_band.items span kept short in_band, count) refl

-- ---- the other checks

-- what its band's near ones are, where it has a band
near_banded : (s : State) (gateway : List ℕ) (start : ℕ) (rate : Rate) (band : Band) (near : List Interval) → band_at rate.freq rate.dr ≡ Some band
    → IsPermutation (near_in s gateway (start, rate)) near → IsPermutation (near_ones (pos start) (downlinks_in s.bookings gateway band)) near
near_banded s gateway start rate band near is moved = subst (λ found. IsPermutation (option_map_or (λ b. near_ones (pos start) (downlinks_in s.bookings gateway b)) found []) near) is moved

-- from the band on
banded_same : (clear : IsClearByNearOnes) (hours : HoursWithinByNearOnes) (s : State) (v : View) (number : ℕ) (gateway : List ℕ) (start : ℕ) (rate : Rate) (octets : List ℕ) (found : Option Band) → IsKept s
    → (on_air start rate octets).len ≤ greatest_length → v.bookings ≡ length s.bookings → IsPermutation (near_ones (pos start) (downlinks s.bookings gateway)) v.near.items
    → band_at rate.freq rate.dr ≡ found → IsPermutation (near_in s gateway (start, rate)) v.in_band.items → v.limit ≡ limit_in_window s gateway (start, rate)
    → (do
      band ← needs found OutOfBand
      down_added_by v number gateway band start (on_air start rate octets))
    ≡ (do
      band ← needs found OutOfBand
      down_added s number gateway band start (on_air start rate octets))
banded_same clear hours s v number gateway start rate octets None kept short count near is in_band limit = refl
banded_same clear hours s v number gateway start rate octets (Some band) kept short count near is in_band limit =
    added_same clear hours s v number gateway band start (on_air start rate octets) kept short count near (near_banded s gateway start rate band v.in_band.items is in_band)
    (limit ∙ ap (λ b. option_map_or (limit_standing s gateway) b 0) is)

-- from the frame on
framed_same : (bounded : AirtimeIsBounded) (clear : IsClearByNearOnes) (hours : HoursWithinByNearOnes) (c : Settings) (s : State) (v : View) (number : ℕ)
    (gateway : List ℕ) (uplink : Uplink) (start : ℕ) (rate : Rate) (octets : List ℕ) (told : Option Downlink)
    → IsKept s → downlink_to uplink.kind (frame_at_rate rate.dr octets) ≡ told → v.base ≡ c.base → v.answered ≡ is_answered s.bookings number
    → v.next_down ≡ next_down s.bookings s.uplinks uplink.session → v.bookings ≡ length s.bookings
    → IsPermutation (near_ones (pos start) (downlinks s.bookings gateway)) v.near.items → IsPermutation (near_in s gateway (start, rate)) v.in_band.items
    → v.limit ≡ limit_in_window s gateway (start, rate)
    → (do
      down ← needs told BadFrame
      wants (goes_to (address_by v uplink.session) down) UnknownDevAddr
      wants (not v.answered) Answered
      wants (counts_as v.next_down down) DownCounter
      band ← needs (band_at rate.freq rate.dr) OutOfBand
      down_added_by v number gateway band start (on_air start rate octets))
    ≡ (do
      down ← needs told BadFrame
      wants (goes_to (address_of c uplink.session) down) UnknownDevAddr
      wants (not (is_answered s.bookings number)) Answered
      wants (counts_as (next_down s.bookings s.uplinks uplink.session) down) DownCounter
      band ← needs (band_at rate.freq rate.dr) OutOfBand
      down_added s number gateway band start (on_air start rate octets))
unfolding down_added_by
framed_same bounded clear hours c s v number gateway uplink start rate octets None kept is base answered next count near in_band limit = refl
framed_same bounded clear hours c s v number gateway uplink start rate octets (Some down) kept is base answered next count near in_band limit =
    rw (base, answered, next)
    (ap (λ (rest : Checked Decision). do
      wants (goes_to (address_of c uplink.session) down) UnknownDevAddr
      wants (not (is_answered s.bookings number)) Answered
      wants (counts_as (next_down s.bookings s.uplinks uplink.session) down) DownCounter
      rest)
    (banded_same clear hours s v number gateway start rate octets (band_at rate.freq rate.dr) kept short count near refl in_band limit))
  where
    short : (on_air start rate octets).len ≤ greatest_length
    short = omega (arith, bounded rate.dr (length octets) false (carried_down uplink.kind rate.dr octets down _ refl is))

abbrev seen_with : ℕ → Option Reception → Uplink → UplinkView
seen_with number reception uplink = record { number = number; uplink = uplink; at_gateway = reception }

-- when the window of the uplink that is there opens, by the reception that is there, and at which rate
abbrev opens_at : Window → Option Uplink → Option Reception → Option (ℕ × Rate)
opens_at window uplink reception = option_and_then (λ (u : Uplink). option_map (λ (r : Reception). window_of u.kind r.end r.rate window) reception) uplink

-- what a view shows of the uplink, and what it shows near the window, with the uplink and the reception that are there
record Shows (s : State) (v : View) (number : ℕ) (gateway : List ℕ) (window : Window) (uplink : Option Uplink) (reception : Option Reception) : Type 0 where
  seen : v.uplink ≡ option_map (seen_with number reception) uplink
  next_down : v.next_down ≡ option_map_or (λ (u : Uplink). next_down s.bookings s.uplinks u.session) uplink 0
  near : IsPermutation (option_map_or (λ (opens : ℕ × Rate). near_ones (pos opens.0) (downlinks s.bookings gateway)) (opens_at window uplink reception) []) v.near.items
  in_band : IsPermutation (option_map_or (near_in s gateway) (opens_at window uplink reception) []) v.in_band.items
  limit : v.limit ≡ option_map_or (limit_in_window s gateway) (opens_at window uplink reception) 0

-- from the uplink on
uplinked_same : (bounded : AirtimeIsBounded) (clear : IsClearByNearOnes) (hours : HoursWithinByNearOnes) (c : Settings) (s : State) (v : View) (number : ℕ)
    (gateway : List ℕ) (window : Window) (octets : List ℕ) (uplink : Option Uplink) (reception : Option Reception)
    → IsKept s → Shows s v number gateway window uplink reception → v.base ≡ c.base → v.answered ≡ is_answered s.bookings number → v.bookings ≡ length s.bookings
    → (do
      seen ← needs (option_map (seen_with number reception) uplink) NoUplink
      heard ← needs seen.at_gateway NoUplink
      let opens : ℕ × Rate = window_of seen.uplink.kind heard.end heard.rate window
      down ← needs (downlink_to seen.uplink.kind (frame_at_rate opens.1.dr octets)) BadFrame
      wants (goes_to (address_by v seen.uplink.session) down) UnknownDevAddr
      wants (not v.answered) Answered
      wants (counts_as v.next_down down) DownCounter
      band ← needs (band_at opens.1.freq opens.1.dr) OutOfBand
      down_added_by v seen.number gateway band opens.0 (on_air opens.0 opens.1 octets))
    ≡ (do
      found ← needs uplink NoUplink
      heard ← needs reception NoUplink
      let opens : ℕ × Rate = window_of found.kind heard.end heard.rate window
      down ← needs (downlink_to found.kind (frame_at_rate opens.1.dr octets)) BadFrame
      wants (goes_to (address_of c found.session) down) UnknownDevAddr
      wants (not (is_answered s.bookings number)) Answered
      wants (counts_as (next_down s.bookings s.uplinks found.session) down) DownCounter
      band ← needs (band_at opens.1.freq opens.1.dr) OutOfBand
      down_added s number gateway band opens.0 (on_air opens.0 opens.1 octets))
uplinked_same bounded clear hours c s v number gateway window octets None reception kept shows base answered count = refl
uplinked_same bounded clear hours c s v number gateway window octets (Some uplink) None kept shows base answered count = refl
uplinked_same bounded clear hours c s v number gateway window octets (Some uplink) (Some reception) kept shows base answered count =
    framed_same bounded clear hours c s v number gateway uplink (reception.end + delay uplink.kind window) (rate_in window reception.rate) octets _ kept refl base answered shows.next_down count shows.near shows.in_band shows.limit

book_same : (bounded : AirtimeIsBounded) (clear : IsClearByNearOnes) (hours : HoursWithinByNearOnes) (c : Settings) (s : State) (v : View) (number : ℕ) (gateway : List ℕ) (window : Window) (octets : List ℕ) (uplink : Option Uplink)
    → item_at s.uplinks number ≡ uplink → IsKept s → Shows s v number gateway window uplink (s.receptions number gateway) → v.gateway_known ≡ s.gateways gateway
    → v.base ≡ c.base → v.answered ≡ is_answered s.bookings number → v.bookings ≡ length s.bookings
    → down_book_by v gateway window octets ≡ down_book c s number gateway window octets
unfolding down_book_by down_book down_added_by
book_same bounded clear hours c s v number gateway window octets uplink there kept shows known base answered count =
    rw (known, shows.seen, there) (ap (λ (rest : Checked Decision). wants (s.gateways gateway) UnknownGateway >> rest)
    (uplinked_same bounded clear hours c s v number gateway window octets uplink (s.receptions number gateway) kept shows base answered count))

-- what a view shows of an uplink that is looked up by its number
named_same : (s : State) (number : ℕ) (gateway : List ℕ) (uplink : Option Uplink)
    → option_map (view_of_uplink s gateway) (option_map (λ (u : Uplink). (number, u)) uplink) ≡ option_map (seen_with number (s.receptions number gateway)) uplink
named_same s number gateway None = refl
named_same s number gateway (Some uplink) = refl

pub down_book_same : (bounded : AirtimeIsBounded) (clear : IsClearByNearOnes) (hours : HoursWithinByNearOnes) (c : Settings) (s : State) (e : Envelope) (v : View) (number : ℕ) (gateway : List ℕ) (window : Window) (octets : List ℕ)
    → IsKept s → e.message ≡ DownBook number gateway window octets → IsView c s e v
    → down_book_by v gateway window octets ≡ down_book c s number gateway window octets
down_book_same bounded clear hours c s e v number gateway window octets kept same sees =
    book_same bounded clear hours c s v number gateway window octets (item_at s.uplinks number) refl kept
    (record {
      seen = sees.uplink ∙ ap (uplink_for c s) same ∙ named_same s number gateway (item_at s.uplinks number);
      next_down = sees.next_down ∙ ap (next_down_for s) same;
      near = subst (λ m. IsPermutation (near_for s m) v.near.items) same sees.near;
      in_band = subst (λ m. IsPermutation (in_band_for s m) v.in_band.items) same sees.in_band;
      limit = sees.limit ∙ ap (limit_for s) same;
    })
    (sees.gateway ∙ ap (gateway_known s) same) sees.base (sees.answered ∙ ap (answered_for s) same) sees.bookings

-- ---- what became of it

ended_same : (last : Checked Decision) (booking : Option Booking)
    → (do
      standing ← needs (option_map (λ (b : Booking). b.standing) booking) NoBooking
      wants (is_booked standing) Done
      last)
    ≡ (do
      found ← needs booking NoBooking
      wants (is_booked found.standing) Done
      last)
ended_same last None = refl
ended_same last (Some booking) = refl

pub down_done_same : (c : Settings) (s : State) (e : Envelope) (v : View) (number : ℕ) (sent : Bool) → e.message ≡ DownDone number sent → IsView c s e v
    → down_done_by v number sent ≡ down_done s number sent
unfolding down_done_by down_done
down_done_same c s e v number sent same sees = rw (sees.booking ∙ ap (booking_for s) same) (ended_same (Ok (EndsBooking number sent, Success)) (item_at s.bookings number))
