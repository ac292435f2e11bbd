-- A gateway's downlinks are apart, and no uplink is answered twice, whatever was heard.
use Rattle.std.proofs.Common.{◌≡◌, ℕ, zero, suc, ◌+◌, ◌<◌, List, [], ◌∷◌, ◌++◌, length, map, filter, Bool, true, false, cond, not, Some, refl, sym, ap, ◌∙◌, subst, arith, inl, inr}
use Rattle.std.specs.Prelude.{ℤ, ◌==◌, ◌⊎◌, bytes_eq, slice_get}
use Rattle.std.specs.List.{list_all}
use Rattle.std.proofs.lemmas.Bool.{and_parts, both_ways, cases_order, eq-eqb, eqb-true, not-true}
use Rattle.std.proofs.lemmas.List.Elements.{recursion_from_All}
use Rattle.std.proofs.lemmas.Slice.Eq.{bytes_eq-Decides}
use Rattle.radio_core.specs.declared.bands.Band.{Band}
use Rattle.radio_core.specs.Bands.{band_at}
use Rattle.duty_core.specs.Computed.{is_clear, hours_within}
use Rattle.duty_core.specs.Laws.{IsClearTells}
use Rattle.duty_core.specs.Use.{Interval, is_in, shared_count}
use Rattle.registry_core.specs.declared.answers.Refusal.TheVariants.{UnknownGateway, UnknownDevAddr, BadFrame, OutOfBand, NoUplink, DownCounter, Collision, Duty, Answered}
use Rattle.registry_core.specs.declared.effects.Effect.{Effect}
use Rattle.registry_core.specs.declared.effects.Effect.TheVariants.{AddsBooking, EndsBooking}
use Rattle.registry_core.specs.declared.facts.Booking.{Booking}
use Rattle.registry_core.specs.declared.facts.Standing.TheVariants.{Booked}
use Rattle.registry_core.specs.declared.messages.Envelope.{Envelope}
use Rattle.registry_core.specs.declared.windows.Window.{Window}
use Rattle.registry_core.specs.Bookings.{downlinks, downlinks_in, is_answer_to, is_answered, is_dropped, limit_standing, next_down, stands_at}
use Rattle.registry_core.specs.Derived.{address_of}
use Rattle.registry_core.specs.DownlinkLaws.{GatewaysSendOneAtATime, UplinksAreAnsweredOnce}
use Rattle.registry_core.specs.Downlinks.{down_added, down_book, on_air}
use Rattle.registry_core.specs.Frames.{counts_as, downlink_to, frame_at_rate, goes_to}
use Rattle.registry_core.specs.Heard.{state_of}
use Rattle.registry_core.specs.Numbered.{item_at, item_changed, place_changed}
use Rattle.registry_core.specs.Settings.{Settings}
use Rattle.registry_core.specs.State.{State, ended, state_with}
use Rattle.registry_core.specs.Step.{decision_of}
use Rattle.registry_core.specs.Windows.{delay, rate_in}
use Rattle.registry_core.proofs.Decisions.{whatever_heard}
use Rattle.registry_core.proofs.HeardStates.{IsAllowed}
use Rattle.std.proofs.lemmas.Option.{same_Some}
use Rattle.registry_core.proofs.Items.{item_last, item_within}
use Rattle.registry_core.proofs.BookedUplinks.{none_passes}
use Rattle.registry_core.proofs.NewItems.{Lets, OfBooking, lets_needs, lets_wants, new_booking}

-- ---- what a booking asks of the state

-- its uplink is unanswered, and its gateway isn't on the air with another downlink
abbrev IsFree : State → Booking → Type 0
IsFree s b = (is_answered s.bookings b.uplink ≡ false) × (is_clear (downlinks s.bookings b.gateway) b.span ≡ true)

abbrev Books : State → Effect → Type 0
Books s = OfBooking (IsFree s)

added_books : (s : State) (number : ℕ) (gateway : List ℕ) (band : Band) (start : ℕ) (span : Interval) → is_answered s.bookings number ≡ false → Lets (Books s) (down_added s number gateway band start span)
unfolding down_added
added_books s number gateway band start span unanswered =
    lets_wants (Books s) tt (is_clear (downlinks s.bookings gateway) span) Collision _ (λ clear.
    lets_wants (Books s) tt (hours_within (downlinks_in s.bookings gateway band ++ span ∷ []) (limit_standing s gateway band)) Duty _ (λ _. (unanswered, clear)))

book_books : (c : Settings) (s : State) (number : ℕ) (gateway : List ℕ) (window : Window) (octets : List ℕ) → Lets (Books s) (down_book c s number gateway window octets)
unfolding down_book
book_books c s number gateway window octets =
    lets_wants (Books s) tt (s.gateways gateway) UnknownGateway _ (λ _.
    lets_needs (Books s) tt (item_at s.uplinks number) NoUplink _ (λ uplink _.
    lets_needs (Books s) tt (s.receptions number gateway) NoUplink _ (λ reception _.
    lets_needs (Books s) tt (downlink_to uplink.kind (frame_at_rate (rate_in window reception.rate).dr octets)) BadFrame _ (λ down _.
    lets_wants (Books s) tt (goes_to (address_of c uplink.session) down) UnknownDevAddr _ (λ _.
    lets_wants (Books s) tt (not (is_answered s.bookings number)) Answered _ (λ unanswered.
    lets_wants (Books s) tt (counts_as (next_down s.bookings s.uplinks uplink.session) down) DownCounter _ (λ _.
    lets_needs (Books s) tt (band_at (rate_in window reception.rate).freq (rate_in window reception.rate).dr) OutOfBand _ (λ band _.
    added_books s number gateway band (reception.end + delay uplink.kind window) (on_air (reception.end + delay uplink.kind window) (rate_in window reception.rate) octets) (not-true (is_answered s.bookings number) unanswered)))))))))

-- ---- the invariant of every state

pub record AreApart (bs : List Booking) : Type 0 where
  pub alone : (gateway : List ℕ) (m n : ℕ) (a b : Booking) → item_at bs m ≡ Some a → item_at bs n ≡ Some b → stands_at gateway a ≡ true → stands_at gateway b ≡ true
      → m < n → shared_count a.span b.span ≡ 0
  pub once : (m n : ℕ) (a b : Booking) → item_at bs m ≡ Some a → item_at bs n ≡ Some b → a.uplink ≡ b.uplink → is_dropped a.standing ≡ false → is_dropped b.standing ≡ false
      → m < n → ⊥

-- ---- one booking more

shares_by : (p : Booking → Bool) (bs : List Booking) (new : Interval) (x : Booking) (v : Bool) → p x ≡ v
    → list_all (λ (z : Interval). shared_count z new == 0) (map (λ (z : Booking). z.span) (cond v (x ∷ filter p bs) (filter p bs))) ≡ true
    → (p x ≡ true → (shared_count x.span new == 0) ≡ true) × (list_all (λ (z : Interval). shared_count z new == 0) (map (λ (z : Booking). z.span) (filter p bs)) ≡ true)
shares_by p bs new x true is h = let parts = and_parts _ _ h in (λ _. parts.0, parts.1)
shares_by p bs new x false is h = (λ passes. absurd (both_ways (p x) is passes), h)

-- what is clear of those that pass shares nothing with each of them
shares_none : (p : Booking → Bool) (bs : List Booking) (new : Interval) (n : ℕ) (a : Booking)
    → list_all (λ (z : Interval). shared_count z new == 0) (map (λ (z : Booking). z.span) (filter p bs)) ≡ true → item_at bs n ≡ Some a → p a ≡ true → shared_count a.span new ≡ 0
shares_none p bs new zero a clear e passes = cc
shares_none p [] new (suc i) a clear e passes = cc
shares_none p (x ∷ bs) new (suc zero) a clear e passes =
    let parts = shares_by p bs new x (p x) refl clear in
    let same : x ≡ a = same_Some x a e in
    eqb-true (shared_count a.span new) 0 (subst (λ (z : Booking). (shared_count z.span new == 0) ≡ true) same (parts.0 (ap p same ∙ passes)))
shares_none p (x ∷ bs) new (suc (suc i)) a clear e passes = shares_none p bs new (suc i) a (shares_by p bs new x (p x) refl clear).1 e passes

at_tells : (gateway : List ℕ) (b : Booking) → stands_at gateway b ≡ true → b.gateway ≡ gateway
at_tells gateway b stands = (bytes_eq-Decides b.gateway gateway).0 (and_parts _ _ stands).0

added_apart : (s : State) (new : Booking) → Books s (AddsBooking new) → AreApart s.bookings → AreApart (s.bookings ++ new ∷ [])
unfolding is_clear
added_apart s new k h = record {
  alone = λ gateway m n a b em en sa sb lt. apart gateway m n a b sa sb lt (item_last s.bookings new m a em) (item_last s.bookings new n b en);
  once = λ m n a b em en same da db lt. twice m n a b same da db lt (item_last s.bookings new m a em) (item_last s.bookings new n b en);
}
  where
    apart : (gateway : List ℕ) (m n : ℕ) (a b : Booking) → stands_at gateway a ≡ true → stands_at gateway b ≡ true → m < n
        → (item_at s.bookings m ≡ Some a) ⊎ ((m ≡ length s.bookings + 1) × (new ≡ a)) → (item_at s.bookings n ≡ Some b) ⊎ ((n ≡ length s.bookings + 1) × (new ≡ b)) → shared_count a.span b.span ≡ 0
    apart gateway m n a b sa sb lt (inl x) (inl y) = h.alone gateway m n a b x y sa sb lt
    apart gateway m n a b sa sb lt (inl x) (inr y) =
        let at : new.gateway ≡ gateway = at_tells gateway new (ap (stands_at gateway) y.1 ∙ sb) in
        subst (λ (z : Booking). shared_count a.span z.span ≡ 0) y.1
        (shares_none (stands_at new.gateway) s.bookings new.span m a k.1 x (ap (λ g. stands_at g a) at ∙ sa))
    apart gateway m n a b sa sb lt (inr x) (inl y) = absurd (omega (arith, x.0, lt, (item_within s.bookings n b y).1))
    apart gateway m n a b sa sb lt (inr x) (inr y) = absurd (omega (arith, x.0, y.0, lt))

    twice : (m n : ℕ) (a b : Booking) → a.uplink ≡ b.uplink → is_dropped a.standing ≡ false → is_dropped b.standing ≡ false → m < n
        → (item_at s.bookings m ≡ Some a) ⊎ ((m ≡ length s.bookings + 1) × (new ≡ a)) → (item_at s.bookings n ≡ Some b) ⊎ ((n ≡ length s.bookings + 1) × (new ≡ b)) → ⊥
    twice m n a b same da db lt (inl x) (inl y) = h.once m n a b x y same da db lt
    twice m n a b same da db lt (inl x) (inr y) =
        let to : a.uplink ≡ new.uplink = same ∙ ap (λ (z : Booking). z.uplink) (sym y.1) in
        absurd (both_ways (is_answer_to new.uplink a) (none_passes (is_answer_to new.uplink) s.bookings m a k.0 x) (rw (eq-eqb a.uplink new.uplink to, da) refl))
    twice m n a b same da db lt (inr x) (inl y) = omega (arith, x.0, lt, (item_within s.bookings n b y).1)
    twice m n a b same da db lt (inr x) (inr y) = omega (arith, x.0, y.0, lt)

-- ---- one booking ended

get_was : {X : Type 0} (f : X → X) (xs : List X) (k i : ℕ) (y : X) → slice_get (place_changed f xs k) i ≡ Some y → (x : X) × (slice_get xs i ≡ Some x) × ((x ≡ y) ⊎ ((i ≡ k) × (f x ≡ y)))
get_was f [] k i y e = cc
get_was f (x ∷ xs) zero zero y e = (x, refl, inr (refl, same_Some (f x) y e))
get_was f (x ∷ xs) zero (suc i) y e = (y, e, inl refl)
get_was f (x ∷ xs) (suc k) zero y e = (y, e, inl refl)
get_was {X = X} f (x ∷ xs) (suc k) (suc i) y e = let was = get_was f xs k i y e in (was.0, was.1, deeper was.2)
  where
    deeper : {z : X} → (z ≡ y) ⊎ ((i ≡ k) × (f z ≡ y)) → (z ≡ y) ⊎ ((suc i ≡ suc k) × (f z ≡ y))
    deeper (inl same) = inl same
    deeper (inr changed) = inr (ap suc changed.0, changed.1)

-- an item was there before, or is what was made of the one with the number
pub item_was : {X : Type 0} (f : X → X) (xs : List X) (number m : ℕ) (y : X) → item_at (item_changed f xs number) m ≡ Some y
    → (x : X) × (item_at xs m ≡ Some x) × ((x ≡ y) ⊎ ((m ≡ number) × (f x ≡ y)))
item_was f xs zero m y e = (y, e, inl refl)
item_was f xs (suc k) zero y e = cc
item_was {X = X} f xs (suc k) (suc i) y e = let was = get_was f xs k i y e in (was.0, was.1, raised was.2)
  where
    raised : {z : X} → (z ≡ y) ⊎ ((i ≡ k) × (f z ≡ y)) → (z ≡ y) ⊎ ((suc i ≡ suc k) × (f z ≡ y))
    raised (inl same) = inl same
    raised (inr changed) = inr (ap suc changed.0, changed.1)

-- a booking before its end, which wasn't dropped where it isn't now
record IsBefore (bs : List Booking) (m : ℕ) (b : Booking) : Type 0 where
  was : Booking
  there : item_at bs m ≡ Some was
  span : was.span ≡ b.span
  gateway : was.gateway ≡ b.gateway
  uplink : was.uplink ≡ b.uplink
  standing : is_dropped b.standing ≡ false → is_dropped was.standing ≡ false

before : (bs : List Booking) (number m : ℕ) (sent : Bool) (booked b : Booking) → item_at bs number ≡ Some booked → booked.standing ≡ Booked
    → item_at (item_changed (ended sent) bs number) m ≡ Some b → IsBefore bs m b
before bs number m sent booked b there standing e = by (item_was (ended sent) bs number m b e)
  where
    by : (x : Booking) × (item_at bs m ≡ Some x) × ((x ≡ b) ⊎ ((m ≡ number) × (ended sent x ≡ b))) → IsBefore bs m b
    by (x, at, inl same) = subst (IsBefore bs m) same (record { was = x; there = at; span = refl; gateway = refl; uplink = refl; standing = λ d. d })
    by (x, at, inr changed) =
        let is : x ≡ booked = same_Some x booked (sym at ∙ ap (item_at bs) changed.0 ∙ there) in
        subst (IsBefore bs m) changed.1
        (record { was = x; there = at; span = refl; gateway = refl; uplink = refl; standing = λ _. ap (λ (z : Booking). is_dropped z.standing) is ∙ ap is_dropped standing })

stood : (gateway : List ℕ) (b was : Booking) → was.gateway ≡ b.gateway → (is_dropped b.standing ≡ false → is_dropped was.standing ≡ false) → stands_at gateway b ≡ true → stands_at gateway was ≡ true
stood gateway b was same dropped stands =
    let parts = and_parts _ _ stands in
    rw (ap (λ g. bytes_eq g gateway) same ∙ parts.0, dropped (not-true (is_dropped b.standing) parts.1)) refl

ended_apart : (bs : List Booking) (number : ℕ) (sent : Bool) (booked : Booking) → item_at bs number ≡ Some booked → booked.standing ≡ Booked → AreApart bs → AreApart (item_changed (ended sent) bs number)
ended_apart bs number sent booked there standing h = record {
  alone = λ gateway m n a b em en sa sb lt.
      let x = before bs number m sent booked a there standing em in
      let y = before bs number n sent booked b there standing en in
      ap (λ (z : Interval). shared_count z b.span) (sym x.span) ∙ ap (λ (z : Interval). shared_count x.was.span z) (sym y.span)
      ∙ h.alone gateway m n x.was y.was x.there y.there (stood gateway a x.was x.gateway x.standing sa) (stood gateway b y.was y.gateway y.standing sb) lt;
  once = λ m n a b em en same da db lt.
      let x = before bs number m sent booked a there standing em in
      let y = before bs number n sent booked b there standing en in
      h.once m n x.was y.was x.there y.there (x.uplink ∙ same ∙ sym y.uplink) (x.standing da) (y.standing db) lt;
}

-- ---- each change

change_apart : (c : Settings) (s : State) (effect : Effect) → IsAllowed c s effect → Books s effect → AreApart s.bookings → AreApart (state_with s effect).bookings
change_apart c s (AddsBooking new) k b h = added_apart s new b h
change_apart c s (EndsBooking number sent) k b h = ended_apart s.bookings number sent k.booking k.there k.standing h
change_apart c s effect k b h = h

apart_of : (c : Settings) (heard : List Envelope) → AreApart (state_of c heard).bookings
apart_of c = whatever_heard c (λ s. AreApart s.bookings) (record {
  alone = λ gateway m n a b em en sa sb lt. absurd (omega (arith, item_within [] m a em));
  once = λ m n a b em en same da db lt. absurd (omega (arith, item_within [] m a em));
}) (λ s e allowed h. change_apart c s (decision_of c s e).0 allowed (new_booking (IsFree s) c s (book_books c s) e e.message) h)

-- ---- the laws

-- what share nothing have no microsecond in common
none_in_both : IsClearTells → (a b : Interval) → shared_count a b ≡ 0 → (x : ℤ) → is_in b x ≡ true → is_in a x ≡ false
unfolding is_clear
none_in_both tells a b none x within =
    (recursion_from_All (λ (z : Interval). is_in z x ≡ false) (a ∷ []) ((tells (a ∷ []) b).0 (rw (eq-eqb (shared_count a b) 0 none) refl) x within)).0

in_neither : (a b : Bool) → (b ≡ true → a ≡ false) → a ≡ true → b ≡ false
in_neither a false h is = refl
in_neither a true h is = absurd (both_ways a (h refl) is)

pub gateways_send_one_at_a_time : IsClearTells → GatewaysSendOneAtATime
gateways_send_one_at_a_time tells c heard gateway m n a b em en sa sb differ x within = by (cases_order m n)
  where
    by : (m ≡ n) ⊎ ((m < n) ⊎ (n < m)) → is_in a.span x ≡ false
    by (inl same) = absurd (differ same)
    by (inr (inl below)) = none_in_both tells a.span b.span ((apart_of c heard).alone gateway m n a b em en sa sb below) x within
    by (inr (inr above)) = in_neither (is_in b.span x) (is_in a.span x) (none_in_both tells b.span a.span ((apart_of c heard).alone gateway n m b a en em sb sa above) x) within

pub uplinks_are_answered_once : UplinksAreAnsweredOnce
uplinks_are_answered_once c heard m n a b em en same da db = by (cases_order m n)
  where
    by : (m ≡ n) ⊎ ((m < n) ⊎ (n < m)) → m ≡ n
    by (inl equal) = equal
    by (inr (inl below)) = absurd ((apart_of c heard).once m n a b em en same da db below)
    by (inr (inr above)) = absurd ((apart_of c heard).once n m b a en em (sym same) db da above)
