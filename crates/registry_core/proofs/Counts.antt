-- There are no more facts than messages: each message adds at most one key to a look-up, and one uplink or booking.
use Rattle.std.proofs.Common.{◌≡◌, ℕ, ◌+◌, ◌≤◌, List, [], ◌∷◌, ◌++◌, length, Bool, true, false, Option, Some, None, Decides, refl, sym, ap, subst, arith, inl, inr, if◌then◌else◌}
use Rattle.std.specs.Prelude.{◌⊎◌, ◌==◌, ◌&&◌, bytes_eq, is_some, option_map, Contains, IsTrue}
use Rattle.std.specs.Cmp.{IsEquivalence}
use Rattle.std.proofs.lemmas.Bool.{and_parts, eq-eqb, eqb-true}
use Rattle.std.proofs.lemmas.List.{length_push}
use Rattle.std.proofs.lemmas.List.Elements.{All-contains, Contains-append_left, Contains-push}
use Rattle.std.proofs.lemmas.Map.Made.{IsDistinct-from_AllPairs, is_member-Decides, length-le_from_is_member}
use Rattle.std.proofs.lemmas.Slice.Eq.{bytes_eq-Decides}
use Rattle.radio_core.specs.Bands.{band_number}
use Rattle.registry_core.specs.declared.effects.Effect.{Effect}
use Rattle.registry_core.specs.declared.effects.Effect.TheVariants.{AddsSender, AddsOwner, AddsGateway, AddsDevice, MovesDevice, AddsSession, AddsUplink, AddsReception, AddsBooking, EndsBooking, SetsLimit}
use Rattle.registry_core.specs.declared.facts.Device.{Device}
use Rattle.registry_core.specs.declared.facts.Reception.{Reception}
use Rattle.registry_core.specs.declared.messages.Envelope.{Envelope}
use Rattle.registry_core.specs.declared.messages.Role.TheVariants.{Operator}
use Rattle.registry_core.specs.Counts.{AtMost, FactsAreNoMoreThanMessages}
use Rattle.registry_core.specs.Heard.{state_after, state_of}
use Rattle.registry_core.specs.Limits.{Limit}
use Rattle.registry_core.specs.Settings.{Settings}
use Rattle.registry_core.specs.State.{State, at_name, at_number, devices_with_move, ended, limits_with, next_uplink, opening, owned_by, receptions_with, state_with}
use Rattle.registry_core.specs.Step.{decision_of, step}
use Rattle.registry_core.proofs.Items.{item_changed_length}

-- ---- keys in a list

-- the keys that are there are in a list of at most this length
record IsListed {Key : Type 0} (most : ℕ) (is_there : Key → Bool) : Type 0 where
  keys : List Key
  few : length keys ≤ most
  each : (key : Key) → is_there key ≡ true → Contains keys key

-- a test of equality is an equivalence
equivalence_of : {Key : Type 0} (eq : Key → Key → Bool) → ((a b : Key) → Decides (eq a b) (a ≡ b)) → IsEquivalence eq
equivalence_of {Key = Key} eq same = record {
  refl = λ x. (same x x).1 refl;
  symm = λ x y. both (eq x y) (eq y x) (λ e. (same y x).1 (sym ((same x y).0 e))) (λ e. (same x y).1 (sym ((same y x).0 e)));
  congr = λ x y z e. ap (λ k. eq k z) ((same x y).0 e);
}
  where
    both : (a b : Bool) → (a ≡ true → b ≡ true) → (b ≡ true → a ≡ true) → a ≡ b
    both true b to from = sym (to refl)
    both false true to from = from refl
    both false false to from = refl

-- different ones are no more than the places
listed_at_most : {Key : Type 0} (eq : Key → Key → Bool) → ((a b : Key) → Decides (eq a b) (a ≡ b)) → (most : ℕ) (is_there : Key → Bool) → IsListed most is_there → AtMost most is_there
listed_at_most {Key = Key} eq same most is_there h = λ keys apart all.
    let within : length keys ≤ length h.keys =
    length-le_from_is_member (equivalence_of eq same) keys h.keys (IsDistinct-from_AllPairs same keys apart)
    (λ q e. (is_member-Decides same h.keys q).1 (h.each q (All-contains (λ key. IsTrue (is_there key)) keys q all ((is_member-Decides same keys q).0 e)))) in
    omega (arith, within, h.few)

pair_eq : ℕ × List ℕ → ℕ × List ℕ → Bool
pair_eq a b = a.0 == b.0 && bytes_eq a.1 b.1

pair_eq-Decides : (a b : ℕ × List ℕ) → Decides (pair_eq a b) (a ≡ b)
unfolding pair_eq
pair_eq-Decides a b = (
  λ e. let parts = and_parts _ _ e in
      let number : a.0 ≡ b.0 = eqb-true a.0 b.0 parts.0 in
      let name : a.1 ≡ b.1 = (bytes_eq-Decides a.1 b.1).0 parts.1 in
      λ i. (number i, name i),
  λ e. rw (eq-eqb a.0 b.0 (ap (λ p. p.0) e), (bytes_eq-Decides a.1 b.1).1 (ap (λ p. p.1) e)) refl,
)

-- ---- one message more

-- what was listed is listed in more places
listed_more : {Key : Type 0} (n : ℕ) (is_there : Key → Bool) → IsListed n is_there → IsListed (n + 1) is_there
listed_more n is_there h = record { keys = h.keys; few = omega (arith, h.few); each = h.each }

-- one key more takes one place more
listed_with : {Key : Type 0} (n : ℕ) (before after : Key → Bool) (new : Key) → IsListed n before → ((key : Key) → after key ≡ true → (before key ≡ true) ⊎ (new ≡ key)) → IsListed (n + 1) after
listed_with n before after new h was = record {
  keys = h.keys ++ new ∷ [];
  few = omega (arith, length_push h.keys new, h.few);
  each = λ key there. by key (was key there);
}
  where
    by : (key : _) → (before key ≡ true) ⊎ (new ≡ key) → Contains (h.keys ++ new ∷ []) key
    by key (inl old) = Contains-append_left h.keys (new ∷ []) key (h.each key old)
    by key (inr same) = subst (Contains (h.keys ++ new ∷ [])) same (Contains-push h.keys new)

-- what is there by a name was there before, or the name is the new one
name_was : {X : Type 0} (is_there : X → Bool) (f : List ℕ → X) (name : List ℕ) (x : X) (other : List ℕ) → is_there (at_name f name x other) ≡ true → (is_there (f other) ≡ true) ⊎ (name ≡ other)
name_was is_there f name x other there = by (bytes_eq other name) refl there
  where
    by : (b : Bool) → bytes_eq other name ≡ b → is_there (if b then x else f other) ≡ true → (is_there (f other) ≡ true) ⊎ (name ≡ other)
    by true is e = inr (sym ((bytes_eq-Decides other name).0 is))
    by false is e = inl e

number_was : {X : Type 0} (is_there : X → Bool) (f : ℕ → X) (n : ℕ) (x : X) (other : ℕ) → is_there (at_number f n x other) ≡ true → (is_there (f other) ≡ true) ⊎ (n ≡ other)
number_was is_there f n x other there = by (other == n) refl there
  where
    by : (b : Bool) → (other == n) ≡ b → is_there (if b then x else f other) ≡ true → (is_there (f other) ≡ true) ⊎ (n ≡ other)
    by true is e = inr (sym (eqb-true other n is))
    by false is e = inl e

-- a device that moves was there
moved_was : (devices : ℕ → Option Device) (dev_eui : ℕ) (owner : List ℕ) (other : ℕ) → is_some (devices_with_move devices dev_eui owner other) ≡ true → is_some (devices other) ≡ true
moved_was devices dev_eui owner other there = by (other == dev_eui) refl there
  where
    still : (found : Option Device) → is_some (option_map (owned_by owner) found) ≡ true → is_some found ≡ true
    still None e = e
    still (Some device) e = refl

    by : (b : Bool) → (other == dev_eui) ≡ b → is_some (if b then option_map (owned_by owner) (devices dev_eui) else devices other) ≡ true → is_some (devices other) ≡ true
    by true is e = subst (λ n. is_some (devices n) ≡ true) (sym (eqb-true other dev_eui is)) (still (devices dev_eui) e)
    by false is e = e

abbrev has_reception_of : (ℕ → List ℕ → Option Reception) → ℕ × List ℕ → Bool
has_reception_of receptions key = is_some (receptions key.0 key.1)

reception_was : (receptions : ℕ → List ℕ → Option Reception) (number : ℕ) (gateway : List ℕ) (new : Reception) (key : ℕ × List ℕ) → has_reception_of (receptions_with receptions number gateway new) key ≡ true
    → (has_reception_of receptions key ≡ true) ⊎ ((number, gateway) ≡ key)
reception_was receptions number gateway new key there = by (key.0 == number) (bytes_eq key.1 gateway) refl refl
  where
    by : (same named : Bool) → (key.0 == number) ≡ same → bytes_eq key.1 gateway ≡ named → (has_reception_of receptions key ≡ true) ⊎ ((number, gateway) ≡ key)
    by false named is gateway_is = inl (rw is at there)
    by true false is gateway_is = inl (subst (λ n. is_some (receptions n key.1) ≡ true) (sym (eqb-true key.0 number is)) (rw (is, gateway_is) at there))
    by true true is gateway_is =
        let n : number ≡ key.0 = sym (eqb-true key.0 number is) in
        let g : gateway ≡ key.1 = sym ((bytes_eq-Decides key.1 gateway).0 gateway_is) in
        inr (λ i. (n i, g i))

abbrev has_limit : (List ℕ → ℕ → Option ℕ) → ℕ × List ℕ → Bool
has_limit limits key = is_some (limits key.1 key.0)

limit_was : (limits : List ℕ → ℕ → Option ℕ) (gateway : List ℕ) (limit : Limit) (key : ℕ × List ℕ) → has_limit (limits_with limits gateway limit) key ≡ true
    → (has_limit limits key ≡ true) ⊎ ((band_number limit.band, gateway) ≡ key)
limit_was limits gateway limit key there = by (bytes_eq key.1 gateway) (key.0 == band_number limit.band) refl refl
  where
    by : (named same : Bool) → bytes_eq key.1 gateway ≡ named → (key.0 == band_number limit.band) ≡ same → (has_limit limits key ≡ true) ⊎ ((band_number limit.band, gateway) ≡ key)
    by false same gateway_is is = inl (rw gateway_is at there)
    by true false gateway_is is = inl (subst (λ name. is_some (limits name key.0) ≡ true) (sym ((bytes_eq-Decides key.1 gateway).0 gateway_is)) (rw (gateway_is, is) at there))
    by true true gateway_is is =
        let n : band_number limit.band ≡ key.0 = sym (eqb-true key.0 (band_number limit.band) is) in
        let g : gateway ≡ key.1 = sym ((bytes_eq-Decides key.1 gateway).0 gateway_is) in
        inr (λ i. (n i, g i))

-- ---- each change

abbrev has_sender : State → List ℕ → Bool
has_sender s name = is_some (s.senders name)

abbrev has_device : State → ℕ → Bool
has_device s dev_eui = is_some (s.devices dev_eui)

senders_more : (n : ℕ) (s : State) (effect : Effect) → IsListed n (has_sender s) → IsListed (n + 1) (has_sender (state_with s effect))
senders_more n s (AddsSender name role) h = listed_with n (has_sender s) (has_sender (state_with s (AddsSender name role))) name h (name_was is_some s.senders name (Some role))
senders_more n s effect h = listed_more n (has_sender s) h

owners_more : (n : ℕ) (s : State) (effect : Effect) → IsListed n s.owners → IsListed (n + 1) (state_with s effect).owners
owners_more n s (AddsOwner name) h = listed_with n s.owners (state_with s (AddsOwner name)).owners name h (name_was (λ b. b) s.owners name true)
owners_more n s effect h = listed_more n s.owners h

gateways_more : (n : ℕ) (s : State) (effect : Effect) → IsListed n s.gateways → IsListed (n + 1) (state_with s effect).gateways
gateways_more n s (AddsGateway name) h = listed_with n s.gateways (state_with s (AddsGateway name)).gateways name h (name_was (λ b. b) s.gateways name true)
gateways_more n s effect h = listed_more n s.gateways h

devices_more : (n : ℕ) (s : State) (effect : Effect) → IsListed n (has_device s) → IsListed (n + 1) (has_device (state_with s effect))
devices_more n s (AddsDevice dev_eui device) h = listed_with n (has_device s) (has_device (state_with s (AddsDevice dev_eui device))) dev_eui h (number_was is_some s.devices dev_eui (Some device))
devices_more n s (MovesDevice dev_eui owner) h =
    listed_with n (has_device s) (has_device (state_with s (MovesDevice dev_eui owner))) dev_eui h (λ other e. inl (moved_was s.devices dev_eui owner other e))
devices_more n s effect h = listed_more n (has_device s) h

receptions_with_more : (n : ℕ) (s : State) (number : ℕ) (gateway : List ℕ) (new : Reception) → IsListed n (has_reception_of s.receptions) → IsListed (n + 1) (has_reception_of (receptions_with s.receptions number gateway new))
receptions_with_more n s number gateway new h = listed_with n (has_reception_of s.receptions) (has_reception_of (receptions_with s.receptions number gateway new)) (number, gateway) h (reception_was s.receptions number gateway new)

receptions_more : (n : ℕ) (s : State) (effect : Effect) → IsListed n (has_reception_of s.receptions) → IsListed (n + 1) (has_reception_of (state_with s effect).receptions)
receptions_more n s (AddsSession session uplink gateway new) h = receptions_with_more n s (next_uplink s) gateway new h
receptions_more n s (AddsUplink uplink gateway new) h = receptions_with_more n s (next_uplink s) gateway new h
receptions_more n s (AddsReception number gateway new) h = receptions_with_more n s number gateway new h
receptions_more n s effect h = listed_more n (has_reception_of s.receptions) h

limits_more : (n : ℕ) (s : State) (effect : Effect) → IsListed n (has_limit s.limits) → IsListed (n + 1) (has_limit (state_with s effect).limits)
limits_more n s (SetsLimit gateway limit) h =
    listed_with n (has_limit s.limits) (has_limit (limits_with s.limits gateway limit)) (band_number limit.band, gateway) h (limit_was s.limits gateway limit)
limits_more n s effect h = listed_more n (has_limit s.limits) h

sessions_more : (s : State) (effect : Effect) → length s.sessions ≤ length s.uplinks → length (state_with s effect).sessions ≤ length (state_with s effect).uplinks
sessions_more s (AddsSession session uplink gateway new) h = omega (arith, length_push s.sessions session, length_push s.uplinks uplink, h)
sessions_more s (AddsUplink uplink gateway new) h = omega (arith, length_push s.uplinks uplink, h)
sessions_more s effect h = h

items_more : (n : ℕ) (s : State) (effect : Effect) → length s.uplinks + length s.bookings ≤ n → length (state_with s effect).uplinks + length (state_with s effect).bookings ≤ n + 1
items_more n s (AddsSession session uplink gateway new) h = omega (arith, length_push s.uplinks uplink, h)
items_more n s (AddsUplink uplink gateway new) h = omega (arith, length_push s.uplinks uplink, h)
items_more n s (AddsBooking booking) h = omega (arith, length_push s.bookings booking, h)
items_more n s (EndsBooking number sent) h = omega (arith, item_changed_length (ended sent) s.bookings number, h)
items_more n s effect h = omega (arith, h)

-- ---- each list of messages

record IsBoundedBy (n : ℕ) (s : State) : Type 0 where
  by_sender : IsListed (n + 1) (has_sender s)
  by_owner : IsListed n s.owners
  by_gateway : IsListed n s.gateways
  by_device : IsListed n (has_device s)
  by_reception : IsListed n (has_reception_of s.receptions)
  by_limit : IsListed n (has_limit s.limits)
  by_session : length s.sessions ≤ length s.uplinks
  by_item : length s.uplinks + length s.bookings ≤ n

counted_after : (n : ℕ) (c : Settings) (s : State) (es : List Envelope) → IsBoundedBy n s → IsBoundedBy (n + length es) (state_after c s es)
counted_after n c s [] h = let same : n ≡ n + 0 = omega arith in subst (λ m. IsBoundedBy m s) same h
counted_after n c s (e ∷ es) h =
    let effect : Effect = (decision_of c s e).0 in
    let same : n + 1 + length es ≡ n + length (e ∷ es) = omega arith in
    subst (λ m. IsBoundedBy m (state_after c s (e ∷ es))) same (counted_after (n + 1) c (step c s e).0 es (record {
      by_sender = senders_more (n + 1) s effect h.by_sender;
      by_owner = owners_more n s effect h.by_owner;
      by_gateway = gateways_more n s effect h.by_gateway;
      by_device = devices_more n s effect h.by_device;
      by_reception = receptions_more n s effect h.by_reception;
      by_limit = limits_more n s effect h.by_limit;
      by_session = sessions_more s effect h.by_session;
      by_item = items_more n s effect h.by_item;
    }))

none_listed : {Key : Type 0} → IsListed {Key = Key} 0 (λ _. false)
none_listed = record { keys = []; few = omega arith; each = λ key e. cc }

-- it opens with the configured operator alone
opening_counted : (c : Settings) → IsBoundedBy 0 (opening c)
opening_counted c = record {
  by_sender = listed_with 0 (λ _. false) (has_sender (opening c)) c.operator none_listed (name_was is_some (λ _. None) c.operator (Some Operator));
  by_owner = none_listed;
  by_gateway = none_listed;
  by_device = none_listed;
  by_reception = none_listed;
  by_limit = none_listed;
  by_session = omega arith;
  by_item = omega arith;
}

pub facts_are_no_more_than_messages : FactsAreNoMoreThanMessages
facts_are_no_more_than_messages c heard =
    let same : 0 + length heard ≡ length heard = omega arith in
    let h : IsBoundedBy (length heard) (state_of c heard) = subst (λ m. IsBoundedBy m (state_of c heard)) same (counted_after 0 c (opening c) heard (opening_counted c)) in
    record {
      senders = listed_at_most bytes_eq bytes_eq-Decides _ _ h.by_sender;
      owners = listed_at_most bytes_eq bytes_eq-Decides _ _ h.by_owner;
      gateways = listed_at_most bytes_eq bytes_eq-Decides _ _ h.by_gateway;
      devices = listed_at_most (λ a b. a == b) (λ a b. (eqb-true a b, eq-eqb a b)) _ _ h.by_device;
      limits = listed_at_most pair_eq pair_eq-Decides _ _ h.by_limit;
      receptions = listed_at_most pair_eq pair_eq-Decides _ _ h.by_reception;
      sessions = h.by_session;
      uplinks_and_bookings = h.by_item;
    }
