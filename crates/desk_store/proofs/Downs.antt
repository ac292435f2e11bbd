-- The counts of downlinks by session, updated as uplinks and bookings come and end.
use Rattle.std.proofs.Common.{◌≡◌, ℕ, ◌+◌, ◌^◌, ◌<◌, ◌≤◌, Bool, true, false, cond, List, [], ◌∷◌, ◌++◌, length, length-append, Option, Some, None, refl, sym, ◌∙◌, ap, add-one, arith, inl, inr}
use Rattle.std.specs.Prelude.{count_by, min}
use Rattle.std.specs.Option.{option_map_or}
use Rattle.std.proofs.lemmas.Bool.{cases_order, eq-eqb, ne_eqb}
use Rattle.std.proofs.lemmas.List.Sums.{count_by-le-length}
use Rattle.registry_core.specs.declared.facts.Booking.{Booking}
use Rattle.registry_core.specs.declared.facts.Uplink.{Uplink}
use Rattle.registry_core.specs.Bookings.{is_down_of, next_down}
use Rattle.registry_core.specs.Derived.{is_data_of}
use Rattle.registry_core.specs.Numbered.{item_at, item_changed}
use Rattle.registry_core.specs.State.{ended}
use Rattle.desk_store.specs.declared.tally.Tally.{Tally}
use Rattle.desk_store.specs.steps.Answers.{is_naming}
use Rattle.desk_store.specs.steps.Tally.{tallied}
use Rattle.desk_store.specs.steps.Traffic.{AreDowns}
use Rattle.desk_store.proofs.Counted.{count_cons, count_same}
use Rattle.desk_store.proofs.Linked.{item_at-append, item_at_last, item_at_past}

-- ---- an uplink more

-- none of what isn't counted
none_more : (n : ℕ) (carries : Bool) → n ≡ n + cond carries 0 0
none_more n true = omega arith
none_more n false = omega arith

one_more : (carries : Bool) → cond carries 1 0 ≡ 0 + cond carries 1 0
one_more true = refl
one_more false = refl

both_more : (carries : Bool) (one one_was one_named all all_were all_named : ℕ) → one ≡ one_was + cond carries one_named 0 → all ≡ all_were + cond carries all_named 0
    → one + all ≡ (one_was + all_were) + cond carries (one_named + all_named) 0
both_more true one one_was one_named all all_were all_named o a = omega arith
both_more false one one_was one_named all all_were all_named o a = omega arith

module _ (uplinks : List Uplink) (uplink : Uplink) (session : ℕ) where
  -- 1 where a data uplink of the session was found
  abbrev found_one : Option Uplink → ℕ
  found_one found = cond (option_map_or (is_data_of session) found false) 1 0

  down_by : (was now : Option Uplink) (named : Bool) → was ≡ now → named ≡ false
      → found_one now ≡ found_one was + cond (is_data_of session uplink) (cond named 1 0) 0
  down_by was now named same none =
      ap found_one (sym same) ∙ none_more (found_one was) (is_data_of session uplink)
      ∙ ap (λ b. found_one was + cond (is_data_of session uplink) (cond b 1 0) 0) (sym none)

  down_new : (was now : Option Uplink) (named : Bool) → was ≡ None → now ≡ Some uplink → named ≡ true
      → found_one now ≡ found_one was + cond (is_data_of session uplink) (cond named 1 0) 0
  down_new was now named absent there here =
      ap found_one there ∙ one_more (is_data_of session uplink)
      ∙ (λ i. found_one (sym absent i) + cond (is_data_of session uplink) (cond (sym here i) 1 0) 0)

  -- a booking that names the new uplink is one more downlink of its session
  down_more : (booking : Booking) → cond (is_down_of (uplinks ++ uplink ∷ []) session booking) 1 0
      ≡ cond (is_down_of uplinks session booking) 1 0 + cond (is_data_of session uplink) (cond (is_naming (length uplinks + 1) booking) 1 0) 0
  down_more booking = elim (cases_order booking.uplink (length uplinks + 1)) [
    | inl same ↦
        let there : item_at (uplinks ++ uplink ∷ []) booking.uplink ≡ Some uplink = rw (same, add-one) (item_at_last uplinks uplink) in
        let absent : item_at uplinks booking.uplink ≡ None = item_at_past uplinks booking.uplink (omega arith) in
        down_new _ _ _ absent there (eq-eqb _ _ same)
    | inr (inl less) ↦
        let stays : item_at uplinks booking.uplink ≡ item_at (uplinks ++ uplink ∷ []) booking.uplink = sym (item_at-append uplinks uplink booking.uplink (omega arith)) in
        down_by _ _ _ stays (ne_eqb _ _ (λ same. omega arith))
    | inr (inr more) ↦
        let was : item_at uplinks booking.uplink ≡ None = item_at_past uplinks booking.uplink (omega arith) in
        let now : item_at (uplinks ++ uplink ∷ []) booking.uplink ≡ None =
        item_at_past (uplinks ++ uplink ∷ []) booking.uplink (omega (arith, length-append uplinks (uplink ∷ []))) in
        down_by _ _ _ (was ∙ sym now) (ne_eqb _ _ (λ same. omega arith))
  ]

  downs_more : (bookings : List Booking) → next_down bookings (uplinks ++ uplink ∷ []) session
      ≡ next_down bookings uplinks session + cond (is_data_of session uplink) (count_by (is_naming (length uplinks + 1)) bookings) 0
  downs_more [] = none_more 0 (is_data_of session uplink)
  downs_more (booking ∷ rest) =
      count_cons (is_down_of (uplinks ++ uplink ∷ []) session) booking rest
      ∙ both_more (is_data_of session uplink) _ _ _ _ _ _ (down_more booking) (downs_more rest)
      ∙ (λ i. sym (count_cons (is_down_of uplinks session) booking rest) i
      + cond (is_data_of session uplink) (sym (count_cons (is_naming (length uplinks + 1)) booking rest) i) 0)

-- ---- the counts

-- where the sum is small, it is the least of both
grown_by : (carries : Bool) (old new more was now count : ℕ) → count < 2 ^ 63 → now ≤ count → old ≡ was → now ≡ was + cond carries more 0
    → new ≡ cond carries (min (old + more) 18446744073709551615) old → new ≡ now
grown_by true old new more was now count few within same is grown = omega arith
grown_by false old new more was now count few within same is grown = omega arith

module _ (uplinks : List Uplink) (bookings : List Booking) (old new : Tally) (few : length bookings < 2 ^ 63) (were : AreDowns uplinks bookings old) where
  pub uplink_counted : (uplink : Uplink) (naming : ℕ) → naming ≡ count_by (is_naming (length uplinks + 1)) bookings
      → ((session : ℕ) → tallied new session ≡ cond (is_data_of session uplink) (min (tallied old session + naming) 18446744073709551615) (tallied old session))
      → AreDowns (uplinks ++ uplink ∷ []) bookings new
  uplink_counted uplink naming named grown = record {
    counts = λ session. grown_by (is_data_of session uplink) (tallied old session) (tallied new session) naming (next_down bookings uplinks session)
        (next_down bookings (uplinks ++ uplink ∷ []) session) (length bookings) few (count_by-le-length (is_down_of (uplinks ++ uplink ∷ []) session) bookings) (were.counts session)
        (downs_more uplinks uplink session bookings ∙ ap (λ n. next_down bookings uplinks session + cond (is_data_of session uplink) n 0) (sym named)) (grown session);
  }

-- where an uplink isn't added, nothing changes
pub downs_same : (uplinks same : List Uplink) (bookings : List Booking) (old new : Tally) → same ≡ uplinks → ((session : ℕ) → tallied new session ≡ tallied old session)
    → AreDowns uplinks bookings old → AreDowns same bookings new
downs_same uplinks same bookings old new is counted were = record {
  counts = λ session. counted session ∙ were.counts session ∙ ap (λ us. next_down bookings us session) (sym is);
}

-- a booking that ends answers what it answered
pub booking_ended : (uplinks : List Uplink) (bookings : List Booking) (downs : Tally) (number : ℕ) (sent : Bool)
    → AreDowns uplinks bookings downs → AreDowns uplinks (item_changed (ended sent) bookings number) downs
booking_ended uplinks bookings downs number sent were = record {
  counts = λ session. were.counts session ∙ sym (count_same (is_down_of uplinks session) (ended sent) (λ booking. refl) bookings number);
}
