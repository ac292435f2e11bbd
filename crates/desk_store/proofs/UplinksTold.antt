-- What the index finds of the uplinks at a device's places is what a search of all uplinks finds, ordered by start.
use Rattle.std.proofs.Common.{◌≡◌, ℕ, Bool, true, false, cond, List, [], ◌∷◌, ◌++◌, Option, Some, None, refl, sym, ◌∙◌, ap, subst, arith}
use Rattle.std.specs.Prelude.{◌==◌, ◌&&◌, ◌||◌, ℤ, pos, int_le, int_lt, filter, option_and_then, IsPermutation}
use Rattle.std.specs.Cmp.{first_so, second_so}
use Rattle.std.specs.List.{cons_option, filter_map}
use Rattle.std.proofs.lemmas.Bool.{and_left, and_right, both_ways, eqb-true, le-ltb}
use Rattle.std.proofs.lemmas.List.Sorted.{IsPermutation-refl, IsPermutation-cons, IsPermutation-middle, IsPermutation-sym, IsPermutation-trans, IsPermutation-append}
use Rattle.radio_core.specs.declared.bands.Band.{Band}
use Rattle.radio_core.specs.Bands.{band_number}
use Rattle.duty_core.specs.InOrder.{IsByStart}
use Rattle.duty_core.specs.Use.{Interval}
use Rattle.registry_core.specs.declared.facts.Session.{Session}
use Rattle.registry_core.specs.declared.facts.Uplink.{Uplink}
use Rattle.registry_core.specs.Derived.{is_of_device}
use Rattle.registry_core.specs.Reports.{in_band, interval_of, is_in_band, is_uplink_from, uplinks_from}
use Rattle.desk_store.specs.declared.start_index.Place.{Place}
use Rattle.desk_store.specs.steps.ByKey.{in_order}
use Rattle.desk_store.specs.steps.Sessions.{is_later, latest_of, same_before}
use Rattle.desk_store.specs.steps.StartIndex.{is_place_in, numbered_from, place_of, places_that}
use Rattle.desk_store.specs.steps.UplinkPlaces.{is_sent_from, key_of, places_from, uplink_places, uplink_span_at}
use Rattle.desk_store.specs.steps.Uplinks.{same_numbers}
use Rattle.desk_store.proofs.ByKey.{in_order_permutation, in_order_shown}
use Rattle.desk_store.proofs.ToldInOrder.{all_kept, by_start_from, filter_kept, passing, shown_if, shown_twice, told_in_order}
use Rattle.desk_store.proofs.DeviceSessions.{later_all, later_none, later_step}

-- pairs that are equal are one
pub pair_alike : (a b : ℕ × ℕ) → same_numbers a b ≡ true → a ≡ b
pair_alike a b same =
    let first : a.0 ≡ b.0 = eqb-true a.0 b.0 (first_so (a.0 == b.0) (a.1 == b.1) same) in
    let second : a.1 ≡ b.1 = eqb-true a.1 b.1 (second_so (a.0 == b.0) (a.1 == b.1) same) in
    λ i. (first i, second i)

-- ---- the places of items that pass

module _ {X : Type 0} (start : X → ℤ) where
  abbrev found : (X → Bool) → List (ℕ × X) → List Place
  found test ns = filter_map (place_of start test) ns

  none_found : (ns : List (ℕ × X)) → found (λ x. false) ns ≡ []
  none_found [] = refl
  none_found (n ∷ ns) = none_found ns

  -- those that pass one test or the other, where none passes both
  found_either : (p q : X → Bool) → ((x : X) → (p x && q x) ≡ false) → (ns : List (ℕ × X)) → IsPermutation (found (λ x. p x || q x) ns) (found q ns ++ found p ns)
  found_either p q apart [] = IsPermutation-refl []
  found_either p q apart (n ∷ ns) = by (p n.1) (q n.1) (apart n.1) (found_either p q apart ns)
    where
      place : Place
      place = record { start = start n.1; number = n.0 }

      by : (a b : Bool) → (a && b) ≡ false → IsPermutation (found (λ x. p x || q x) ns) (found q ns ++ found p ns)
          → IsPermutation (cons_option (cond (a || b) (Some (record { start = start n.1; number = n.0 })) None) (found (λ x. p x || q x) ns))
          (cons_option (cond b (Some (record { start = start n.1; number = n.0 })) None) (found q ns) ++ cons_option (cond a (Some (record { start = start n.1; number = n.0 })) None) (found p ns))
      by true true both rest = absurd (both_ways true both refl)
      by true false both rest =
          let at : Place = record { start = start n.1; number = n.0 } in
          IsPermutation-trans (at ∷ found (λ x. p x || q x) ns) (at ∷ (found q ns ++ found p ns)) _
          (IsPermutation-cons at _ _ rest)
          (IsPermutation-sym (found q ns ++ at ∷ found p ns) (at ∷ (found q ns ++ found p ns)) (IsPermutation-middle (found q ns) at (found p ns)))
      by false true both rest = IsPermutation-cons (record { start = start n.1; number = n.0 }) _ _ rest
      by false false both rest = rest

  places_either : (p q : X → Bool) → ((x : X) → (p x && q x) ≡ false) → (xs : List X)
      → IsPermutation (places_that start (λ x. p x || q x) xs) (places_that start q xs ++ places_that start p xs)
  places_either p q apart xs =
      let ns = numbered_from 1 xs in
      let key = λ (place : Place). place.start in
      IsPermutation-trans (in_order key (found (λ x. p x || q x) ns)) (found (λ x. p x || q x) ns) _
      (IsPermutation-sym (found (λ x. p x || q x) ns) _ (in_order_permutation key (found (λ x. p x || q x) ns)))
      (IsPermutation-trans (found (λ x. p x || q x) ns) (found q ns ++ found p ns) _ (found_either p q apart ns)
      (IsPermutation-append (found q ns) (in_order key (found q ns)) (found p ns) (in_order key (found p ns))
      (in_order_permutation key (found q ns)) (in_order_permutation key (found p ns))))

  kept_start : (test : ℤ → Bool) (p q : Place) → passing (λ (r : Place). test r.start) p ≡ Some q → q.start ≡ p.start
  kept_start test p q is = by (test p.start) is
    where
      by : (b : Bool) → cond b (Some p) None ≡ Some q → q.start ≡ p.start
      by true told = let same : p ≡ q = cc in sym (ap (λ (r : Place). r.start) same)
      by false told = let no : ⊥ = cc in absurd no

  kept_place : (test : X → Bool) (passes : ℤ → Bool) (n : ℕ × X)
      → option_and_then (passing (λ (p : Place). passes p.start)) (place_of start test n) ≡ place_of start (λ x. test x && passes (start x)) n
  kept_place test passes n = by (test n.1)
    where
      by : (b : Bool) → option_and_then (passing (λ (p : Place). passes p.start)) (cond b (Some (record { start = start n.1; number = n.0 })) None)
          ≡ cond (b && passes (start n.1)) (Some (record { start = start n.1; number = n.0 })) None
      by true = refl
      by false = refl

  -- those of the places that pass by their starts are the places of the items that do
  pub places_kept : (test : X → Bool) (passes : ℤ → Bool) (xs : List X)
      → filter (λ (p : Place). passes p.start) (places_that start test xs) ≡ places_that start (λ x. test x && passes (start x)) xs
  places_kept test passes xs =
      let key = λ (p : Place). p.start in
      let keep : Place → Option Place = passing (λ (p : Place). passes p.start) in
      filter_kept (λ (p : Place). passes p.start) (places_that start test xs)
      ∙ in_order_shown key key keep (kept_start passes) (found test (numbered_from 1 xs))
      ∙ ap (in_order key) (shown_twice (place_of start test) keep (numbered_from 1 xs)
      ∙ (λ i. filter_map (λ n. kept_place test passes n i) (numbered_from 1 xs)))

-- ---- of a device's sessions, from the latest

abbrev started : Uplink → ℤ
started uplink = pos uplink.start

module _ (uplinks : List Uplink) (sessions : List Session) (dev_eui : ℕ) (band : Band) (from to : ℤ) where
  -- an uplink in the band that starts in the period, of a session of the device that comes after session n
  abbrev is_sent_later : ℕ → Uplink → Bool
  is_sent_later n uplink = ((is_later sessions dev_eui n uplink.session && int_le from (pos uplink.start)) && int_lt (pos uplink.start) to) && is_in_band band uplink

  -- and one of session n
  abbrev is_sent_in : ℕ → Uplink → Bool
  is_sent_in n uplink = same_numbers (key_of uplink) (n, band_number band) && (int_le from (pos uplink.start) && int_lt (pos uplink.start) to)

  -- the places of those that come after session n
  abbrev pub places_later : ℕ → List Place
  places_later n = places_that started (is_sent_later n) uplinks

  here_apart : (n m : ℕ) (b : Bool) → (m == n) ≡ b → (b && is_later sessions dev_eui n m) ≡ false
  here_apart n m true is = let same : m ≡ n = eqb-true m n is in and_left _ _ (le-ltb n m (omega arith))
  here_apart n m false is = refl

  apart_by : (e l f t b : Bool) → (e && l) ≡ false → (((e && b) && (f && t)) && (((l && f) && t) && b)) ≡ false
  apart_by true true f t b none = absurd (both_ways true none refl)
  apart_by true false f t b none = and_right (b && (f && t)) false refl
  apart_by false l f t b none = refl

  swapped : (f t b : Bool) → ((f && t) && b) ≡ ((b && (f && t)) || false)
  swapped true true true = refl
  swapped true true false = refl
  swapped true false true = refl
  swapped true false false = refl
  swapped false t true = refl
  swapped false t false = refl

  either_by : (e l f t b : Bool) → (e && l) ≡ false → ((((e || l) && f) && t) && b) ≡ (((e && b) && (f && t)) || (((l && f) && t) && b))
  either_by true true f t b none = absurd (both_ways true none refl)
  either_by true false f t b none = swapped f t b
  either_by false l f t b none = refl

  module _ (n : ℕ) (own : is_of_device sessions dev_eui n ≡ true) where
    sent_step : (u : Uplink) → is_sent_later (same_before sessions n) u ≡ (is_sent_in n u || is_sent_later n u)
    sent_step u =
        ap (λ b. ((b && int_le from (pos u.start)) && int_lt (pos u.start) to) && is_in_band band u) (later_step sessions dev_eui n own u.session)
        ∙ either_by (u.session == n) (is_later sessions dev_eui n u.session) (int_le from (pos u.start)) (int_lt (pos u.start) to) (is_in_band band u)
        (here_apart n u.session (u.session == n) refl)

    sent_apart : (u : Uplink) → (is_sent_in n u && is_sent_later n u) ≡ false
    sent_apart u = apart_by (u.session == n) (is_later sessions dev_eui n u.session) (int_le from (pos u.start)) (int_lt (pos u.start) to) (is_in_band band u)
        (here_apart n u.session (u.session == n) refl)

    -- those that come after the session before it are those after it, and its own
    pub places_step : (ps own_ps : List Place) → IsPermutation (places_later n) ps → own_ps ≡ filter (is_place_in from to) (uplink_places uplinks n band)
        → IsPermutation (places_later (same_before sessions n)) (ps ++ own_ps)
    places_step ps own_ps same told =
        let own_are : own_ps ≡ places_that started (is_sent_in n) uplinks =
        told ∙ places_kept started (λ u. same_numbers (key_of u) (n, band_number band)) (λ s. int_le from s && int_lt s to) uplinks in
        let P : List Place → Type 0 = λ all. IsPermutation all (ps ++ own_ps) in
        let Q : List Place → Type 0 = λ here. IsPermutation (places_that started (λ u. is_sent_in n u || is_sent_later n u) uplinks) (ps ++ here) in
        subst P (sym (λ i. places_that started (λ u. sent_step u i) uplinks))
        (subst Q (sym own_are) (IsPermutation-trans (places_that started (λ u. is_sent_in n u || is_sent_later n u) uplinks) (places_later n ++ places_that started (is_sent_in n) uplinks) _
        (places_either started (is_sent_in n) (is_sent_later n) sent_apart uplinks)
        (IsPermutation-append (places_later n) ps (places_that started (is_sent_in n) uplinks) (places_that started (is_sent_in n) uplinks) same
        (IsPermutation-refl (places_that started (is_sent_in n) uplinks)))))

  -- none comes after the latest
  pub places_none : places_later (latest_of sessions dev_eui) ≡ []
  places_none =
      (λ i. places_that started (λ u. ((later_none sessions dev_eui u.session i && int_le from (pos u.start)) && int_lt (pos u.start) to) && is_in_band band u) uplinks)
      ∙ ap (in_order (λ (p : Place). p.start)) (none_found started (numbered_from 1 uplinks))

  -- each comes after 0
  pub places_all : places_later 0 ≡ places_from uplinks sessions dev_eui band from to
  places_all = λ i. places_that started (λ u. ((later_all sessions dev_eui u.session i && int_le from (pos u.start)) && int_lt (pos u.start) to) && is_in_band band u) uplinks

  -- ---- what is found at those places

  abbrev own_span : Uplink → Option Interval
  own_span uplink = Some (interval_of uplink)

  own_start : (uplink : Uplink) (a : Interval) → own_span uplink ≡ Some a → a.start ≡ started uplink
  own_start uplink a is = let same : interval_of uplink ≡ a = cc in sym (ap (λ (i : Interval). i.start) same)

  abbrev span_sent : Uplink → Option Interval
  span_sent = shown_if started (is_sent_from sessions dev_eui band from to) (λ (a : Interval). a.start) own_span own_start (λ s. true)

  sent_by : (u : Uplink) (rest : List Uplink) (b c : Bool) → is_in_band band u ≡ c
      → cons_option (cond (b && c) (Some (interval_of u)) None) (in_band band (filter (is_uplink_from sessions dev_eui from to) rest))
      ≡ in_band band (cond b (u ∷ filter (is_uplink_from sessions dev_eui from to) rest) (filter (is_uplink_from sessions dev_eui from to) rest))
  sent_by u rest true true is = rw is refl
  sent_by u rest true false is = rw is refl
  sent_by u rest false c is = refl

  spans_sent : (us : List Uplink) → filter_map span_sent us ≡ in_band band (uplinks_from us sessions dev_eui from to)
  spans_sent [] = refl
  spans_sent (u ∷ us) = ap (cons_option (span_sent u)) (spans_sent us) ∙ sent_by u us (is_uplink_from sessions dev_eui from to u) (is_in_band band u) refl

  pub uplinks_listed : (spans : List Interval) → spans ≡ filter_map (uplink_span_at uplinks) (places_from uplinks sessions dev_eui band from to)
      → IsByStart (in_band band (uplinks_from uplinks sessions dev_eui from to)) spans
  uplinks_listed spans is =
      by_start_from (in_band band (uplinks_from uplinks sessions dev_eui from to)) spans
      (is ∙ ap (filter_map (uplink_span_at uplinks)) (sym (all_kept (places_from uplinks sessions dev_eui band from to)))
      ∙ told_in_order started (is_sent_from sessions dev_eui band from to) (λ (a : Interval). a.start) own_span own_start (λ s. true) uplinks
      ∙ ap (in_order (λ (a : Interval). a.start)) (spans_sent uplinks))
