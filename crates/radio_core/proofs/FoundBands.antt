-- The band that is found is the one that a transmission lies in.
use Rattle.std.proofs.Common.{◌≡◌, ℕ, ◌+◌, ◌<◌, ◌≤◌, List, [], ◌∷◌, ◌++◌, Some, None, Bool, true, false, cond, refl, ◌∙◌, ap, subst, arith}
use Rattle.std.specs.Prelude.{IsTrue, find, nat_le}
use Rattle.std.proofs.lemmas.Bool.{and_parts, leb-true, cond-true}
use Rattle.std.proofs.lemmas.Option.{same_Some}
use Rattle.radio_core.specs.declared.bands.Band.{Band}
use Rattle.radio_core.specs.declared.bands.Band.TheVariants.{B1, B2, B3, B4, B5, B6}
use Rattle.radio_core.specs.declared.data_rates.DataRate.{DataRate}
use Rattle.radio_core.specs.declared.data_rates.DataRate.TheVariants.{Dr6}
use Rattle.radio_core.specs.Bands.{band_from, band_to, lies_in, band_at, bands, BandIsFound, BandsAreApart}
use Rattle.radio_core.specs.DataRates.{half_width}

pub bands_are_apart : BandsAreApart
bands_are_apart freq B1 B1 a b c d = refl
bands_are_apart freq B2 B2 a b c d = refl
bands_are_apart freq B3 B3 a b c d = refl
bands_are_apart freq B4 B4 a b c d = refl
bands_are_apart freq B5 B5 a b c d = refl
bands_are_apart freq B6 B6 a b c d = refl
bands_are_apart freq one other a b c d = absurd (omega (arith, a, b, c, d))

some_width : (dr : DataRate) → 0 < half_width dr
some_width Dr6 = omega arith
some_width dr = omega arith

-- no transmission lies in two bands
one_band : (freq : ℕ) (dr : DataRate) (one other : Band) → IsTrue (lies_in freq dr one) → IsTrue (lies_in freq dr other) → one ≡ other
one_band freq dr one other h k = bands_are_apart freq one other (omega (arith, of_one)) (omega (arith, of_one, width)) (omega (arith, of_other)) (omega (arith, of_other, width))
  where
    edges : (band : Band) → IsTrue (lies_in freq dr band) → (band_from band + half_width dr ≤ freq) × (freq + half_width dr ≤ band_to band)
    edges band i = let parts : (nat_le (band_from band + half_width dr) freq ≡ true) × (nat_le (freq + half_width dr) (band_to band) ≡ true) = and_parts _ _ i in (leb-true _ _ parts.0, leb-true _ _ parts.1)

    of_one : (band_from one + half_width dr ≤ freq) × (freq + half_width dr ≤ band_to one)
    of_one = edges one h

    of_other : (band_from other + half_width dr ≤ freq) × (freq + half_width dr ≤ band_to other)
    of_other = edges other k

    width : 0 < half_width dr
    width = some_width dr

find_passes : (p : Band → Bool) (xs : List Band) (band : Band) → find p xs ≡ Some band → p band ≡ true
find_passes p [] band e = absurd (let k : None ≡ Some band = e in cc)
find_passes p (x ∷ xs) band e = by_head (p x) refl e (find_passes p xs band)
  where
    by_head : (b : Bool) → p x ≡ b → cond b (Some x) (find p xs) ≡ Some band → (find p xs ≡ Some band → p band ≡ true) → p band ≡ true
    by_head true passes e later = subst (λ (y : Band). p y ≡ true) (same_Some x band e) passes
    by_head false fails e later = later e

-- one is found, where one among the list passes
find_among : (p : Band → Bool) (before after : List Band) (x : Band) → p x ≡ true → (y : Band) × (find p (before ++ x ∷ after) ≡ Some y)
find_among p [] after x passes = (x, cond-true (p x) (Some x) (find p after) passes)
find_among p (b ∷ before) after x passes = by_head (p b) (find_among p before after x passes)
  where
    by_head : (t : Bool) → (y : Band) × (find p (before ++ x ∷ after) ≡ Some y) → (y : Band) × (cond t (Some b) (find p (before ++ x ∷ after)) ≡ Some y)
    by_head true later = (b, refl)
    by_head false later = later

finds : (p : Band → Bool) (band : Band) → p band ≡ true → (y : Band) × (find p bands ≡ Some y)
finds p B1 = find_among p [] (B2 ∷ B3 ∷ B4 ∷ B5 ∷ B6 ∷ []) B1
finds p B2 = find_among p (B1 ∷ []) (B3 ∷ B4 ∷ B5 ∷ B6 ∷ []) B2
finds p B3 = find_among p (B1 ∷ B2 ∷ []) (B4 ∷ B5 ∷ B6 ∷ []) B3
finds p B4 = find_among p (B1 ∷ B2 ∷ B3 ∷ []) (B5 ∷ B6 ∷ []) B4
finds p B5 = find_among p (B1 ∷ B2 ∷ B3 ∷ B4 ∷ []) (B6 ∷ []) B5
finds p B6 = find_among p (B1 ∷ B2 ∷ B3 ∷ B4 ∷ B5 ∷ []) [] B6

pub band_is_found : BandIsFound
unfolding band_at
band_is_found freq dr band = (find_passes (lies_in freq dr) bands band, lies)
  where
    lies : IsTrue (lies_in freq dr band) → find (lies_in freq dr) bands ≡ Some band
    lies h =
        let found : (y : Band) × (find (lies_in freq dr) bands ≡ Some y) = finds (lies_in freq dr) band h in
        let same : found.0 ≡ band = one_band freq dr found.0 band (find_passes (lies_in freq dr) bands found.0 found.1) h in
        found.1 ∙ ap (λ (y : Band). Some y) same
