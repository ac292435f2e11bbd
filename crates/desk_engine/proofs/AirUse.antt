-- The use of the air: in any order, in one way, and each uplink in one band.
use Rattle.std.proofs.Common.{◌≡◌, ◌∙◌, ◌+◌, ℕ, List, [], ◌∷◌, ◌++◌, cond, ap, refl, sym, length, arith}
use Rattle.std.specs.Prelude.{◌==◌, ℤ, codes, sum_by, IsPermutation}
use Rattle.std.specs.Fmt.{decimal}
use Rattle.std.specs.List.{flat_map}
use Rattle.std.proofs.lemmas.Grind.{flat_map-append}
use Rattle.std.proofs.lemmas.List.{append-nil, append_assoc}
use Rattle.std.proofs.lemmas.List.Sorted.{length_permutation, sum_by-IsPermutation}
use Rattle.std.proofs.lemmas.List.Sums.{sum_by_push}
use Rattle.radio_core.specs.declared.bands.Band.{Band}
use Rattle.radio_core.specs.declared.bands.Band.TheVariants.{B1, B2, B3, B4, B5, B6}
use Rattle.radio_core.specs.Bands.{band_number, bands}
use Rattle.duty_core.specs.Computed.{peak_of}
use Rattle.duty_core.specs.Laws.{PeakIgnoresOrder, PeakIsComputed, PeakIsUnique}
use Rattle.duty_core.specs.Use.{Interval}
use Rattle.registry_core.specs.declared.facts.Uplink.{Uplink}
use Rattle.registry_core.specs.Reports.{IsUse, Use, in_band, is_in_band, uplinks_from}
use Rattle.registry_core.specs.State.{State}
use Rattle.desk_engine.specs.declared.uses.Use.{Use as CountedUse}
use Rattle.desk_wire.specs.Hexadecimal.{eui_digits}
use Rattle.desk_engine.specs.Reports.{band_columns, band_line, device_use_line}
use Rattle.desk_engine.specs.Lines.{line_feed}
use Rattle.desk_engine.specs.steps.Uses.{HasColumns, owner_report_line, use_shown, use_computed}

-- ---- the use of intervals

same_use : (a b : Use) → a.count ≡ b.count → a.airtime ≡ b.airtime → a.peak ≡ b.peak → a ≡ b
same_use a b count airtime peak = λ i. record { count = count i; airtime = airtime i; peak = peak i }

pub use_ignores_order : PeakIsUnique → PeakIsComputed → PeakIgnoresOrder → (l k : List Interval) → IsPermutation l k → use_computed k ≡ use_computed l
use_ignores_order unique computed order l k moved =
    same_use (use_computed k) (use_computed l) (length_permutation l k moved) (sum_by-IsPermutation (λ a. a.len) l k moved)
    (unique l (peak_of k) (peak_of l) ((order l k (peak_of k) moved).0 (computed k)) (computed l))

pub is_use : PeakIsComputed → (l : List Interval) → IsUse l (use_computed l)
is_use computed l = record { count = refl; airtime = refl; peak = computed l }

pub use_is_one : PeakIsUnique → (l : List Interval) (a b : Use) → IsUse l a → IsUse l b → a ≡ b
use_is_one unique l a b is_a is_b = same_use a b (is_a.count ∙ sym is_b.count) (is_a.airtime ∙ sym is_b.airtime) (unique l a.peak b.peak is_a.peak is_b.peak)

-- ---- the bands of uplinks

count_in : ℕ → Band → ℕ
count_in n band = cond (n == band_number band) 1 0

one_band : (band : Band) → sum_by (λ other. cond (band_number band == band_number other) 1 0) bands ≡ 1
one_band B1 = refl
one_band B2 = refl
one_band B3 = refl
one_band B4 = refl
one_band B5 = refl
one_band B6 = refl

in_band-cons : (band : Band) (u : Uplink) (us : List Uplink) → length (in_band band (u ∷ us)) ≡ cond (is_in_band band u) 1 0 + length (in_band band us)
in_band-cons band u us = grind (arith)

-- each uplink is booked in one band
pub in_some_band : (us : List Uplink) → sum_by (λ band. length (in_band band us)) bands ≡ length us
in_some_band [] = refl
in_some_band (u ∷ us) =
    let one = one_band u.band in
    let rest = in_some_band us in
    rw (in_band-cons B1 u us, in_band-cons B2 u us, in_band-cons B3 u us, in_band-cons B4 u us, in_band-cons B5 u us, in_band-cons B6 u us) (omega (arith, one, rest))

-- ---- columns

pub no_columns : (sent : List Uplink) → HasColumns sent [] 0 []
no_columns sent = record { count = refl; text = refl }

pub flat_push : {X : Type 0} (f : X → List ℕ) (xs : List X) (x : X) → flat_map f (xs ++ x ∷ []) ≡ flat_map f xs ++ f x
flat_push f xs x = flat_map-append f xs (x ∷ []) ∙ ap (λ l. flat_map f xs ++ l) (append-nil (f x))

more_columns : (sent : List Uplink) (done : List Band) (uplinks : ℕ) (columns pair : List ℕ) (band : Band) (used : CountedUse) → HasColumns sent done uplinks columns
    → use_shown used ≡ use_computed (in_band band sent) → pair ≡ band_columns (use_shown used) → HasColumns sent (done ++ band ∷ []) (uplinks + used.count) (columns ++ pair)
more_columns sent done uplinks columns pair band used has told shown =
    let count : used.count ≡ length (in_band band sent) = ap (λ (u : Use). u.count) told in
    let column : pair ≡ band_columns (use_computed (in_band band sent)) = shown ∙ ap band_columns told in
    let f : Band → List ℕ = λ band. band_columns (use_computed (in_band band sent)) in
    let n : Band → ℕ = λ band. length (in_band band sent) in
    record {
      count = ap (λ k. uplinks + k) count ∙ ap (λ k. k + n band) has.count ∙ sym (sum_by_push n done band);
      text = ap (λ l. columns ++ l) column ∙ ap (λ l. l ++ f band) has.text ∙ sym (flat_push f done band);
    }

-- a band more of a text
pub more_bands : (header : List ℕ) (f : Band → List ℕ) (done : List Band) (band : Band) (text new line : List ℕ) → text ≡ header ++ flat_map f done → new ≡ text ++ line → line ≡ f band
    → new ≡ header ++ flat_map f (done ++ band ∷ [])
more_bands header f done band text new line is added told =
    added ∙ ap (λ l. text ++ l) told ∙ ap (λ l. l ++ f band) is ∙ append_assoc header (flat_map f done) (f band) ∙ ap (λ l. header ++ l) (sym (flat_push f done band))

pub device_line_is : (s : State) (from to : ℤ) (device : ℕ) (digits columns shown line : List ℕ) (uplinks : ℕ) → HasColumns (uplinks_from s.uplinks s.sessions device from to) bands uplinks columns
    → digits ≡ eui_digits device → shown ≡ columns → line ≡ digits ++ (codes "," ++ (decimal uplinks ++ (shown ++ line_feed ∷ []))) → line ≡ owner_report_line s from to device
unfolding owner_report_line device_use_line
device_line_is s from to device digits columns shown line uplinks has digits_are shown_are is =
    let sent = uplinks_from s.uplinks s.sessions device from to in
    let f : List ℕ → ℕ → List ℕ → List ℕ = λ d n c. d ++ (codes "," ++ (decimal n ++ (c ++ line_feed ∷ []))) in
    is ∙ ap (λ d. f d uplinks shown) digits_are ∙ ap (λ n. f (eui_digits device) n shown) (has.count ∙ in_some_band sent)
    ∙ ap (λ c. f (eui_digits device) (length sent) c) (shown_are ∙ has.text)

pub band_line_is : (band : Band) (limit standing : ℕ) (used : CountedUse) (told : Use) (columns shown line : List ℕ) → limit ≡ standing → use_shown used ≡ told → columns ≡ band_columns (use_shown used) → shown ≡ columns
    → line ≡ codes "B" ++ (decimal (band_number band) ++ (codes "," ++ (decimal limit ++ (codes "," ++ (decimal used.count ++ (shown ++ line_feed ∷ []))))))
    → line ≡ band_line band standing told
unfolding band_line
band_line_is band limit standing used told columns shown line stands is columns_are shown_are written =
    let with_limit : ℕ → List ℕ = λ most. codes "B" ++ (decimal (band_number band) ++ (codes "," ++ (decimal most ++ (codes "," ++ (decimal used.count ++ (shown ++ line_feed ∷ [])))))) in
    let f : ℕ → List ℕ → List ℕ = λ n c. codes "B" ++ (decimal (band_number band) ++ (codes "," ++ (decimal standing ++ (codes "," ++ (decimal n ++ (c ++ line_feed ∷ [])))))) in
    written ∙ ap with_limit stands ∙ ap (λ n. f n shown) (ap (λ (u : Use). u.count) is) ∙ ap (λ c. f told.count c) (shown_are ∙ columns_are ∙ ap band_columns is)

pub columns_on : (sent : List Uplink) (done all : List Band) (uplinks n : ℕ) (columns pair shown new : List ℕ) (band : Band) (used : CountedUse) → HasColumns sent done uplinks columns
    → use_shown used ≡ use_computed (in_band band sent) → pair ≡ band_columns (use_shown used) → shown ≡ pair → all ≡ done ++ band ∷ [] → n ≡ used.count → new ≡ columns ++ shown
    → HasColumns sent all (uplinks + n) new
columns_on sent done all uplinks n columns pair shown new band used has told pair_is shown_is all_is n_is new_is =
    rw (all_is, n_is, new_is, shown_is) (more_columns sent done uplinks columns pair band used has told pair_is)
