-- The receptions of uplinks in turn are a device's receptions in order; and reports on the same month.
use Rattle.std.proofs.Common.{◌≡◌, ◌∙◌, ℕ, Bool, true, false, List, [], ◌∷◌, ◌++◌, Some, ap, refl, sym, subst, length, get_or, take, arith}
use Rattle.std.specs.Prelude.{ℤ, ◌+◌, ◌<◌, ◌==◌, ◌&&◌, ◌||◌, bytes_eq, IfSome}
use Rattle.std.specs.declared.cmp.Ordering.{Ordering}
use Rattle.std.specs.declared.cmp.Ordering.TheVariants.{Less, Equal}
use Rattle.std.specs.Cmp.Lexicographic.{slice_cmp}
use Rattle.std.specs.List.{AllByRecursion, list_any}
use Rattle.std.specs.List.Sorted.{IsStrictlySortedBy}
use Rattle.std.specs.Ordering.{int_cmp, nat_cmp, ordering_then}
use Rattle.std.proofs.lemmas.Bool.{eqb-true}
use Rattle.std.proofs.lemmas.Int.{ints}
use Rattle.std.proofs.lemmas.List.{append-nil, append_assoc, take_more}
use Rattle.std.proofs.lemmas.List.Folds.{list_any-append}
use Rattle.registry_core.specs.Listing.{AreNames, AreReceptionsFrom, AreUplinksFrom, has_reception, reception_cmp, start_at, start_cmp, uplink_start}
use Rattle.registry_core.specs.State.{State}
use Rattle.desk_wire.specs.Hexadecimal.{eui_of_digits}
use Rattle.desk_engine.specs.MonthReports.{IsDownlinkReport, IsReceptionReport, IsReceptionReportOf, line_of_reception, receptions_header}
use Rattle.desk_engine.specs.Listing.{table_text}
use Rattle.desk_engine.specs.steps.MonthReports.{AreReceptionsOf, at_gateways}

-- ---- one uplink more

one_more : (s : State) (numbers : List ℕ) (number : ℕ) (gateways : List (List ℕ)) (receptions : List (ℕ × List ℕ)) → AreReceptionsOf s numbers receptions
    → AreNames (has_reception s number) gateways → AreReceptionsOf s (numbers ++ number ∷ []) (receptions ++ at_gateways number gateways)
one_more s [] number gateways receptions none are =
    (gateways, [], are, refl, ap (λ l. l ++ at_gateways number gateways) none ∙ sym (append-nil (at_gateways number gateways)))
one_more s (n ∷ ns) number gateways receptions has are = (
  has.0,
  has.1 ++ at_gateways number gateways,
  has.2,
  one_more s ns number gateways has.1 has.3 are,
  ap (λ l. l ++ at_gateways number gateways) has.4 ∙ append_assoc (at_gateways n has.0) has.1 (at_gateways number gateways),
)

pub receptions_more : (s : State) (numbers : List ℕ) (i : ℕ) (gateways shown : List (List ℕ)) (receptions new : List (ℕ × List ℕ)) → i < length numbers
    → AreReceptionsOf s (take i numbers) receptions → AreNames (has_reception s (get_or numbers i 0)) gateways → shown ≡ gateways
    → new ≡ receptions ++ at_gateways (get_or numbers i 0) shown → AreReceptionsOf s (take (i + 1) numbers) new
receptions_more s numbers i gateways shown receptions new within has are same added =
    let number : ℕ = get_or numbers i 0 in
    subst (λ ns. AreReceptionsOf s ns new) (sym (take_more numbers i 0 within))
    (subst (AreReceptionsOf s (take i numbers ++ number ∷ [])) (sym (added ∙ ap (λ gs. receptions ++ at_gateways number gs) same)) (one_more s (take i numbers) number gateways receptions has are))

-- ---- in which order

-- an uplink starts with itself
own_start : (x : ℤ) → int_cmp x x ≡ Equal
own_start x = grind (arith, ints)

own_number : (n : ℕ) → nat_cmp n n ≡ Equal
own_number n = grind arith

module _ (s : State) where
  abbrev by_start : ℕ → ℕ → Ordering
  by_start = start_cmp uplink_start s.uplinks

  same_uplink : (n : ℕ) → by_start n n ≡ Equal
  same_uplink n = (λ i. ordering_then (own_start (start_at uplink_start s.uplinks n) i) (nat_cmp n n)) ∙ own_number n

  -- what is true of each of the numbers is true of each of their receptions
  of_each : (P : ℕ → Type 0) (numbers : List ℕ) (receptions : List (ℕ × List ℕ)) → AllByRecursion P numbers → AreReceptionsOf s numbers receptions
      → AllByRecursion (λ (r : ℕ × List ℕ). P r.0) receptions
  of_each P [] receptions all none = subst (AllByRecursion (λ (r : ℕ × List ℕ). P r.0)) (sym none) tt
  of_each P (n ∷ ns) receptions all has = subst (AllByRecursion (λ (r : ℕ × List ℕ). P r.0)) (sym has.4) (front has.0 (of_each P ns has.1 all.1 has.3))
    where
      front : (gateways : List (List ℕ)) → AllByRecursion (λ (r : ℕ × List ℕ). P r.0) has.1 → AllByRecursion (λ (r : ℕ × List ℕ). P r.0) (at_gateways n gateways ++ has.1)
      front [] rest = rest
      front (g ∷ gs) rest = (all.0, front gs rest)

  -- a reception at a later gateway, or of a later uplink, comes after
  after_first : (n : ℕ) (g : List ℕ) (gs : List (List ℕ)) (rest : List (ℕ × List ℕ)) → AllByRecursion (λ h. slice_cmp nat_cmp g h ≡ Less) gs
      → AllByRecursion (λ (r : ℕ × List ℕ). by_start n r.0 ≡ Less) rest → AllByRecursion (λ r. reception_cmp s (n, g) r ≡ Less) (at_gateways n gs ++ rest)
  after_first n g [] [] above later = tt
  after_first n g [] (r ∷ rs) above later = (ap (λ o. ordering_then o (slice_cmp nat_cmp g r.1)) later.0, after_first n g [] rs above later.1)
  after_first n g (h ∷ hs) rest above later = (ap (λ o. ordering_then o (slice_cmp nat_cmp g h)) (same_uplink n) ∙ above.0, after_first n g hs rest above.1 later)

  rising_front : (n : ℕ) (gs : List (List ℕ)) (rest : List (ℕ × List ℕ)) → IsStrictlySortedBy (slice_cmp nat_cmp) gs
      → AllByRecursion (λ (r : ℕ × List ℕ). by_start n r.0 ≡ Less) rest → IsStrictlySortedBy (reception_cmp s) rest → IsStrictlySortedBy (reception_cmp s) (at_gateways n gs ++ rest)
  unfolding IsStrictlySortedBy
  rising_front n [] rest sorted later rising = rising
  rising_front n (g ∷ gs) rest sorted later rising = (after_first n g gs rest sorted.0 later, rising_front n gs rest sorted.1 later rising)

  rising_all : (numbers : List ℕ) (receptions : List (ℕ × List ℕ)) → IsStrictlySortedBy by_start numbers → AreReceptionsOf s numbers receptions
      → IsStrictlySortedBy (reception_cmp s) receptions
  unfolding IsStrictlySortedBy
  rising_all [] receptions sorted none = subst (IsStrictlySortedBy (reception_cmp s)) (sym none) tt
  rising_all (n ∷ ns) receptions sorted has =
      subst (IsStrictlySortedBy (reception_cmp s)) (sym has.4)
      (rising_front n has.0 has.1 has.2.rising (of_each (λ m. by_start n m ≡ Less) ns has.1 sorted.0 has.3) (rising_all ns has.1 sorted.1 has.3))

  -- ---- which there are

  module _ (number : ℕ) (gateway : List ℕ) where
    abbrev this : ℕ × List ℕ → Bool
    this other = other.0 == number && bytes_eq other.1 gateway

    here_by : (n : ℕ) (gateways : List (List ℕ)) (b : Bool) → (n == number) ≡ b
        → list_any this (at_gateways n gateways) ≡ (b && list_any (λ other. bytes_eq other gateway) gateways)
    here_by n [] true is = refl
    here_by n [] false is = refl
    here_by n (g ∷ gs) true is = (λ i. (is i && bytes_eq g gateway) || here_by n gs true is i)
    here_by n (g ∷ gs) false is = (λ i. (is i && bytes_eq g gateway) || here_by n gs false is i)

    joined : (n : ℕ) (b any : Bool) → (n == number) ≡ b
        → ((b && has_reception s n gateway) || (any && has_reception s number gateway)) ≡ ((b || any) && has_reception s number gateway)
    joined n true true is = let same : n ≡ number = eqb-true n number is in rw same (twice (has_reception s number gateway))
      where
        twice : (h : Bool) → (h || h) ≡ h
        twice true = refl
        twice false = refl
    joined n true false is = let same : n ≡ number = eqb-true n number is in rw same (alone (has_reception s number gateway))
      where
        alone : (h : Bool) → (h || false) ≡ h
        alone true = refl
        alone false = refl
    joined n false any is = refl

    each_all : (numbers : List ℕ) (receptions : List (ℕ × List ℕ)) → AreReceptionsOf s numbers receptions
        → list_any this receptions ≡ (list_any (λ other. other == number) numbers && has_reception s number gateway)
    each_all [] receptions none = ap (list_any this) none
    each_all (n ∷ ns) receptions has =
        ap (list_any this) has.4 ∙ list_any-append this (at_gateways n has.0) has.1
        ∙ (λ i. (here_by n has.0 (n == number) refl ∙ ap (λ h. n == number && h) (has.2.each gateway)) i || each_all ns has.1 has.3 i)
        ∙ joined n (n == number) (list_any (λ other. other == number) ns) refl

-- the receptions of a device's uplinks from one moment to another
receptions_are : (s : State) (device : ℕ) (from to : ℤ) (uplinks : List ℕ) (receptions : List (ℕ × List ℕ)) → AreUplinksFrom s device from to uplinks → AreReceptionsOf s uplinks receptions
    → AreReceptionsFrom s device from to receptions
receptions_are s device from to uplinks receptions are has = record {
  rising = rising_all s uplinks receptions are.rising has;
  each = λ number gateway. each_all s number gateway uplinks receptions has ∙ ap (λ b. b && has_reception s number gateway) (are.each number);
}

pub receptions_reported : (s : State) (device : ℕ) (from to : ℤ) (uplinks asked : List ℕ) (receptions shown : List (ℕ × List ℕ)) (text : List ℕ) → AreUplinksFrom s device from to uplinks
    → asked ≡ uplinks → AreReceptionsOf s asked receptions → shown ≡ receptions → text ≡ table_text receptions_header (line_of_reception s) shown → IsReceptionReport s device from to text
receptions_reported s device from to uplinks asked receptions shown text are asked_is has shown_is is = record {
  receptions = receptions;
  receptions_are = receptions_are s device from to uplinks receptions are (subst (λ ns. AreReceptionsOf s ns receptions) asked_is has);
  text_is = is ∙ ap (table_text receptions_header (line_of_reception s)) shown_is;
}

pub receptions_of_named : (s : State) (dev_eui : List ℕ) (device : ℕ) (from since to until : ℤ) (text : List ℕ) → Some device ≡ eui_of_digits dev_eui → from ≡ since → to ≡ until
    → IsReceptionReport s device from to text → IsReceptionReportOf s dev_eui since until text
receptions_of_named s dev_eui device from since to until text named begins ends report =
    subst (λ found. IfSome found (λ n. IsReceptionReport s n since until text)) named
    (subst (λ x. IsReceptionReport s device since x text) ends (subst (λ x. IsReceptionReport s device x to text) begins report))

-- ---- a gateway's downlinks

pub same_downlinks : (s : State) (a b : List ℕ) (from since to until : ℤ) (text : List ℕ) → a ≡ b → from ≡ since → to ≡ until
    → IsDownlinkReport s a from to text → IsDownlinkReport s b since until text
same_downlinks s a b from since to until text names begins ends report =
    subst (λ x. IsDownlinkReport s x since until text) names (subst (λ x. IsDownlinkReport s a since x text) ends (subst (λ x. IsDownlinkReport s a x to text) begins report))
