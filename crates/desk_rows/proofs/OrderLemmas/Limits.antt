-- The limits of gateways' bands, once one is set: what is found, and that no two rows have one key.
use Rattle.std.proofs.Common.{◌≡◌, ℕ, ◌≤◌, ◌+◌, ◌==◌, ◌&&◌, Bool, true, false, cond, List, [], ◌∷◌, ◌++◌, map, find, length, length-append, Option, Some, None, option_map, is_some, refl, sym, ap, ap₂, subst, ◌∙◌, arith, eqb-true, true≢false}
use Rattle.std.specs.Prelude.{bytes_eq}
use Rattle.std.specs.List.{IsDistinct}
use Rattle.std.specs.Cmp.{nat_eq_equiv}
use Rattle.std.specs.Cmp.Lexicographic.{nat_list_eq_equiv}
use Rattle.std.proofs.lemmas.Bool.{and_parts, eq-eqb}
use Rattle.std.proofs.lemmas.List.{length-map, map-append}
use Rattle.std.proofs.lemmas.Slice.Eq.{bytes_eq-Decides}
use Rattle.radio_core.specs.Bands.{band_number}
use Rattle.registry_core.specs.Limits.{Limit}
use Rattle.registry_core.specs.State.{limits_with}
use Rattle.sqlite_keyed.specs.Lists.{update_where}
use Rattle.sqlite_keyed.proofs.SliceLemmas.{any_is_found}
use Rattle.desk_rows.specs.Rows.{LimitRow, is_limit}
use Rattle.desk_rows.specs.order.Changes.{has_limit, limit_row, limited, limits_set}
use Rattle.desk_rows.specs.order.Facts.{limit_found}
use Rattle.desk_rows.specs.order.RowsOf.{limit_key, same_band}
use Rattle.desk_rows.proofs.OrderLemmas.Each.{all_map, distinct_with, none_of}
use Rattle.desk_rows.proofs.OrderLemmas.Finding.{find-map, found_passes, key_by, keys_changed, shown_with}

-- ---- keys: a gateway and the number of a band

pub same_other_way : (a b : List ℕ × ℕ) → same_band a b ≡ same_band b a
same_other_way a b = ap₂ (λ s t. s && t) (nat_list_eq_equiv.symm a.0 b.0) (nat_eq_equiv.symm a.1 b.1)

pub key_is : (a b : List ℕ × ℕ) → same_band a b ≡ true → a ≡ b
key_is a b same =
    let parts = and_parts (bytes_eq a.0 b.0) (a.1 == b.1) same in
    λ i. ((bytes_eq-Decides a.0 b.0).0 parts.0 i, eqb-true a.1 b.1 parts.1 i)

same_itself : (a : List ℕ × ℕ) → same_band a a ≡ true
same_itself a = ap₂ (λ s t. s && t) ((bytes_eq-Decides a.0 a.0).1 refl) (eq-eqb a.1 a.1 refl)

none_there : {X : Type 0} (o : Option X) → is_some o ≡ false → o ≡ None
none_there None none = refl
none_there (Some x) none = absurd (true≢false none)

-- ---- a limit is set

module _ (limits : List LimitRow) (gateway : List ℕ) (limit : Limit) where
  abbrev number : ℕ
  number = band_number limit.band

  abbrev key : List ℕ × ℕ
  key = (gateway, number)

  abbrev test : LimitRow → Bool
  test = is_limit gateway number

  -- what is found of a band: the limit that is set, where it is set for it, and else what was found before
  abbrev IsSetIn : (List ℕ → ℕ → Option ℕ) → Type 0
  IsSetIn found = (at : List ℕ) (band : ℕ) → found at band ≡ cond (same_band (at, band) key) (Some limit.most) (limit_found limits at band)

  facts_by : (at : List ℕ) (band : ℕ) (b : Bool) → bytes_eq at gateway ≡ b
      → limits_with (limit_found limits) gateway limit at band ≡ cond (same_band (at, band) key) (Some limit.most) (limit_found limits at band)
  facts_by at band true is =
      rw is (ap (λ g. cond (band == number) (Some limit.most) (limit_found limits g band)) (sym ((bytes_eq-Decides at gateway).0 is)))
  facts_by at band false is = rw is refl

  row_added : has_limit gateway number limits ≡ false → IsSetIn (limit_found (limits ++ limit_row gateway limit ∷ []))
  row_added none at band =
      shown_with (λ (l : LimitRow). l.limit.most) (is_limit at band) limits (limit_row gateway limit)
      (λ same. subst (λ (k : List ℕ × ℕ). find (is_limit k.0 k.1) limits ≡ None) (key_is key (at, band) same)
      (none_there _ (sym (any_is_found test limits) ∙ none)))
      ∙ ap (λ b. cond b (Some limit.most) (limit_found limits at band)) (same_other_way key (at, band))

  abbrev changed : LimitRow → LimitRow
  changed l = cond (test l) (limited limit.most l) l

  shown_by : (l : LimitRow) (b : Bool) → Some (cond b (limited limit.most l) l).limit.most ≡ cond b (Some limit.most) (Some l.limit.most)
  shown_by l true = refl
  shown_by l false = refl

  row_changed : has_limit gateway number limits ≡ true → IsSetIn (limit_found (update_where test (limited limit.most) limits))
  row_changed there at band =
      ap (option_map (λ (l : LimitRow). l.limit.most))
      (find-map (is_limit at band) changed (λ l. ap (λ k. same_band k (at, band)) (key_by limit_key test (limited limit.most) (λ l. refl) l (test l))) limits)
      ∙ go (find (is_limit at band) limits) refl
    where
      none_by : find (is_limit at band) limits ≡ None → (b : Bool) → same_band (at, band) key ≡ b → None ≡ cond b (Some limit.most) None
      none_by none false other = refl
      none_by none true same =
          let found : is_some (find test limits) ≡ true = sym (any_is_found test limits) ∙ there in
          let same_one : find test limits ≡ None =
          subst (λ (k : List ℕ × ℕ). find (is_limit k.0 k.1) limits ≡ None) (key_is (at, band) key same) none in
          absurd (true≢false (sym found ∙ ap is_some same_one))

      go : (found : Option LimitRow) → find (is_limit at band) limits ≡ found
          → option_map (λ (l : LimitRow). l.limit.most) (option_map changed found)
          ≡ cond (same_band (at, band) key) (Some limit.most) (option_map (λ (l : LimitRow). l.limit.most) found)
      go None none = none_by none (same_band (at, band) key) refl
      go (Some l) some =
          shown_by l (test l)
          ∙ ap (λ k. cond (same_band k key) (Some limit.most) (Some l.limit.most))
          (key_is (limit_key l) (at, band) (found_passes (is_limit at band) limits l some))

  abbrev after : Bool → List LimitRow
  after b = cond b (update_where test (limited limit.most) limits) (limits ++ limit_row gateway limit ∷ [])

  set_by : (b : Bool) → has_limit gateway number limits ≡ b → IsSetIn (limit_found (after b))
  set_by true there = row_changed there
  set_by false none = row_added none

  pub limit_with : (at : List ℕ) (band : ℕ)
      → limits_with (limit_found limits) gateway limit at band ≡ limit_found (limits_set gateway limit limits) at band
  limit_with at band = facts_by at band (bytes_eq at gateway) refl ∙ sym (set_by (has_limit gateway number limits) refl at band)

  -- the one that is set is found
  pub limit_stands : limit_found (limits_set gateway limit limits) gateway number ≡ Some limit.most
  limit_stands = set_by (has_limit gateway number limits) refl gateway number
      ∙ ap (λ b. cond b (Some limit.most) (limit_found limits gateway number)) (same_itself key)

  keyed_by : (b : Bool) → has_limit gateway number limits ≡ b → IsDistinct same_band (map limit_key limits)
      → IsDistinct same_band (map limit_key (after b))
  keyed_by true there apart = subst (IsDistinct same_band) (keys_changed limit_key test (limited limit.most) (λ l. refl) limits) apart
  keyed_by false none apart =
      subst (IsDistinct same_band) (sym (map-append limit_key limits (limit_row gateway limit ∷ [])))
      (distinct_with same_band (map limit_key limits) key apart
      (all_map (λ l. test l ≡ false) (λ k. same_band k key ≡ false) limit_key (λ l no. no) limits (none_of test limits none)))

  pub limits_keyed : IsDistinct same_band (map limit_key limits) → IsDistinct same_band (map limit_key (limits_set gateway limit limits))
  limits_keyed = keyed_by (has_limit gateway number limits) refl

  few_by : (b : Bool) → length (after b) ≤ length limits + 1
  few_by true = let same = length-map limits changed in omega (arith, same)
  few_by false = let more = length-append limits (limit_row gateway limit ∷ []) in omega (arith, more)

  -- as many as before, or one more
  pub limits_few : length (limits_set gateway limit limits) ≤ length limits + 1
  limits_few = few_by (has_limit gateway number limits)
