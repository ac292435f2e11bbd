-- A map with one more key is the look-up with one more fact, and a value that is written is its fact changed.
use Rattle.std.proofs.Common.{◌≡◌, ℕ, Bool, true, false, List, Option, None, Some, cond, refl, ◌∙◌, ap}
use Rattle.std.specs.Prelude.{◌==◌, ◌&&◌, bytes_eq, nat_eq}
use Rattle.std.specs.Cmp.{nat_eq_equiv}
use Rattle.std.specs.Cmp.Lexicographic.{nat_list_eq_equiv}
use Rattle.std.proofs.lemmas.Bool.{eqb-true, eq-eqb}
use Rattle.std.proofs.lemmas.Slice.Eq.{bytes_eq-Decides}
use Rattle.indexmap.specs.IndexMap.{IndexMap, Updates, get}
use Rattle.radio_core.specs.Bands.{band_number}
use Rattle.registry_core.specs.declared.facts.Reception.{Reception}
use Rattle.registry_core.specs.Limits.{Limit}
use Rattle.registry_core.specs.State.{at_name, at_number, limits_with, receptions_with}
use Rattle.desk_store.specs.Facts.{limits_of, receptions_of, same_key}

-- functions with one value at each argument are one
at_each : {X Y : Type 0} {f g : X → Y} → ((x : X) → f x ≡ g x) → f ≡ g
at_each h = λ i x. h x i

reception_key : (receptions : ℕ → List ℕ → Option Reception) (number : ℕ) (gateway : List ℕ) (reception : Reception) (n : ℕ) (at : List ℕ) (b : Bool) → (n == number) ≡ b
    → cond (nat_eq number n && bytes_eq gateway at) (Some reception) (receptions n at) ≡ receptions_with receptions number gateway reception n at
reception_key receptions number gateway reception n at true is = rw (eqb-true n number is, eq-eqb number number refl)
    (ap (λ b. cond b (Some reception) (receptions number at)) (nat_list_eq_equiv.symm gateway at))
reception_key receptions number gateway reception n at false is = rw (nat_eq_equiv.symm number n, is) refl

limit_key : (limits : List ℕ → ℕ → Option ℕ) (gateway : List ℕ) (limit : Limit) (at : List ℕ) (n : ℕ) (named same : Bool) → bytes_eq at gateway ≡ named → (n == band_number limit.band) ≡ same
    → cond (nat_eq (band_number limit.band) n && bytes_eq gateway at) (Some limit.most) (limits at n) ≡ limits_with limits gateway limit at n
limit_key limits gateway limit at n true true is by = rw (nat_eq_equiv.symm (band_number limit.band) n, nat_list_eq_equiv.symm gateway at, is, by) refl
limit_key limits gateway limit at n true false is by = rw (nat_eq_equiv.symm (band_number limit.band) n, is, by) (ap (λ name. limits name n) ((bytes_eq-Decides at gateway).0 is))
limit_key limits gateway limit at n false true is by = rw (nat_eq_equiv.symm (band_number limit.band) n, nat_list_eq_equiv.symm gateway at, is, by) refl
limit_key limits gateway limit at n false false is by = rw (nat_eq_equiv.symm (band_number limit.band) n, is, by) refl

module _ {S : Type 0} where
  pub at_name-updated : {X : Type 0} (old new : IndexMap (List ℕ) X S) (name : List ℕ) (x : X) → Updates bytes_eq old new name (Some x)
      → get bytes_eq new ≡ at_name (get bytes_eq old) name (Some x)
  at_name-updated old new name x updates = at_each (λ other. updates.0 other ∙ ap (λ b. cond b (Some x) (get bytes_eq old other)) (nat_list_eq_equiv.symm name other))

  -- a map with its first key
  pub one_name : {X : Type 0} (old new : IndexMap (List ℕ) X S) (name : List ℕ) (x : X) → ((other : List ℕ) → get bytes_eq old other ≡ None) → Updates bytes_eq old new name (Some x)
      → get bytes_eq new ≡ at_name (λ _. None) name (Some x)
  one_name old new name x empty updates = at_name-updated old new name x updates ∙ (λ i. at_name (λ other. empty other i) name (Some x))

  pub at_number-updated : {X : Type 0} (old new : IndexMap ℕ X S) (number : ℕ) (x : X) → Updates nat_eq old new number (Some x)
      → get nat_eq new ≡ at_number (get nat_eq old) number (Some x)
  at_number-updated old new number x updates = at_each (λ other. updates.0 other ∙ ap (λ b. cond b (Some x) (get nat_eq old other)) (nat_eq_equiv.symm number other))

  pub receptions_with-updated : (old new : IndexMap (ℕ × List ℕ) Reception S) (number : ℕ) (gateway : List ℕ) (reception : Reception)
      → Updates same_key old new (number, gateway) (Some reception)
      → receptions_of new ≡ receptions_with (receptions_of old) number gateway reception
  receptions_with-updated old new number gateway reception updates = at_each (λ n. at_each (λ at.
      updates.0 (n, at) ∙ reception_key (receptions_of old) number gateway reception n at (n == number) refl))

  pub limits_with-updated : (old new : IndexMap (ℕ × List ℕ) ℕ S) (gateway : List ℕ) (limit : Limit) → Updates same_key old new (band_number limit.band, gateway) (Some limit.most)
      → limits_of new ≡ limits_with (limits_of old) gateway limit
  limits_with-updated old new gateway limit updates = at_each (λ at. at_each (λ n.
      updates.0 (n, at) ∙ limit_key (limits_of old) gateway limit at n (bytes_eq at gateway) (n == band_number limit.band) refl refl))
