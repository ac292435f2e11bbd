-- One more reception of an uplink: what was there stays, what is met was there or is new, and two gateways' may come in either order.
use Rattle.std.proofs.Common.{◌≡◌, ◌≢◌, ℕ, List, Bool, true, false, Option, Some, refl, sym, ◌∙◌, subst, inl, inr}
use Rattle.std.specs.Prelude.{◌⊎◌, ◌==◌, bytes_eq}
use Rattle.std.proofs.lemmas.Bool.{both_ways, eq-eqb, eqb-true, false_from_ne_true}
use Rattle.std.proofs.lemmas.Option.{same_Some}
use Rattle.std.proofs.lemmas.Slice.Eq.{bytes_eq-Decides}
use Rattle.registry_core.specs.declared.facts.Reception.{Reception}
use Rattle.registry_core.specs.State.{at_name, receptions_with}

-- the uplink with the number has a reception at some gateway
abbrev pub HasReception : (ℕ → List ℕ → Option Reception) → ℕ → Type 0
HasReception receptions n = (gateway : List ℕ) × (reception : Reception) × (receptions n gateway ≡ Some reception)

-- what had a reception has one, and so does the number
pub reception_stays : (receptions : ℕ → List ℕ → Option Reception) (number : ℕ) (gateway : List ℕ) (reception : Reception) (n : ℕ) (b : Bool) → (n == number) ≡ b
    → HasReception receptions n ⊎ (n ≡ number) → HasReception (receptions_with receptions number gateway reception) n
reception_stays receptions number gateway reception n true is either = (gateway, reception, rw (is, (bytes_eq-Decides gateway gateway).1 refl) refl)
reception_stays receptions number gateway reception n false is (inl old) = (old.0, old.1, rw is old.2)
reception_stays receptions number gateway reception n false is (inr same) = absurd (both_ways (n == number) is (eq-eqb n number same))

-- a reception was there before, or is one of the number
pub reception_was : (receptions : ℕ → List ℕ → Option Reception) (number : ℕ) (gateway : List ℕ) (reception : Reception) (n : ℕ) (at : List ℕ) (r : Reception) (b : Bool) → (n == number) ≡ b
    → receptions_with receptions number gateway reception n at ≡ Some r → (receptions n at ≡ Some r) ⊎ (n ≡ number)
reception_was receptions number gateway reception n at r true is e = inr (eqb-true n number is)
reception_was receptions number gateway reception n at r false is e = inl (rw is at e)

-- where what is put at a name is met, it is that or what was there
put_was : (f : List ℕ → Option Reception) (gateway : List ℕ) (reception : Reception) (at : List ℕ) (r : Reception) (b : Bool) → bytes_eq at gateway ≡ b
    → at_name f gateway (Some reception) at ≡ Some r → (f at ≡ Some r) ⊎ (reception ≡ r)
put_was f gateway reception at r true is e = inr (same_Some reception r (rw is at e))
put_was f gateway reception at r false is e = inl (rw is at e)

-- what is true of the new reception, and was true of all, is true of all
pub each_reception : (P : Reception → Type 0) (receptions : ℕ → List ℕ → Option Reception) (number : ℕ) (gateway : List ℕ) (reception : Reception) (n : ℕ) (at : List ℕ) (r : Reception) (b : Bool)
    → ((n : ℕ) (at : List ℕ) (r : Reception) → receptions n at ≡ Some r → P r) → P reception → (n == number) ≡ b → receptions_with receptions number gateway reception n at ≡ Some r → P r
each_reception P receptions number gateway reception n at r true all new is e = by_name (put_was (receptions number) gateway reception at r (bytes_eq at gateway) refl (rw is at e))
  where
    by_name : (receptions number at ≡ Some r) ⊎ (reception ≡ r) → P r
    by_name (inl old) = all number at r old
    by_name (inr same) = subst P same new
each_reception P receptions number gateway reception n at r false all new is e = all n at r (rw is at e)

-- the reception of one gateway isn't that of another
pub other_gateway : (receptions : ℕ → List ℕ → Option Reception) (n : ℕ) (gateway other : List ℕ) (r : Reception) → other ≢ gateway → receptions_with receptions n gateway r n other ≡ receptions n other
other_gateway receptions n gateway other r apart = rw (eq-eqb n n refl, false_from_ne_true (bytes_eq other gateway) (λ same. apart ((bytes_eq-Decides other gateway).0 same))) refl

-- two copies at different gateways come to the same in either order
pub either_order : (receptions : ℕ → List ℕ → Option Reception) (n : ℕ) (g h : List ℕ) (x y : Reception) (m : ℕ) (at : List ℕ) (same : Bool) (is_g is_h : Bool) → g ≢ h
    → (m == n) ≡ same → bytes_eq at g ≡ is_g → bytes_eq at h ≡ is_h
    → receptions_with (receptions_with receptions n g x) n h y m at ≡ receptions_with (receptions_with receptions n h y) n g x m at
either_order receptions n g h x y m at true true true apart e eg eh = absurd (apart (sym ((bytes_eq-Decides at g).0 eg) ∙ (bytes_eq-Decides at h).0 eh))
either_order receptions n g h x y m at true true false apart e eg eh = rw (e, eq-eqb n n refl, eg, eh) refl
either_order receptions n g h x y m at true false true apart e eg eh = rw (e, eq-eqb n n refl, eg, eh) refl
either_order receptions n g h x y m at true false false apart e eg eh = rw (e, eq-eqb n n refl, eg, eh) refl
either_order receptions n g h x y m at false is_g is_h apart e eg eh = rw e refl
