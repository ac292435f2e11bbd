-- An owner's next device is the first of the ordered set from a bound on.
use Rattle.std.proofs.Common.{◌≡◌, ℕ, zero, suc, Bool, true, false, cond, List, [], ◌∷◌, Option, Some, None, refl, sym, ◌∙◌, ap, subst, arith}
use Rattle.std.specs.Prelude.{◌&&◌, ◌==◌, bytes_eq, nat_lt, if◌then◌else◌, IsTrue}
use Rattle.std.specs.BTreeSet.{BTreeSet, contains, IsKeyRangeOf}
use Rattle.std.specs.BTreeMap.Range.{IsInRange}
use Rattle.std.specs.Cmp.{tied_back, tied_itself}
use Rattle.std.specs.Cmp.Lexicographic.{bytes_decides, nat_list_cmp_total, slice_cmp, texts_ties}
use Rattle.std.specs.declared.cmp.Ordering.{Ordering}
use Rattle.std.specs.declared.cmp.Ordering.TheVariants.{Less, Equal, Greater}
use Rattle.std.specs.declared.ops.Bound.{Bound}
use Rattle.std.specs.declared.ops.Bound.TheVariants.{Unbounded}
use Rattle.std.specs.Ordering.{is_eq, is_gt, nat_cmp, ordering_reverse, ordering_then}
use Rattle.std.proofs.lemmas.Bool.{and_parts, lt-ltb}
use Rattle.std.proofs.lemmas.Map.Keys.{le_from_not_gt}
use Rattle.std.proofs.lemmas.Option.{same_Some}
use Rattle.registry_core.specs.declared.facts.Device.{Device}
use Rattle.registry_core.specs.Reports.{IsNextDevice, is_after, is_owned}
use Rattle.registry_core.specs.State.{State}
use Rattle.desk_store.specs.declared.devices.Owned.{Owned}
use Rattle.desk_store.specs.Devices.{devices_of}
use Rattle.desk_store.specs.steps.Devices.{AreOwned, bound_above, is_owned_by, owned_cmp}

then_between : (r s t u : Ordering) → r ≡ ordering_reverse s → is_gt (ordering_then r t) ≡ false → is_gt (ordering_then s u) ≡ false → r ≡ Equal
then_between Less Less t u turned above below = let no : Less ≡ Greater = turned in cc
then_between Less Equal t u turned above below = let no : Less ≡ Equal = turned in cc
then_between Less Greater t u turned above below = let no : true ≡ false = below in cc
then_between Equal s t u turned above below = refl
then_between Greater s t u turned above below = let no : true ≡ false = above in cc

lt_cmp : (a b : ℕ) → nat_lt a b ≡ true → nat_cmp a b ≡ Less
lt_cmp a b lower = ap (λ t. cond t Less (cond (a == b) Equal Greater)) lower

less_by : (t u : Bool) → cond t Less (cond u Equal Greater) ≡ Less → t ≡ true
less_by true u less = refl
less_by false true less = let no : Equal ≡ Less = less in cc
less_by false false less = let no : Greater ≡ Less = less in cc

none_below : (n : ℕ) → is_gt (nat_cmp 0 n) ≡ false
none_below zero = refl
none_below (suc n) = ap is_gt (lt_cmp 0 (suc n) (lt-ltb 0 (suc n) (omega arith)))

-- what begins no lower than the owner's devices and no higher than one of them is the owner's
owner_between : (from first last : Owned) → from.owner ≡ last.owner → is_gt (owned_cmp from first) ≡ false → is_gt (owned_cmp first last) ≡ false
    → bytes_eq first.owner last.owner ≡ true
owner_between from first last same above below =
    let level : slice_cmp nat_cmp from.owner first.owner ≡ Equal =
    then_between (slice_cmp nat_cmp from.owner first.owner) (slice_cmp nat_cmp first.owner from.owner) _ (nat_cmp first.dev_eui last.dev_eui)
    (nat_list_cmp_total.antisymm from.owner first.owner) above
    (ap (λ owner. is_gt (ordering_then (slice_cmp nat_cmp first.owner owner) (nat_cmp first.dev_eui last.dev_eui))) same ∙ below) in
    texts_ties first.owner last.owner ∙ ap (λ owner. is_eq (slice_cmp nat_cmp first.owner owner)) (sym same)
    ∙ ap is_eq (tied_back nat_list_cmp_total from.owner first.owner level)

-- of one owner's pairs the DevEUIs decide
cmp_of_owner : (a b : Owned) → a.owner ≡ b.owner → owned_cmp a b ≡ nat_cmp a.dev_eui b.dev_eui
cmp_of_owner a b same = ap (λ owner. ordering_then (slice_cmp nat_cmp a.owner owner) (nat_cmp a.dev_eui b.dev_eui)) (sym same)
    ∙ ap (λ r. ordering_then r (nat_cmp a.dev_eui b.dev_eui)) (tied_itself nat_list_cmp_total a.owner)

module _ (owner : List ℕ) where
  -- the owner's pair with this DevEUI
  abbrev pair_of : ℕ → Owned
  pair_of dev_eui = record { owner = owner; dev_eui = dev_eui }

  -- a pair of the owner is in the range exactly if its DevEUI is above the other one
  in_range : (after : Option ℕ) (o : Owned) → owner ≡ o.owner → is_after after o.dev_eui ≡ true → IsInRange owned_cmp (bound_above owner after) Unbounded o
  in_range None o same passes = (ap is_gt (cmp_of_owner (pair_of 0) o same) ∙ none_below o.dev_eui, tt)
  in_range (Some after) o same passes = (cmp_of_owner (pair_of after) o same ∙ lt_cmp after o.dev_eui passes, tt)

  is_above : (after : Option ℕ) (o : Owned) → owner ≡ o.owner → IsInRange owned_cmp (bound_above owner after) Unbounded o → is_after after o.dev_eui ≡ true
  is_above None o same within = refl
  is_above (Some after) o same within = less_by (nat_lt after o.dev_eui) (after == o.dev_eui)
      (sym (cmp_of_owner (pair_of after) o same) ∙ within.0)

  -- and no pair of the range is below the owner's
  from_owner : (after : Option ℕ) (first last : Owned) → owner ≡ last.owner → IsInRange owned_cmp (bound_above owner after) Unbounded first
      → is_gt (owned_cmp first last) ≡ false → bytes_eq first.owner last.owner ≡ true
  from_owner None first last same within below = owner_between (pair_of 0) first last same within.0 below
  from_owner (Some after) first last same within below = owner_between (pair_of after) first last same (ap is_gt within.0) below

-- the same range by its start and its pairs
pub range_as : (owned : BTreeSet Owned) (from to : Bound Owned) (all os : List Owned) → from ≡ to → all ≡ os
    → IsKeyRangeOf owned_cmp from Unbounded owned all → IsKeyRangeOf owned_cmp to Unbounded owned os
range_as owned from to all os start pairs range =
    subst (λ b. IsKeyRangeOf owned_cmp b Unbounded owned os) start (subst (IsKeyRangeOf owned_cmp from Unbounded owned) pairs range)

module _ (devices : List (ℕ × Device)) (owned : BTreeSet Owned) (are : AreOwned devices owned) (owner : List ℕ) (after : Option ℕ)
    (s : State) (told : s.devices ≡ devices_of devices) where
  owned_is : (dev_eui : ℕ) → is_owned s owner dev_eui ≡ contains owned_cmp owned (pair_of owner dev_eui)
  owned_is dev_eui = ap (λ devices. is_owned_by owner (devices dev_eui)) told ∙ sym (are.has (pair_of owner dev_eui))

  module _ (dev_eui : ℕ) (passes : IsTrue (is_owned s owner dev_eui && is_after after dev_eui)) where
    its_range : IsInRange owned_cmp (bound_above owner after) Unbounded (pair_of owner dev_eui)
    its_range = in_range owner after (pair_of owner dev_eui) refl (and_parts _ _ passes).1

    is_there : contains owned_cmp owned (pair_of owner dev_eui) ≡ true
    is_there = sym (owned_is dev_eui) ∙ (and_parts _ _ passes).0

  -- there is nothing from there on
  pub next_past : IsKeyRangeOf owned_cmp (bound_above owner after) Unbounded owned [] → IsNextDevice s owner after None
  next_past range = record {
    owned = λ dev_eui none. cc;
    least = λ dev_eui passes.
        let no : true ≡ false = sym (is_there dev_eui passes) ∙ range.5 refl (pair_of owner dev_eui) (its_range dev_eui passes) in cc;
  }

  module _ (o : Owned) (os : List Owned) (range : IsKeyRangeOf owned_cmp (bound_above owner after) Unbounded owned (o ∷ os)) where
    below : (dev_eui : ℕ) → IsTrue (is_owned s owner dev_eui && is_after after dev_eui) → is_gt (owned_cmp o (pair_of owner dev_eui)) ≡ false
    below dev_eui passes = range.2 (pair_of owner dev_eui) (its_range dev_eui passes) (is_there dev_eui passes)

    next_by : (b : Bool) → bytes_eq o.owner owner ≡ b → IsNextDevice s owner after (if b then Some o.dev_eui else None)
    next_by true same =
        let one : o.owner ≡ owner = (bytes_decides o.owner owner).0 same in
        let its : is_owned s owner o.dev_eui ≡ true = owned_is o.dev_eui ∙ ap (λ w. contains owned_cmp owned (pair_of w o.dev_eui)) (sym one) ∙ range.1.1 in
        let above : is_after after o.dev_eui ≡ true = is_above owner after o (sym one) range.1.0 in
        record {
          owned = λ dev_eui is. rw (sym (same_Some o.dev_eui dev_eui is)) (λ i. its i && above i);
          least = λ dev_eui passes. (
            o.dev_eui,
            refl,
            le_from_not_gt o.dev_eui dev_eui (ap is_gt (sym (cmp_of_owner o (pair_of owner dev_eui) one)) ∙ below dev_eui passes),
          );
        }
    next_by false apart = record {
      owned = λ dev_eui none. cc;
      least = λ dev_eui passes.
          let its : bytes_eq o.owner owner ≡ true =
          from_owner owner after o (pair_of owner dev_eui) refl range.1.0 (below dev_eui passes) in
          let no : true ≡ false = sym its ∙ apart in cc;
    }

    -- the first from there on is it
    pub next_first : IsNextDevice s owner after (if bytes_eq o.owner owner then Some o.dev_eui else None)
    next_first = next_by (bytes_eq o.owner owner) refl
