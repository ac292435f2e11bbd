-- What is in lists of the store in memory: keys in order, the numbers of a device's sessions, the greatest of some numbers, and an
-- uplink's gateways.
use Rattle.std.proofs.Common.{◌≡◌, ◌∙◌, ℕ, suc, ◌+◌, Bool, true, false, cond, List, [], ◌∷◌, get_or, length, map, slice_get, Option, Some, None, refl, sym, ap, subst, arith}
use Rattle.std.specs.Prelude.{◌==◌, ◌&&◌, ◌||◌, bytes_eq, filter, is_some, max, nat_eq}
use Rattle.std.specs.Cmp.{nat_eq_equiv}
use Rattle.std.specs.Cmp.Lexicographic.{nat_list_cmp_total, nat_list_eq_equiv, slice_cmp}
use Rattle.std.specs.declared.cmp.Ordering.{Ordering}
use Rattle.std.specs.declared.cmp.Ordering.TheVariants.{Less, Equal, Greater}
use Rattle.std.specs.List.{AllByRecursion, IsDistinct, fold, list_any, range_with_len, reduce}
use Rattle.std.specs.List.Sorted.{IsPermutation, IsSorted}
use Rattle.std.specs.Map.{keys_of, lookup}
use Rattle.std.specs.Option.{option_map_or}
use Rattle.std.specs.Ordering.{is_eq, is_lt, nat_cmp, ordering_reverse}
use Rattle.std.proofs.lemmas.Bool.{eq-eqb, eqb-true}
use Rattle.std.proofs.lemmas.List.Sorted.{IsNonDecreasingBy-from_sort, list_any-IsPermutation}
use Rattle.std.proofs.lemmas.Map.Keys.{IsDistinct-IsPermutation, IsStrictlyIncreasing-from_distinct, apart_from_distinct, sorted_from_all_adjacent}
use Rattle.std.proofs.lemmas.Map.Made.{is_some-lookup}
use Rattle.std.proofs.lemmas.Map.Text.{is_eq-slice_cmp}
use Rattle.indexmap.specs.IndexMap.{IndexMap, IsUnique, keys}
use Rattle.registry_core.specs.declared.facts.Device.{Device}
use Rattle.registry_core.specs.declared.facts.Reception.{Reception}
use Rattle.registry_core.specs.declared.facts.Session.{Session}
use Rattle.registry_core.specs.declared.messages.Role.{Role}
use Rattle.registry_core.specs.Derived.{is_of_device, is_session_of}
use Rattle.registry_core.specs.Listing.{AreDevices, AreNames, numbers_from, sessions_of}
use Rattle.registry_core.specs.Numbered.{greatest, item_at}
use Rattle.desk_store.specs.declared.looks.EntryTexts.{EntryTexts}
use Rattle.desk_store.specs.Devices.{devices_of}
use Rattle.desk_store.specs.Facts.{receptions_of, same_key}
use Rattle.desk_store.specs.Kept.{Entry}
use Rattle.desk_store.specs.Lists.{entry_shown}
use Rattle.desk_store.specs.Looks.{is_from, last_transaction}
use Rattle.desk_store.specs.steps.Listing.{is_key_of, is_reception_of}

-- ---- keys in order

less_by : (r s : Ordering) → r ≡ ordering_reverse s → is_lt s ≡ false → is_eq r ≡ false → r ≡ Less
less_by r Less turned not_less apart = let no : true ≡ false = not_less in cc
less_by r Equal turned not_less apart = let no : true ≡ false = ap is_eq (sym turned) ∙ apart in cc
less_by r Greater turned not_less apart = turned

less_than : (a b : List ℕ) → is_lt (slice_cmp nat_cmp b a) ≡ false → bytes_eq a b ≡ false → slice_cmp nat_cmp a b ≡ Less
less_than a b not_less apart = less_by (slice_cmp nat_cmp a b) (slice_cmp nat_cmp b a) (nat_list_cmp_total.antisymm a b) not_less (is_eq-slice_cmp a b ∙ apart)

any_same : {X : Type 0} (p q : X → Bool) → ((x : X) → p x ≡ q x) → (xs : List X) → list_any p xs ≡ list_any q xs
any_same p q same [] = refl
any_same p q same (x ∷ xs) = ap (λ b. b || list_any p xs) (same x) ∙ ap (λ b. q x || b) (any_same p q same xs)

pub names_listed : (keys sorted : List (List ℕ)) → IsDistinct bytes_eq keys → IsPermutation keys sorted → IsSorted (slice_cmp nat_cmp) sorted
    → AreNames (λ name. list_any (bytes_eq name) keys) sorted
names_listed keys sorted distinct moved up =
    let apart : IsDistinct bytes_eq sorted = IsDistinct-IsPermutation bytes_eq nat_list_eq_equiv.symm keys sorted moved distinct in
    record {
      rising = sorted_from_all_adjacent nat_list_cmp_total sorted [] (λ k within. less_than (get_or sorted k []) (get_or sorted (k + 1) [])
          (up k [] (omega arith) within) (apart_from_distinct bytes_eq sorted k (k + 1) [] apart (omega arith) within));
      each = λ name. sym (list_any-IsPermutation (λ other. bytes_eq other name) keys sorted moved)
          ∙ any_same (λ other. bytes_eq other name) (bytes_eq name) (λ other. nat_list_eq_equiv.symm other name) keys;
    }

pub senders_listed : (senders : List (List ℕ × Role)) (sorted : List (List ℕ)) → AreNames (λ name. list_any (bytes_eq name) (keys_of senders)) sorted
    → AreNames (λ name. is_some (lookup (bytes_eq name) senders)) sorted
senders_listed senders sorted are = record { rising = are.rising; each = λ name. are.each name ∙ sym (is_some-lookup (bytes_eq name) senders) }

pub devices_listed : (devices : List (ℕ × Device)) (sorted : List ℕ) → IsDistinct nat_eq (keys_of devices) → IsPermutation (keys_of devices) sorted → IsSorted nat_cmp sorted
    → AreDevices (λ dev_eui. is_some (devices_of devices dev_eui)) sorted
devices_listed devices sorted distinct moved up = record {
  rising = IsStrictlyIncreasing-from_distinct sorted (IsNonDecreasingBy-from_sort (λ x. x) sorted up)
      (IsDistinct-IsPermutation nat_eq nat_eq_equiv.symm (keys_of devices) sorted moved distinct);
  each = λ dev_eui. sym (list_any-IsPermutation (λ other. other == dev_eui) (keys_of devices) sorted moved)
      ∙ any_same (λ other. other == dev_eui) (nat_eq dev_eui) (λ other. nat_eq_equiv.symm other dev_eui) (keys_of devices)
      ∙ sym (is_some-lookup (nat_eq dev_eui) devices);
}

-- ---- the numbers of a device's sessions

numbers_by : {X : Type 0} (test : X → Bool) (at : ℕ → Option X) (first : ℕ) (xs : List X) → ((k n : ℕ) → n ≡ first + k → at n ≡ slice_get xs k)
    → filter (λ n. option_map_or test (at n) false) (range_with_len first (length xs)) ≡ numbers_from first test xs
numbers_by test at first [] each = refl
numbers_by test at first (x ∷ xs) each =
    let rest = numbers_by test at (first + 1) xs (λ k n is. each (suc k) n (omega arith)) in
    let kept = filter (λ n. option_map_or test (at n) false) (range_with_len (first + 1) (length xs)) in
    ap (λ found. cond (option_map_or test found false) (first ∷ kept) kept) (each 0 first (omega arith))
    ∙ ap (λ ns. cond (test x) (first ∷ ns) ns) rest

pub from_one : {X : Type 0} (xs : List X) (k n : ℕ) → n ≡ 1 + k → item_at xs n ≡ slice_get xs k
from_one xs k n is = let same : n ≡ suc k = omega arith in ap (item_at xs) same

pub numbered_by : (sessions : List Session) (dev_eui : ℕ)
    → filter (is_of_device sessions dev_eui) (range_with_len 1 (length sessions)) ≡ sessions_of sessions dev_eui
numbered_by sessions dev_eui = numbers_by (is_session_of dev_eui) (item_at sessions) 1 sessions (from_one sessions)

-- ---- the greatest of some numbers

max_of_more : (a n : ℕ) (rest : Option ℕ) → option_map_or (max (max a n)) rest (max a n) ≡ max a (option_map_or (max n) rest n)
max_of_more a n None = refl
max_of_more a n (Some m) = grind arith

max_reduced : (a : ℕ) (ns : List ℕ) → fold max a ns ≡ option_map_or (max a) (greatest ns) a
max_reduced a [] = refl
max_reduced a (n ∷ ns) = max_reduced (max a n) ns ∙ max_of_more a n (greatest ns)

pub greatest_reduced : (ns : List ℕ) → reduce max ns ≡ greatest ns
greatest_reduced [] = refl
greatest_reduced (n ∷ ns) = ap Some (max_reduced n ns)

key_by : (e : (ℕ × List ℕ) × EntryTexts) (b : Bool) (keys : List (ℕ × List ℕ)) (entries : List Entry)
    → map (λ (key : ℕ × List ℕ). key.0) keys ≡ map (λ entry. entry.transaction) entries
    → map (λ (key : ℕ × List ℕ). key.0) (cond b (e.0 ∷ keys) keys) ≡ map (λ entry. entry.transaction) (cond b (entry_shown e ∷ entries) entries)
key_by e true keys entries same = ap (λ ns. e.0.0 ∷ ns) same
key_by e false keys entries same = same

keys_shown : (sender : List ℕ) (entries : List ((ℕ × List ℕ) × EntryTexts))
    → map (λ (key : ℕ × List ℕ). key.0) (filter (is_key_of sender) (keys_of entries))
    ≡ map (λ entry. entry.transaction) (filter (is_from sender) (map entry_shown entries))
keys_shown sender [] = refl
keys_shown sender (e ∷ entries) = key_by e (bytes_eq e.0.1 sender) _ _ (keys_shown sender entries)

pub last_heard : (sender : List ℕ) (entries : List ((ℕ × List ℕ) × EntryTexts))
    → reduce max (map (λ (key : ℕ × List ℕ). key.0) (filter (is_key_of sender) (keys_of entries))) ≡ last_transaction (map entry_shown entries) sender
last_heard sender entries = greatest_reduced _ ∙ ap greatest (keys_shown sender entries)

-- ---- the gateways of an uplink

gateways_found : (uplink : ℕ) (gateway : List ℕ) (keys : List (ℕ × List ℕ))
    → list_any (bytes_eq gateway) (map (λ (key : ℕ × List ℕ). key.1) (filter (is_reception_of uplink) keys)) ≡ list_any (same_key (uplink, gateway)) keys
gateways_found uplink gateway [] = refl
gateways_found uplink gateway (key ∷ keys) = by (key.0 == uplink) refl (gateways_found uplink gateway keys)
  where
    by : (b : Bool) → (key.0 == uplink) ≡ b
        → list_any (bytes_eq gateway) (map (λ (k : ℕ × List ℕ). k.1) (filter (is_reception_of uplink) keys)) ≡ list_any (same_key (uplink, gateway)) keys
        → list_any (bytes_eq gateway) (map (λ (k : ℕ × List ℕ). k.1) (cond b (key ∷ filter (is_reception_of uplink) keys) (filter (is_reception_of uplink) keys)))
        ≡ (same_key (uplink, gateway) key || list_any (same_key (uplink, gateway)) keys)
    by true is rest = rw (nat_eq_equiv.symm uplink key.0, is) (ap (λ b. bytes_eq gateway key.1 || b) rest)
    by false is rest = rw (nat_eq_equiv.symm uplink key.0, is) rest

-- those of the other keys differ from this one's
others_apart : (uplink : ℕ) (key : ℕ × List ℕ) (keys : List (ℕ × List ℕ)) → key.0 ≡ uplink → AllByRecursion (λ other. same_key key other ≡ false) keys
    → AllByRecursion (λ gateway. bytes_eq key.1 gateway ≡ false) (map (λ (k : ℕ × List ℕ). k.1) (filter (is_reception_of uplink) keys))
others_apart uplink key [] own apart = tt
others_apart uplink key (other ∷ keys) own apart = by (other.0 == uplink) refl (others_apart uplink key keys own apart.1)
  where
    by : (b : Bool) → (other.0 == uplink) ≡ b → AllByRecursion (λ gateway. bytes_eq key.1 gateway ≡ false) (map (λ (k : ℕ × List ℕ). k.1) (filter (is_reception_of uplink) keys))
        → AllByRecursion (λ gateway. bytes_eq key.1 gateway ≡ false) (map (λ (k : ℕ × List ℕ). k.1) (cond b (other ∷ filter (is_reception_of uplink) keys) (filter (is_reception_of uplink) keys)))
    by true is rest =
        let same : nat_eq key.0 other.0 ≡ true = eq-eqb key.0 other.0 (own ∙ sym (eqb-true other.0 uplink is)) in
        (ap (λ b. b && bytes_eq key.1 other.1) (sym same) ∙ apart.0, rest)
    by false is rest = rest

gateways_distinct : (uplink : ℕ) (keys : List (ℕ × List ℕ)) → IsDistinct same_key keys
    → IsDistinct bytes_eq (map (λ (key : ℕ × List ℕ). key.1) (filter (is_reception_of uplink) keys))
unfolding IsDistinct
gateways_distinct uplink [] distinct = tt
gateways_distinct uplink (key ∷ keys) distinct = by (key.0 == uplink) refl (gateways_distinct uplink keys distinct.1)
  where
    by : (b : Bool) → (key.0 == uplink) ≡ b → IsDistinct bytes_eq (map (λ (k : ℕ × List ℕ). k.1) (filter (is_reception_of uplink) keys))
        → IsDistinct bytes_eq (map (λ (k : ℕ × List ℕ). k.1) (cond b (key ∷ filter (is_reception_of uplink) keys) (filter (is_reception_of uplink) keys)))
    by true is rest = (others_apart uplink key keys (eqb-true key.0 uplink is) distinct.0, rest)
    by false is rest = rest

module _ {S : Type 0} where
  pub gateways_listed : (receptions : IndexMap (ℕ × List ℕ) Reception S) (uplink : ℕ) (names sorted : List (List ℕ))
      → IsUnique same_key receptions → names ≡ map (λ (key : ℕ × List ℕ). key.1) (filter (is_reception_of uplink) (keys receptions))
      → (IsDistinct bytes_eq names → AreNames (λ name. list_any (bytes_eq name) names) sorted)
      → AreNames (λ name. is_some (receptions_of receptions uplink name)) sorted
  gateways_listed receptions uplink names sorted apart names_are listed =
      let are : AreNames (λ name. list_any (bytes_eq name) names) sorted = listed (subst (IsDistinct bytes_eq) (sym names_are) (gateways_distinct uplink (keys receptions) apart)) in
      record {
        rising = are.rising;
        each = λ name. are.each name ∙ ap (list_any (bytes_eq name)) names_are ∙ gateways_found uplink name (keys receptions)
            ∙ sym (is_some-lookup (same_key (uplink, name)) receptions.entries);
      }
