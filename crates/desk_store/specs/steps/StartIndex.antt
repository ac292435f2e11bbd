-- Items that are found by a key, ordered by start: an index returns what a search of all items would.
use Rattle.std.specs.Prelude.{◌≡◌, ℕ, ◌+◌, ◌&&◌, ℤ, pos, ◌+ℤ◌, ◌-ℤ◌, int_le, int_lt, Bool, List, [], ◌∷◌, Option, Some, None, option_and_then, if◌then◌else◌}
use Rattle.std.specs.List.{filter_map}
use Rattle.std.specs.Option.{option_map_or}
use Rattle.indexmap.specs.IndexMap.{get}
use Rattle.duty_core.specs.Near.{greatest_length}
use Rattle.duty_core.specs.Use.{hour}
use Rattle.registry_core.specs.Numbered.{item_at}
use Rattle.desk_store.specs.declared.start_index.Place.{Place}
use Rattle.desk_store.specs.declared.start_index.StartIndex.{StartIndex}
use Rattle.desk_store.specs.steps.ByKey.{in_order}

-- the items, each with its number, from this one on
abbrev pub numbered_from : {X : Type 0} → ℕ → List X → List (ℕ × X)
numbered_from first [] = []
numbered_from first (x ∷ xs) = (first, x) ∷ numbered_from (first + 1) xs

module _ {X : Type 0} (start : X → ℤ) where
  -- the place of an item with its number, if it passes the test
  abbrev pub place_of : (X → Bool) → ℕ × X → Option Place
  place_of test n = if test n.1 then Some (record { start = start n.1; number = n.0 }) else None

  -- the place of the item with this number, if it passes the test
  abbrev pub place_at : (X → Bool) → List X → ℕ → Option Place
  place_at test items number = option_and_then (λ (item : X). place_of test (number, item)) (item_at items number)

  -- the places of the items that pass the test, ordered by start, and those that start together by number
  abbrev pub places_that : (X → Bool) → List X → List Place
  places_that test xs = in_order (λ place. place.start) (filter_map (place_of test) (numbered_from 1 xs))

  -- for each key, `told` gives the places of its items
  pub record IsStartIndex {K : Type 0} (eq : K → K → Bool) (key : X → K) (xs : List X) (told : K → List Place) : Type 0 where
    pub places : (k : K) → told k ≡ places_that (λ x. eq (key x) k) xs

-- the places that the index gives for a key
abbrev pub places_in : {K : Type 0} → (K → K → Bool) → StartIndex K → K → List Place
places_in eq index key = option_map_or (λ places. places.items) (get eq index.keys key) []

-- the place begins at `from` or later and before `to`
abbrev pub is_place_in : ℤ → ℤ → Place → Bool
is_place_in from to place = int_le from place.start && int_lt place.start to

-- the place begins near the start
abbrev pub is_near_place : ℕ → Place → Bool
is_near_place start place = int_lt (pos start -ℤ pos (hour + greatest_length)) place.start && int_lt place.start (pos start +ℤ pos (hour + greatest_length))
