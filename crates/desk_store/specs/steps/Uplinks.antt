-- Uplinks with an index, which returns what a search of all uplinks would.
use Rattle.std.specs.Prelude.{◌≡◌, ℕ, ◌==◌, ◌&&◌, Bool, List, Option, Some, None, option_map, min, nat_eq, nat_lt, if◌then◌else◌}
use Rattle.indexmap.specs.IndexMap.{get, spare}
use Rattle.registry_core.specs.declared.facts.Uplink.{Uplink}
use Rattle.registry_core.specs.Derived.{is_join, data_with, last_counter}
use Rattle.registry_core.specs.Numbered.{first_that}
use Rattle.desk_store.specs.declared.uplink_index.UplinkIndex.{UplinkIndex}

-- a join uplink of session n with this counter
abbrev pub is_join_of : ℕ → ℕ → Uplink → Bool
is_join_of n counter uplink = is_join uplink.kind && uplink.session == n && uplink.counter == counter

-- the first join uplink of session n with this counter, with its number
abbrev pub join_of : List Uplink → ℕ → ℕ → Option (ℕ × Uplink)
join_of uplinks n counter = first_that (is_join_of n counter) uplinks

-- the number of what was found
abbrev pub number_of : {X : Type 0} → Option (ℕ × X) → Option ℕ
number_of found = option_map (λ numbered. numbered.0) found

-- the sessions are the same, and the counters are
abbrev pub same_numbers : ℕ × ℕ → ℕ × ℕ → Bool
same_numbers a b = a.0 == b.0 && a.1 == b.1

-- the index is that of these uplinks
pub record IsIndexOf (uplinks : List Uplink) (index : UplinkIndex) : Type 0 where
  pub joins : (n counter : ℕ) → get same_numbers index.joins (n, counter) ≡ number_of (join_of uplinks n counter)
  pub frames : (n counter : ℕ) → get same_numbers index.frames (n, counter) ≡ number_of (data_with uplinks n counter)
  pub counters : (n : ℕ) → get nat_eq index.counters n ≡ last_counter uplinks n

-- how many uplinks can be added to the index with no allocation, at least
abbrev pub index_room : UplinkIndex → ℕ
index_room index = min (spare index.joins) (min (spare index.frames) (spare index.counters))

-- the one with the lower number of two that were found
abbrev pub earlier_of : {X : Type 0} → Option (ℕ × X) → Option (ℕ × X) → Option (ℕ × X)
earlier_of None b = b
earlier_of (Some a) None = Some a
earlier_of (Some a) (Some b) = if nat_lt b.0 a.0 then Some b else Some a
