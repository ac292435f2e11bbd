-- The cache of a store over tables, which is right for its rows.
use Rattle.std.specs.Prelude.{◌≡◌, ℕ, List, find, Option, Some, None, option_map, IfSome}
use Rattle.registry_core.specs.declared.facts.Session.{Session}
use Rattle.registry_core.specs.declared.messages.Role.{Role}
use Rattle.registry_core.specs.Derived.{last_counter}
use Rattle.registry_core.specs.Numbered.{item_at}
use Rattle.sqlite.specs.Effect.{Database}
use Rattle.desk_rows.specs.Rows.{Rows, Holds, is_device, is_sender_named}
use Rattle.desk_tables.specs.declared.seen.Seen.{Seen}

-- the sender of this name has this role
abbrev pub IsRoleOf : Rows → List ℕ → Role → Type 0
IsRoleOf r name role = option_map (λ sender. sender.role) (find (is_sender_named name) r.senders) ≡ Some role

-- the session with this number is this one
abbrev pub IsSessionAt : Rows → ℕ → Session → Type 0
IsSessionAt r number session = option_map (λ row. row.session) (item_at r.sessions number) ≡ Some session

-- the device's row has this floor
abbrev pub IsFloorOf : Rows → ℕ → Option ℕ → Type 0
IsFloorOf r device floor = option_map (λ row. row.floor) (find (is_device device) r.devices) ≡ Some floor

-- the last counter of the session's data uplinks is this one
abbrev pub IsCounterOf : Rows → ℕ → ℕ → Type 0
IsCounterOf r session last = last_counter r.uplinks session ≡ Some last

-- the cache is right for these rows
pub record IsSeen (r : Rows) (seen : Seen) : Type 0 where
  pub role : IfSome seen.role (λ s. IsRoleOf r s.name s.role)
  pub session : IfSome seen.session (λ s. IsSessionAt r s.number s.session)
  pub floor : IfSome seen.floor (λ f. IsFloorOf r f.device f.floor)
  pub counter : IfSome seen.counter (λ c. IsCounterOf r c.session c.last)

-- and for the rows that the database has
abbrev pub AreSeen : Seen → Database → Type 0
AreSeen seen db = (r : Rows) → Holds db r → IsSeen r seen

-- the empty cache
abbrev pub nothing : Seen
nothing = record { role = None; session = None; floor = None; counter = None }

-- what is still so after a commit: a sender's role never changes
abbrev pub seen_after : Seen → Seen
seen_after seen = record nothing { role = seen.role }
