-- The sessions of a device, from its latest to its first.
use Rattle.std.specs.Prelude.{if◌then◌else◌, ◌≡◌, ℕ, zero, suc, ◌+◌, Bool, List, length, map, Option, nat_lt, ◌&&◌}
use Rattle.std.specs.Option.{option_map_or, unwrap_or}
use Rattle.registry_core.specs.declared.facts.Session.{Session}
use Rattle.registry_core.specs.Derived.{is_of_device, last_nonce}
use Rattle.registry_core.specs.Numbered.{item_at}
use Rattle.desk_store.specs.declared.sessions.Link.{Link}

-- the sessions of an index's links
abbrev pub sessions_of : List Link → List Session
sessions_of links = map (λ link. link.session) links

-- the greatest number below n that passes the test, 0 if none does
abbrev pub greatest_below : (ℕ → Bool) → ℕ → ℕ
greatest_below test zero = 0
greatest_below test (suc n) = if test n then n else greatest_below test n

-- the number of the device's last session before number n, 0 if there is none
abbrev pub latest_before : List Session → ℕ → ℕ → ℕ
latest_before sessions dev_eui n = greatest_below (is_of_device sessions dev_eui) n

-- the number of the device's latest session, 0 if there is none
abbrev pub latest_of : List Session → ℕ → ℕ
latest_of sessions dev_eui = latest_before sessions dev_eui (length sessions + 1)

-- the number of the session before session n, of the same device, 0 if there is none
abbrev pub same_before : List Session → ℕ → ℕ
same_before sessions n = option_map_or (λ session. latest_before sessions session.device n) (item_at sessions n) 0

-- each link has the number of the session before it of the same device, and the maps have each device's latest session and last nonce
pub record AreLinked (links : List Link) (latest nonces : ℕ → Option ℕ) : Type 0 where
  pub before : (n : ℕ) → option_map_or (λ link. link.before) (item_at links n) 0 ≡ same_before (sessions_of links) n
  pub last : (dev_eui : ℕ) → unwrap_or (latest dev_eui) 0 ≡ latest_of (sessions_of links) dev_eui
  pub nonce : (dev_eui : ℕ) → nonces dev_eui ≡ last_nonce (sessions_of links) dev_eui

-- session m is one of the device and comes after session n
abbrev pub is_later : List Session → ℕ → ℕ → ℕ → Bool
is_later sessions dev_eui n m = nat_lt n m && is_of_device sessions dev_eui m
