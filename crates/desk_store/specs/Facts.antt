-- The registry's facts as maps, sets and lists in memory.
use Rattle.std.specs.Prelude.{ℕ, ◌&&◌, Bool, List, Option, bytes_eq, nat_eq}
use Rattle.indexmap.specs.IndexMap.{IndexMap, get}
use Rattle.indexmap.specs.IndexSet.{contains}
use Rattle.registry_core.specs.declared.facts.Reception.{Reception}
use Rattle.registry_core.specs.State.{State}
use Rattle.desk_store.specs.declared.facts.Facts.{Facts}
use Rattle.desk_store.specs.Devices.{devices_of}

-- two pairs have the same number and the same name
abbrev pub same_key : ℕ × List ℕ → ℕ × List ℕ → Bool
same_key a b = nat_eq a.0 b.0 && bytes_eq a.1 b.1

-- the reception of an uplink, by the uplink's number, at a gateway
abbrev pub receptions_of : {S : Type 0} → IndexMap (ℕ × List ℕ) Reception S → ℕ → List ℕ → Option Reception
receptions_of receptions number gateway = get same_key receptions (number, gateway)

-- the limit that was set for a gateway's band, by the band's number
abbrev pub limits_of : {S : Type 0} → IndexMap (ℕ × List ℕ) ℕ S → List ℕ → ℕ → Option ℕ
limits_of limits gateway band = get same_key limits (band, gateway)

abbrev pub facts_of : Facts → State
facts_of facts = record {
  senders = get bytes_eq facts.senders;
  owners = contains bytes_eq facts.owners;
  gateways = contains bytes_eq facts.gateways;
  devices = devices_of facts.devices;
  sessions = facts.sessions.items;
  uplinks = facts.traffic.uplinks;
  receptions = receptions_of facts.receptions;
  bookings = facts.traffic.bookings;
  limits = limits_of facts.limits;
}
