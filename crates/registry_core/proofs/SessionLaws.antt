-- Sessions, whatever was heard: their addresses, their nonces, and which is found by an address.
use Rattle.std.proofs.Common.{◌≡◌, ℕ, Some, refl, arith, ◌+◌, ◌-◌, sym}
use Rattle.registry_core.specs.declared.facts.Session.{Session}
use Rattle.registry_core.specs.Derived.{address_of, session_with_address}
use Rattle.registry_core.specs.Heard.{state_of}
use Rattle.registry_core.specs.Laws.{AddressesLieInBlock, AddressesAreApart, NoncesRise, SessionsAreFound}
use Rattle.registry_core.specs.Numbered.{item_at}
use Rattle.registry_core.specs.Settings.{Settings}
use Rattle.registry_core.specs.State.{State}
use Rattle.registry_core.proofs.Decisions.{sound_of, session_there}
use Rattle.registry_core.proofs.Items.{item_within}

pub addresses_lie_in_block : AddressesLieInBlock
addresses_lie_in_block c heard n a e =
    let within = item_within (state_of c heard).sessions n a e in
    (omega (arith, within.0), omega (arith, within.0, within.1, (sound_of c heard).block))

pub addresses_are_apart : AddressesAreApart
addresses_are_apart c heard m n a b em en same = omega (arith, same, (item_within (state_of c heard).sessions m a em).0, (item_within (state_of c heard).sessions n b en).0)

pub nonces_rise : NoncesRise
nonces_rise c heard = (sound_of c heard).nonces

found_by : (c : Settings) (s : State) (addr n : ℕ) (a : Session) → item_at s.sessions n ≡ Some a → address_of c n ≡ addr → session_with_address s.sessions c.base addr ≡ Some (n, a)
found_by c s addr n a there at =
    let number : addr + 1 - c.base ≡ n = omega (arith, at, (item_within s.sessions n a there).0) in
    rw (number, there) refl

pub sessions_are_found : SessionsAreFound
sessions_are_found c s addr n a = (
  λ found. let there = session_there c s addr (n, a) found in (there.0, sym there.1),
  λ both. found_by c s addr n a both.0 both.1,
)
