-- The registry's rules, whatever was heard: what was heard once is booked once, and no hour is above its limit.
use Rattle.std.specs.Prelude.{◌≡◌, ℕ, List, Some}
use Rattle.registry_core.specs.declared.facts.Session.{Session}
use Rattle.registry_core.specs.declared.facts.Uplink.{Uplink}
use Rattle.registry_core.specs.declared.messages.Envelope.{Envelope}
use Rattle.registry_core.specs.Bookings.{EveryHourKept}
use Rattle.registry_core.specs.Heard.{state_of}
use Rattle.registry_core.specs.Numbered.{item_at}
use Rattle.registry_core.specs.Settings.{Settings}
use Rattle.registry_core.specs.State.{State}

pub record GoesByRules (s : State) : Type 0 where
  -- no two sessions have one device and one nonce
  pub joins : (m n : ℕ) (a b : Session) → item_at s.sessions m ≡ Some a → item_at s.sessions n ≡ Some b → a.device ≡ b.device → a.nonce ≡ b.nonce → m ≡ n
  -- no two uplinks have one session, one kind and one counter
  pub frames : (m n : ℕ) (u v : Uplink) → item_at s.uplinks m ≡ Some u → item_at s.uplinks n ≡ Some v
      → u.session ≡ v.session → u.kind ≡ v.kind → u.counter ≡ v.counter → m ≡ n
  -- no hour of any gateway's band has more booked airtime than its limit
  pub hours : EveryHourKept s

abbrev pub RulesAreKept : Type 0
RulesAreKept = (c : Settings) (heard : List Envelope) → GoesByRules (state_of c heard)
