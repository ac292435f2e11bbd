-- In which order two gateways report one frame makes no difference, except to which reception came first.
use Rattle.std.specs.Prelude.{◌≡◌, ◌≢◌, ℕ, Bool, true, false, List, [], ◌∷◌, Option, IsTrue}
use Rattle.registry_core.specs.declared.answers.Answer.{Answer}
use Rattle.registry_core.specs.declared.answers.Answer.TheVariants.{Refused}
use Rattle.registry_core.specs.declared.facts.Uplink.{Uplink}
use Rattle.registry_core.specs.declared.messages.Envelope.{Envelope}
use Rattle.registry_core.specs.declared.messages.JoinVerdict.{JoinVerdict}
use Rattle.registry_core.specs.declared.messages.Message.TheVariants.{JoinHeard, FrameHeard}
use Rattle.registry_core.specs.declared.messages.Report.{Report}
use Rattle.registry_core.specs.Heard.{state_of}
use Rattle.registry_core.specs.Settings.{Settings}
use Rattle.registry_core.specs.State.{State}
use Rattle.registry_core.specs.Step.{step}

-- two uplinks of one frame: when and on which channel it was heard first may differ
pub record IsSameFrame (u v : Uplink) : Type 0 where
  pub session : u.session ≡ v.session
  pub kind : u.kind ≡ v.kind
  pub counter : u.counter ≡ v.counter
  pub octets : u.octets ≡ v.octets

abbrev pub AreSameFrames : List Uplink → List Uplink → Type 0
AreSameFrames [] [] = Unit {0}
AreSameFrames (u ∷ us) (v ∷ vs) = IsSameFrame u v × AreSameFrames us vs
AreSameFrames _ _ = ⊥

-- two states that differ only in which reception of a frame came first
pub record SameButFirst (a b : State) : Type 0 where
  pub senders : a.senders ≡ b.senders
  pub owners : a.owners ≡ b.owners
  pub gateways : a.gateways ≡ b.gateways
  pub devices : a.devices ≡ b.devices
  pub sessions : a.sessions ≡ b.sessions
  pub uplinks : AreSameFrames a.uplinks b.uplinks
  pub receptions : (number : ℕ) (gateway : List ℕ) → a.receptions number gateway ≡ b.receptions number gateway
  pub bookings : a.bookings ≡ b.bookings
  pub limits : a.limits ≡ b.limits

abbrev pub is_success : Answer → Bool
is_success (Refused refusal) = false
is_success _ = true

-- Two gateways report one data frame, and each of the reports would be accepted: then both orders lead to the same state.
abbrev pub DataInAnyOrder : Type 0
DataInAnyOrder = (c : Settings) (heard : List Envelope) (x y : Envelope) (a b : Report) (verdict : Option ℕ) → x.message ≡ FrameHeard a verdict → y.message ≡ FrameHeard b verdict
    → a.octets ≡ b.octets → a.gateway ≢ b.gateway → let s : State = state_of c heard in IsTrue (is_success (step c s x).1) → IsTrue (is_success (step c s y).1)
    → SameButFirst (step c (step c s x).0 y).0 (step c (step c s y).0 x).0

-- The same for a join request.
abbrev pub JoinsInAnyOrder : Type 0
JoinsInAnyOrder = (c : Settings) (heard : List Envelope) (x y : Envelope) (a b : Report) (verdict : JoinVerdict) → x.message ≡ JoinHeard a verdict → y.message ≡ JoinHeard b verdict
    → a.octets ≡ b.octets → a.gateway ≢ b.gateway → let s : State = state_of c heard in IsTrue (is_success (step c s x).1) → IsTrue (is_success (step c s y).1)
    → SameButFirst (step c (step c s x).0 y).0 (step c (step c s y).0 x).0
