-- Laws of the registry, whatever was heard.
use Rattle.std.specs.Prelude.{◌≡◌, ◌↔◌, ◌⊎◌, ℕ, ◌+◌, ◌%◌, ◌<◌, ◌≤◌, Bool, true, false, List, Some, IsTrue}
use Rattle.radio_core.specs.Frames.{frame_of}
use Rattle.registry_core.specs.declared.answers.Answer.{Answer}
use Rattle.registry_core.specs.declared.answers.Answer.TheVariants.{JoinSuccess, FrameSuccess, Refused}
use Rattle.registry_core.specs.declared.answers.Refusal.{Refusal}
use Rattle.registry_core.specs.declared.facts.Kind.TheVariants.{Join, Data}
use Rattle.registry_core.specs.declared.facts.Reception.{Reception}
use Rattle.registry_core.specs.declared.facts.Session.{Session}
use Rattle.registry_core.specs.declared.facts.Uplink.{Uplink}
use Rattle.registry_core.specs.declared.frames.DataFrame.{DataFrame}
use Rattle.registry_core.specs.declared.frames.JoinRequest.{JoinRequest}
use Rattle.registry_core.specs.declared.messages.Envelope.{Envelope}
use Rattle.registry_core.specs.declared.messages.Message.{Message}
use Rattle.registry_core.specs.declared.messages.Message.TheVariants.{SenderAdd}
use Rattle.registry_core.specs.Administration.{is_operator}
use Rattle.registry_core.specs.DataFrames.{original_data}
use Rattle.registry_core.specs.Derived.{address_of, is_data_with, is_join_with, session_with_address}
use Rattle.registry_core.specs.Frames.{data_up}
use Rattle.registry_core.specs.Heard.{state_of}
use Rattle.registry_core.specs.Joins.{original_join}
use Rattle.registry_core.specs.Numbered.{item_at}
use Rattle.registry_core.specs.Refusals.{refusal_number}
use Rattle.registry_core.specs.Settings.{Settings}
use Rattle.registry_core.specs.State.{State}
use Rattle.registry_core.specs.Step.{step}

-- ---- sessions

-- each session's address is in the block
abbrev pub AddressesLieInBlock : Type 0
AddressesLieInBlock = (c : Settings) (heard : List Envelope) (n : ℕ) (a : Session) → item_at (state_of c heard).sessions n ≡ Some a
    → (c.base ≤ address_of c n) × (address_of c n < c.base + c.addresses)

-- no two sessions have one address
abbrev pub AddressesAreApart : Type 0
AddressesAreApart = (c : Settings) (heard : List Envelope) (m n : ℕ) (a b : Session) → item_at (state_of c heard).sessions m ≡ Some a
    → item_at (state_of c heard).sessions n ≡ Some b → address_of c m ≡ address_of c n → m ≡ n

-- a device's nonces rise from session to session
abbrev pub NoncesRise : Type 0
NoncesRise = (c : Settings) (heard : List Envelope) (m n : ℕ) (a b : Session) → item_at (state_of c heard).sessions m ≡ Some a
    → item_at (state_of c heard).sessions n ≡ Some b → a.device ≡ b.device → m < n → a.nonce < b.nonce

-- the session that is looked up by an address is the one that has it
abbrev pub SessionsAreFound : Type 0
SessionsAreFound = (c : Settings) (s : State) (addr n : ℕ) (a : Session)
    → (session_with_address s.sessions c.base addr ≡ Some (n, a)) ↔ ((item_at s.sessions n ≡ Some a) × (address_of c n ≡ addr))

-- each session has the join uplink that made it: with its nonce as counter
abbrev pub SessionsHaveJoins : Type 0
SessionsHaveJoins = (c : Settings) (heard : List Envelope) (n : ℕ) (a : Session) → item_at (state_of c heard).sessions n ≡ Some a
    → (m : ℕ) × (u : Uplink) × (item_at (state_of c heard).uplinks m ≡ Some u) × (u.kind ≡ Join) × (u.session ≡ n) × (u.counter ≡ a.nonce)

-- ---- uplinks

-- each uplink is one of a session that is there, and a join has the session's nonce as counter
abbrev pub UplinksHaveSessions : Type 0
UplinksHaveSessions = (c : Settings) (heard : List Envelope) (n : ℕ) (u : Uplink) → item_at (state_of c heard).uplinks n ≡ Some u
    → (a : Session) × (item_at (state_of c heard).sessions u.session ≡ Some a) × (u.kind ≡ Join → a.nonce ≡ u.counter)

-- a session's counters rise from data uplink to data uplink
abbrev pub CountersRise : Type 0
CountersRise = (c : Settings) (heard : List Envelope) (m n : ℕ) (u v : Uplink) → item_at (state_of c heard).uplinks m ≡ Some u
    → item_at (state_of c heard).uplinks n ≡ Some v → u.kind ≡ Data → v.kind ≡ Data → u.session ≡ v.session → m < n → u.counter < v.counter

-- the octets of a data uplink are a data frame of its session's address, whose FCnt agrees with its counter modulo 65,536
abbrev pub CountersAgreeWithFrames : Type 0
CountersAgreeWithFrames = (c : Settings) (heard : List Envelope) (n : ℕ) (u : Uplink) → item_at (state_of c heard).uplinks n ≡ Some u → u.kind ≡ Data
    → (frame : DataFrame) × (data_up (frame_of u.octets) ≡ Some frame) × (frame.addr ≡ address_of c u.session) × (frame.fcnt % 65536 ≡ u.counter % 65536)

-- each uplink has a reception at some gateway
abbrev pub UplinksHaveReceptions : Type 0
UplinksHaveReceptions = (c : Settings) (heard : List Envelope) (n : ℕ) (u : Uplink) → item_at (state_of c heard).uplinks n ≡ Some u
    → (gateway : List ℕ) × (reception : Reception) × ((state_of c heard).receptions n gateway ≡ Some reception)

-- an uplink with a number stays as it is
abbrev pub UplinksStay : Type 0
UplinksStay = (c : Settings) (s : State) (e : Envelope) (n : ℕ) (u : Uplink) → item_at s.uplinks n ≡ Some u → item_at (step c s e).0.uplinks n ≡ Some u

-- What is found as a copy of a join is the one join uplink of the device with the nonce and the octets.
abbrev pub JoinCopiesAreFound : Type 0
JoinCopiesAreFound = (c : Settings) (heard : List Envelope) (join : JoinRequest) (octets : List ℕ) (n : ℕ) (u : Uplink) → let s : State = state_of c heard in
    (original_join s join octets ≡ Some (n, u)) ↔ ((item_at s.uplinks n ≡ Some u) × IsTrue (is_join_with s.sessions join.dev_eui join.nonce u) × (u.octets ≡ octets))

-- What is found as a copy of a data frame is the one data uplink of the session with the counter and the octets.
abbrev pub DataCopiesAreFound : Type 0
DataCopiesAreFound = (c : Settings) (heard : List Envelope) (session counter : ℕ) (octets : List ℕ) (n : ℕ) (u : Uplink) → let s : State = state_of c heard in
    (original_data s session counter octets ≡ Some (n, u)) ↔ ((item_at s.uplinks n ≡ Some u) × IsTrue (is_data_with session counter u) × (u.octets ≡ octets))

abbrev pub tells_copy : Answer → Bool
tells_copy (JoinSuccess airtime band copy addr uplink) = copy
tells_copy (FrameSuccess airtime band copy counter dev_eui uplink) = copy
tells_copy _ = false

-- a message that is answered as a copy adds no session and no uplink, and changes no booking
abbrev pub CopiesBookNothing : Type 0
CopiesBookNothing = (c : Settings) (heard : List Envelope) (e : Envelope) → let s : State = state_of c heard in IsTrue (tells_copy (step c s e).1)
    → ((step c s e).0.sessions ≡ s.sessions) × ((step c s e).0.uplinks ≡ s.uplinks) × ((step c s e).0.bookings ≡ s.bookings)

-- ---- every message

-- a refusal changes nothing
abbrev pub RefusalsChangeNothing : Type 0
RefusalsChangeNothing = (c : Settings) (heard : List Envelope) (e : Envelope) (refusal : Refusal) → let s : State = state_of c heard in (step c s e).1 ≡ Refused refusal
    → (step c s e).0 ≡ s

-- the refusal of a check: 6, for the sender's role, or from 9 to 31
abbrev pub IsStepRefusal : Refusal → Type 0
IsStepRefusal refusal = let n : ℕ = refusal_number refusal in (n ≡ 6) ⊎ ((9 ≤ n) × (n ≤ 31))

-- A step gives no other refusal: 1 to 5, 7 and 8 come without a step, and 32 to 34 come from a store.
abbrev pub StepsRefuseByNumber : Type 0
StepsRefuseByNumber = (c : Settings) (s : State) (e : Envelope) (refusal : Refusal)
    → (step c s e).1 ≡ Refused refusal → IsStepRefusal refusal

abbrev pub adds_sender : Message → Bool
adds_sender (SenderAdd sender role) = true
adds_sender _ = false

-- a message that adds no sender leaves the senders as they are
abbrev pub SendersStay : Type 0
SendersStay = (c : Settings) (s : State) (e : Envelope) → adds_sender e.message ≡ false → (step c s e).0.senders ≡ s.senders

-- only messages of operators change senders, owners, gateways, devices and limits
abbrev pub OperatorsKeepTheRegister : Type 0
OperatorsKeepTheRegister = (c : Settings) (s : State) (e : Envelope) → is_operator (s.senders e.sender) ≡ false → let after : State = (step c s e).0 in
    (after.senders ≡ s.senders) × (after.owners ≡ s.owners) × (after.gateways ≡ s.gateways) × (after.devices ≡ s.devices) × (after.limits ≡ s.limits)
