-- The ports of a network: which can't be bound, and how connections at one are answered.
use Rattle.std.specs.Prelude.{ℕ, Bool, List, Option}
use Rattle.registry_core.specs.declared.messages.Envelope.{Envelope}
use Rattle.registry_core.specs.Settings.{Settings}
use Rattle.desk_http.specs.Answered.{Answers, Delivered, none_delivered}
use Rattle.desk_http.specs.Served.{Connections, ServesEach, ServesFewer}

-- ---- what the ports of a network mean

-- In one record: the ghost member of the trait.
pub record Ports (N L : Type 0) : Type 1 where
  -- this port of the network is listened at, with a log of its connections or without
  pub listens : N → ℕ → Bool → L → Type 0
  -- this port can't be bound
  pub refuses : N → ℕ → Type 0

-- ---- what is answered at them

-- which ports can't be bound; and how a desk with this log answered n connections at a port, and what they delivered; or fewer connections,
-- if no other came
pub record AtPorts : Type 1 where
  pub refused : ℕ → Type 0
  pub answered : ℕ → Settings → List Envelope → ℕ → Delivered → Type 0
  pub given_up : ℕ → Settings → List Envelope → ℕ → Delivered → Type 0

-- At a port of a network n connections were answered so, from when it is listened at.
abbrev pub AnswersEach : {N L R W : Type 0} → Ports N L → N → Connections L R W → (R → Option (List ℕ)) → (W → Option (List ℕ)) → Bool → ℕ → Settings → List Envelope → ℕ → Delivered → Type 0
AnswersEach {N} {L} ports network l remaining contents log port c heard n delivered =
    (before after : L) × ports.listens network port log before × ServesEach l remaining contents (Answers c heard) n none_delivered delivered before after

-- Fewer were answered so, and then as many accepts failed as end the serving.
abbrev pub AnswersFewer : {N L R W : Type 0} → Ports N L → N → Connections L R W → (R → Option (List ℕ)) → (W → Option (List ℕ)) → Bool → ℕ → Settings → List Envelope → ℕ → Delivered → Type 0
AnswersFewer {N} {L} ports network l remaining contents log port c heard n delivered =
    (before after : L) × ports.listens network port log before × ServesFewer l remaining contents (Answers c heard) n none_delivered delivered before after

-- what is known of the ports of a network, in one record, with a log of their connections or without
abbrev pub at_ports : {N L R W : Type 0} → Ports N L → N → Connections L R W → (R → Option (List ℕ)) → (W → Option (List ℕ)) → Bool → AtPorts
at_ports ports network l remaining contents log = record {
  refused = ports.refuses network;
  answered = AnswersEach ports network l remaining contents log;
  given_up = AnswersFewer ports network l remaining contents log;
}
