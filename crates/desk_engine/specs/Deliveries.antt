-- The log after deliveries.
use Rattle.std.specs.Prelude.{ℕ, Bool, List, [], ◌∷◌, Result, Ok, Err, if◌then◌else◌}
use Rattle.registry_core.specs.declared.messages.Envelope.{Envelope}
use Rattle.registry_core.specs.Heard.{heard_with}
use Rattle.registry_core.specs.Settings.{Settings}
use Rattle.desk_wire.specs.declared.faults.WireFault.{WireFault}
use Rattle.desk_engine.specs.Told.{envelope_of_text}

-- a text, and whether it was answered Unavailable
pub record Delivery : Type 0 where
  pub text : List ℕ
  pub unavailable : Bool

-- the log with one more envelope, unless that was answered Unavailable
abbrev pub heard_unless : Bool → Settings → List Envelope → Envelope → List Envelope
heard_unless unavailable c heard e = if unavailable then heard else heard_with c heard e

abbrev pub heard_read : Bool → Settings → List Envelope → Result Envelope WireFault → List Envelope
heard_read unavailable c heard (Ok e) = heard_unless unavailable c heard e
heard_read unavailable c heard (Err fault) = heard

-- the log after one more delivery
abbrev pub heard_after : Settings → List Envelope → Delivery → List Envelope
heard_after c heard d = heard_read d.unavailable c heard (envelope_of_text c d.text)

-- the log after the deliveries
abbrev pub heard_all : Settings → List Envelope → List Delivery → List Envelope
heard_all c heard [] = heard
heard_all c heard (d ∷ ds) = heard_all c (heard_after c heard d) ds
