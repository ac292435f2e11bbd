-- Laws of reading and writing together.
use Rattle.std.specs.Prelude.{◌≡◌, ◌≢◌, ◌≤◌, ◌==◌, ℕ, List, [], false, length, Ok, Err}
use Rattle.std.specs.List.{list_any}
use Rattle.registry_core.specs.declared.messages.Envelope.{Envelope}
use Rattle.registry_core.specs.Ranges.{IsName, IsEnvelope}
use Rattle.desk_wire.specs.declared.faults.WireFault.TheVariants.{Memory}
use Rattle.desk_wire.specs.Reading.{reads}
use Rattle.desk_wire.specs.Writing.{message_text}

-- the text of an envelope is read as the same envelope
abbrev pub MessageReadsBack : Type 0
MessageReadsBack = (receiver : List ℕ) (e : Envelope) → IsName receiver → IsEnvelope e
    → reads receiver (message_text receiver e) ≡ Ok e

-- an envelope that is read has its values in the ranges of their types
abbrev pub ReadsInRange : Type 0
ReadsInRange = (receiver text : List ℕ) (e : Envelope) → reads receiver text ≡ Ok e → IsEnvelope e

-- no text is read as `Memory`: only the code that reads a text returns that
abbrev pub ReadsNoMemory : Type 0
ReadsNoMemory = (receiver text : List ℕ) → reads receiver text ≢ Err Memory

-- the text of an envelope has at most 65,536 octets
abbrev pub MessagesFit : Type 0
MessagesFit = (receiver : List ℕ) (e : Envelope) → IsName receiver → IsEnvelope e → length (message_text receiver e) ≤ 65536

-- the text of an envelope is one line: it is not empty, and no octet of it is LF
abbrev pub MessagesAreLines : Type 0
MessagesAreLines = (receiver : List ℕ) (e : Envelope) → IsName receiver → IsEnvelope e
    → (message_text receiver e ≢ []) × (list_any (λ x. x == 10) (message_text receiver e) ≡ false)
