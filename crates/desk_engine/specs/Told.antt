-- How a delivered text is read, and how it is answered.
use Rattle.std.specs.Prelude.{ℕ, List, Option, Some, Result, Ok, Err, nat_lt, length, unwrap_or, if◌then◌else◌}
use Rattle.registry_core.specs.declared.answers.Refusal.{Refusal}
use Rattle.registry_core.specs.declared.answers.Refusal.TheVariants.{UnknownSender, TransactionReused, Unavailable}
use Rattle.registry_core.specs.declared.messages.Envelope.{Envelope}
use Rattle.registry_core.specs.Heard.{Reply, Stranger, Reused, Answers, reply_to}
use Rattle.registry_core.specs.Settings.{Settings}
use Rattle.desk_wire.specs.declared.faults.WireFault.{WireFault}
use Rattle.desk_wire.specs.declared.faults.WireFault.TheVariants.{Malformed}
use Rattle.desk_wire.specs.declared.heads.Head.{Head}
use Rattle.desk_wire.specs.Answers.{answer_text, refusal_text, head_of_envelope}
use Rattle.desk_wire.specs.Faults.{head_of_fault, refusal_of_fault}
use Rattle.desk_wire.specs.Reading.{reads}

-- a longer text is not a message (this project's limit)
abbrev pub longest_message : ℕ
longest_message = 65536

-- the envelope that a delivered text is, or why it is none
unfoldable pub envelope_of_text : Settings → List ℕ → Result Envelope WireFault
envelope_of_text c text = if nat_lt longest_message (length text) then Err Malformed else reads c.receiver text

-- what is returned for a delivery: an answer's text, or a refusal and its text
pub data Told : Type 0 where
  AnswerText : List ℕ → Told
  RefusalText : Refusal → List ℕ → Told

abbrev pub text_of : Told → List ℕ
text_of (AnswerText text) = text
text_of (RefusalText refusal text) = text

abbrev pub told_of_refusal : Settings → Refusal → Option Head → Told
told_of_refusal c refusal head = RefusalText refusal (refusal_text c.receiver head refusal)

-- a reply as a text
abbrev pub told_of_reply : Settings → Envelope → Reply → Told
told_of_reply c e Stranger = told_of_refusal c UnknownSender (Some (head_of_envelope e))
told_of_reply c e Reused = told_of_refusal c TransactionReused (Some (head_of_envelope e))
told_of_reply c e (Answers answer) = AnswerText (answer_text c.receiver (head_of_envelope e) answer)

-- the refusal of a text that is no envelope; reading a text can't run out of memory in the definition
abbrev pub told_of_fault : Settings → WireFault → Told
told_of_fault c fault = told_of_refusal c (unwrap_or (refusal_of_fault fault) Unavailable) (head_of_fault fault)

-- the answer of an envelope after this log
abbrev pub told_of_envelope : Settings → List Envelope → Envelope → Told
told_of_envelope c heard e = told_of_reply c e (reply_to c heard e)

abbrev pub told_of_read : Settings → List Envelope → Result Envelope WireFault → Told
told_of_read c heard (Ok e) = told_of_envelope c heard e
told_of_read c heard (Err fault) = told_of_fault c fault

-- the answer of a text after this log
abbrev pub told_of_text : Settings → List Envelope → List ℕ → Told
told_of_text c heard text = told_of_read c heard (envelope_of_text c text)
