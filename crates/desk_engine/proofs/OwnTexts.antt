-- The text of an envelope is read as the envelope, so it is answered and heard as the envelope is.
use Rattle.std.proofs.Common.{◌≡◌, ℕ, ◌≤◌, Bool, true, false, cond, List, length, Ok, Err, ap, arith}
use Rattle.std.specs.Prelude.{nat_lt}
use Rattle.std.proofs.lemmas.Bool.Decides.{nat_tests}
use Rattle.registry_core.specs.declared.messages.Envelope.{Envelope}
use Rattle.registry_core.specs.Ranges.{IsEnvelope, IsSettings}
use Rattle.registry_core.specs.Settings.{Settings}
use Rattle.desk_wire.specs.declared.faults.WireFault.TheVariants.{Malformed}
use Rattle.desk_wire.specs.Laws.{MessageReadsBack, MessagesFit}
use Rattle.desk_wire.specs.Reading.{reads}
use Rattle.desk_wire.specs.Writing.{message_text}
use Rattle.desk_engine.specs.Deliveries.{heard_read}
use Rattle.desk_engine.specs.Laws.{MessagesAreDelivered}
use Rattle.desk_engine.specs.Told.{envelope_of_text, longest_message, told_of_read}

within : (b : Bool) (c : Settings) (text : List ℕ) (e : Envelope) → b ≡ false → reads c.receiver text ≡ Ok e → cond b (Err Malformed) (reads c.receiver text) ≡ Ok e
within true c text e over is = absurd (let k : true ≡ false = over in cc)
within false c text e over is = is

pub text_reads : MessageReadsBack → MessagesFit → (c : Settings) → IsSettings c → (e : Envelope) → IsEnvelope e → envelope_of_text c (message_text c.receiver e) ≡ Ok e
unfolding envelope_of_text
text_reads back fit c settings e is =
    let short : length (message_text c.receiver e) ≤ longest_message = fit c.receiver e settings.receiver is in
    let not_over : nat_lt longest_message (length (message_text c.receiver e)) ≡ false = grind (arith, nat_tests) in
    within _ c (message_text c.receiver e) e not_over (back c.receiver e settings.receiver is)

pub messages_are_delivered : MessageReadsBack → MessagesFit → MessagesAreDelivered
messages_are_delivered back fit c heard e settings is =
    let read = text_reads back fit c settings e is in
    (ap (told_of_read c heard) read, ap (heard_read false c heard) read)
