-- The log after deliveries: a log, with what they add at its end.
use Rattle.std.proofs.Common.{◌≡◌, ◌∙◌, ℕ, ◌<◌, Bool, true, false, List, [], ◌∷◌, ◌++◌, length, Result, Ok, Err, cond, refl, ap, sym, append-nil, append_assoc}
use Rattle.std.specs.Prelude.{nat_lt, not, ◌&&◌}
use Rattle.registry_core.specs.declared.messages.Envelope.{Envelope}
use Rattle.registry_core.specs.Heard.{HeardListsStay, IsHeard, has_pair, heard_with, is_sender, most_heard, state_of}
use Rattle.registry_core.specs.Ranges.{IsEnvelope}
use Rattle.registry_core.specs.Settings.{Settings}
use Rattle.desk_wire.specs.declared.faults.WireFault.{WireFault}
use Rattle.desk_wire.specs.declared.faults.WireFault.TheVariants.{Malformed}
use Rattle.desk_wire.specs.Laws.{ReadsInRange}
use Rattle.desk_wire.specs.Reading.{reads}
use Rattle.desk_engine.specs.Deliveries.{heard_after, heard_read}
use Rattle.desk_engine.specs.Laws.{DeliveriesAddAtTheEnd, DeliveriesLeaveHeardLists}
use Rattle.desk_engine.specs.Told.{envelope_of_text, longest_message}

read_in_range : (b : Bool) (c : Settings) (text : List ℕ) (e : Envelope) → ReadsInRange → cond b (Err Malformed) (reads c.receiver text) ≡ Ok e → IsEnvelope e
read_in_range true c text e in_range is = absurd (let k : Err Malformed ≡ Ok e = is in cc)
read_in_range false c text e in_range is = in_range c.receiver text e is

delivered_in_range : (c : Settings) (text : List ℕ) (e : Envelope) → ReadsInRange → envelope_of_text c text ≡ Ok e → IsEnvelope e
unfolding envelope_of_text
delivered_in_range c text e in_range is = read_in_range (nat_lt longest_message (length text)) c text e in_range is

one_more : (u : Bool) (c : Settings) (heard : List Envelope) (wanted : Result Envelope WireFault) → HeardListsStay → IsHeard c heard → length heard < most_heard
    → ((e : Envelope) → wanted ≡ Ok e → IsEnvelope e) → IsHeard c (heard_read u c heard wanted)
one_more u c heard (Err fault) stay list room in_range = list
one_more true c heard (Ok e) stay list room in_range = list
one_more false c heard (Ok e) stay list room in_range = stay c heard e list room (in_range e refl)

pub deliveries_leave_heard_lists : HeardListsStay → ReadsInRange → DeliveriesLeaveHeardLists
deliveries_leave_heard_lists stay in_range c heard d settings list room =
    one_more d.unavailable c heard (envelope_of_text c d.text) stay list room (λ e. delivered_in_range c d.text e in_range)

-- ---- what is added

abbrev AddsTo : List Envelope → List Envelope → Type 0
AddsTo heard after = (more : List Envelope) × (after ≡ heard ++ more)

adds_none : (heard : List Envelope) → AddsTo heard heard
adds_none heard = ([], sym (append-nil heard))

with_adds : (c : Settings) (heard : List Envelope) (e : Envelope) → AddsTo heard (heard_with c heard e)
unfolding heard_with
with_adds c heard e = elim (is_sender (state_of c heard) e.sender && not (has_pair heard e)) as (λ b. AddsTo heard (cond b (heard ++ e ∷ []) heard)) [
  | true ↦ (e ∷ [], refl)
  | false ↦ adds_none heard
]

read_adds : (u : Bool) (c : Settings) (heard : List Envelope) (wanted : Result Envelope WireFault) → AddsTo heard (heard_read u c heard wanted)
read_adds u c heard (Err fault) = adds_none heard
read_adds true c heard (Ok e) = adds_none heard
read_adds false c heard (Ok e) = with_adds c heard e

pub deliveries_add_at_the_end : DeliveriesAddAtTheEnd
deliveries_add_at_the_end c heard [] = adds_none heard
deliveries_add_at_the_end c heard (d ∷ ds) =
    let one = read_adds d.unavailable c heard (envelope_of_text c d.text) in
    let rest = deliveries_add_at_the_end c (heard_after c heard d) ds in
    (one.0 ++ rest.0, rest.1 ∙ ap (λ l. l ++ rest.0) one.1 ∙ append_assoc heard one.0 rest.0)
