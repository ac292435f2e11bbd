-- A text that is no envelope is refused, and nothing is heard of it.
use Rattle.std.proofs.Common.{◌≡◌, List, Result, Ok, Err, refl, sym, subst}
use Rattle.registry_core.specs.declared.messages.Envelope.{Envelope}
use Rattle.registry_core.specs.Settings.{Settings}
use Rattle.desk_store.specs.declared.faults.StoreFault.TheVariants as store_faults
use Rattle.desk_wire.specs.declared.faults.WireFault.{WireFault}
use Rattle.desk_wire.specs.declared.faults.WireFault.TheVariants.{Malformed, InvalidProtocolVersion, UnknownReceiver, UnknownType, BadBody, Memory}
use Rattle.desk_wire.specs.Reading.{Gives}
use Rattle.desk_engine.specs.declared.outcomes.Outcome.{Outcome}
use Rattle.desk_engine.specs.declared.outcomes.Outcome.TheVariants.{Unavailable}
use Rattle.desk_engine.specs.Deliveries.{heard_read}
use Rattle.desk_engine.specs.Outcomes.{IfRefused, IsOutcome, IsUnheard, is_unavailable}
use Rattle.desk_engine.specs.steps.Hearing.{RefusesText, Says}
use Rattle.desk_engine.specs.Told.{told_of_fault, told_of_read}
use Rattle.desk_engine.proofs.HearingCases.{IsQuiet, says_outcome, says_quiet, says_refused}

-- what follows from such an outcome
pub record IsUnread (c : Settings) (heard : List Envelope) (wanted : Result Envelope WireFault) (o : Outcome) : Type 0 where
  pub outcome : IsOutcome (told_of_read c heard wanted) o
  pub stays : heard_read (is_unavailable o) c heard wanted ≡ heard

without_memory : (c : Settings) (heard : List Envelope) (wanted : Result Envelope WireFault) → IsUnread c heard wanted (Unavailable store_faults.Memory)
without_memory c heard (Ok e) = record { outcome = tt; stays = refl }
without_memory c heard (Err fault) = record { outcome = tt; stays = refl }

with_fault : (c : Settings) (heard : List Envelope) (wanted : Result Envelope WireFault) (fault : WireFault) (o : Outcome) → wanted ≡ Err fault → Says (told_of_fault c fault) o
    → IsUnread c heard wanted o
with_fault c heard wanted fault o is said = subst (λ w. IsUnread c heard w o) (sym is) (record {
  outcome = says_outcome (told_of_fault c fault) o said;
  stays = refl;
})

pub unread : (c : Settings) (heard : List Envelope) (wanted : Result Envelope WireFault) (fault : WireFault) (o : Outcome) → Gives (Err fault) wanted → RefusesText c fault o
    → IsUnread c heard wanted o
unread c heard wanted Malformed o is said = with_fault c heard wanted Malformed o is said
unread c heard wanted (InvalidProtocolVersion head) o is said = with_fault c heard wanted (InvalidProtocolVersion head) o is said
unread c heard wanted (UnknownReceiver head) o is said = with_fault c heard wanted (UnknownReceiver head) o is said
unread c heard wanted (UnknownType head) o is said = with_fault c heard wanted (UnknownType head) o is said
unread c heard wanted (BadBody head) o is said = with_fault c heard wanted (BadBody head) o is said
unread c heard wanted Memory o is said = subst (IsUnread c heard wanted) (sym said) (without_memory c heard wanted)

-- its only error may be out of memory, and it refuses what isn't heard
pub record IsRefusedText (o : Outcome) : Type 0 where
  pub quiet : IsQuiet o
  pub refused : IfRefused o IsUnheard

pub refused_text : (c : Settings) (fault : WireFault) (o : Outcome) → RefusesText c fault o → IsRefusedText o
refused_text c Malformed o said = record { quiet = says_quiet _ o said; refused = says_refused IsUnheard _ _ o tt said }
refused_text c (InvalidProtocolVersion head) o said = record { quiet = says_quiet _ o said; refused = says_refused IsUnheard _ _ o tt said }
refused_text c (UnknownReceiver head) o said = record { quiet = says_quiet _ o said; refused = says_refused IsUnheard _ _ o tt said }
refused_text c (UnknownType head) o said = record { quiet = says_quiet _ o said; refused = says_refused IsUnheard _ _ o tt said }
refused_text c (BadBody head) o said = record { quiet = says_quiet _ o said; refused = says_refused IsUnheard _ _ o tt said }
refused_text c Memory o said = subst IsRefusedText (sym said) (record { quiet = record { disk = refl; not_a_desk = refl; size = λ e. cc; told = tt }; refused = tt })
