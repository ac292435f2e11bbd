-- How far a run has read its input, and what one line does. For private clauses.
use Rattle.std.specs.Prelude.{◌≡◌, ◌≢◌, ◌+◌, ◌-◌, ℕ, List, [], ◌∷◌, ◌++◌, Option, None, Result, Ok, Err, length, take}
use Rattle.registry_core.specs.declared.messages.Envelope.{Envelope}
use Rattle.registry_core.specs.Settings.{Settings}
use Rattle.desk_store.specs.declared.faults.StoreFault.{StoreFault}
use Rattle.desk_store.specs.declared.faults.StoreFault.TheVariants.{Size}
use Rattle.desk_store.specs.Calls.{IsUnavailability}
use Rattle.desk_store.specs.Meaning.{Meaning}
use Rattle.desk_engine.specs.declared.lines.LinesEnd.{LinesEnd}
use Rattle.desk_engine.specs.declared.lines.LinesEnd.TheVariants as lines_end
use Rattle.desk_engine.specs.declared.lines.Stop.{Stop}
use Rattle.desk_engine.specs.declared.lines.Stop.TheVariants.{Write, Unavailable}
use Rattle.desk_engine.specs.declared.outcomes.Outcome.TheVariants as outcome
use Rattle.desk_engine.specs.InOrder.{HasNoRoom}
use Rattle.desk_engine.specs.Lines.{whole_lines, last_line, fault_of_end, HasHeardLines, HasAnswered, LinesEndBy}
use Rattle.desk_engine.specs.Outcomes.{doubt_of_text}
use Rattle.desk_engine.specs.Told.{longest_message}

-- What is buffered of a line. One octet more than a message may have is enough, since any longer line gets the same answer.
abbrev pub part : List ℕ → List ℕ
part line = take (longest_message + 1) line

-- with as many of these octets as the buffer has space for
abbrev pub line_with : List ℕ → List ℕ → List ℕ
line_with line octets = line ++ take (longest_message + 1 - length line) octets

abbrev pub lines_end_of : Stop → LinesEnd
lines_end_of Write = lines_end.Write
lines_end_of (Unavailable fault) = lines_end.Unavailable fault

-- the store's error, if the store was unavailable
abbrev pub fault_of_stop : {T : Type 0} → Result T Stop → Option StoreFault
fault_of_stop (Ok done) = None
fault_of_stop (Err stop) = fault_of_end (lines_end_of stop)

module _ {K : Type 0} (m : Meaning K) (c : Settings) (heard : List Envelope) (old new : K) (before after : Option (List ℕ)) where
  -- What one line does. It is answered; or it has an octet and is heard without an answer; or it has an octet and the store is unavailable.
  abbrev pub TakesLine : {T : Type 0} → List ℕ → Result T Stop → Type 0
  TakesLine line (Ok done) = HasAnswered m c heard old new before after (line ∷ []) None
  TakesLine line (Err Write) = (line ≢ []) × HasHeardLines m c heard old new (line ∷ []) None
  TakesLine line (Err (Unavailable fault)) =
      (line ≢ []) × HasAnswered m c heard old new before after [] (doubt_of_text c line (outcome.Unavailable fault)) × IsUnavailability fault
      × (fault ≡ Size → HasNoRoom m new heard)

  -- The lines of this input are answered, and this is buffered of the line after them.
  pub record HasReadTo (input line : List ℕ) : Type 0 where
    pub up : m.failed new ≡ m.failed old
    pub begun : line ≡ part (last_line input)
    pub answered : HasAnswered m c heard old new before after (whole_lines input) None

  -- everything up to the end of this input is done, or the run ended in it, whatever follows
  abbrev pub GoesTo : {T : Type 0} → List ℕ → List ℕ → Result T Stop → Type 0
  GoesTo input line (Ok done) = HasReadTo input line
  GoesTo input line (Err stop) = (more : List ℕ) → LinesEndBy m c heard old new before after (input ++ more) (lines_end_of stop)
