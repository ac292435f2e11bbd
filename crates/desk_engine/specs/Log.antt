-- The log of a desk as texts: the messages that it has heard, and their answers.
use Rattle.std.specs.Prelude.{◌≡◌, ◌<◌, ◌≤◌, ◌+◌, ◌-◌, ◌&&◌, ℕ, zero, suc, List, [], ◌∷◌, ◌++◌, Option, Some, None, length, map, max, min, nat_le, take, drop}
use Rattle.std.specs.Io.KnownBytes.{Appends}
use Rattle.registry_core.specs.declared.messages.Envelope.{Envelope}
use Rattle.registry_core.specs.Heard.{IsHeard, answers_of}
use Rattle.registry_core.specs.Ranges.{IsSettings}
use Rattle.registry_core.specs.Settings.{Settings}
use Rattle.registry_core.specs.JsonIntegers.{greatest_json_integer}
use Rattle.desk_store.specs.declared.faults.StoreFault.{StoreFault}
use Rattle.desk_store.specs.Calls.{IsUnavailability}
use Rattle.desk_wire.specs.Answers.{answer_text, head_of_envelope}
use Rattle.desk_wire.specs.Decimals.{decimal_in}
use Rattle.desk_wire.specs.Optional.{◌>>=◌, only_if}
use Rattle.desk_wire.specs.Writing.{message_text}
use Rattle.desk_engine.specs.declared.log.LogEnd.{LogEnd}
use Rattle.desk_engine.specs.declared.log.LogEnd.TheVariants.{Done, Write, Unavailable}
use Rattle.desk_engine.specs.declared.log.LogText.{LogText}
use Rattle.desk_engine.specs.declared.log.LogText.TheVariants.{Message, Answer}
use Rattle.desk_engine.specs.Deliveries.{heard_all}
use Rattle.desk_engine.specs.Laws.{delivered, told_each}
use Rattle.desk_engine.specs.Lines.{all_lines, answer_lines, heard_lines, input_of, line_feed}
use Rattle.desk_engine.specs.Told.{AnswerText}

-- ---- what a log is

-- the message number that a text writes: one to sixteen digits, from 1 to 2^53 - 1
abbrev pub message_number : List ℕ → Option ℕ
message_number text = decimal_in text >>= only_if (λ n. nat_le 1 n && nat_le n greatest_json_integer)

-- at most `most` items, from this number on; the first item has the number 1
abbrev pub numbered_from : {X : Type 0} → ℕ → ℕ → List X → List X
numbered_from zero most xs = []
numbered_from (suc n) most xs = take most (drop n xs)

-- the texts of at most `most` messages, from this number on
abbrev pub log_messages : Settings → List Envelope → ℕ → ℕ → List (List ℕ)
log_messages c heard from most = map (message_text c.receiver) (numbered_from from most heard)

-- the texts of their answers
abbrev pub log_answers : Settings → List Envelope → ℕ → ℕ → List (List ℕ)
log_answers c heard from most = map (λ x. answer_text c.receiver (head_of_envelope x.0) x.1) (numbered_from from most (answers_of c heard))

abbrev pub log_of : LogText → Settings → List Envelope → ℕ → ℕ → List (List ℕ)
log_of Message c heard from most = log_messages c heard from most
log_of Answer c heard from most = log_answers c heard from most

-- ---- the log is the desk

-- Take a log (`heard`), a desk that has heard its first k messages, and a part of the log that begins at most one message after
-- those. Each message of the part, delivered to the desk, is answered as it was. Then the desk has heard the log up to the end of the
-- part, or its first k messages if the part ends before.
abbrev pub LogIsTheDesk : Type 0
LogIsTheDesk = (c : Settings) (heard : List Envelope) (from most k : ℕ) → IsSettings c → IsHeard c heard → 0 < from → from ≤ k + 1 → k ≤ length heard
    → (told_each c (take k heard) (log_messages c heard from most) ≡ map AnswerText (log_answers c heard from most))
    × (heard_all c (take k heard) (map delivered (log_messages c heard from most)) ≡ take (max k (min (from + most - 1) (length heard))) heard)

-- The same by lines. The messages of the part, each with an LF, are an input of lines. The desk writes for it the answers of the part, each
-- with an LF, and has then heard what it would have heard message by message.
abbrev pub LogLinesAreTheDesk : Type 0
LogLinesAreTheDesk = (c : Settings) (heard : List Envelope) (from most k : ℕ) → IsSettings c → IsHeard c heard → 0 < from → from ≤ k + 1 → k ≤ length heard
    → let lines : List (List ℕ) = all_lines (input_of (log_messages c heard from most) []) in
    (answer_lines c (take k heard) lines ≡ input_of (log_answers c heard from most) [])
    × (heard_lines c (take k heard) lines ≡ take (max k (min (from + most - 1) (length heard))) heard)

-- ---- how the writing of a log ends

-- the store's error, if that is why it ended
abbrev pub fault_of_log : LogEnd → Option StoreFault
fault_of_log (Unavailable fault) = Some fault
fault_of_log _ = None

module _ (lines : List (List ℕ)) (before after : Option (List ℕ)) where
  -- exactly these were written: the first of the lines, each with an LF
  pub record WritesWhole : Type 0 where
    pub done : List (List ℕ)
    pub more : List (List ℕ)
    pub lines_are : lines ≡ done ++ more
    pub written : Appends before after (input_of done [])

  -- exactly these were written: the first of the lines, each with an LF, and the first `octets` octets of the next line with its LF
  pub record WritesPart : Type 0 where
    pub done : List (List ℕ)
    pub line : List ℕ
    pub more : List (List ℕ)
    pub octets : ℕ
    pub lines_are : lines ≡ done ++ line ∷ more
    pub written : Appends before after (input_of done (take octets (line ++ line_feed ∷ [])))

  -- what is true of the writing of a log, by how it ended; `Done` has the number of lines, and all were written
  abbrev pub LogEndBy : LogEnd → Type 0
  LogEndBy (Done count) = Appends before after (input_of lines []) × (count ≡ length lines)
  LogEndBy Write = WritesPart
  LogEndBy (Unavailable fault) = WritesWhole × IsUnavailability fault

-- the writing of this part of the log's messages or answers ended so, from what the writer had before (`old`) to what it has after (`new`)
abbrev pub WritesLog : {W : Type 0} → (W → Option (List ℕ)) → W → W → LogText → ℕ → ℕ → LogEnd → Settings → List Envelope → Type 0
WritesLog contents old new which from most end c heard = LogEndBy (log_of which c heard from most) (contents old) (contents new) end
