-- An input of lines: how it is split, what is heard of it, and what is written for it.
use Rattle.std.specs.Prelude.{◌≡◌, ◌≢◌, ◌==◌, ◌↔◌, ℕ, List, [], ◌∷◌, ◌++◌, Bool, false, Option, Some, None, if◌then◌else◌}
use Rattle.std.specs.List.{list_any}
use Rattle.std.specs.Io.KnownBytes.{Appends, Consumes}
use Rattle.registry_core.specs.declared.messages.Envelope.{Envelope}
use Rattle.registry_core.specs.Settings.{Settings}
use Rattle.desk_store.specs.declared.faults.StoreFault.{StoreFault}
use Rattle.desk_store.specs.declared.faults.StoreFault.TheVariants.{Size}
use Rattle.desk_store.specs.Calls.{IsUnavailability}
use Rattle.desk_store.specs.Meaning.{Meaning}
use Rattle.desk_engine.specs.declared.lines.LinesEnd.{LinesEnd}
use Rattle.desk_engine.specs.declared.lines.LinesEnd.TheVariants.{Done, Read, Write, Unavailable}
use Rattle.desk_engine.specs.declared.outcomes.Outcome.TheVariants as outcome
use Rattle.desk_engine.specs.Deliveries.{Delivery, heard_after}
use Rattle.desk_engine.specs.Hearing.{StoreLeaves}
use Rattle.desk_engine.specs.InOrder.{ForLog, HasNoRoom}
use Rattle.desk_engine.specs.Outcomes.{doubt_of_text}
use Rattle.desk_engine.specs.Told.{text_of, told_of_text}

-- ---- how an input is split

-- the octet LF
abbrev pub line_feed : ℕ
line_feed = 10

-- one more octet at the front of the first line, or of what follows the last LF if there are no lines
abbrev pub with_octet : ℕ → List (List ℕ) → List ℕ → List (List ℕ) × List ℕ
with_octet x [] rest = ([], x ∷ rest)
with_octet x (line ∷ lines) rest = ((x ∷ line) ∷ lines, rest)

-- the input split at each LF: the lines that an LF ends, and what follows the last LF
abbrev pub cut : List ℕ → List (List ℕ) × List ℕ
cut [] = ([], [])
cut (x ∷ xs) = if x == line_feed then ([] ∷ (cut xs).0, (cut xs).1) else with_octet x (cut xs).0 (cut xs).1

-- the lines that an LF ends
abbrev pub whole_lines : List ℕ → List (List ℕ)
whole_lines input = (cut input).0

-- what follows the last LF
abbrev pub last_line : List ℕ → List ℕ
last_line input = (cut input).1

-- the lines that an LF ends, and what follows the last LF
abbrev pub all_lines : List ℕ → List (List ℕ)
all_lines input = whole_lines input ++ last_line input ∷ []

abbrev pub has_line_feed : List ℕ → Bool
has_line_feed octets = list_any (λ x. x == line_feed) octets

-- the lines, each with an LF, and then the rest
abbrev pub input_of : List (List ℕ) → List ℕ → List ℕ
input_of [] rest = rest
input_of (line ∷ lines) rest = line ++ line_feed ∷ input_of lines rest

-- An input is split into these lines and this rest if and only if it is the lines, each with an LF, and then the rest, and none of them has
-- an LF.
abbrev pub InputsAreCut : Type 0
InputsAreCut = (input : List ℕ) (lines : List (List ℕ)) (rest : List ℕ)
    → (cut input ≡ (lines, rest)) ↔ ((input ≡ input_of lines rest) × (list_any has_line_feed lines ≡ false) × (has_line_feed rest ≡ false))

-- ---- what is heard of lines, and what is written for them

-- a line that is answered
abbrev pub delivery_of_line : List ℕ → Delivery
delivery_of_line line = record { text = line; unavailable = false }

-- a line without octets isn't heard
abbrev pub heard_line : Settings → List Envelope → List ℕ → List Envelope
heard_line c heard [] = heard
heard_line c heard (x ∷ line) = heard_after c heard (delivery_of_line (x ∷ line))

-- the answer of a line with an LF; nothing for a line without octets
abbrev pub answer_line : Settings → List Envelope → List ℕ → List ℕ
answer_line c heard [] = []
answer_line c heard (x ∷ line) = text_of (told_of_text c heard (x ∷ line)) ++ line_feed ∷ []

-- the log after the lines
abbrev pub heard_lines : Settings → List Envelope → List (List ℕ) → List Envelope
heard_lines c heard [] = heard
heard_lines c heard (line ∷ lines) = heard_lines c (heard_line c heard line) lines

-- the answers of the lines in order
abbrev pub answer_lines : Settings → List Envelope → List (List ℕ) → List ℕ
answer_lines c heard [] = []
answer_lines c heard (line ∷ lines) = answer_line c heard line ++ answer_lines c (heard_line c heard line) lines

-- ---- a run

-- the lines are the first of these
abbrev pub IsBeginning : List (List ℕ) → List (List ℕ) → Type 0
IsBeginning lines all = (more : List (List ℕ)) × (all ≡ lines ++ more)

-- the store's error, if the store was unavailable for a line
abbrev pub fault_of_end : LinesEnd → Option StoreFault
fault_of_end (Unavailable fault) = Some fault
fault_of_end _ = None

module _ {K : Type 0} (m : Meaning K) (c : Settings) (heard : List Envelope) (old new : K) where
  -- the store represents the log after these lines, and a crash leaves that log, or it with the in-flight message
  abbrev pub HasHeardLines : List (List ℕ) → Option Envelope → Type 0
  HasHeardLines lines now = StoreLeaves m c heard old new (heard_lines c heard lines) now

  -- and exactly their answers were written
  pub record HasAnswered (before after : Option (List ℕ)) (lines : List (List ℕ)) (now : Option Envelope) : Type 0 where
    pub hears : HasHeardLines lines now
    pub answers : Appends before after (answer_lines c heard lines)

  -- these lines were heard, and then a line with an octet; what was written isn't known
  pub record FailsToWrite (input : List ℕ) : Type 0 where
    pub lines : List (List ℕ)
    pub line : List ℕ
    pub some : line ≢ []
    pub beginning : IsBeginning (lines ++ line ∷ []) (all_lines input)
    pub hears : HasHeardLines (lines ++ line ∷ []) None

  -- these lines were answered, and the store was unavailable for the next line, which has an octet
  pub record IsCutShort (before after : Option (List ℕ)) (input : List ℕ) (fault : StoreFault) : Type 0 where
    pub lines : List (List ℕ)
    pub line : List ℕ
    pub some : line ≢ []
    pub beginning : IsBeginning (lines ++ line ∷ []) (all_lines input)
    pub answered : HasAnswered before after lines (doubt_of_text c line (outcome.Unavailable fault))
    pub unavailability : IsUnavailability fault
    pub size : fault ≡ Size → HasNoRoom m new (heard_lines c heard lines)

  -- what is true of a run that read this input, by how it ended
  abbrev pub LinesEndBy : Option (List ℕ) → Option (List ℕ) → List ℕ → LinesEnd → Type 0
  LinesEndBy before after input Done = HasAnswered before after (all_lines input) None
  LinesEndBy before after input Read = HasAnswered before after (whole_lines input) None
  LinesEndBy before after input Write = FailsToWrite input
  LinesEndBy before after input (Unavailable fault) = IsCutShort before after input fault

-- An input was read, and for each log that the store represented before, the run ended so. The store was `old` and is `new`. `reader` and
-- `rest` are the reader before and after, `writer` and `written` the writer.
abbrev pub RunsLines : {K R W : Type 0} → Meaning K → (R → Option (List ℕ)) → (W → Option (List ℕ)) → K → K → R → R → W → W → LinesEnd → Type 0
RunsLines m remaining contents old new reader rest writer written end = (input : List ℕ) × Consumes (remaining reader) (remaining rest) input
    × ForLog m old new (λ c heard. LinesEndBy m c heard old new (contents writer) (contents written) input end)
