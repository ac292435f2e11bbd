-- What lines that are answered leave of a desk, by how it ended. It is stated for a store and for a desk's file alike.
use Rattle.std.specs.Prelude.{◌≡◌, ◌⊎◌, ℕ, List, [], ◌∷◌, ◌++◌, Option, None, Result, Ok, Err}
use Rattle.std.specs.Io.KnownBytes.{Appends, Consumes, IsAtEnd}
use Rattle.registry_core.specs.declared.messages.Envelope.{Envelope}
use Rattle.registry_core.specs.Settings.{Settings}
use Rattle.desk_store.specs.declared.faults.StoreFault.{StoreFault}
use Rattle.desk_engine.specs.declared.outcomes.Outcome.TheVariants as outcome
use Rattle.desk_engine.specs.Lines.{IsBeginning, all_lines, answer_lines, heard_lines}
use Rattle.desk_engine.specs.Outcomes.{doubt_of_text}
use Rattle.desk_cli.specs.declared.faults.Fault.{Fault}
use Rattle.desk_cli.specs.declared.faults.Fault.TheVariants.{File, Unavailable}

-- there is no in-flight message, or it is that of the line after these
abbrev pub IsDoubtAfter : Settings → List (List ℕ) → List ℕ → Option Envelope → Type 0
IsDoubtAfter c lines input doubt =
    (doubt ≡ None)
    ⊎ ((line : List ℕ) × (fault : StoreFault) × IsBeginning (lines ++ line ∷ []) (all_lines input) × (doubt ≡ doubt_of_text c line (outcome.Unavailable fault)))

-- `heard` is the log before. `Kept` states that a log is represented, and `Left` that a crash leaves a log, or it with the in-flight
-- message. `left` and `rest` are what the reader has left before and after, `before` and `after` what the writer has before and after.
module _ (c : Settings) (heard : List Envelope) (Kept : List Envelope → Type 0) (Left : List Envelope → Option Envelope → Type 0) (left rest before after : Option (List ℕ)) where
  -- all lines of the input were heard, and exactly their answers were written
  pub record AnswersAll : Type 0 where
    pub input : List ℕ
    pub read : Consumes left rest input
    pub whole : IsAtEnd rest
    pub kept : Kept (heard_lines c heard (all_lines input))
    pub answers : Appends before after (answer_lines c heard (all_lines input))

  -- the first lines of the input were heard
  pub record HearsFirst : Type 0 where
    pub input : List ℕ
    pub read : Consumes left rest input
    pub lines : List (List ℕ)
    pub beginning : IsBeginning lines (all_lines input)
    pub kept : Kept (heard_lines c heard lines)

  -- the first lines of the input were heard and exactly their answers were written; the next is the in-flight message, if there is one
  pub record AnswersFirst : Type 0 where
    pub input : List ℕ
    pub read : Consumes left rest input
    pub lines : List (List ℕ)
    pub beginning : IsBeginning lines (all_lines input)
    pub doubt : Option Envelope
    pub in_doubt : IsDoubtAfter c lines input doubt
    pub left_is : Left (heard_lines c heard lines) doubt
    pub answers : Appends before after (answer_lines c heard lines)

  -- what is true, by how it ended
  abbrev pub AnswersBy : {T : Type 0} → Result T Fault → Type 0
  AnswersBy (Ok x) = AnswersAll
  AnswersBy (Err File) = HearsFirst
  AnswersBy (Err Unavailable) = AnswersFirst
  AnswersBy (Err _) = ⊥
