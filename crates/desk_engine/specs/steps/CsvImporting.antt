-- Envelopes heard in order by a store, and what is written for them.
use Rattle.std.specs.Prelude.{◌≡◌, ◌⊎◌, ℕ, List, [], ◌∷◌, ◌++◌, Option, Some, None, slice_get, take, ⊤}
use Rattle.std.specs.Io.KnownBytes.{Appends}
use Rattle.registry_core.specs.declared.messages.Envelope.{Envelope}
use Rattle.registry_core.specs.Settings.{Settings}
use Rattle.desk_store.specs.Calls.{IsUnavailability}
use Rattle.desk_engine.specs.declared.csv_importing.ImportEnd.{ImportEnd}
use Rattle.desk_engine.specs.declared.csv_importing.ImportEnd.TheVariants as end
use Rattle.desk_engine.specs.declared.outcomes.Outcome.{Outcome}
use Rattle.desk_engine.specs.declared.outcomes.Outcome.TheVariants.{Answered, Refused, Unavailable}
use Rattle.desk_engine.specs.CsvImporting.{answer_envelopes}
use Rattle.desk_engine.specs.Importing.{heard_in_order}
use Rattle.desk_engine.specs.Lines.{line_feed}

-- the line of an outcome; none if the store was unavailable
abbrev pub line_of : Outcome → List ℕ
line_of (Answered text) = text.items ++ line_feed ∷ []
line_of (Refused refusal text) = text.items ++ line_feed ∷ []
line_of (Unavailable why) = []

module _ (c : Settings) (heard : List Envelope) (Kept : List Envelope → Type 0) (Left : List Envelope → Option Envelope → Type 0) (envelopes : List Envelope) (before after : Option (List ℕ)) where
  -- the first of the envelopes were heard, and this was written of their answers
  pub record HearsSome (Written : List ℕ → Type 0) : Type 0 where
    pub count : ℕ
    pub doubt : Option Envelope
    pub in_doubt : (doubt ≡ None) ⊎ (doubt ≡ slice_get envelopes count)
    pub left_is : Left (heard_in_order c heard (take count envelopes)) doubt
    pub answers : Written (answer_envelopes c heard (take count envelopes))

  -- what is true, by how it ended
  abbrev pub HearsEnvelopes : ImportEnd → Type 0
  HearsEnvelopes end.Done = Kept (heard_in_order c heard envelopes) × Appends before after (answer_envelopes c heard envelopes)
  HearsEnvelopes (end.Unavailable fault) = HearsSome (Appends before after) × IsUnavailability fault
  HearsEnvelopes (end.Write None) = Kept (heard_in_order c heard envelopes)
  HearsEnvelopes (end.Write (Some fault)) = HearsSome (λ _. ⊤) × IsUnavailability fault
  HearsEnvelopes _ = ⊥
