-- The lines of a log, by the entries of a store. For private clauses.
use Rattle.std.specs.Prelude.{◌≡◌, ℕ, List, [], ◌∷◌, ◌++◌, Option, length, map, take}
use Rattle.std.specs.Io.KnownBytes.{Appends}
use Rattle.desk_store.specs.Kept.{Entry}
use Rattle.desk_engine.specs.declared.log.LogText.{LogText}
use Rattle.desk_engine.specs.declared.log.LogText.TheVariants.{Message, Answer}
use Rattle.desk_engine.specs.Lines.{input_of, line_feed}
use Rattle.desk_engine.specs.Log.{numbered_from}

-- an entry's text
abbrev pub entry_text : LogText → Entry → List ℕ
entry_text Message entry = entry.message
entry_text Answer entry = entry.answer

-- an entry's line
abbrev pub log_line : LogText → Entry → List ℕ
log_line which entry = entry_text which entry ++ line_feed ∷ []

-- the texts of at most `most` entries, from this number on
abbrev pub log_lines : LogText → ℕ → ℕ → List Entry → List (List ℕ)
log_lines which from most entries = map (entry_text which) (numbered_from from most entries)

-- the first `count` lines are written
pub record HasWrittenLines (lines : List (List ℕ)) (before after : Option (List ℕ)) (count : ℕ) : Type 0 where
  pub count_is : length (take count lines) ≡ count
  pub written : Appends before after (input_of (take count lines) [])
