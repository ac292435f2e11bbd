-- A run by its arguments: with a command that they name, its ending and its line on standard error; without one, nothing was done.
use Rattle.std.proofs.Common.{◌≡◌, Result, Ok, Err, inl, inr, sym, subst, ◌∙◌}
use Rattle.std.specs.Prelude.{◌⊎◌, String}
use Rattle.std.specs.declared.io.Error.{Error}
use Rattle.std.specs.declared.io.Write.{Ghosts}
use Rattle.std.specs.declared.vec.IntoIter.{IntoIter}
use Rattle.desk_cli.specs.Doing.{DoesAsked}
use Rattle.desk_cli.specs.Faults.{EndsBy, EndsBySome, ending_of_fault}
use Rattle.desk_cli.specs.Named.{Asked, Named, TellsNamed, bad, names, refused}
use Rattle.desk_cli.specs.Runs.{AsksFor, DoesNamed, Given, IsNamed, RunsOn, given}
use Rattle.desk_cli.specs.World.{World}
use Rattle.desk_cli.specs.steps.Given.{IsNotGiven}
use Rattle.desk_cli.specs.steps.Usages.{TellsUsage}
use Rattle.desk_cli.specs.declared.endings.Ending.{Ending}
use Rattle.desk_cli.specs.declared.endings.Ending.TheVariants.{Done, Refused, Misused, Failed}
use Rattle.desk_cli.specs.declared.faults.Fault.{Fault}
use Rattle.desk_cli.specs.declared.faults.Fault.TheVariants.{Exists, NotADesk, Schema, Owner, Gateway, Device, Month, Time, CsvSize, CsvEnd, CsvHeader, CsvRecord, Differs, Unavailable, File, Network}
use Rattle.desk_cli.specs.declared.usage.Usage.{Usage}
use Rattle.desk_cli.specs.declared.usage.Usage.TheVariants.{Words, Value, NotText, Memory}

-- a command that the arguments name is one that words name
some_words : (words : Given) (asked : Asked) → AsksFor words asked → IsNamed asked
some_words (Ok words) asked named = (words, named)
some_words (Err kind) asked named = absurd named

-- ---- endings

abbrev pub IsNotDone : Ending → Type 0
IsNotDone Done = ⊥
IsNotDone Refused = Unit {0}
IsNotDone Misused = Unit {0}
IsNotDone Failed = Unit {0}

fault_is_not_done : (fault : Fault) → IsNotDone (ending_of_fault fault)
fault_is_not_done Exists = tt
fault_is_not_done NotADesk = tt
fault_is_not_done Schema = tt
fault_is_not_done Owner = tt
fault_is_not_done Gateway = tt
fault_is_not_done Device = tt
fault_is_not_done Month = tt
fault_is_not_done Time = tt
fault_is_not_done CsvSize = tt
fault_is_not_done CsvEnd = tt
fault_is_not_done CsvHeader = tt
fault_is_not_done (CsvRecord n) = tt
fault_is_not_done (Differs place) = tt
fault_is_not_done Unavailable = tt
fault_is_not_done File = tt
fault_is_not_done Network = tt

abbrev pub IsDone : Ending → Type 0
IsDone Done = Unit {0}
IsDone _ = ⊥

fault_is_not_misused : (fault : Fault) → ending_of_fault fault ≡ Misused → ⊥
fault_is_not_misused Exists is = cc
fault_is_not_misused NotADesk is = cc
fault_is_not_misused Schema is = cc
fault_is_not_misused Owner is = cc
fault_is_not_misused Gateway is = cc
fault_is_not_misused Device is = cc
fault_is_not_misused Month is = cc
fault_is_not_misused Time is = cc
fault_is_not_misused CsvSize is = cc
fault_is_not_misused CsvEnd is = cc
fault_is_not_misused CsvHeader is = cc
fault_is_not_misused (CsvRecord n) is = cc
fault_is_not_misused (Differs place) is = cc
fault_is_not_misused Unavailable is = cc
fault_is_not_misused File is = cc
fault_is_not_misused Network is = cc

-- ---- runs

-- `f` are the ghost members of the type that writes standard error, `untold` and `told` the writer before and after.
module _ {F : Type 0} (f : Ghosts F) (untold told : F) where
  -- a command that is done reports no error
  ends_quiet : (result : Result (Unit {0}) Fault) → EndsBy f untold told Done result → told ≡ untold
  ends_quiet (Ok x) ended = ended.1
  ends_quiet (Err fault) ended = absurd (subst IsNotDone (sym ended.0) (fault_is_not_done fault))

  -- arguments that name no command, or weren't read because memory ran out
  pub names_none : (named : Named) (usage : Usage) (ending : Ending) → TellsNamed named (Err usage) → TellsUsage f untold told ending usage
      → EndsBy f untold told ending (Err Unavailable) ⊎ ((ending ≡ Misused) × ((asked : Asked) → ¬ (named ≡ names asked)))
  names_none named Memory ending tells is = inl is
  names_none named NotText ending tells is = absurd tells
  names_none named (Value value) ending tells is = inr (is, λ asked e. cc)
  names_none (refused kinds) (Words error) ending tells is = inr (is, λ asked e. cc)
  names_none (names other) (Words error) ending tells is = absurd tells
  names_none (bad value) (Words error) ending tells is = absurd tells

  -- arguments that std hasn't, or for whose texts there was no memory
  pub given_none : {Y Z : Type 0} (arguments : Result (IntoIter (String Y) Z) Error) (usage : Usage) (ending : Ending) → IsNotGiven arguments usage → TellsUsage f untold told ending usage
      → EndsBy f untold told ending (Err Unavailable) ⊎ ((ending ≡ Misused) × ((asked : Asked) → ¬ (AsksFor (given arguments) asked)))
  given_none (Ok arguments) usage ending none is = inl (subst (TellsUsage f untold told ending) none is)
  given_none (Err error) Memory ending none is = inl is
  given_none (Err error) NotText ending none is = inr (is, λ asked asks. asks)
  given_none (Err error) (Words why) ending none is = absurd none
  given_none (Err error) (Value value) ending none is = absurd none

  module _ {S : Type 0} (w : World S) where
    does_all : (asked : Asked) (r : Result (Unit {0}) Fault) → EndsBy f untold told Done r → DoesAsked w r asked → DoesAsked {T = Unit {0}} w (Ok tt) asked
    does_all asked (Ok x) ended does = does
    does_all asked (Err fault) ended does = absurd (subst IsNotDone (sym ended.0) (fault_is_not_done fault))

    module _ (words : Given) (runs : RunsOn w f untold told words) where
      -- a run that ends well has done what was asked
      pub done_asked : w.ending ≡ Done → DoesNamed w
      done_asked is = elim runs [
        | inl asked ↦ (
          asked.0,
          some_words words asked.0 asked.1,
          does_all asked.0 asked.2.result (subst (λ e. EndsBy f untold told e asked.2.result) is asked.2.ended) asked.2.says,
        )
        | inr none ↦ elim none.ending_is [
          | inl failed ↦ absurd (subst IsNotDone (sym failed.0 ∙ is) tt)
          | inr misused ↦ absurd (subst IsNotDone (sym misused.0 ∙ is) tt)
        ]
      ]

      -- and unless the arguments name no command, standard error reports how it ended
      pub tells_ending : ¬ (w.ending ≡ Misused) → EndsBySome f untold told w.ending
      tells_ending named = elim runs [
        | inl asked ↦ (asked.2.result, asked.2.ended)
        | inr none ↦ elim none.ending_is [
          | inl failed ↦ (Err Unavailable, failed)
          | inr misused ↦ absurd (named misused.0)
        ]
      ]

      pub is_quiet : w.ending ≡ Done → told ≡ untold
      is_quiet is =
          let of = tells_ending (λ misused. absurd (subst IsNotDone (sym misused ∙ is) tt)) in
          ends_quiet of.0 (subst (λ e. EndsBy f untold told e of.0) is of.1)
