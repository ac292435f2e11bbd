-- What the program is asked, and how a run of it ends.
use Rattle.std.specs.Prelude.{◌≡◌, ◌≢◌, ◌⊎◌, List, None, Result, Ok, Err, String, map, string_bytes}
use Rattle.std.specs.IoError.{error_kind}
use Rattle.std.specs.Vec.Iter.{into_iter_items}
use Rattle.std.specs.declared.io.Error.{Error}
use Rattle.std.specs.declared.io.ErrorKind.{ErrorKind}
use Rattle.std.specs.declared.io.ErrorKind.TheVariants.{OutOfMemory}
use Rattle.std.specs.declared.io.Write.{Ghosts}
use Rattle.std.specs.declared.vec.IntoIter.{IntoIter}
use Rattle.clap.specs.Walk.{Text}
use Rattle.desk_cli.specs.CommandLine.{named_by}
use Rattle.desk_cli.specs.Doing.{DoesAsked}
use Rattle.desk_cli.specs.Faults.{Ends, EndsBy}
use Rattle.desk_cli.specs.Named.{Asked, names}
use Rattle.desk_cli.specs.Streams.{KeepsInput, KeepsOutput}
use Rattle.desk_cli.specs.World.{World}
use Rattle.desk_cli.specs.declared.endings.Ending.{Ending}
use Rattle.desk_cli.specs.declared.endings.Ending.TheVariants.{Failed, Misused}
use Rattle.desk_cli.specs.declared.faults.Fault.TheVariants.{Unavailable}

-- the program's arguments, with its own name first, or why they can't be read
abbrev pub Given : Type 0
Given = Result (List Text) ErrorKind

-- the texts of the arguments that std read, all of them in order, or the kind of its error
abbrev pub given : {Y Z : Type 0} → Result (IntoIter (String Y) Z) Error → Given
given (Ok arguments) = Ok (map string_bytes (into_iter_items arguments))
given (Err error) = Err (error_kind error)

-- the arguments can be read, and they name the command
abbrev pub AsksFor : Given → Asked → Type 0
AsksFor (Ok words) asked = named_by words ≡ names asked
AsksFor (Err kind) asked = ⊥

-- some arguments name the command
abbrev pub IsNamed : Asked → Type 0
IsNamed asked = (words : List Text) × (named_by words ≡ names asked)

-- the program ends as failed if there was no memory for its arguments, and else as misused
abbrev pub EndsUnread : ErrorKind → Ending → Type 0
EndsUnread kind Failed = kind ≡ OutOfMemory
EndsUnread kind Misused = kind ≢ OutOfMemory
EndsUnread kind _ = ⊥

-- `f` are the ghost members of the type that writes standard error, `untold` and `told` the writer before and after.
module _ {S F : Type 0} (w : World S) (f : Ghosts F) (untold told : F) where
  -- what was asked was done, and the program ended by how that ended
  abbrev pub Does : Asked → Type 0
  Does asked = Ends f untold told w.ending (λ result. DoesAsked w result asked)

  -- Nothing was asked: no file was opened, and nothing was read or written. Memory ran out, which standard error reports, or the arguments
  -- name no command.
  pub record AsksNothing (words : Given) : Type 0 where
    pub unopened : w.back ≡ None
    pub unread : KeepsInput w.streams
    pub unwritten : KeepsOutput w.streams
    pub ending_is : EndsBy f untold told w.ending (Err Unavailable) ⊎ ((w.ending ≡ Misused) × ((asked : Asked) → ¬ (AsksFor words asked)))

  -- a run with these arguments
  abbrev pub RunsOn : Given → Type 0
  RunsOn words = ((asked : Asked) × AsksFor words asked × Does asked) ⊎ AsksNothing words

  -- a run with the arguments that std read
  abbrev pub Runs : {Y Z : Type 0} → Result (IntoIter (String Y) Z) Error → Type 0
  Runs arguments = RunsOn (given arguments)

  -- a run with some arguments
  abbrev pub RunsSome : Type 0
  RunsSome = (words : Given) × RunsOn words

-- some arguments name a command, and that did what was asked, without an error
abbrev pub DoesNamed : {S : Type 0} → World S → Type 0
DoesNamed w = (asked : Asked) × IsNamed asked × DoesAsked {T = Unit {0}} w (Ok tt) asked
