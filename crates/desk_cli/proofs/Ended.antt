-- If a command ended with a result, and a second statement about that result follows from the first, it ended with the second too.
use Rattle.std.proofs.Common.{Result}
use Rattle.std.specs.declared.io.Write.{Ghosts}
use Rattle.desk_cli.specs.Faults.{Ends}
use Rattle.desk_cli.specs.declared.endings.Ending.{Ending}
use Rattle.desk_cli.specs.declared.faults.Fault.{Fault}

-- one statement about the result in place of another
pub ends_so : {F : Type 0} {f : Ghosts F} {before after : F} {ending : Ending} {Says Tells : Result (Unit {0}) Fault → Type 0}
    → Ends f before after ending Says → ((result : Result (Unit {0}) Fault) → Says result → Tells result) → Ends f before after ending Tells
ends_so by so = record { result = by.result; ended = by.ended; says = so by.result by.says }
