-- What clap prints for arguments that it refuses, and how a program ends if its arguments name no command.
use Rattle.std.specs.Prelude.{◌≡◌, ◌≢◌, Err}
use Rattle.std.specs.declared.io.Write.{Ghosts}
use Rattle.clap.specs.Values.{kind_of}
use Rattle.clap.specs.declared.error.Error.{Error}
use Rattle.clap.specs.declared.error.kind.ErrorKind.TheVariants.{OutOfMemory}
use Rattle.desk_cli.specs.Faults.{EndsBy}
use Rattle.desk_cli.specs.declared.endings.Ending.{Ending}
use Rattle.desk_cli.specs.declared.endings.Ending.TheVariants.{Misused}
use Rattle.desk_cli.specs.declared.faults.Fault.TheVariants.{Unavailable}
use Rattle.desk_cli.specs.declared.usage.Usage.{Usage}
use Rattle.desk_cli.specs.declared.usage.Usage.TheVariants.{Words, Value, NotText, Memory}

-- out of memory is distinguished from what is wrong with the arguments
abbrev pub IsUsageOf : Error → Usage → Type 0
IsUsageOf error Memory = kind_of error ≡ OutOfMemory
IsUsageOf error (Words same) = (same ≡ error) × (kind_of error ≢ OutOfMemory)
IsUsageOf error (Value value) = ⊥
IsUsageOf error NotText = ⊥

-- If memory runs out, it ends as any command does. The text of a usage error isn't stated. `f` are the ghost members of the type that
-- writes standard error, `untold` and `told` the writer before and after.
abbrev pub TellsUsage : {F : Type 0} → (f : Ghosts F) (untold told : F) → Ending → Usage → Type 0
TellsUsage f untold told ending Memory = EndsBy f untold told ending (Err Unavailable)
TellsUsage f untold told ending _ = ending ≡ Misused
