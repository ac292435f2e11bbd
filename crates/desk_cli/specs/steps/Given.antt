-- Why the program's arguments can't be read.
use Rattle.std.specs.Prelude.{◌≡◌, ◌≢◌, Result, Ok, Err, String}
use Rattle.std.specs.IoError.{error_kind}
use Rattle.std.specs.declared.io.Error.{Error}
use Rattle.std.specs.declared.io.ErrorKind.{ErrorKind}
use Rattle.std.specs.declared.io.ErrorKind.TheVariants.{OutOfMemory}
use Rattle.std.specs.declared.vec.IntoIter.{IntoIter}
use Rattle.desk_cli.specs.declared.usage.Usage.{Usage}
use Rattle.desk_cli.specs.declared.usage.Usage.TheVariants.{NotText, Memory}

-- why the arguments can't be read: memory ran out, or else one isn't text
abbrev pub IsUnread : ErrorKind → Usage → Type 0
IsUnread kind Memory = kind ≡ OutOfMemory
IsUnread kind NotText = kind ≢ OutOfMemory
IsUnread kind _ = ⊥

-- std read the arguments, and there was no memory for their texts; or std has none
abbrev pub IsNotGiven : {Y Z : Type 0} → Result (IntoIter (String Y) Z) Error → Usage → Type 0
IsNotGiven (Ok arguments) usage = usage ≡ Memory
IsNotGiven (Err error) usage = IsUnread (error_kind error) usage
