-- Which command arguments name, and what the reader of arguments returns for it.
use Rattle.std.specs.Prelude.{◌≡◌, ℕ, Bool, Option, Result, Ok, Err, option_map}
use Rattle.clap.specs.Kinds.{Kinds, IsAmong}
use Rattle.clap.specs.Values.{kind_of}
use Rattle.clap.specs.Walk.{Text}
use Rattle.clap.specs.declared.error.kind.ErrorKind.{ErrorKind}
use Rattle.registry_core.specs.Settings.{Settings}
use Rattle.desk_engine.specs.declared.lists.ListOf.{ListOf}
use Rattle.desk_engine.specs.declared.log.LogText.{LogText}
use Rattle.desk_cli.specs.declared.commands.Command.{Command}
use Rattle.desk_cli.specs.declared.commands.Command.TheVariants.{Version, Lines, Init, Migrate, Hear, Import, Serve, Report, Bands, Room, Listing, Device, Receptions, Downlinks, Log, Check, Audit}
use Rattle.desk_cli.specs.declared.usage.BadValue.{BadValue}
use Rattle.desk_cli.specs.declared.usage.Usage.{Usage}
use Rattle.desk_cli.specs.declared.usage.Usage.TheVariants.{Words, Value, NotText, Memory}

-- a command with its values, as texts and numbers
pub data Asked : Type 0 where
  version : Asked
  lines : Settings → Asked
  init : Text → Settings → Asked
  migrate : Text → Asked
  hear : Text → Asked
  -- the file and the sender
  import : Text → Text → Asked
  -- the file, the port, how many connections, and whether they are logged
  serve : Text → ℕ → ℕ → Bool → Asked
  -- the file, the owner and the month
  report : Text → Text → Text → Asked
  -- the file and the gateway
  bands : Text → Text → Asked
  -- the file, the gateway and the time
  room : Text → Text → Text → Asked
  -- the file, and what the list is of
  list : Text → ListOf → Asked
  -- the file and the DevEUI
  device : Text → Text → Asked
  -- the file, the DevEUI and the month
  receptions : Text → Text → Text → Asked
  -- the file, the gateway and the month
  downlinks : Text → Text → Text → Asked
  -- the file, the number of the first message, how many messages at most, and which text of each
  log : Text → ℕ → ℕ → LogText → Asked
  check : Text → Asked
  -- the file, and where the scratch file is made, if there is to be one
  audit : Text → Option Text → Asked

abbrev pub asked_by : Command → Asked
asked_by Version = version
asked_by (Lines config) = lines config
asked_by (Init file config) = init file.now config
asked_by (Migrate file) = migrate file.now
asked_by (Hear file) = hear file.now
asked_by (Import file sender) = import file.now sender
asked_by (Serve file port connections logged) = serve file.now port connections logged
asked_by (Report file of) = report file.now of.owner.now of.month.now
asked_by (Bands file of) = bands file.now of.gateway.now
asked_by (Room file of) = room file.now of.gateway.now of.time.now
asked_by (Listing file what) = list file.now what.of
asked_by (Device file of) = device file.now of.dev_eui.now
asked_by (Receptions file of) = receptions file.now of.dev_eui.now of.month.now
asked_by (Downlinks file of) = downlinks file.now of.gateway.now of.month.now
asked_by (Log file from count which) = log file.now from count which
asked_by (Check file) = check file.now
asked_by (Audit file scratch) = audit file.now (option_map (λ path. path.now) scratch)

-- a command, or a value that is bad, or nothing that clap takes: one of these kinds of error
pub data Named : Type 0 where
  names : Asked → Named
  bad : BadValue → Named
  refused : Kinds → Named

-- a command whose values are read, or the first value that is bad
abbrev pub named_as : Result Asked BadValue → Named
named_as (Ok asked) = names asked
named_as (Err value) = bad value

abbrev pub IsRefusal : ErrorKind → Named → Type 0
IsRefusal kind (refused kinds) = IsAmong kind kinds
IsRefusal kind _ = ⊥

-- the result is what the arguments name, unless memory ran out
abbrev pub TellsNamed : Named → Result Command Usage → Type 0
TellsNamed named (Ok command) = named ≡ names (asked_by command)
TellsNamed named (Err (Words error)) = IsRefusal (kind_of error) named
TellsNamed named (Err (Value value)) = named ≡ bad value
TellsNamed named (Err NotText) = ⊥
TellsNamed named (Err Memory) = Unit {0}
