-- What a command does, by how it ended: on a file, and on the desk that is in it.
use Rattle.std.specs.Prelude.{◌≡◌, ◌⊎◌, ℕ, List, Option, Some, None, IfSome, Result, Err}
use Rattle.std.specs.Io.KnownBytes.{Keeps}
use Rattle.std.specs.declared.io.Write as write
use Rattle.clap.specs.Walk.{Text}
use Rattle.sqlite.specs.Held.{Held, state}
use Rattle.sqlite.specs.State.{HasCleanDisk}
use Rattle.sqlite_trees.specs.declared.store.Store.{Ghosts}
use Rattle.registry_core.specs.declared.messages.Envelope.{Envelope}
use Rattle.registry_core.specs.Heard.{state_of}
use Rattle.registry_core.specs.Settings.{Settings}
use Rattle.desk_engine.specs.declared.report_faults.ReportFault.{ReportFault}
use Rattle.desk_engine.specs.Listing.{IsDeviceAnswer, IsListAnswer}
use Rattle.desk_http.specs.Reports.{IsBandAnswer}
use Rattle.desk_cli.specs.Named.{Asked, version, lines, init, migrate, hear, import, serve, report, bands, room, list, device, receptions, downlinks, log, check, audit}
use Rattle.desk_cli.specs.OnDesk.{OnDesk}
use Rattle.desk_cli.specs.OnTables.{IsLeft, KeepsHeard, LeavesRules}
use Rattle.desk_cli.specs.Printing.{IsDevicesMonth, IsGatewaysMonth, IsGatewaysRoom, IsOwnersMonth, PrintsBy}
use Rattle.desk_cli.specs.Streams.{KeepsBoth, KeepsInput, KeepsOutput}
use Rattle.desk_cli.specs.World.{AtPaths, World}
use Rattle.desk_cli.specs.commands.Auditing.{AuditsBy}
use Rattle.desk_cli.specs.commands.Checking.{IsCheck}
use Rattle.desk_cli.specs.commands.Hear.{HearsBy}
use Rattle.desk_cli.specs.commands.Importing.{ImportsDesk}
use Rattle.desk_cli.specs.commands.Init.{InitsBy}
use Rattle.desk_cli.specs.commands.Lines.{AnswersLines}
use Rattle.desk_cli.specs.commands.Log.{LogsDesk}
use Rattle.desk_cli.specs.commands.Migrating.{MigratesBy}
use Rattle.desk_cli.specs.commands.Serving.{ServesDesk}
use Rattle.desk_cli.specs.commands.Version.{PrintsVersion}
use Rattle.desk_cli.specs.declared.faults.Fault.{Fault}
use Rattle.desk_cli.specs.declared.faults.Fault.TheVariants.{Exists, Unavailable, File}

-- A command on a file. Either the file gave a connection, and the command did this with it and returned it; which connection, only `Gives`
-- states. Or the file can't be opened or made, the error is `File`, no connection is returned, and the streams are untouched.
abbrev pub OnFile : {S T : Type 0} → (Text → Held S → Type 0) → (Text → Type 0) → Option (Held S) → Result T Fault → Text → Type 0 → (Held S → Held S → Type 0) → Type 0
OnFile {S} Gives GivesNone given_back result file Untouched Does =
    ((conn back : Held S) × Gives file conn × (given_back ≡ Some back) × Does conn back)
    ⊎ (GivesNone file × (result ≡ Err File) × (given_back ≡ None) × Untouched)

-- A command on a file that is opened and should be a desk's. `Does` takes the returned connection, and the desk's configuration and log.
abbrev pub OnDeskFile : {S T : Type 0} → Ghosts S → AtPaths S → Option (Held S) → Result T Fault → Text → Type 0 → (Held S → Settings → List Envelope → Type 0) → Type 0
OnDeskFile g paths given_back result file Untouched Does =
    OnFile paths.opens paths.unopened given_back result file Untouched (λ conn back. OnDesk g conn back result Untouched (Does back))

-- Also, however the command ended, each desk that a crash may leave follows the registry's rules.
abbrev pub OnDeskByRules : {S T : Type 0} → Ghosts S → AtPaths S → Option (Held S) → Result T Fault → Text → Type 0 → (Held S → Settings → List Envelope → Type 0) → Type 0
OnDeskByRules g paths given_back result file Untouched Does =
    OnDeskFile g paths given_back result file Untouched (λ back c heard. Does back c heard × LeavesRules g back c)

-- The audit of a file. Either the file gave a connection, and the command did this with it. Or the file can't be opened, the error is
-- `File`, no connection is returned, and the streams are untouched.
abbrev pub OnAuditedFile : {S T : Type 0} → AtPaths S → Option (Held S) → Result T Fault → Text → Type 0 → (Held S → Type 0) → Type 0
OnAuditedFile {S} paths given_back result file Untouched Does =
    ((conn : Held S) × paths.opens file conn × Does conn)
    ⊎ (paths.unopened file × (result ≡ Err File) × (given_back ≡ None) × Untouched)

-- why no scratch file is made: something is at its path, memory ran out, or the system makes none
abbrev pub IsScratchFault : Fault → Type 0
IsScratchFault Exists = Unit {0}
IsScratchFault Unavailable = Unit {0}
IsScratchFault File = Unit {0}
IsScratchFault _ = ⊥

-- Printing the report of a desk. `IsAnswer` is what the report is, or why there is none, by the desk's configuration and log.
module _ {S : Type 0} (g : Ghosts S) (IsAnswer : Settings → List Envelope → Result (List ℕ) ReportFault → Type 0) where
  -- The report of this configuration and log was printed, or the error is why there is none. `back` is the connection that is returned,
  -- `before` and `after` are what was written by then.
  abbrev pub PrintsDesk : {T : Type 0} → (before after : Option (List ℕ)) → Result T Fault → Held S → Settings → List Envelope → Type 0
  PrintsDesk before after result back c heard = PrintsBy (KeepsHeard g back c heard) (IsLeft g back c heard None) before after (IsAnswer c heard) result

  -- over a connection; `w` are the ghost members of the writer of reports, `old` and `new` that writer before and after
  abbrev pub PrintsOver : {W T : Type 0} → (conn : Held S) (w : write.Ghosts W) (old new : W) (back : Held S) → Result T Fault → Type 0
  PrintsOver conn w old new back result =
      OnDesk g conn back result (Keeps (w.contents old) (w.contents new)) (PrintsDesk (w.contents old) (w.contents new) result back)

  -- on a file; `back` is the connection that is returned, if the file could be opened
  abbrev pub PrintsFile : {W T : Type 0} → AtPaths S → Text → (w : write.Ghosts W) (old new : W) (back : Option (Held S)) → Result T Fault → Type 0
  PrintsFile paths file w old new back result =
      OnDeskFile g paths back result file (Keeps (w.contents old) (w.contents new)) (PrintsDesk (w.contents old) (w.contents new) result)

-- A command with a scratch file. Either the file was made at the path, and the command did this. Or none was made there: nothing is done,
-- no connection is returned, and the streams are untouched.
abbrev pub OnScratch : {S T : Type 0} → AtPaths S → Option (Held S) → Result T Fault → Text → Type 0 → Type 0 → Type 0
OnScratch paths given_back result path Untouched Does =
    (paths.free path × Does)
    ⊎ ((fault : Fault) × IsScratchFault fault × paths.unfree path fault × (result ≡ Err fault) × (given_back ≡ None) × Untouched)

-- The audit of a file, with a scratch file at a path or without. `Sure` states that the disk of the scratch file has returned what was
-- written to it. `Does` takes what the audit rests on, and the connection.
abbrev pub OnAudit : {S T : Type 0} → AtPaths S → Option (Held S) → Result T Fault → Text → Option Text → Type 0 → Type 0 → (Type 0 → Held S → Type 0) → Type 0
OnAudit paths given_back result file None Untouched Sure Does = OnAuditedFile paths given_back result file Untouched (Does (Unit {0}))
OnAudit paths given_back result file (Some path) Untouched Sure Does =
    OnScratch paths given_back result path Untouched (OnAuditedFile paths given_back result file Untouched (Does Sure))

-- Also, however the audit ended, each desk that a crash may leave follows the registry's rules.
abbrev pub OnAuditByRules : {S T : Type 0} → Ghosts S → AtPaths S → Option (Held S) → Result T Fault → Text → Option Text → Type 0 → Type 0 → (Type 0 → Held S → Type 0) → Type 0
OnAuditByRules g paths given_back result file scratch Untouched Sure Does =
    OnAudit paths given_back result file scratch Untouched Sure
    (λ sure conn. Does sure conn
    × IfSome given_back (λ back. HasCleanDisk (state g back) → (c : Settings) (heard : List Envelope) → KeepsHeard g conn c heard → LeavesRules g back c))

module _ {S T : Type 0} (w : World S) (result : Result T Fault) where
  -- a report was printed that is this of the configuration and log of the desk in the file
  abbrev PrintsReport : Text → (Settings → List Envelope → Result (List ℕ) ReportFault → Type 0) → Type 0
  PrintsReport file IsAnswer =
      OnDeskByRules w.store w.paths w.back result file (KeepsOutput w.streams) (PrintsDesk w.store IsAnswer w.streams.before w.streams.after result)
      × KeepsInput w.streams

  -- The command did what was asked, according to its result. A stream that the command doesn't use stays as it was.
  abbrev pub DoesAsked : Asked → Type 0
  DoesAsked version = PrintsVersion w.streams.before w.streams.after result × KeepsInput w.streams × (w.back ≡ None)
  DoesAsked (lines c) = AnswersLines w.streams c result × (w.back ≡ None)
  DoesAsked (init file c) =
      OnFile w.paths.makes w.paths.unmade w.back result file (Unit {0}) (λ conn back. InitsBy w.store conn back c result)
      × KeepsInput w.streams × KeepsOutput w.streams
  DoesAsked (migrate file) =
      OnFile w.paths.opens w.paths.unopened w.back result file (Unit {0}) (λ conn back. MigratesBy w.store conn back result)
      × KeepsInput w.streams × KeepsOutput w.streams
  DoesAsked (hear file) =
      OnDeskByRules w.store w.paths w.back result file (KeepsBoth w.streams) (λ back c heard. HearsBy w.store back c heard w.streams result)
  DoesAsked (import file sender) =
      OnDeskByRules w.store w.paths w.back result file (KeepsBoth w.streams) (λ back c heard. ImportsDesk w.store back c heard sender w.streams result)
  DoesAsked (serve file port connections logged) =
      OnDeskByRules w.store w.paths w.back result file (KeepsOutput w.streams)
      (λ back c heard. ServesDesk w.store back c heard (w.ports logged) port connections w.streams.before w.streams.after result)
      × KeepsInput w.streams
  DoesAsked (report file owner month) = PrintsReport file (λ c heard. IsOwnersMonth (state_of c heard) owner month)
  DoesAsked (bands file gateway) = PrintsReport file (λ c heard. IsBandAnswer (state_of c heard) gateway)
  DoesAsked (room file gateway time) = PrintsReport file (λ c heard. IsGatewaysRoom (state_of c heard) gateway time)
  DoesAsked (list file of) = PrintsReport file (IsListAnswer of)
  DoesAsked (device file dev_eui) = PrintsReport file (λ c heard. IsDeviceAnswer c heard dev_eui)
  DoesAsked (receptions file dev_eui month) = PrintsReport file (λ c heard. IsDevicesMonth (state_of c heard) dev_eui month)
  DoesAsked (downlinks file gateway month) = PrintsReport file (λ c heard. IsGatewaysMonth (state_of c heard) gateway month)
  DoesAsked (log file from count which) =
      OnDeskByRules w.store w.paths w.back result file (KeepsOutput w.streams)
      (λ back c heard. LogsDesk w.store back c heard which from count w.streams.before w.streams.after result)
      × KeepsInput w.streams
  DoesAsked (check file) = PrintsReport file IsCheck
  DoesAsked (audit file scratch) =
      OnAuditByRules w.store w.paths w.back result file scratch (KeepsOutput w.streams) w.Sure
      (λ sure conn. AuditsBy w.store conn w.back w.streams.before w.streams.after sure result)
      × KeepsInput w.streams
