-- What a command does over a connection, whose database is a desk's or not.
use Rattle.std.specs.Prelude.{List, Result}
use Rattle.sqlite.specs.Held.{Held, state}
use Rattle.sqlite.specs.State.{HasCleanDisk}
use Rattle.sqlite_trees.specs.declared.store.Store.{Ghosts}
use Rattle.registry_core.specs.declared.messages.Envelope.{Envelope}
use Rattle.registry_core.specs.Settings.{Settings}
use Rattle.desk_cli.specs.OnTables.{KeepsHeard}
use Rattle.desk_cli.specs.RefusedFiles.{IsNotADesk, RefusesFile}
use Rattle.desk_cli.specs.declared.faults.Fault.{Fault}

-- What a command does over a connection, if the disk has returned what was written to it. If the database is a desk's, `Does` is true of
-- its configuration and log. If it isn't a desk, the command refuses it. The disk then was clean before the command too. Of a database
-- that has a desk's schema and row of meta, and other rows that no desk writes, this states nothing.
pub record OnDesk {S T : Type 0} (g : Ghosts S) (conn back : Held S) (result : Result T Fault) (Untouched : Type 0) (Does : Settings → List Envelope → Type 0) : Type 0 where
  pub desk : HasCleanDisk (state g back) → (c : Settings) (heard : List Envelope) → KeepsHeard g conn c heard → Does c heard
  pub not_a_desk : HasCleanDisk (state g back) → IsNotADesk g conn → RefusesFile g conn back Untouched result
  pub clean : HasCleanDisk (state g back) → HasCleanDisk (state g conn)
