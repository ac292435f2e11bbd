-- What an audit finds of a database.
use Rattle.std.specs.Prelude.{◌≡◌, ℕ, List, length}
use Rattle.sqlite.specs.Held.{Held}
use Rattle.sqlite_trees.specs.declared.store.Store.{Ghosts}
use Rattle.registry_core.specs.declared.messages.Envelope.{Envelope}
use Rattle.registry_core.specs.Settings.{Settings}
use Rattle.desk_cli.specs.OnTables.{KeepsHeard}
use Rattle.desk_cli.specs.declared.audit.Finding.{Finding}
use Rattle.desk_cli.specs.declared.audit.Finding.TheVariants.{InOrder, Differs}

-- The connection's database passes the audit: it is that of a desk which has heard this many messages. There are a configuration and a
-- log of this length, the database has exactly their tables, all of it is committed, and a crash leaves exactly that.
pub record PassesAudit {S : Type 0} (g : Ghosts S) (conn : Held S) (count : ℕ) : Type 0 where
  pub config : Settings
  pub heard : List Envelope
  pub many : length heard ≡ count
  pub keeps : KeepsHeard g conn config heard

-- what a finding means for the connection's database
abbrev pub IsFinding : {S : Type 0} → Ghosts S → Held S → Finding → Type 0
IsFinding g conn (InOrder count) = PassesAudit g conn count
IsFinding g conn (Differs place) = Unit {0}
