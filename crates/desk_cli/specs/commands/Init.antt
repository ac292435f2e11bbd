-- `desk init`: its arguments, and what it has done, by how it ended.
use Rattle.std.specs.Prelude.{List, Ok, codes, ◌≡◌, ◌≢◌, ◌↔◌, [], Result, Err, OnOk, OnErr}
use Rattle.clap.specs.Simple.{App, new_app, with_rule}
use Rattle.clap.specs.Walk.{Row}
use Rattle.desk_cli.specs.Named.{Named, init, named_as}
use Rattle.desk_cli.specs.Options.{◌>>=◌, config_of, place_rule, placed, with_settings}
use Rattle.sqlite.specs.Held.{Held, state}
use Rattle.sqlite.specs.State.{HasCleanDisk}
use Rattle.sqlite_trees.specs.declared.store.Store.{Ghosts}
use Rattle.registry_core.specs.Settings.{Settings}
use Rattle.desk_rows.specs.Schema.{no_schema}
use Rattle.desk_rows.specs.order.Changes.{opening_rows}
use Rattle.desk_tables.specs.Adopting.{IsGivenBack}
use Rattle.desk_tables.specs.Opening.{IsTaken, TreesHold}
use Rattle.desk_cli.specs.OnTables.{KeepsHeard}
use Rattle.desk_cli.specs.declared.faults.Fault.{Fault}
use Rattle.desk_cli.specs.declared.faults.Fault.TheVariants.{Exists, NotADesk, Unavailable}

-- its arguments
abbrev pub init_app : App
init_app = with_rule (with_settings (new_app (codes "init"))) (place_rule (codes "file"))

-- what they name
abbrev pub init_named : List Row → Named
init_named rows = named_as do
  file ← placed (codes "file") rows
  config ← config_of rows
  Ok (init file config)

-- ---- what it does

-- With status 0 the connection's database had no schema, and now it is a desk of this configuration with no message in its log. Otherwise
-- nothing is changed, and a crash leaves what was there or the new desk.
pub record InitsBy {S : Type 0} (g : Ghosts S) (conn back : Held S) (c : Settings) {T : Type 0} (result : Result T Fault) : Type 0 where
  pub made : OnOk result (HasCleanDisk (state g back) → KeepsHeard g back c [])
  pub blank : OnOk result (conn.schema ≡ no_schema)
  pub exists : OnErr result ((result ≡ Err Exists) ↔ IsTaken conn.schema)
  pub not_a_desk : conn.schema ≢ no_schema → ¬ IsTaken conn.schema → OnErr result (result ≡ Err NotADesk)
  pub unavailable : conn.schema ≡ no_schema → OnErr result (HasCleanDisk (state g back) → result ≡ Err Unavailable)
  pub given_back : OnErr result (IsGivenBack (state g conn) (state g back) (λ trees. TreesHold trees (opening_rows c)))
