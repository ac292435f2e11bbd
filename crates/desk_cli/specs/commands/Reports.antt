-- `desk report`, `desk bands` and `desk room`: their arguments.
use Rattle.std.specs.Prelude.{List, Ok, codes}
use Rattle.clap.specs.Simple.{App, new_app, with_rule}
use Rattle.clap.specs.Walk.{Row}
use Rattle.desk_cli.specs.Named.{Named, bands, named_as, report, room}
use Rattle.desk_cli.specs.Options.{◌>>=◌, place_rule, placed}

-- the arguments of `desk report`
abbrev pub report_app : App
report_app =
    with_rule (with_rule (with_rule (new_app (codes "report"))
    (place_rule (codes "file")))
    (place_rule (codes "owner")))
    (place_rule (codes "month"))

-- what they name
abbrev pub report_named : List Row → Named
report_named rows = named_as do
  file ← placed (codes "file") rows
  owner ← placed (codes "owner") rows
  month ← placed (codes "month") rows
  Ok (report file owner month)

-- the arguments of `desk bands`
abbrev pub bands_app : App
bands_app =
    with_rule (with_rule (new_app (codes "bands"))
    (place_rule (codes "file")))
    (place_rule (codes "gateway"))

-- what they name
abbrev pub bands_named : List Row → Named
bands_named rows = named_as do
  file ← placed (codes "file") rows
  gateway ← placed (codes "gateway") rows
  Ok (bands file gateway)

-- the arguments of `desk room`
abbrev pub room_app : App
room_app =
    with_rule (with_rule (with_rule (new_app (codes "room"))
    (place_rule (codes "file")))
    (place_rule (codes "gateway")))
    (place_rule (codes "time"))

-- what they name
abbrev pub room_named : List Row → Named
room_named rows = named_as do
  file ← placed (codes "file") rows
  gateway ← placed (codes "gateway") rows
  time ← placed (codes "time") rows
  Ok (room file gateway time)
