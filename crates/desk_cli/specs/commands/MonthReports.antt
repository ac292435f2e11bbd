-- `desk receptions` and `desk downlinks`: their arguments.
use Rattle.std.specs.Prelude.{List, Ok, codes}
use Rattle.clap.specs.Simple.{App, new_app, with_rule}
use Rattle.clap.specs.Walk.{Row}
use Rattle.desk_cli.specs.Named.{Named, downlinks, named_as, receptions}
use Rattle.desk_cli.specs.Options.{◌>>=◌, place_rule, placed}

-- the arguments of `desk receptions`
abbrev pub receptions_app : App
receptions_app =
    with_rule (with_rule (with_rule (new_app (codes "receptions"))
    (place_rule (codes "file")))
    (place_rule (codes "deveui")))
    (place_rule (codes "month"))

-- what they name
abbrev pub receptions_named : List Row → Named
receptions_named rows = named_as do
  file ← placed (codes "file") rows
  dev_eui ← placed (codes "deveui") rows
  month ← placed (codes "month") rows
  Ok (receptions file dev_eui month)

-- the arguments of `desk downlinks`
abbrev pub downlinks_app : App
downlinks_app =
    with_rule (with_rule (with_rule (new_app (codes "downlinks"))
    (place_rule (codes "file")))
    (place_rule (codes "gateway")))
    (place_rule (codes "month"))

-- what they name
abbrev pub downlinks_named : List Row → Named
downlinks_named rows = named_as do
  file ← placed (codes "file") rows
  gateway ← placed (codes "gateway") rows
  month ← placed (codes "month") rows
  Ok (downlinks file gateway month)
