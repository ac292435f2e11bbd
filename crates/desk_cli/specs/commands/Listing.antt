-- `desk list` and `desk device`: their arguments.
use Rattle.std.specs.Prelude.{List, Ok, codes}
use Rattle.clap.specs.Simple.{App, new_app, with_rule}
use Rattle.clap.specs.Walk.{Row}
use Rattle.desk_cli.specs.Named.{Named, device, list, named_as}
use Rattle.desk_cli.specs.Options.{◌>>=◌, list_in, or_bad, place_rule, placed, value_at}
use Rattle.desk_cli.specs.declared.usage.BadValue.TheVariants.{What}

-- the arguments of `desk list`
abbrev pub list_app : App
list_app =
    with_rule (with_rule (new_app (codes "list"))
    (place_rule (codes "file")))
    (place_rule (codes "what"))

-- what they name
abbrev pub list_named : List Row → Named
list_named rows = named_as do
  file ← placed (codes "file") rows
  of ← or_bad (value_at list_in (codes "what") rows) What
  Ok (list file of)

-- the arguments of `desk device`
abbrev pub device_app : App
device_app =
    with_rule (with_rule (new_app (codes "device"))
    (place_rule (codes "file")))
    (place_rule (codes "deveui"))

-- what they name
abbrev pub device_named : List Row → Named
device_named rows = named_as do
  file ← placed (codes "file") rows
  dev_eui ← placed (codes "deveui") rows
  Ok (device file dev_eui)
