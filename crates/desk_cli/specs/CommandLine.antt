-- The commands of the desk, listed: the command line, and which command its words name.
use Rattle.std.specs.Prelude.{List, [], ◌∷◌, Option, Some, None, codes, bytes_eq, if◌then◌else◌}
use Rattle.clap.specs.Faults.{fault_of}
use Rattle.clap.specs.Kinds.{Kinds}
use Rattle.clap.specs.Simple.{App, matches_of, new_app, with_rule, with_subcommand, subcommand_of}
use Rattle.clap.specs.Walk.{Row, Text}
use Rattle.clap.specs.declared.error.kind.ErrorKind.TheVariants.{MissingSubcommand}
use Rattle.desk_cli.specs.commands.Auditing.{audit_app, audit_named}
use Rattle.desk_cli.specs.commands.Checking.{check_app, check_named}
use Rattle.desk_cli.specs.commands.Hear.{hear_app, hear_named}
use Rattle.desk_cli.specs.commands.Importing.{import_app, import_named}
use Rattle.desk_cli.specs.commands.Init.{init_app, init_named}
use Rattle.desk_cli.specs.commands.Lines.{lines_app, lines_named}
use Rattle.desk_cli.specs.commands.Listing.{device_app, device_named, list_app, list_named}
use Rattle.desk_cli.specs.commands.Log.{log_app, log_named}
use Rattle.desk_cli.specs.commands.Migrating.{migrate_app, migrate_named}
use Rattle.desk_cli.specs.commands.MonthReports.{downlinks_app, downlinks_named, receptions_app, receptions_named}
use Rattle.desk_cli.specs.commands.Reports.{bands_app, bands_named, report_app, report_named, room_app, room_named}
use Rattle.desk_cli.specs.commands.Serving.{serve_app, serve_named}
use Rattle.desk_cli.specs.Named.{Named, names, refused, version}
use Rattle.desk_cli.specs.Options.{config_of, flag_rule, is_set}

-- the command line without commands
abbrev pub top_app : App
top_app = with_rule (new_app (codes "desk")) (flag_rule (codes "version"))

-- a command line with the commands that read messages or records, and those that make a file for them and move it
abbrev pub with_readers : App → App
with_readers app =
    with_subcommand (with_subcommand (with_subcommand (with_subcommand (with_subcommand app
    lines_app.top)
    init_app.top)
    migrate_app.top)
    hear_app.top)
    import_app.top

-- the command line
abbrev pub desk_app : App
desk_app =
    with_subcommand (with_subcommand (with_subcommand (with_subcommand (with_subcommand (with_subcommand (with_subcommand (with_subcommand (with_subcommand (with_subcommand (with_subcommand (with_readers top_app)
    serve_app.top)
    report_app.top)
    bands_app.top)
    room_app.top)
    list_app.top)
    device_app.top)
    receptions_app.top)
    downlinks_app.top)
    log_app.top)
    check_app.top)
    audit_app.top

-- the command of this name, with its options
unfoldable pub named_with : Text → List Row → Named
named_with name rows =
    if bytes_eq name (codes "lines") then lines_named (config_of rows)
    else if bytes_eq name (codes "init") then init_named rows
    else if bytes_eq name (codes "migrate") then migrate_named rows
    else if bytes_eq name (codes "hear") then hear_named rows
    else if bytes_eq name (codes "import") then import_named rows
    else if bytes_eq name (codes "serve") then serve_named rows
    else if bytes_eq name (codes "report") then report_named rows
    else if bytes_eq name (codes "bands") then bands_named rows
    else if bytes_eq name (codes "room") then room_named rows
    else if bytes_eq name (codes "list") then list_named rows
    else if bytes_eq name (codes "device") then device_named rows
    else if bytes_eq name (codes "receptions") then receptions_named rows
    else if bytes_eq name (codes "downlinks") then downlinks_named rows
    else if bytes_eq name (codes "log") then log_named rows
    else if bytes_eq name (codes "check") then check_named rows
    else if bytes_eq name (codes "audit") then audit_named rows
    else refused (MissingSubcommand ∷ [])

-- the subcommand that clap enters, with its options
abbrev pub subcommand_named : Option (Text × List Row) → Named
subcommand_named None = refused (MissingSubcommand ∷ [])
subcommand_named (Some (name, rows)) = named_with name rows

-- the same, unless the version is asked for before it
abbrev pub command_named : List Row → Option (Text × List Row) → Named
command_named top met = if is_set (codes "version") top then names version else subcommand_named met

abbrev pub named_unless : Kinds → List Row → Option (Text × List Row) → Named
named_unless [] top met = command_named top met
named_unless (kind ∷ kinds) top met = refused (kind ∷ kinds)

-- what the words name, by clap's own rules for the command line above
abbrev pub named_by : List Text → Named
named_by words = named_unless (fault_of desk_app words) (matches_of desk_app words) (subcommand_of desk_app words)
