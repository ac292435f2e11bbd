-- How the command line is built: a command argument by argument, and the commands one after another.
use Rattle.std.specs.Prelude.{◌≡◌, false, Result, IfOk}
use Rattle.clap.specs.Simple.{App, app_of, with_rule, with_subcommand}
use Rattle.clap.specs.Walk.{Rule, rule_of}
use Rattle.clap.specs.declared.builder.arg.Arg.{Arg}
use Rattle.clap.specs.declared.builder.command.Command.{Command}
use Rattle.clap.specs.declared.builder.command.Command.TheViews.{out-Command as fields_of}

-- this command, if there was memory for it; none of its arguments is one of other commands too
abbrev pub IsCommand : {E : Type 0} → App → Result Command E → Type 0
IsCommand app command = IfOk command (λ it. (app_of it ≡ app) × ((fields_of it).has_globals ≡ false))

-- a command with one more argument, if it is known what both were
abbrev pub AddsWord : {E : Type 0} → Result Command E → Arg → Result Command E → Type 0
AddsWord command word new = (app : App) (rule : Rule) → IsCommand app command → rule_of word ≡ rule → word.global ≡ false
    → IsCommand (with_rule app rule) new

-- this command line, if there was memory for it
abbrev pub IsLine : {E : Type 0} → App → Result Command E → Type 0
IsLine app line = IfOk line (λ it. app_of it ≡ app)

-- a command line with one more command, if it is known what both were
abbrev pub AddsCommand : {E : Type 0} → Result Command E → Result Command E → Result Command E → Type 0
AddsCommand line command new = (app words : App) → IsLine app line → IsCommand words command → IsLine (with_subcommand app words.top) new
