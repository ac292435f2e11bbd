-- How the program ends (this project's exit statuses).
use Rattle.std.specs.Prelude.{ℕ}
use Rattle.desk_cli.specs.declared.endings.Ending.{Ending}
use Rattle.desk_cli.specs.declared.endings.Ending.TheVariants.{Done, Refused, Misused, Failed}
use Rattle.desk_cli.specs.declared.usage.Usage.{Usage}
use Rattle.desk_cli.specs.declared.usage.Usage.TheVariants.{Memory}

abbrev pub exit_number : Ending → ℕ
exit_number Done = 0
exit_number Refused = 1
exit_number Misused = 2
exit_number Failed = 3

-- out of memory is a failure; everything else that is wrong with arguments is a misuse, and so is help
abbrev pub ending_of : Usage → Ending
ending_of Memory = Failed
ending_of _ = Misused
