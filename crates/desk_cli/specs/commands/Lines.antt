-- `desk lines`: its arguments, and what it has done, by how it ended.
use Rattle.std.specs.Prelude.{[], Result, Ok, Err, codes, ⊤}
use Rattle.clap.specs.Simple.{App, new_app}
use Rattle.registry_core.specs.Settings.{Settings}
use Rattle.desk_cli.specs.Answering.{AnswersBy}
use Rattle.desk_cli.specs.Named.{Named, bad, lines, names}
use Rattle.desk_cli.specs.Options.{OrBad, with_settings}
use Rattle.desk_cli.specs.Streams.{Streams}
use Rattle.desk_cli.specs.declared.faults.Fault.{Fault}

-- its arguments
abbrev pub lines_app : App
lines_app = with_settings (new_app (codes "lines"))

-- what its options name
abbrev pub lines_named : OrBad Settings → Named
lines_named (Ok config) = names (lines config)
lines_named (Err value) = bad value

-- Which lines were answered, from the opening state on, by how it ended. The desk in memory is gone then, so this states nothing of what is
-- stored.
abbrev pub AnswersLines : {T : Type 0} → Streams → Settings → Result T Fault → Type 0
AnswersLines io config result = AnswersBy config [] (λ _. ⊤) (λ _ _. ⊤) io.left io.rest io.before io.after result
