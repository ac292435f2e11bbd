-- Writing the line takes several calls, which together append the definition's line to an empty text.
use Rattle.std.proofs.Common.{◌++◌, ap, ◌∙◌}
use Rattle.desk_cli.specs.Faults.{fault_line}
use Rattle.desk_cli.proofs.FaultLines.{written_in_calls}
use Rattle.desk_cli.proofs.faults.line_of.Goals as goal

pub returns : goal.returns
returns c =
    let wrote = written_in_calls _ _ _ c.in_ok-writeln.ensures.writes c.new-line.ensures.intact in
    wrote.1 ∙ ap (λ l. l ++ fault_line c.args.fault) c.new-line.ensures.text
