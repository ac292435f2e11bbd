-- The buffer with these octets is a line that ends now: it is answered and the buffer emptied, or an error ends the input there.
use Rattle.std.proofs.Common.{◌++◌, ◌∷◌}
use Rattle.desk_engine.specs.Lines.{heard_lines, line_feed, whole_lines}
use Rattle.desk_engine.proofs.LineRuns as runs
use Rattle.desk_engine.proofs.lines.take_line.Goals as goal

pub returns-in-Err-clause-advances : goal.returns-in-Err-clause-advances
returns-in-Err-clause-advances g c = λ s heard start before input same sound none stands more.
    rw (runs.ended-more input c.args.octets.now more) at
    (runs.advances-without g.K.Looks.meaning s heard start c.args.keeper.now before _ input c.args.line.now.items c.args.octets.now none c.in-Err.ensures.some stands
    (line_feed ∷ more))

pub returns-in-Err-end_line-clause-advances : goal.returns-in-Err-end_line-clause-advances
returns-in-Err-end_line-clause-advances g c = λ s heard start before input same sound none stands.
    let on = runs.advances-on g.K.Looks.meaning s heard start c.args.keeper.now before _ input c.args.line.now.items c.args.octets.now c.keep_octets.new.line.items none c.in-Ok.ensures.kept stands in
    runs.advances-stopped g.K.Looks.meaning s (Unit {0}) c.in-Err-end_line.stop heard start c.args.keeper.now c.end_line.new.keeper before _ _ (input ++ c.args.octets.now)
    c.keep_octets.new.line.items c.as_slice.result.now on c.as_slice.ensures.value
    (c.in-Err-end_line.ensures.takes s (heard_lines s heard (whole_lines (input ++ c.args.octets.now))) (record { its = same; sound = sound; order = on.answered.hears.order }))

pub returns-clause-advances : goal.returns-clause-advances
returns-clause-advances g c = λ s heard start before input same sound none stands.
    let on = runs.advances-on g.K.Looks.meaning s heard start c.args.keeper.now before _ input c.args.line.now.items c.args.octets.now c.keep_octets.new.line.items none c.in-Ok.ensures.kept stands in
    runs.advances-ended g.K.Looks.meaning s heard start c.args.keeper.now c.end_line.new.keeper before _ _ (input ++ c.args.octets.now)
    c.keep_octets.new.line.items c.as_slice.result.now c.clear.new.self.items c.clear.ensures.items c.in-Ok-end_line.ensures.call.shut on c.as_slice.ensures.value
    (c.in-Ok-end_line.ensures.takes s (heard_lines s heard (whole_lines (input ++ c.args.octets.now))) (record { its = same; sound = sound; order = on.answered.hears.order }))
