-- One entry that is loaded is one line more; an error, a failed write and the end leave the lines that were written before.
use Rattle.std.proofs.Common.{◌∙◌, arith, sym}
use Rattle.desk_engine.specs.steps.Logs.{log_lines}
use Rattle.desk_engine.proofs.LogEnds.{line_written, next_line, of_err, of_ok, part_written, whole_written}
use Rattle.desk_engine.proofs.Readings.{read_then}
use Rattle.desk_engine.proofs.log.write_entries.Goals as goal

pub returns-in-Err-clause-written : goal.returns-in-Err-clause-written
returns-in-Err-clause-written g c = λ kept sound held.
    let old = c.line_at.ensures.read.was_sound sound in
    whole_written (log_lines c.args.which c.args.from c.args.most kept.entries) (g.W.Write.contents c.args.writer.now) (g.W.Write.contents c.loop-count.writer) c.loop-count.count c.in-Err.fault (c.loop-count.invariant.written kept old held)
    (c.in-Err.ensures.read.unavailable kept sound (c.loop-count.invariant.read.held kept old held))

pub returns-then-is_err-clause-written : goal.returns-then-is_err-clause-written
returns-then-is_err-clause-written g c = λ kept sound held.
    let old = c.line_at.ensures.read.was_sound sound in
    let has = c.loop-count.invariant.written kept old held in
    let told = c.in-Ok-Some.ensures.told kept sound (c.loop-count.invariant.read.held kept old held) in
    let next = next_line c.args.which c.args.from c.args.most c.loop-count.count kept.entries (g.W.Write.contents c.args.writer.now) (g.W.Write.contents c.loop-count.writer) c.in-Ok-Some.line.items has (omega (arith, c.loop-count-test.true, c.get-most.ensures.same)) (rw (c.get-first.ensures.same, c.in-Ok-Some.field-0-is) at told) in
    part_written (log_lines c.args.which c.args.from c.args.most kept.entries) (g.W.Write.contents c.args.writer.now) (g.W.Write.contents c.loop-count.writer) (g.W.Write.contents c.write_octets.new.writer) c.loop-count.count next.0 has next.1 (rw (c.deref.ensures.value, next.2) at (of_err c.write_octets.result (sym c.is_err.ensures.value ∙ c.if-is_err.true) c.write_octets.ensures.part))

pub loop-count-preserved : goal.loop-count-preserved
loop-count-preserved g c = record {
  read = read_then g.K.Looks.meaning _ _ _ _ c.loop-count.invariant.read c.in-Ok-Some.ensures.read;
  few = omega (arith, c.loop-count-test.true);
  written = λ kept sound held.
      let old = c.line_at.ensures.read.was_sound sound in
      let has = c.loop-count.invariant.written kept old held in
      let told = c.in-Ok-Some.ensures.told kept sound (c.loop-count.invariant.read.held kept old held) in
      let next = next_line c.args.which c.args.from c.args.most c.loop-count.count kept.entries (g.W.Write.contents c.args.writer.now) (g.W.Write.contents c.loop-count.writer) c.in-Ok-Some.line.items has (omega (arith, c.loop-count-test.true, c.get-most.ensures.same)) (rw (c.get-first.ensures.same, c.in-Ok-Some.field-0-is) at told) in
      line_written (log_lines c.args.which c.args.from c.args.most kept.entries) (g.W.Write.contents c.args.writer.now) (g.W.Write.contents c.loop-count.writer) (g.W.Write.contents c.write_octets.new.writer) c.loop-count.count next.0 has next.1 (rw (c.deref.ensures.value, next.2) at (of_ok c.write_octets.result (sym c.is_err.ensures.value ∙ c.if-is_err.false) c.write_octets.ensures.whole));
}
