-- Three ways out: the answers couldn't be written, the import ended with an error, or every record has its answer.
use Rattle.std.proofs.Common.{refl, subst}
use Rattle.std.specs.Io.KnownBytes.{Appends}
use Rattle.std.specs.List.{flat_map}
use Rattle.desk_engine.proofs.CsvImports.{heard_all_of, stopped_at, unwritten}
use Rattle.desk_engine.specs.steps.CsvImporting.{line_of}
use Rattle.desk_engine.proofs.csv_importing.hear_envelopes.Goals as goal

pub returns-in-Err-clause-hears : goal.returns-in-Err-clause-hears
returns-in-Err-clause-hears g c = λ config heard was.
    unwritten _ _ _ _ _ _ c.import-imported.result.answers.items c.import-imported.result.stopped (g.W.Write.contents c.args.writer.now) (g.W.Write.contents c.write_answers.new.writer) c.import-imported.ensures.store was
    c.import-imported.result.stopped refl c.import-imported.ensures.whole (c.import-imported.ensures.fault config heard was)

pub returns-in-Some-clause-hears : goal.returns-in-Some-clause-hears
returns-in-Some-clause-hears g c = λ config heard was. (
  stopped_at _ _ _ _ _ _ c.import-imported.result.answers.items c.import-imported.result.stopped (g.W.Write.contents c.args.writer.now) (g.W.Write.contents c.write_answers.new.writer) c.import-imported.ensures.store was
      (c.import-imported.ensures.answers config heard was) (subst (λ os. Appends (g.W.Write.contents c.args.writer.now) (g.W.Write.contents c.write_answers.new.writer) (flat_map line_of os)) c.deref.ensures.value c.in-Ok.ensures),
  rw c.in-Some.is at (c.import-imported.ensures.fault config heard was),
)

pub returns-clause-hears : goal.returns-clause-hears
returns-clause-hears g c = λ config heard was.
    heard_all_of _ _ _ _ _ _ c.import-imported.result.answers.items c.import-imported.result.stopped (g.W.Write.contents c.args.writer.now) (g.W.Write.contents c.write_answers.new.writer) c.import-imported.ensures.store was
    (c.import-imported.ensures.answers config heard was) (subst (λ os. Appends (g.W.Write.contents c.args.writer.now) (g.W.Write.contents c.write_answers.new.writer) (flat_map line_of os)) c.deref.ensures.value c.in-Ok.ensures)
    c.in-None.is (c.import-imported.ensures.whole c.in-None.is)
