-- If the input can't be read, or memory runs out while it is parsed, no record is heard and the log stays.
use Rattle.desk_engine.proofs.CsvImports.{no_text, unread}
use Rattle.desk_engine.specs.Stays.{stays}
use Rattle.desk_engine.proofs.csv_importing.import_report.Goals as goal

pub returns-in-Err-clause-ends : goal.returns-in-Err-clause-ends
returns-in-Err-clause-ends g c = λ config heard was.
    let same = stays g.K.Looks.meaning config heard c.args.keeper.now was in
    no_text config heard c.args.sender.now _ _ _ _ _ same same.leaves c.in-Err.end c.in-Err.ensures.failed.0 c.in-Err.ensures.failed.1

pub returns-in-Err-Memory-clause-ends : goal.returns-in-Err-Memory-clause-ends
returns-in-Err-Memory-clause-ends g c = λ config heard was.
    let same = stays g.K.Looks.meaning config heard c.args.keeper.now was in
    unread config heard c.args.sender.now _ _ _ _ _ same same.leaves c.in-Ok.text.items c.in-Ok.ensures.read.0
