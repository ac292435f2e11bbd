-- `position` finds the first space or end of a line; if it finds none, all octets are the word.
use Rattle.std.proofs.Common.{rules, tests}
use Rattle.std.proofs.lemmas.Iterator.{YieldsList-from_slice}
use Rattle.std.proofs.lemmas.Iterator.Search.{position_from_yields_List}
use Rattle.desk_cli.specs.ConnectionLog.{is_gap}
use Rattle.desk_cli.proofs.Logging.{found_at, found_none}
use Rattle.desk_cli.proofs.connection_log.lines.word_length.Goals as goal

pub returns-in-Some : goal.returns-in-Some
returns-in-Some c =
    found_at is_gap c.args.text.now c.in-Some.end (rw c.in-Some.is at (position_from_yields_List is_gap _ _ _ c.position.ensures.ran (YieldsList-from_slice c.args.text.now cc) (λ x b q k. search (rules, tests))))

pub returns-in-None : goal.returns-in-None
returns-in-None c =
    found_none is_gap c.args.text.now (rw c.in-None.is at (position_from_yields_List is_gap _ _ _ c.position.ensures.ran (YieldsList-from_slice c.args.text.now cc) (λ x b q k. search (rules, tests))))
