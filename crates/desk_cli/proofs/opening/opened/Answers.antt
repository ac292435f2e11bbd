-- What the program makes of each result of `Tables::open`: a store that represents the log, or an error with the file as it was.
use Rattle.std.proofs.Common.{◌∙◌}
use Rattle.desk_engine.specs.InOrder.{kept_after}
use Rattle.desk_cli.proofs.Opened.{is_unavailable, left_as_it_was, not_a_desk_of, says_opening, says_schema}
use Rattle.desk_cli.proofs.opening.opened.Goals as goal

pub returns-in-Ok-clause-desk : goal.returns-in-Ok-clause-desk
returns-in-Ok-clause-desk g c = λ sound config heard keeps.
    record { list = keeps.now.list; store = c.in-Ok.ensures.in_order config (kept_after config heard) keeps.now.tables sound }

pub returns-in-Err-clause-unavailable : goal.returns-in-Err-clause-unavailable
returns-in-Err-clause-unavailable g c = λ clean config heard keeps. (
  c.into.ensures ∙ is_unavailable c.in-Err.fault (c.in-Err.ensures.unavailable config (kept_after config heard) keeps.now.tables clean),
  left_as_it_was g.S.Store c.args.conn c.in-Err.conn config heard c.in-Err.ensures.given_back clean keeps,
)

pub returns-in-Ok-clause-never : goal.returns-in-Ok-clause-never
returns-in-Ok-clause-never g c = λ sound none.
    let desk = c.in-Ok.ensures.desk sound in
    none desk.0 _ desk.1

pub returns-in-Err-clause-refused : goal.returns-in-Err-clause-refused
returns-in-Err-clause-refused g c = λ clean. record {
  told = says_opening c.in-Err.fault c.into.result c.into.ensures c.in-Err.ensures.never;
  version = λ is. c.in-Err.ensures.version clean (says_schema c.in-Err.fault c.into.result c.into.ensures is);
  other_version = λ other is. c.in-Err.ensures.other_version other.0 other.1.0 other.1.1 other.1.2 other.1.3 clean (not_a_desk_of c.in-Err.fault c.into.result c.into.ensures is);
  given_back = c.in-Err.ensures.given_back;
}
