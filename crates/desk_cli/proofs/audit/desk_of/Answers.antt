-- What the audit makes of each result of `open_desk`: a desk's configuration, or an error with the database as it was.
use Rattle.std.proofs.Common.{◌∙◌, subst, sym}
use Rattle.desk_rows.specs.Meta.{IsConfig}
use Rattle.desk_cli.proofs.Opened.{is_unavailable, not_a_desk_of, says_opening, says_schema}
use Rattle.desk_cli.proofs.audit.desk_of.Goals as goal

pub returns-in-Ok-clause-never : goal.returns-in-Ok-clause-never
returns-in-Ok-clause-never g c = λ sure none.
    let desk = c.in-Ok.ensures.desk sure in
    none desk.0 _ desk.1

pub returns-in-Err-clause-unavailable : goal.returns-in-Err-clause-unavailable
returns-in-Err-clause-unavailable g c = λ sure config heard keeps.
    let it = keeps.now.tables in
    c.into.ensures ∙ is_unavailable c.in-Err.fault (c.in-Err.ensures.unavailable sure it.in_order.rows it.in_order.held (subst IsConfig (sym it.in_order.are.settings) it.config))

pub returns-in-Err-clause-given_back : goal.returns-in-Err-clause-given_back
returns-in-Err-clause-given_back g c = record {
  clean = c.in-Err.ensures.crash.clean;
  undone = λ sure up. c.in-Err.ensures.undone sure up;
  idle = c.in-Err.ensures.idle;
  crash = λ sure trees may. c.in-Err.ensures.crash.crash sure trees may;
}

pub returns-in-Err-clause-refused : goal.returns-in-Err-clause-refused
returns-in-Err-clause-refused g c = λ sure. record {
  told = says_opening c.in-Err.fault c.into.result c.into.ensures (λ e. c.in-Err.ensures.never (cc));
  version = λ is. let e = says_schema c.in-Err.fault c.into.result c.into.ensures is in c.in-Err.ensures.version sure (cc);
  other_version = λ other is. let e = not_a_desk_of c.in-Err.fault c.into.result c.into.ensures is in
      c.in-Err.ensures.other_version sure other.0 other.1.0 other.1.1 other.1.2 other.1.3 (cc);
  given_back = record {
    clean = c.in-Err.ensures.crash.clean;
    undone = λ sure up. c.in-Err.ensures.undone sure up;
    idle = c.in-Err.ensures.idle;
    crash = λ sure trees may. c.in-Err.ensures.crash.crash sure trees may;
  };
}
