-- A desk that was made is closed with an empty log; if none was made, the error is the command's, and the database as it was.
use Rattle.std.proofs.Common.{[], Err, refl, ap, ◌∙◌}
use Rattle.desk_cli.proofs.Inited.{says_exists, says_not_a_desk}
use Rattle.desk_cli.proofs.OnTables.{keeps, was_in_order, was_new}
use Rattle.desk_cli.proofs.Opened.{is_unavailable}
use Rattle.desk_engine.specs.Stays.{stays}
use Rattle.desk_cli.proofs.commands.init.make_desk.Goals as goal

pub returns-in-Ok : goal.returns-in-Ok
returns-in-Ok g c = record {
  made = λ clean.
      let sound = c.close.ensures.sound clean in
      let was = was_new _ _ c.in-Ok.tables (c.nothing_is_heard.ensures c.args.config) (c.in-Ok.ensures.made sound) in
      keeps _ _ _ c.in-Ok.tables c.in-Ok.tables was refl c.close.result g.met.S.Store.settled sound sound c.close.ensures.left c.close.ensures.in_order []
      (stays _ _ _ _ (was_in_order _ _ _ c.in-Ok.tables c.in-Ok.tables was sound));
  blank = c.in-Ok.ensures.blank;
  exists = tt;
  not_a_desk = λ some free. tt;
  unavailable = λ blank. tt;
  given_back = tt;
}

pub returns-in-Err : goal.returns-in-Err
returns-in-Err g c = record {
  made = tt;
  blank = tt;
  exists = says_exists c.in-Err.fault c.into.result c.into.ensures c.in-Err.ensures.exists;
  not_a_desk = λ some free. says_not_a_desk c.in-Err.fault c.into.result c.into.ensures (c.in-Err.ensures.not_a_desk some free);
  unavailable = λ blank clean. ap Err (c.into.ensures ∙ is_unavailable c.in-Err.fault (c.in-Err.ensures.unavailable blank clean));
  given_back = c.in-Err.ensures.given_back;
}
