-- A desk that was moved is closed with the log that it had; an error of `migrate` is the command's, with what the file has then.
use Rattle.std.proofs.Common.{◌≡◌, Err, refl, ap, sym, subst, ◌∙◌}
use Rattle.desk_store.specs.declared.faults.StoreFault.TheVariants as store
use Rattle.desk_tables.specs.Store.{meaning_of}
use Rattle.desk_engine.specs.InOrder.{kept_after}
use Rattle.desk_cli.specs.OnTables.{WasOpened}
use Rattle.desk_rows.specs.Meta.{HasMeta}
use Rattle.desk_cli.proofs.Migrated.{exists_of, says_fault, told_or_unavailable}
use Rattle.desk_cli.proofs.OnTables.{keeps, was_in_order}
use Rattle.desk_cli.proofs.Opened.{is_unavailable, says_schema}
use Rattle.desk_engine.specs.Stays.{stays}
use Rattle.desk_cli.specs.declared.faults.Fault.TheVariants.{Exists, Schema}
use Rattle.desk_cli.proofs.commands.migrating.move_desk.Goals as goal

pub returns-in-Ok : goal.returns-in-Ok
returns-in-Ok g c = record {
  moved = λ config heard has clean.
      let sound = c.close.ensures.sound clean in
      let was : WasOpened (meaning_of g.S.Store) c.in-Ok.tables config heard = record { list = has.list; store = c.in-Ok.ensures.in_order config (kept_after config heard) has.tables sound } in
      keeps _ config heard c.in-Ok.tables c.in-Ok.tables was refl c.close.result g.met.S.Store.settled sound sound c.close.ensures.left c.close.ensures.in_order heard
      (stays _ _ _ _ (was_in_order _ config heard c.in-Ok.tables c.in-Ok.tables was sound));
  unavailable = λ config heard has. tt;
  undone = tt;
  given_back = λ config heard has. tt;
  first = λ clean.
      let desk = c.in-Ok.ensures.desk (c.close.ensures.sound clean) in
      (desk.0, (subst HasMeta (sym desk.0) (record { first = refl; no_views = refl }), (_, desk.1)));
  told = tt;
  version = λ clean is. cc;
  other_version = λ version of other. tt;
  exists = λ clean is. cc;
  taken = λ of used. tt;
  untouched = λ none. tt;
}

pub returns-in-Err : goal.returns-in-Err
returns-in-Err g c = record {
  moved = λ config heard has. tt;
  unavailable = λ config heard has clean. ap Err (c.into.ensures ∙ is_unavailable c.in-Err.fault (c.in-Err.ensures.unavailable config (kept_after config heard) has.tables clean));
  undone = c.in-Err.ensures.undone;
  given_back = λ config heard has. c.in-Err.ensures.given_back config (kept_after config heard) has.tables;
  first = tt;
  told = says_fault c.in-Err.fault c.into.result c.into.ensures;
  version = λ clean is.
      let same : c.into.result ≡ Schema = cc in
      let of = c.in-Err.ensures.version clean (says_schema c.in-Err.fault c.into.result c.into.ensures same) in
      (of.1.0, (of.0, (of.1.1, of.1.2)), of.1.3);
  other_version = λ version of other clean.
      told_or_unavailable c.in-Err.fault store.SchemaVersion c.into.result c.into.ensures (c.in-Err.ensures.other_version of.0 version of.1.0 of.1.1 other clean);
  exists = λ clean is.
      let same : c.into.result ≡ Exists = cc in
      let of = c.in-Err.ensures.exists clean (exists_of c.in-Err.fault c.into.result c.into.ensures same) in
      ((of.0, of.1), of.2);
  taken = λ of used clean. told_or_unavailable c.in-Err.fault store.Exists c.into.result c.into.ensures (c.in-Err.ensures.taken of.0 of.1.0 of.1.1 used clean);
  untouched = λ none. c.in-Err.ensures.untouched none;
}
