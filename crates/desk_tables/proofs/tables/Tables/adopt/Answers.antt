-- The store over counted rows has these counts and nothing cached, and everything in its connection is committed.
use Rattle.std.proofs.Common.{refl}
use Rattle.desk_tables.proofs.AdoptingLemmas.{settled_read, stands}
use Rattle.desk_tables.proofs.tables.Tables.adopt.Goals as goal

pub returns-in-Ok : goal.returns-in-Ok
returns-in-Ok g c = rw c.over.ensures (record {
  configuration = refl;
  clean = c.counted.ensures.second.read.clean;
  holds = λ clean ready kept is.
      let same = c.in-Ok.ensures.second.read.leaves ready.schema ready.is_open clean in
      let settled = settled_read _ _ c.in-Ok.ensures.second.read c.requires.at_rest.0 c.requires.at_rest.1 clean ready in
      record {
        configuration = refl;
        up = refl;
        known = refl;
        holds = λ up. stands g.S.Store _ c.args.config kept _ settled refl refl same.0.now_is is
            (c.in-Ok.ensures.second.told clean ready.is_open is.in_order.rows is.in_order.held tt);
        rests = (_, λ up. record { settled = settled; stored = same.0.now_is; schema = ready.schema });
      };
  rests = λ clean ready up. record {
    settled = settled_read _ _ c.in-Ok.ensures.second.read c.requires.at_rest.0 c.requires.at_rest.1 clean ready;
    stored = (c.in-Ok.ensures.second.read.leaves ready.schema ready.is_open clean).0.now_is;
    schema = ready.schema;
  };
})
