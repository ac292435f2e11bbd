-- A new desk has the opening rows, an empty log and counts of 0; if the schema isn't empty and no name is taken, it is `NotADesk`.
use Rattle.std.proofs.Common.{◌∙◌, refl, rules, arith}
use Rattle.desk_rows.specs.order.Changes.{opening_rows}
use Rattle.sqlite.specs.Held.{state}
use Rattle.desk_tables.specs.Store.{IsSettled}
use Rattle.desk_tables.proofs.AdoptingLemmas.{at_rest}
use Rattle.desk_tables.proofs.SeenLemmas.{nothing_seen}
use Rattle.desk_tables.proofs.tables.Tables.create.Goals as goal

pub returns-in-Ok-clause-made : goal.returns-in-Ok-clause-made
returns-in-Ok-clause-made g c clean = let settled : IsSettled (state g.S.Store c.make_desk.new.conn) = record {
  open_still = c.in-Ok.ensures.open clean;
  autocommit = c.make_desk.ensures.idle;
  committed = c.make_desk.ensures.settled clean (c.in-Ok.ensures.open clean);
  unlimited = c.make_desk.ensures.crash.limit ∙ c.requires.at_rest.1;
} in record {
  configuration = refl;
  up = refl;
  known = refl;
  rests = (_, λ up. at_rest _ settled (c.in-Ok.ensures.made clean).ten.schema);
  holds = λ up. record {
    settled = settled;
    desk = record {
      in_order = record {
        rows = opening_rows c.args.config;
        held = c.in-Ok.ensures.made clean;
        are = c.opening_rows_tell.ensures c.args.config;
        entries = refl;
      };
      config = search rules;
      few = omega arith;
    };
    heard = refl;
    counts = record { sessions = refl; uplinks = refl; bookings = refl };
    seen = λ r holds. nothing_seen r;
  };
}

pub returns-in-Err-clause-not_a_desk : goal.returns-in-Err-clause-not_a_desk
returns-in-Err-clause-not_a_desk g c other free = let told = c.in-Err.ensures.not_a_desk other free in cc
