-- One message more is heard and its row read; the loop begins with nothing heard, and ends after a wrong answer too.
use Rattle.std.proofs.Common.{true}
use Rattle.sqlite.specs.Held.{state}
use Rattle.desk_rows.specs.CallLaws.{reads_then}
use Rattle.desk_cli.proofs.HeardAnew.{hears_none, hears_then, reads_none}
use Rattle.desk_cli.proofs.audit.hearing.hear_log.Goals as goal

pub log-init : goal.log-init
log-init g c = record {
  heard = hears_none g.K.Looks.meaning c.calls_hear_in_order.ensures.none c.args.keeper.now;
  read = reads_none (state g.S.Store c.args.conn.now);
}

pub log-preserved : goal.log-preserved
log-preserved g c = record {
  heard = hears_then g.K.Looks.meaning c.calls_hear_in_order.ensures.order _ _ _ c.log.invariant.heard c.in_ok-hear_reply.ensures.heard;
  read = reads_then _ _ _ true c.log.invariant.read c.in_ok-hear_reply.ensures.read;
}

pub returns-then-not-branch-clause-heard : goal.returns-then-not-branch-clause-heard
returns-then-not-branch-clause-heard g c = hears_then g.K.Looks.meaning c.calls_hear_in_order.ensures.order _ _ _ c.log.invariant.heard c.in_ok-hear_reply.ensures.heard
