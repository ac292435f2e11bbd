-- The loop of `hear_log`: the keeper has heard some messages, and the file is only read.
use Rattle.std.proofs.Common.{true}
use Rattle.sqlite.specs.Held.{state}
use Rattle.desk_rows.specs.Calls.{IsReadingCall}
use Rattle.desk_cli.specs.steps.Audit.{HearsSome}
use Rattle.desk_cli.proofs.audit.hearing.hear_log.Given as goal

abbrev pub invariant-log : goal.invariant-log
invariant-log g l = record {
  heard : HearsSome g.K.Looks.meaning l.fn.keeper l.keeper;
  read : IsReadingCall (state g.S.Store l.fn.conn) (state g.S.Store l.conn) true;
}
