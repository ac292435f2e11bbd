-- The loop of `receptions_of`: one uplink more.
use Rattle.desk_engine.proofs.Readings.{read_then}
use Rattle.desk_engine.proofs.Receptions.{receptions_more}
use Rattle.desk_engine.proofs.reception_reports.receptions_of.Goals as goal

pub loop-uplink-preserved : goal.loop-uplink-preserved
loop-uplink-preserved g c = record {
  read = read_then g.K.Looks.meaning _ _ _ _ c.loop-uplink.invariant.read c.in_ok-gateways.ensures.read;
  told = λ kept sound held.
      let old = c.gateways_of.ensures.read.was_sound sound in
      receptions_more kept.facts c.args.uplinks.now c.loop-uplink.uplink-index c.in_ok-gateways.gateways.items c.deref.result.now _ _ c.loop-uplink-test.true
      (c.loop-uplink.invariant.told kept old held) (c.in_ok-gateways.ensures.told kept sound (c.loop-uplink.invariant.read.held kept old held)) c.deref.ensures.value c.in_ok-put_receptions.ensures;
}
