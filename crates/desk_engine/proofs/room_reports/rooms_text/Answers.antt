-- One band more is one line more, by the same near bookings; after the loop all bands have theirs.
use Rattle.std.proofs.Common.{◌∙◌, ◌++◌, ap, sym, refl, subst, ℕ, List, get_or, take}
use Rattle.std.proofs.lemmas.List.{take_all, take_more}
use Rattle.std.specs.List.{flat_map}
use Rattle.radio_core.specs.declared.bands.Band.{Band}
use Rattle.radio_core.specs.declared.bands.Band.TheVariants.{B1}
use Rattle.radio_core.specs.Bands.{bands}
use Rattle.registry_core.specs.Bookings.{limit_standing}
use Rattle.desk_engine.specs.Rooms.{room_header, room_line, used_before}
use Rattle.desk_engine.specs.steps.Rooms.{AreNear, HasRooms}
use Rattle.desk_engine.proofs.AirUse.{more_bands}
use Rattle.desk_engine.proofs.Readings.{read_then}
use Rattle.desk_engine.proofs.RoomTexts.{report_is}
use Rattle.desk_engine.proofs.room_reports.rooms_text.Goals as goal

pub loop-band-preserved : goal.loop-band-preserved
loop-band-preserved g c = record {
  items = refl;
  read = read_then g.K.Looks.meaning _ _ _ _ c.loop-band.invariant.read c.in_ok-limit.ensures.read;
  near = λ kept sound held. c.loop-band.invariant.near kept (c.limit_of.ensures.read.was_sound sound) held;
  told = λ kept sound held keeps room rooms.
      let was = c.limit_of.ensures.read.was_sound sound in
      let before = c.loop-band.invariant.told kept was held keeps room rooms in
      let near = subst (AreNear kept.facts c.args.gateway.now c.args.time) (sym c.deref-in-loop-band.ensures.value) (c.loop-band.invariant.near kept was held) in
      let limit = c.in_ok-limit.ensures.told kept sound (c.loop-band.invariant.read.held kept was held) in
      let index : ℕ = c.loop-band.band-index in
      let f : Band → List ℕ = λ band. room_line band (limit_standing kept.facts c.args.gateway.now band) (used_before kept.facts c.args.gateway.now band c.args.time) (room band) in
      let line = c.in_ok-line.ensures kept.facts c.args.gateway.now keeps near limit (room (get_or bands index B1)) (rooms (get_or bands index B1)) in
      more_bands room_header f (take index bands) (get_or bands index B1) _ _ _ before c.in_ok-extend_from_slice-2.ensures.items (c.as_bytes-in-loop-band.ensures.value ∙ line)
      ∙ ap (λ l. room_header ++ flat_map f l) (sym (take_more bands index B1 c.loop-band-test.true));
}

pub returns-clause-told : goal.returns-clause-told
returns-clause-told g c = λ kept sound held keeps.
    report_is c.computed_forms_tell.ensures.clear c.computed_forms_tell.ensures.within c.shorter_has_room.ensures.shorter kept.facts c.args.gateway.now c.args.time _
    (subst (λ done. HasRooms kept.facts c.args.gateway.now c.args.time done c.loop-band.text.items) (take_all c.loop-band.band-index bands c.loop-band-test.false)
    (c.loop-band.invariant.told kept sound held keeps))
