-- The bookings near the time decide the use of the hour before it and the room; the times of both fit 64 bits.
use Rattle.std.proofs.Common.{◌≡◌, ◌∙◌, ap, arith, of_z, to_z}
use mir.Syntax.{w64}
use Rattle.std.specs.Prelude.{◌-ℤ◌, pos}
use Rattle.std.proofs.lemmas.Int.{ints}
use Rattle.duty_core.specs.Use.{hour, use_of}
use Rattle.desk_engine.proofs.RoomTexts.{band_line_is}
use Rattle.desk_engine.proofs.room_reports.band_line.Goals as goal

pub returns : goal.returns
returns c =
    let start : to_z w64 (of_z w64 c.start_at-start.result) ≡ c.start_at-start.result = omega (arith, ints) in
    let before : to_z w64 (of_z w64 c.hour_before.result) ≡ c.hour_before.result = omega (arith, ints) in
    band_line_is c.near_ones_tell.ensures.clear c.near_ones_tell.ensures.hours c.order_is_ignored.ensures.clear c.shorter_has_room.ensures.unique
    c.args.time c.args.near.now c.args.band c.args.limit _ _ _ _ _ _ _ _ c.requires.all (c.deref-2.ensures.value ∙ c.in_ok-of_band.ensures) (c.deref.ensures.value ∙ c.in_ok-of_band.ensures)
    c.start_at-start.ensures.value (c.hour_before.ensures ∙ ap (λ t. t -ℤ pos hour) start) (c.use_at-used.ensures ∙ ap (use_of c.deref.result.now) before) (rw start at c.room_of-room.ensures) c.in_ok-line.ensures
