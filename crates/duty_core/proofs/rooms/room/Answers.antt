-- A binary search: if a length doesn't fit, no longer one does, so the last length left is the greatest that fits.
use Rattle.std.proofs.Common.{◌≡◌, ℕ, ◌-◌, ◌≤◌, ◌/◌, IsTrue, true≢false, arith, sym, ◌∙◌, subst, ℤ, to_z, of_z}
use mir.Syntax.{w64}
use Rattle.std.proofs.lemmas.Int.{to_z-of_z}
use Rattle.duty_core.specs.Room.{HasRoom, IsRoom}
use Rattle.duty_core.proofs.Lengths.{none_longer, room_of}
use Rattle.duty_core.proofs.rooms.room.Goals as goal

pub loop-least-preserved : goal.loop-least-preserved
loop-least-preserved c =
    let start : ℤ = to_z w64 (of_z w64 c.args.start) in
    let middle : ℕ = c.loop-least.greatest - (c.loop-least.greatest - c.loop-least.least) / 2 in
    let hasnt : ¬ HasRoom c.args.all.now c.args.of_band.now start c.args.limit middle = λ h. true≢false (sym (c.has_room.ensures.1 h) ∙ c.if-has_room.false) in
    record {
      order = omega arith;
      most = omega (arith, c.loop-least.invariant.most);
      has = c.loop-least.invariant.has;
      none = λ n above within. none_longer c.args.all.now c.args.of_band.now start c.args.limit middle n hasnt (omega (arith, above));
      ascend = c.loop-least.invariant.ascend;
    }

pub returns : goal.returns
returns c =
    let fits = c.ranges.start in
    simp to_z-of_z at (room_of c.args.all.now c.args.of_band.now (to_z w64 (of_z w64 c.args.start)) c.args.limit c.args.most c.loop-least.least c.loop-least.greatest
    (omega arith) (omega arith) (omega arith) c.loop-least.invariant.has c.loop-least.invariant.none)
