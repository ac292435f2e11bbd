-- What is written is always a beginning of the octets: a write of some adds them, and an error adds none.
use Rattle.std.proofs.Common.{◌≡◌, ℕ, List, ◌++◌, take, sym, subst}
use Rattle.std.specs.Borrow.{Bor}
use Rattle.std.specs.Io.KnownBytes.{Appends}
use Rattle.std.proofs.KnownBytes.{Appends-kept, Appends-trans}
use Rattle.desk_engine.proofs.LogEnds.{moved, part_grown, part_kept, part_of}
use Rattle.desk_engine.proofs.writes.write_octets.Goals.{in-Ok, in-Err}
use Rattle.desk_engine.proofs.writes.write_octets.Goals as goal

pub loop-preserved : goal.loop-preserved
loop-preserved g c =
    let (done, parts, appended) = c.loop.invariant in
    let rest = c.loop.rest.now in
    elim c.match-write.branch [
      | in-Ok w ↦
          let n = w.in-Ok.count in
          subst Written (sym w.rest-is) (done ++ take n rest, moved _ done rest n parts, Appends-trans _ _ _ _ _ appended w.in-Ok.ensures.bytes)
      | in-Err w ↦ subst Written (sym w.rest-is) (done, parts, Appends-kept _ _ _ _ appended w.in-Err.ensures.bytes)
    ]
  where
    Written : Bor (List ℕ) → Type 0
    Written rest = (x : List ℕ) × (c.args.octets.now ≡ x ++ rest.now) × Appends (g.W.Write.contents c.args.writer.now) (g.W.Write.contents c.write.new.self) x

pub returns-in-Ok-eq0-clause-part : goal.returns-in-Ok-eq0-clause-part
returns-in-Ok-eq0-clause-part g c =
    let (done, parts, appended) = c.loop.invariant in
    part_grown _ _ _ c.args.octets.now done c.loop.rest.now c.in-Ok-eq0.field-0 parts appended (rw c.in-Ok-eq0.is at c.write.ensures.bytes)

pub returns-in-Err-2-clause-part : goal.returns-in-Err-2-clause-part
returns-in-Err-2-clause-part g c =
    let (done, parts, appended) = c.loop.invariant in
    part_kept _ _ _ c.args.octets.now done c.loop.rest.now parts appended c.in-Err.ensures.bytes

pub returns-clause-part : goal.returns-clause-part
returns-clause-part g c =
    let (done, parts, appended) = c.loop.invariant in
    part_of _ _ c.args.octets.now done c.loop.rest.now parts appended
