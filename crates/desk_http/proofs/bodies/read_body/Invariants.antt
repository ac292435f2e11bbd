-- The loop of `read_body`: the octets so far are those that were read, and no more than the body has.
use Rattle.std.proofs.Common.{◌-◌, ◌≤◌, length}
use Rattle.std.specs.Io.KnownBytes.{Consumes}
use Rattle.desk_http.proofs.bodies.read_body.Given as goal

abbrev pub invariant-loop-chunk : goal.invariant-loop-chunk
invariant-loop-chunk g l = Consumes (g.R.Read.remaining l.fn.reader) (g.R.Read.remaining l.reader) l.body.items × (length l.body.items ≤ l.count)

abbrev pub decreases-loop-chunk : goal.decreases-loop-chunk
decreases-loop-chunk g l = l.count - length l.body.items
