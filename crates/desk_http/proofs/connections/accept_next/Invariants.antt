-- The loop of `accept_next`: each accept so far failed.
use Rattle.desk_http.specs.Served.{FailsEach}
use Rattle.desk_http.proofs.connections.accept_next.Given as goal

-- the accepts that failed so far
abbrev pub invariant-loop : goal.invariant-loop
invariant-loop g l = FailsEach g.L.Listening.meaning l.counter l.fn.listening l.listening
