-- The loop of `serve_each`: this many connections are served, each with the store that the one before left.
use Rattle.desk_http.specs.Serving.{ServesRequest}
use Rattle.desk_http.specs.Served.{ServesEach}
use Rattle.desk_http.proofs.connections.serve_each.Given as goal

-- this many were served so far
abbrev pub invariant-loop : goal.invariant-loop
invariant-loop g l =
    ServesEach g.L.Listening.meaning g.L.Reader.Read.remaining g.L.Writer.Write.contents (ServesRequest g.K.Looks.meaning) l.counter
    l.fn.keeper l.keeper l.fn.listening l.listening
