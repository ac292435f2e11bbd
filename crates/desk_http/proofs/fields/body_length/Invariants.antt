-- The loop of `body_length`: the length that the fields so far give.
use Rattle.std.proofs.Common.{◌≡◌, map, take}
use Rattle.httparse.specs.Spans.{header_bytes}
use Rattle.desk_http.specs.steps.Fields.{length_so_far}
use Rattle.desk_http.proofs.fields.body_length.Given as goal

abbrev pub invariant-loop-header : goal.invariant-loop-header
invariant-loop-header l = l.so_far ≡ length_so_far (map (header_bytes l.octets) (take l.header-index l.headers))
