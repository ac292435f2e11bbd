-- The loop of `has_field`: whether one of the fields so far has the name.
use Rattle.std.proofs.Common.{◌≡◌, map, take}
use Rattle.httparse.specs.Spans.{header_bytes}
use Rattle.desk_http.specs.steps.Fields.{named_so_far}
use Rattle.desk_http.proofs.fields.has_field.Given as goal

abbrev pub invariant-loop-header : goal.invariant-loop-header
invariant-loop-header l = l.found ≡ named_so_far l.name (map (header_bytes l.octets) (take l.header-index l.headers))
