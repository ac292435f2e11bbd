-- The spans so far, with those at the places still to come, are the spans at all places.
use Rattle.std.proofs.Common.{◌≡◌, ◌++◌, drop}
use Rattle.std.specs.List.{filter_map}
use Rattle.desk_store.specs.steps.UplinkPlaces.{uplink_span_at}
use Rattle.desk_store.proofs.uplinks.Uplinks.spans_at.Given as goal

-- what was found, and what is found at the places still to come
abbrev pub invariant-loop-place : goal.invariant-loop-place
invariant-loop-place l = l.spans.items ++ filter_map (uplink_span_at l.self) (drop l.place-index l.places) ≡ filter_map (uplink_span_at l.self) l.places
