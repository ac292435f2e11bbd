-- What the octets are that were read for a head.
use Rattle.std.specs.Prelude.{◌≡◌, ℕ, List, [], length, Option}
use Rattle.std.specs.Io.KnownBytes.{IsAtEnd}
use Rattle.httparse.specs.Grammar.{RequestHead, HasNoRequest, MayBecomeRequest}
use Rattle.httparse.specs.Spans.{IsRequestAt, IsRequestOf, IsRequestWithin, RequestOverflows}
use Rattle.httparse.specs.declared.spans.HeaderSpan.{HeaderSpan}
use Rattle.desk_http.specs.Heads.{IsWithinLimits, IsNoHead, most_headers}
use Rattle.desk_http.specs.declared.heads.HeadEnd.{HeadEnd}
use Rattle.desk_http.specs.declared.heads.HeadEnd.TheVariants.{Head, NoHead, Closed}
use Rattle.desk_http.specs.declared.heads.Step.{Step}
use Rattle.desk_http.specs.declared.heads.Step.TheVariants.{Whole, More, Refused}

-- the octets that were read are exactly a head, or not a head, or there were none
abbrev pub EndsHead : HeadEnd → List ℕ → List HeaderSpan → Option (List ℕ) → Type 0
EndsHead (Head spans) octets headers rest = (h : RequestHead) × IsRequestAt octets headers spans h × (spans.len ≡ length octets) × IsRequestWithin octets headers spans × IsWithinLimits h
EndsHead NoHead octets headers rest = IsNoHead octets rest
EndsHead Closed octets headers rest = (octets ≡ []) × IsAtEnd rest

-- what octets are if all but the last were not a head
abbrev pub IsHeadStep : Step → List ℕ → List HeaderSpan → Type 0
IsHeadStep (Whole spans) octets headers = IsRequestOf octets headers spans × IsRequestWithin octets headers spans
IsHeadStep More octets headers = HasNoRequest octets × MayBecomeRequest octets
IsHeadStep Refused octets headers = RequestOverflows most_headers octets
