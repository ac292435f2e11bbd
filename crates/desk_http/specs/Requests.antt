-- What a request asks for: the checks of its head in order, and its body.
use Rattle.std.specs.Prelude.{◌≡◌, ◌<◌, ◌⊎◌, ℕ, List, [], ◌++◌, length, map, Option, Some, None, if◌then◌else◌}
use Rattle.std.specs.Io.KnownBytes.{IsAtEnd}
use Rattle.std.specs.Str.{bytes_eq}
use Rattle.httparse.specs.Grammar.{RequestHead, IsRequestHead, print_request}
use Rattle.httparse.specs.Spans.{name_and_value}
use Rattle.desk_engine.specs.declared.log.LogText.{LogText}
use Rattle.desk_engine.specs.declared.log.LogText.TheVariants.{Message, Answer}
use Rattle.desk_engine.specs.Log.{message_number}
use Rattle.desk_http.specs.declared.fields.BodyLength.{BodyLength}
use Rattle.desk_http.specs.declared.fields.BodyLength.TheVariants.{Absent, Number, TooLong, Bad}
use Rattle.desk_http.specs.Fields.{NamedValue, has_origin, has_transfer_encoding, body_length}
use Rattle.desk_http.specs.Heads.{IsNoHead, IsWithinLimits}
use Rattle.desk_http.specs.Reports.{Report, owner_report, band_report, room_report, log_part, list_of, device_report, reception_report, downlink_report}
use Rattle.desk_http.specs.Responses.{Response, no_head, cross_origin, no_number, no_route, other_method, no_length, too_long}
use Rattle.desk_http.specs.Targets.{Resource, messages, reports, bands, room, log, answers, lists, device, receptions, downlinks, Names, method_of, path_of}

-- what is asked for: the delivery of a message of `count` octets, or a text; or nothing that is served, and this response refuses it
pub data Request : Type 0 where
  refused : Response → Request
  message : (count : ℕ) → Request
  report : (wanted : Report) → Request

-- a message needs its length
abbrev pub asked_by_length : BodyLength → Request
asked_by_length Absent = refused no_length
asked_by_length (Number n) = message n
asked_by_length TooLong = refused too_long
asked_by_length Bad = refused no_head

-- a message with a transfer encoding has no length
abbrev pub asked_of_messages : List NamedValue → Request
asked_of_messages fields = if has_transfer_encoding fields then refused no_length else asked_by_length (body_length fields)

-- a log needs a message number
abbrev pub asked_by_number : LogText → Option ℕ → Request
asked_by_number which None = refused no_number
asked_by_number which (Some from) = report (log_part which from)

-- what is asked of a resource by its own method; for a text the fields of the head don't matter
abbrev pub asked_by_resource : Resource → List NamedValue → Request
asked_by_resource messages fields = asked_of_messages fields
asked_by_resource (reports owner month) fields = report (owner_report owner month)
asked_by_resource (bands gateway) fields = report (band_report gateway)
asked_by_resource (room gateway time) fields = report (room_report gateway time)
asked_by_resource (log from) fields = asked_by_number Message (message_number from)
asked_by_resource (answers from) fields = asked_by_number Answer (message_number from)
asked_by_resource (lists of) fields = report (list_of of)
asked_by_resource (device dev_eui) fields = report (device_report dev_eui)
asked_by_resource (receptions dev_eui month) fields = report (reception_report dev_eui month)
asked_by_resource (downlinks gateway month) fields = report (downlink_report gateway month)

-- first the resource is checked, then its method, then what is asked of it
abbrev pub asked_of_named : Option Resource → List ℕ → List NamedValue → Request
asked_of_named None method fields = refused no_route
asked_of_named (Some resource) method fields =
    if bytes_eq method (method_of resource) then asked_by_resource resource fields else refused (other_method (method_of resource))

-- A request with an origin is refused first, whatever its path and method: nothing is read past its head.
abbrev pub asked_of : Option Resource → List ℕ → List NamedValue → Request
asked_of named method fields = if has_origin fields then refused cross_origin else asked_of_named named method fields

-- the head asks for this
abbrev pub HeadAsks : RequestHead → Request → Type 0
HeadAsks h request = (named : Option Resource) × Names (path_of h.target) named × (request ≡ asked_of named h.method (map name_and_value h.fields))

-- what is read after the head: all octets of a message, or fewer if the input ended before; and else nothing
abbrev pub IsBodyOf : Request → List ℕ → Option (List ℕ) → Type 0
IsBodyOf (message count) body rest = (length body ≡ count) ⊎ ((length body < count) × IsAtEnd rest)
IsBodyOf _ body rest = body ≡ []

-- What was read is this request with this body: no head; or a head, and after it no more than the body that it asks for. `rest` is what may
-- be left of the input.
pub data IsReadAs (input : List ℕ) (rest : Option (List ℕ)) (request : Request) (body : List ℕ) : Type 0 where
  bad_head : IsNoHead input rest → request ≡ refused no_head → body ≡ [] → IsReadAs input rest request body
  head : (h : RequestHead) → IsRequestHead h → IsWithinLimits h → HeadAsks h request → input ≡ print_request h ++ body → IsBodyOf request body rest
      → IsReadAs input rest request body
