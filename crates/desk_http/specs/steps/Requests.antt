-- The definitions' requests for the values of the code, given a path.
use Rattle.std.specs.Prelude.{ℕ, List}
use Rattle.desk_http.specs.declared.asking.Asked.{Asked}
use Rattle.desk_http.specs.declared.asking.Asked.TheVariants.{CrossOrigin, NoRoute, OtherMethod, NoLength, BadLength, TooLong, BadNumber, Deliver, Report}
use Rattle.desk_http.specs.Requests.{Request, refused, message, report}
use Rattle.desk_http.specs.Responses.{no_head, cross_origin, no_number, no_route, other_method, no_length, too_long}
use Rattle.desk_http.specs.Targets.{method_of}
use Rattle.desk_http.specs.steps.Reports.{report_of}
use Rattle.desk_http.specs.steps.Targets.{names_of, resource_of}

abbrev pub request_of : List ℕ → Asked → Request
request_of path CrossOrigin = refused cross_origin
request_of path NoRoute = refused no_route
request_of path (OtherMethod route) = refused (other_method (method_of (resource_of path route)))
request_of path NoLength = refused no_length
request_of path BadLength = refused no_head
request_of path TooLong = refused too_long
request_of path BadNumber = refused no_number
request_of path (Deliver count) = message count
request_of path (Report wanted) = report (report_of (names_of path) wanted)
