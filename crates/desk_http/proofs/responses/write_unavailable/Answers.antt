-- The constant octets are the response text of status 503 with the body `unavailable`.
use Rattle.std.specs.Fmt.{digits}
use Rattle.desk_http.specs.Responses.{response_text}
use Rattle.desk_http.proofs.responses.write_unavailable.Goals as goal

pub returns : goal.returns
unfolding response_text digits
returns g c = c.write_all.ensures.bytes
