-- The head decides the request, the path the names in it, and an origin in the head is refused before a body is read.
use Rattle.desk_http.proofs.OneRequest.{named_is_one, origins_are_refused, requests_are_one}
use Rattle.desk_http.proofs.laws.requests_are_one.Goals as goal

pub returns-clause-named : goal.returns-clause-named
returns-clause-named c = named_is_one

pub returns-clause-one : goal.returns-clause-one
returns-clause-one c = requests_are_one

pub returns-clause-origin : goal.returns-clause-origin
returns-clause-origin c = origins_are_refused
