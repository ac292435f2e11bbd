-- A wrong method is refused by its resource; for a report the names are taken from the path, and no body is read.
use Rattle.std.proofs.Common.{[], refl}
use Rattle.std.proofs.KnownBytes.{Consumes-nil}
use Rattle.desk_http.specs.Responses.{other_method}
use Rattle.desk_http.specs.Targets.{method_of, path_of}
use Rattle.desk_http.specs.steps.Targets.{resource_of}
use Rattle.desk_http.proofs.Ended.{ends-more, ends_refused}
use Rattle.desk_http.proofs.serving.serve_head.Goals as goal

pub returns-in-OtherMethod-clause-ends : goal.returns-in-OtherMethod-clause-ends
returns-in-OtherMethod-clause-ends g c = ends_refused _ _ (other_method (method_of (resource_of (path_of c.args.target.now) c.in-OtherMethod.route))) _ _ _ _ c.refuse_method.result (c.refuse_method.ensures (path_of c.args.target.now)) (rw c.in-OtherMethod.is refl)

pub returns-in-Report-clause-ends : goal.returns-in-Report-clause-ends
returns-in-Report-clause-ends g c =
    let served = rw (c.names_of.ensures, c.path_of.ensures) at c.serve_report.ensures.ends in
    rw c.in-Report.is (ends-more _ _ _ _ _ _ _ _ c.serve_report.result (λ r s. ([], Consumes-nil _, refl, s)) (λ a. a) served)
