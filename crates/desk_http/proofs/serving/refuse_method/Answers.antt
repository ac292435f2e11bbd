-- The method that is named is that of the resource, whatever names the path has.
use Rattle.desk_http.proofs.serving.refuse_method.Goals as goal

pub returns : goal.returns
returns g c path = rw (c.method_of.ensures path) at c.respond.ensures
