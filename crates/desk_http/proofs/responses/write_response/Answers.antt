-- The first lines, the field `allow` if there is one, the last field and the body are appended one after another.
use Rattle.std.proofs.KnownBytes.{Appends-trans}
use Rattle.desk_http.specs.Responses.{response_text}
use Rattle.desk_http.proofs.Written.{on_ok}
use Rattle.desk_http.proofs.responses.write_response.Goals as goal

pub returns : goal.returns
unfolding response_text
returns g c = on_ok c.write_all-2.result _ _
    (Appends-trans _ _ _ _ _ (Appends-trans _ _ _ _ _ (Appends-trans _ _ _ _ _ c.in_ok-write_start.ensures c.in_ok-write_allow.ensures) c.in_ok-write_all.ensures.bytes))
    c.write_all-2.ensures.bytes
