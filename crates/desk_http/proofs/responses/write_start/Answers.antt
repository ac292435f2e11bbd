-- The text that `write!` formats is the definition's, with the status's number and its phrase.
use Rattle.std.proofs.Common.{append_assoc, subst}
use Rattle.std.specs.Io.KnownBytes.{Appends}
use Rattle.desk_http.proofs.Written.{on_ok}
use Rattle.desk_http.proofs.responses.write_start.Goals as goal

pub returns : goal.returns
returns g c = on_ok c.write.result _ _ (λ h. subst (Appends _ _) (rw (c.as_u16-code.ensures.value, c.phrase_of-phrase.ensures) (simp append_assoc)) h) c.write.ensures.bytes
