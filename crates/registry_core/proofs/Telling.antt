-- Checks in a row, if the answer passes a test that no refusal passes: then every check passes.
use Rattle.std.proofs.Common.{◌≡◌, Bool, true, false, Option, Some, None, refl, sym, subst}
use Rattle.std.specs.Prelude.{IsTrue}
use Rattle.std.proofs.lemmas.Bool.{both_ways}
use Rattle.registry_core.specs.declared.answers.Answer.{Answer}
use Rattle.registry_core.specs.declared.answers.Answer.TheVariants.{Refused}
use Rattle.registry_core.specs.declared.answers.Refusal.{Refusal}
use Rattle.registry_core.specs.Checks.{Checked, ◌>>=◌, ◌>>◌, wants, needs}
use Rattle.registry_core.specs.Decision.{Decision, decision_or_refusal}

-- the answer passes the test
abbrev pub AnswerPasses : (Answer → Bool) → Checked Decision → Type 0
AnswerPasses test checked = IsTrue (test (decision_or_refusal checked).1)

abbrev pub NoRefusal : (Answer → Bool) → Type 0
NoRefusal test = (r : Refusal) → test (Refused r) ≡ false

pub from_wants : (test : Answer → Bool) → NoRefusal test → (b : Bool) (r : Refusal) (rest : Checked Decision) → AnswerPasses test (wants b r >> rest) → (b ≡ true) × AnswerPasses test rest
from_wants test none true r rest h = (refl, h)
from_wants test none false r rest h = absurd (both_ways (test (Refused r)) (none r) h)

pub from_needs : {X : Type 0} (test : Answer → Bool) → NoRefusal test → (x : Option X) (r : Refusal) (rest : X → Checked Decision) → AnswerPasses test (needs x r >>= rest)
    → (y : X) × (x ≡ Some y) × AnswerPasses test (rest y)
from_needs test none (Some x) r rest h = (x, refl, h)
from_needs test none None r rest h = absurd (both_ways (test (Refused r)) (none r) h)

pub to_wants : (test : Answer → Bool) (b : Bool) (r : Refusal) (rest : Checked Decision) → b ≡ true → AnswerPasses test rest → AnswerPasses test (wants b r >> rest)
to_wants test true r rest is h = h
to_wants test false r rest is h = cc

pub to_needs : {X : Type 0} (test : Answer → Bool) (x : Option X) (r : Refusal) (rest : X → Checked Decision) (y : X) → x ≡ Some y → AnswerPasses test (rest y) → AnswerPasses test (needs x r >>= rest)
to_needs test x r rest y is h = subst (λ found. AnswerPasses test (needs found r >>= rest)) (sym is) h
