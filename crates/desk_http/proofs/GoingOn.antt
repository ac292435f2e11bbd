-- Where a line ends, what was read may become a head: an invariant, octet by octet.
use Rattle.std.proofs.Common.{◌≡◌, ℕ, List, [], ◌∷◌, ◌++◌, length, inl, inr, refl, sym, ap, ◌∙◌, arith, subst, length-append}
use Rattle.std.specs.Prelude.{◌⊎◌, ◌≢◌, IsTrue}
use Rattle.std.proofs.lemmas.List.Elements.{All-take}
use Rattle.std.proofs.Math.Seq.{take-append_seam}
use Rattle.httparse.specs.Ascii.{line_feed}
use Rattle.httparse.specs.Grammar.{AllPass, MayBecomeRequest}
use Rattle.httparse.specs.Pieces.{is_newline}
use Rattle.desk_http.specs.Heads.{MayGoOn}

-- an octet is the last one, or one of those before it
last_or_before : (old line left : List ℕ) (x y : ℕ) → old ++ x ∷ [] ≡ line ++ y ∷ left
    → ((x ≡ y) × (old ≡ line)) ⊎ ((between : List ℕ) × (old ≡ line ++ y ∷ between))
last_or_before [] [] left x y e = let same : x ≡ y = cc in inl (same, refl)
last_or_before [] (b ∷ line) left x y e = absurd (omega (arith, simp length-append at (ap length e)))
last_or_before (a ∷ old) [] left x y e = let same : a ≡ y = cc in inr (old, ap (λ c. c ∷ old) same)
last_or_before (a ∷ old) (b ∷ line) left x y e =
    let tail : old ++ x ∷ [] ≡ line ++ y ∷ left = cc in
    elim (last_or_before old line left x y tail) [
      | inl last ↦ let same : a ∷ old ≡ b ∷ line = cc (last.1) in inl (last.0, same)
      | inr before ↦ let same : a ∷ old ≡ b ∷ line ++ y ∷ before.0 = cc (before.1) in inr (before.0, same)
    ]

-- line ends alone are read on
pub on_blank : (octets : List ℕ) → AllPass is_newline octets → MayGoOn octets
on_blank octets newline line left is begun =
    let all = subst (AllPass is_newline) is newline in
    absurd (begun (rw take-append_seam at (All-take (λ b. IsTrue (is_newline b)) (length line) _ all)))

-- an octet that ends no line is read on
pub on_in_line : (old octets : List ℕ) (x : ℕ) → MayGoOn old → octets ≡ old ++ x ∷ [] → x ≢ line_feed → MayGoOn octets
on_in_line old octets x going e other line left is begun =
    elim (last_or_before old line left x line_feed (sym e ∙ is)) [
      | inl last ↦ absurd (other last.0)
      | inr before ↦ going line before.0 before.1 begun
    ]

-- so is one after which the octets may become a head
pub on_at_end : (old octets : List ℕ) (x : ℕ) → MayGoOn old → octets ≡ old ++ x ∷ [] → MayBecomeRequest octets → MayGoOn octets
on_at_end old octets x going e may line left is begun =
    elim (last_or_before old line left x line_feed (sym e ∙ is)) [
      | inl last ↦ let whole : octets ≡ line ++ line_feed ∷ [] = cc (e, last.0, last.1) in subst MayBecomeRequest whole may
      | inr before ↦ going line before.0 before.1 begun
    ]
