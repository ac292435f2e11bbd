-- The line on standard error: it is made in a buffer of a fixed size, and written as far as that goes.
use Rattle.std.proofs.Common.{ℕ, List, [], ◌∷◌, ◌++◌, Option, Result, Ok, Err, OnOk, OnErr, take, drop, sym, ap, subst, ◌∙◌, append_assoc, append-nil, take-append-drop}
use Rattle.std.specs.Fmt.{WritesInCalls}
use Rattle.std.specs.Fmt.InlineText.{AppendsIfIntact, IsIntact, inline_text}
use Rattle.std.specs.Io.KnownBytes.{Appends}
use Rattle.std.specs.List.{FoldsTo, concat}
use Rattle.std.specs.declared.fmt.InlineText.{InlineText}
use Rattle.desk_cli.specs.Faults.{IsBegun}

module _ {n : ℕ} where
  after_calls : (s : InlineText n) (parts : List (List ℕ)) (t : InlineText n) → FoldsTo AppendsIfIntact s parts t → AppendsIfIntact s (concat parts) t
  after_calls s [] t same intact = (subst IsIntact same intact, ap inline_text (sym same) ∙ sym (append-nil (inline_text s)))
  after_calls s (x ∷ parts) t calls intact =
      let first = calls.1 intact in
      let rest = after_calls calls.0 parts t calls.2 first.0 in
      (rest.0, rest.1 ∙ ap (λ l. l ++ concat parts) first.1 ∙ append_assoc (inline_text s) x (concat parts))

  -- what was written to it in some calls follows what it had
  pub written_in_calls : (s : InlineText n) (text : List ℕ) (t : InlineText n) → WritesInCalls AppendsIfIntact s text t → AppendsIfIntact s text t
  written_in_calls s text t wrote = subst (λ l. AppendsIfIntact s l t) wrote.whole (after_calls s wrote.parts t wrote.calls)

-- octets that were written whole, or their first ones and then an error
pub begun_by : {T E : Type 0} (before after : Option (List ℕ)) (text : List ℕ) (r : Result T E) → OnOk r (Appends before after text)
    → OnErr r ((count : ℕ) × Appends before after (take count text)) → IsBegun before after text
begun_by before after text (Ok x) whole part = record { written = text; rest = []; parts = sym (append-nil text); appends = whole }
begun_by before after text (Err e) whole (count, part) = record { written = take count text; rest = drop count text; parts = sym (take-append-drop count text); appends = part }
