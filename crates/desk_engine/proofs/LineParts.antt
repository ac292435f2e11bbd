-- A line too long for a message gets the same answer if it is cut off.
use Rattle.std.proofs.Common.{◌≡◌, ◌+◌, ◌-◌, ℕ, List, [], ◌∷◌, ◌++◌, true, false, nat_lt, length, take, append-nil, refl, sym, ap, ◌∙◌, inl, inr, arith}
use Rattle.std.proofs.lemmas.Bool.{lt-ltb, cases_lt}
use Rattle.std.proofs.Math.Seq.{take-append-add}
use Rattle.std.proofs.lemmas.List.{length-take-le, take-append-le, take_all}
use Rattle.registry_core.specs.declared.messages.Envelope.{Envelope}
use Rattle.registry_core.specs.Settings.{Settings}
use Rattle.desk_engine.specs.declared.outcomes.Outcome.{Outcome}
use Rattle.desk_engine.specs.Deliveries.{heard_read}
use Rattle.desk_engine.specs.Lines.{line_feed, heard_line, answer_line}
use Rattle.desk_engine.specs.Outcomes.{doubt_of_text, doubt_read}
use Rattle.desk_engine.specs.steps.Lines.{line_with, part}
use Rattle.desk_engine.specs.Told.{longest_message, envelope_of_text, told_of_read, text_of}

-- the buffer with some more octets is the buffer of them all
pub line_with-part : (line octets : List ℕ) → line_with (part line) octets ≡ part (line ++ octets)
line_with-part line octets = elim (cases_lt longest_message (length line)) [
  | inl long ↦
      let size : length (part line) ≡ longest_message + 1 = length-take-le (longest_message + 1) line (omega arith) in
      let full : longest_message + 1 - length (part line) ≡ 0 = omega (arith, size) in
      ap (λ n. part line ++ take n octets) full ∙ append-nil (part line) ∙ sym (take-append-le (longest_message + 1) line octets (omega arith))
  | inr short ↦
      let whole : part line ≡ line = take_all (longest_message + 1) line (omega arith) in
      let room : longest_message + 1 ≡ length line + (longest_message + 1 - length line) = omega arith in
      ap (λ l. line_with l octets) whole
      ∙ sym (ap (λ n. take n (line ++ octets)) room ∙ take-append-add line octets (longest_message + 1 - length line))
]

envelope_of_text-part : (c : Settings) (line : List ℕ) → envelope_of_text c (part line) ≡ envelope_of_text c line
unfolding envelope_of_text
envelope_of_text-part c line = elim (cases_lt longest_message (length line)) [
  | inl long ↦
      let size : length (part line) ≡ longest_message + 1 = length-take-le (longest_message + 1) line (omega arith) in
      let over : nat_lt longest_message (length (part line)) ≡ true = lt-ltb longest_message (length (part line)) (omega arith) in
      let same : nat_lt longest_message (length line) ≡ true = lt-ltb longest_message (length line) long in
      rw (over, same) refl
  | inr short ↦ ap (envelope_of_text c) (take_all (longest_message + 1) line (omega arith))
]

pub heard_line-part : (c : Settings) (heard : List Envelope) (line : List ℕ) → heard_line c heard (part line) ≡ heard_line c heard line
heard_line-part c heard [] = refl
heard_line-part c heard (x ∷ line) = ap (heard_read false c heard) (envelope_of_text-part c (x ∷ line))

pub answer_line-part : (c : Settings) (heard : List Envelope) (line : List ℕ) → answer_line c heard (part line) ≡ answer_line c heard line
answer_line-part c heard [] = refl
answer_line-part c heard (x ∷ line) = ap (λ r. text_of (told_of_read c heard r) ++ line_feed ∷ []) (envelope_of_text-part c (x ∷ line))

pub doubt_of_text-part : (c : Settings) (line : List ℕ) (outcome : Outcome) → doubt_of_text c (part line) outcome ≡ doubt_of_text c line outcome
doubt_of_text-part c line outcome = ap (λ r. doubt_read r outcome) (envelope_of_text-part c line)
