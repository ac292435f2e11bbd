-- A log as an input of lines.
use Rattle.std.proofs.Common.{◌≡◌, ◌≢◌, ℕ, zero, suc, List, [], ◌∷◌, ◌++◌, false, map, take, drop, refl, ap, ap₂, ◌∙◌, append_assoc}
use Rattle.std.specs.List.{list_any}
use Rattle.registry_core.specs.declared.messages.Envelope.{Envelope}
use Rattle.registry_core.specs.Heard.{AreHeard}
use Rattle.registry_core.specs.Ranges.{IsEnvelope, IsSettings}
use Rattle.registry_core.specs.Settings.{Settings}
use Rattle.desk_wire.specs.Laws.{MessagesAreLines}
use Rattle.desk_wire.specs.Writing.{message_text}
use Rattle.desk_engine.specs.Deliveries.{heard_after, heard_all}
use Rattle.desk_engine.specs.Laws.{delivered, told_each}
use Rattle.desk_engine.specs.Lines.{InputsAreCut, answer_lines, has_line_feed, heard_lines, input_of, line_feed}
use Rattle.desk_engine.specs.Log.{LogIsTheDesk, LogLinesAreTheDesk, log_answers, log_messages, numbered_from}
use Rattle.desk_engine.specs.Told.{AnswerText, Told, text_of, told_of_text}

-- ---- envelopes in range

abbrev AreEnvelopes : List Envelope → Type 0
AreEnvelopes [] = Unit {0}
AreEnvelopes (e ∷ es) = IsEnvelope e × AreEnvelopes es

of_heard : (c : Settings) (before es : List Envelope) → AreHeard c before es → AreEnvelopes es
of_heard c before [] h = tt
of_heard c before (e ∷ es) h = (h.0, of_heard c (before ++ e ∷ []) es h.3)

of_front : (n : ℕ) (es : List Envelope) → AreEnvelopes es → AreEnvelopes (take n es)
of_front zero es h = tt
of_front (suc n) [] h = tt
of_front (suc n) (e ∷ es) h = (h.0, of_front n es h.1)

of_rest : (n : ℕ) (es : List Envelope) → AreEnvelopes es → AreEnvelopes (drop n es)
of_rest zero es h = h
of_rest (suc n) [] h = tt
of_rest (suc n) (e ∷ es) h = of_rest n es h.1

of_part : (from most : ℕ) (es : List Envelope) → AreEnvelopes es → AreEnvelopes (numbered_from from most es)
of_part zero most es h = tt
of_part (suc n) most es h = of_front most (drop n es) (of_rest n es h)

-- ---- lines that aren't empty and have no LF

abbrev AreLines : List (List ℕ) → Type 0
AreLines [] = Unit {0}
AreLines (line ∷ lines) = (line ≢ []) × (has_line_feed line ≡ false) × AreLines lines

are_lines : MessagesAreLines → (c : Settings) → IsSettings c → (es : List Envelope) → AreEnvelopes es → AreLines (map (message_text c.receiver) es)
are_lines one c settings [] h = tt
are_lines one c settings (e ∷ es) h = let line = one c.receiver e settings.receiver h.0 in (line.0, line.1, are_lines one c settings es h.1)

no_line_feed : (lines : List (List ℕ)) → AreLines lines → list_any has_line_feed lines ≡ false
no_line_feed [] h = refl
no_line_feed (line ∷ lines) h = rw h.1 (no_line_feed lines h.2)

-- what follows the last LF is empty, and isn't heard
heard_by_lines : (c : Settings) (heard : List Envelope) (lines : List (List ℕ)) → AreLines lines
    → heard_lines c heard (lines ++ [] ∷ []) ≡ heard_all c heard (map delivered lines)
heard_by_lines c heard [] h = refl
heard_by_lines c heard ([] ∷ lines) h = absurd (h.0 refl)
heard_by_lines c heard ((x ∷ line) ∷ lines) h = heard_by_lines c (heard_after c heard (delivered (x ∷ line))) lines h.2

answered_by_lines : (c : Settings) (heard : List Envelope) (lines answers : List (List ℕ)) → AreLines lines → told_each c heard lines ≡ map AnswerText answers
    → answer_lines c heard (lines ++ [] ∷ []) ≡ input_of answers []
answered_by_lines c heard [] [] h told = refl
answered_by_lines c heard [] (answer ∷ answers) h told = absurd (let e : ◌≡◌ {A = List Told} [] (AnswerText answer ∷ map AnswerText answers) = told in cc)
answered_by_lines c heard ([] ∷ lines) answers h told = absurd (h.0 refl)
answered_by_lines c heard ((x ∷ line) ∷ lines) [] h told =
    let after = heard_after c heard (delivered (x ∷ line)) in
    absurd (let e : ◌≡◌ {A = List Told} (told_of_text c heard (x ∷ line) ∷ told_each c after lines) [] = told in cc)
answered_by_lines c heard ((x ∷ line) ∷ lines) (answer ∷ answers) h told =
    let after = heard_after c heard (delivered (x ∷ line)) in
    let both : ◌≡◌ {A = List Told} (told_of_text c heard (x ∷ line) ∷ told_each c after lines) (AnswerText answer ∷ map AnswerText answers) = told in
    let first : told_of_text c heard (x ∷ line) ≡ AnswerText answer = cc in
    let rest : told_each c after lines ≡ map AnswerText answers = cc in
    ap₂ (λ (t : Told) ts. (text_of t ++ line_feed ∷ []) ++ ts) first (answered_by_lines c after lines answers h.2 rest)
    ∙ append_assoc answer (line_feed ∷ []) (input_of answers [])

pub log_lines_are_the_desk : InputsAreCut → MessagesAreLines → LogIsTheDesk → LogLinesAreTheDesk
log_lines_are_the_desk cuts one log c heard from most k settings list some begins short =
    let lines : List (List ℕ) = log_messages c heard from most in
    let are : AreLines lines = are_lines one c settings (numbered_from from most heard) (of_part from most heard (of_heard c [] heard list.each)) in
    let whole = (cuts (input_of lines []) lines []).1 (refl, no_line_feed lines are, refl) in
    let law = log c heard from most k settings list some begins short in (
      ap (λ parts. answer_lines c (take k heard) (parts.0 ++ parts.1 ∷ [])) whole ∙ answered_by_lines c (take k heard) lines (log_answers c heard from most) are law.0,
      ap (λ parts. heard_lines c (take k heard) (parts.0 ++ parts.1 ∷ [])) whole ∙ heard_by_lines c (take k heard) lines are ∙ law.1,
    )
