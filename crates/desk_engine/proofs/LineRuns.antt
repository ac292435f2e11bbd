-- What a run has heard and written, one line or some octets further.
use Rattle.std.proofs.Common.{◌≡◌, ◌≢◌, ◌==◌, ℕ, List, [], ◌∷◌, ◌++◌, Bool, true, false, Option, None, Result, Ok, Err, IfErr, OnOk, length, take, refl, sym, ap, ◌∙◌, subst, append_assoc, append-nil}
use Rattle.std.proofs.KnownBytes.{Appends-nil, Appends-trans, Consumes-trans}
use Rattle.std.specs.Io.KnownBytes.{Appends, Consumes}
use Rattle.registry_core.specs.declared.messages.Envelope.{Envelope}
use Rattle.registry_core.specs.Settings.{Settings}
use Rattle.desk_store.specs.Calls.{IsUnavailability}
use Rattle.desk_store.specs.Meaning.{Meaning}
use Rattle.desk_store.specs.declared.faults.StoreFault.{StoreFault}
use Rattle.desk_store.specs.declared.faults.StoreFault.TheVariants.{Memory, Size}
use Rattle.desk_wire.specs.declared.faults.WireFault.{WireFault}
use Rattle.desk_engine.specs.declared.lines.LinesEnd.{LinesEnd}
use Rattle.desk_engine.specs.declared.lines.LinesEnd.TheVariants as lines_end
use Rattle.desk_engine.specs.declared.lines.Stop.{Stop}
use Rattle.desk_engine.specs.declared.lines.Stop.TheVariants.{Write, Unavailable}
use Rattle.desk_engine.specs.declared.outcomes.Outcome.{Outcome}
use Rattle.desk_engine.specs.declared.outcomes.Outcome.TheVariants as outcome
use Rattle.desk_engine.specs.Deliveries.{heard_after, heard_read}
use Rattle.desk_engine.specs.InOrder.{HasNoRoom, IsInOrder, Survives, doubt_after}
use Rattle.desk_engine.specs.Lines.{line_feed, has_line_feed, delivery_of_line, whole_lines, last_line, all_lines, heard_line, answer_line, heard_lines, answer_lines, IsBeginning, HasHeardLines, HasAnswered, LinesEndBy}
use Rattle.desk_engine.specs.Outcomes.{delivery_of, doubt_of_text, doubt_read, is_unavailable}
use Rattle.desk_engine.specs.steps.Lines.{line_with, part, lines_end_of, TakesLine, HasReadTo}
use Rattle.desk_engine.specs.Told.{text_of, told_of_text, envelope_of_text}
use Rattle.desk_engine.proofs.LineCuts as cuts
use Rattle.desk_engine.proofs.LineParts as parts

-- ---- lines after lines

heard_lines-append : (c : Settings) (heard : List Envelope) (xs ys : List (List ℕ)) → heard_lines c heard (xs ++ ys) ≡ heard_lines c (heard_lines c heard xs) ys
heard_lines-append c heard [] ys = refl
heard_lines-append c heard (x ∷ xs) ys = heard_lines-append c (heard_line c heard x) xs ys

answer_lines-append : (c : Settings) (heard : List Envelope) (xs ys : List (List ℕ)) → answer_lines c heard (xs ++ ys) ≡ answer_lines c heard xs ++ answer_lines c (heard_lines c heard xs) ys
answer_lines-append c heard [] ys = refl
answer_lines-append c heard (x ∷ xs) ys =
    ap (λ s. answer_line c heard x ++ s) (answer_lines-append c (heard_line c heard x) xs ys) ∙ sym (append_assoc (answer_line c heard x) _ _)

-- ---- doubts

doubt_again : (b : Bool) (doubt now : Option Envelope) → doubt_after b (doubt_after b doubt None) now ≡ doubt_after b doubt now
doubt_again true doubt now = refl
doubt_again false doubt now = refl

-- only Unavailable after a disk error leaves a message in flight
no_doubt_read : (r : Result Envelope WireFault) (o : Outcome) → is_unavailable o ≡ false → doubt_read r o ≡ None
no_doubt_read (Ok e) (outcome.Answered text) u = refl
no_doubt_read (Ok e) (outcome.Refused refusal text) u = refl
no_doubt_read (Ok e) (outcome.Unavailable fault) u = cc
no_doubt_read (Err fault) o u = refl

pub no_doubt : (c : Settings) (line : List ℕ) (o : Outcome) → is_unavailable o ≡ false → doubt_of_text c line o ≡ None
no_doubt c line o u = no_doubt_read (envelope_of_text c line) o u

no_doubt_memory : (r : Result Envelope WireFault) → doubt_read r (outcome.Unavailable Memory) ≡ None
no_doubt_memory (Ok e) = refl
no_doubt_memory (Err fault) = refl

has_octet : (line : List ℕ) → (length line == 0) ≡ false → line ≢ []
has_octet line some none = let empty : length line ≡ 0 = ap length none in absurd (cc (ap (λ n. n == 0) empty, some))

-- a line with some octets has an octet
has_octets : (xs octets ys : List ℕ) → octets ≢ [] → (xs ++ octets) ++ ys ≢ []
has_octets [] [] ys some none = some refl
has_octets [] (x ∷ octets) ys some none = cc
has_octets (y ∷ xs) octets ys some none = cc

-- what is answered Unavailable isn't heard
heard_read-unavailable : (c : Settings) (heard : List Envelope) (r : Result Envelope WireFault) → heard_read true c heard r ≡ heard
heard_read-unavailable c heard (Ok e) = refl
heard_read-unavailable c heard (Err fault) = refl

module _ {K : Type 0} (m : Meaning K) (c : Settings) where
  -- these lines were heard, and then more
  pub hears-then : (heard : List Envelope) (old mid new : K) (lines more : List (List ℕ)) (now : Option Envelope) → m.failed mid ≡ m.failed old
      → HasHeardLines m c heard old mid lines None → HasHeardLines m c (heard_lines c heard lines) mid new more now
      → HasHeardLines m c heard old new (lines ++ more) now
  hears-then heard old mid new lines more now up first second =
      let joined : heard_lines c heard (lines ++ more) ≡ heard_lines c (heard_lines c heard lines) more = heard_lines-append c heard lines more in
      record {
        order = subst (λ h. IsInOrder m c new h) (sym joined) second.order;
        crash = λ doubt s.
            subst (λ h. Survives m c new h (doubt_after (m.failed old) doubt now)) (sym joined)
            (subst (λ d. Survives m c new (heard_lines c (heard_lines c heard lines) more) d)
            (ap (λ b. doubt_after b (doubt_after (m.failed old) doubt None) now) up ∙ doubt_again (m.failed old) doubt now)
            (second.crash (doubt_after (m.failed old) doubt None) (first.crash doubt s)));
      }

  pub answers-then : (heard : List Envelope) (old mid new : K) (w u v : Option (List ℕ)) (lines more : List (List ℕ)) (now : Option Envelope) → m.failed mid ≡ m.failed old
      → HasAnswered m c heard old mid w u lines None → HasAnswered m c (heard_lines c heard lines) mid new u v more now
      → HasAnswered m c heard old new w v (lines ++ more) now
  answers-then heard old mid new w u v lines more now up first second = record {
    hears = hears-then heard old mid new lines more now up first.hears second.hears;
    answers = subst (Appends w v) (sym (answer_lines-append c heard lines more)) (Appends-trans w u v _ _ first.answers second.answers);
  }

  -- ---- the buffered part of a line in place of the whole

  hears-whole : (heard : List Envelope) (old new : K) (line : List ℕ) (now : Option Envelope) → HasHeardLines m c heard old new (part line ∷ []) now
      → HasHeardLines m c heard old new (line ∷ []) now
  hears-whole heard old new line now h = record {
    order = subst (λ k. IsInOrder m c new k) (parts.heard_line-part c heard line) h.order;
    crash = λ doubt s. subst (λ k. Survives m c new k (doubt_after (m.failed old) doubt now)) (parts.heard_line-part c heard line) (h.crash doubt s);
  }

  answers-whole : (heard : List Envelope) (old new : K) (w v : Option (List ℕ)) (line : List ℕ) (now : Option Envelope)
      → HasAnswered m c heard old new w v (part line ∷ []) now → HasAnswered m c heard old new w v (line ∷ []) now
  answers-whole heard old new w v line now h = record {
    hears = hears-whole heard old new line now h.hears;
    answers = subst (λ s. Appends w v (s ++ [])) (parts.answer_line-part c heard line) h.answers;
  }

  -- ---- one line

  -- it was heard, and its answer was written or not
  takes-heard : (T : Type 0) (heard : List Envelope) (old new : K) (w v : Option (List ℕ)) (x : ℕ) (line text : List ℕ) (r : Result T Stop)
      → text_of (told_of_text c heard (x ∷ line)) ≡ text → HasHeardLines m c heard old new ((x ∷ line) ∷ []) None
      → OnOk r (Appends w v (text ++ line_feed ∷ [])) → IfErr r (λ stop. stop ≡ Write)
      → TakesLine m c heard old new w v (x ∷ line) r
  takes-heard T heard old new w v x line text (Ok done) told hears written failed = record {
    hears = hears;
    answers = subst (Appends w v) (ap (λ s. s ++ line_feed ∷ []) (sym told) ∙ sym (append-nil _)) written;
  }
  takes-heard T heard old new w v x line text (Err Write) told hears written failed = ((λ e. cc), hears)
  takes-heard T heard old new w v x line text (Err (Unavailable fault)) told hears written failed = cc

  -- it got this answer
  pub takes-told : (T : Type 0) (heard : List Envelope) (old new : K) (w v : Option (List ℕ)) (line text : List ℕ) (o : Outcome) (r : Result T Stop)
      → (length line == 0) ≡ false → is_unavailable o ≡ false → text_of (told_of_text c heard line) ≡ text → IsInOrder m c new (heard_after c heard (delivery_of_line line))
      → ((doubt : Option Envelope) → Survives m c old heard doubt
      → Survives m c new (heard_after c heard (delivery_of_line line)) (doubt_after (m.failed old) doubt (doubt_of_text c line o)))
      → OnOk r (Appends w v (text ++ line_feed ∷ [])) → IfErr r (λ stop. stop ≡ Write)
      → TakesLine m c heard old new w v line r
  takes-told T heard old new w v [] text o r some up told order crash written failed = cc
  takes-told T heard old new w v (x ∷ line) text o r some up told order crash written failed =
      takes-heard T heard old new w v x line text r told
      (record {
        order = order;
        crash = λ doubt s.
            subst (λ d. Survives m c new (heard_after c heard (delivery_of_line (x ∷ line))) (doubt_after (m.failed old) doubt d)) (no_doubt c (x ∷ line) o up)
            (crash doubt s);
      }) written failed

  -- the store was unavailable
  pub takes-unavailable : (T : Type 0) (heard : List Envelope) (old new : K) (w : Option (List ℕ)) (line : List ℕ) (fault : StoreFault)
      → (length line == 0) ≡ false → IsUnavailability fault → IsInOrder m c new (heard_after c heard (delivery_of line (outcome.Unavailable fault)))
      → ((doubt : Option Envelope) → Survives m c old heard doubt
      → Survives m c new (heard_after c heard (delivery_of line (outcome.Unavailable fault))) (doubt_after (m.failed old) doubt (doubt_of_text c line (outcome.Unavailable fault))))
      → (fault ≡ Size → HasNoRoom m new heard)
      → TakesLine m c heard old new w w {T = T} line (Err (Unavailable fault))
  takes-unavailable T heard old new w line fault some is order crash size =
      let same : heard_after c heard (delivery_of line (outcome.Unavailable fault)) ≡ heard = heard_read-unavailable c heard (envelope_of_text c line) in (
        has_octet line some,
        record {
          hears = record {
            order = subst (λ h. IsInOrder m c new h) same order;
            crash = λ doubt s.
                subst (λ h. Survives m c new h (doubt_after (m.failed old) doubt (doubt_of_text c line (outcome.Unavailable fault)))) same (crash doubt s);
          };
          answers = Appends-nil w;
        },
        is,
        size,
      )

  -- ---- how far a run has read

  -- the last line was answered
  pub ends-done : (heard : List Envelope) (start mid new : K) (w u v : Option (List ℕ)) (input line slice : List ℕ)
      → HasReadTo m c heard start mid w u input line → slice ≡ line
      → HasAnswered m c (heard_lines c heard (whole_lines input)) mid new u v (slice ∷ []) None
      → HasAnswered m c heard start new w v (all_lines input) None
  ends-done heard start mid new w u v input line slice stands same took =
      answers-then heard start mid new w u v (whole_lines input) (last_line input ∷ []) None stands.up stands.answered
      (answers-whole (heard_lines c heard (whole_lines input)) mid new u v (last_line input) None
      (subst (λ l. HasAnswered m c (heard_lines c heard (whole_lines input)) mid new u v (l ∷ []) None) (same ∙ stands.begun) took))

  -- or a run stopped at it
  pub ends-stopped : (T : Type 0) (stop : Stop) (heard : List Envelope) (start mid new : K) (w u v : Option (List ℕ)) (input all line slice : List ℕ)
      → IsBeginning (all_lines input) (all_lines all)
      → HasReadTo m c heard start mid w u input line → slice ≡ line
      → TakesLine m c (heard_lines c heard (whole_lines input)) mid new u v {T = T} slice (Err stop)
      → LinesEndBy m c heard start new w v all (lines_end_of stop)
  ends-stopped T Write heard start mid new w u v input all line slice beginning stands same took = record {
    lines = whole_lines input;
    line = last_line input;
    some = λ none. took.0 (same ∙ stands.begun ∙ ap part none);
    beginning = beginning;
    hears = hears-then heard start mid new (whole_lines input) (last_line input ∷ []) None stands.up stands.answered.hears
        (hears-whole (heard_lines c heard (whole_lines input)) mid new (last_line input) None
        (subst (λ l. HasHeardLines m c (heard_lines c heard (whole_lines input)) mid new (l ∷ []) None) (same ∙ stands.begun) took.1));
  }
  ends-stopped T (Unavailable fault) heard start mid new w u v input all line slice beginning stands same took = record {
    lines = whole_lines input;
    line = last_line input;
    some = λ none. took.0 (same ∙ stands.begun ∙ ap part none);
    beginning = beginning;
    answered =
        let o : Outcome = outcome.Unavailable fault in
        let whole : doubt_of_text c slice o ≡ doubt_of_text c (last_line input) o =
        ap (λ l. doubt_of_text c l o) (same ∙ stands.begun) ∙ parts.doubt_of_text-part c (last_line input) o in
        subst (λ lines. HasAnswered m c heard start new w v lines (doubt_of_text c (last_line input) o)) (append-nil (whole_lines input))
        (subst (λ d. HasAnswered m c heard start new w v (whole_lines input ++ []) d) whole
        (answers-then heard start mid new w u v (whole_lines input) [] (doubt_of_text c slice o) stands.up stands.answered took.1));
    unavailability = took.2;
    size = took.3;
  }

  -- an LF was met
  pub advances-ended : (heard : List Envelope) (start mid new : K) (w u v : Option (List ℕ)) (input line slice next : List ℕ)
      → next ≡ [] → m.failed new ≡ m.failed mid
      → HasReadTo m c heard start mid w u input line → slice ≡ line
      → HasAnswered m c (heard_lines c heard (whole_lines input)) mid new u v (slice ∷ []) None
      → HasReadTo m c heard start new w v (input ++ line_feed ∷ []) next
  advances-ended heard start mid new w u v input line slice next none up stands same took = record {
    up = up ∙ stands.up;
    begun = none ∙ ap part (sym (cuts.last_line-line_feed input));
    answered = subst (λ lines. HasAnswered m c heard start new w v lines None) (sym (cuts.whole_lines-line_feed input))
        (ends-done heard start mid new w u v input line slice stands same took);
  }

  pub advances-stopped : (T : Type 0) (stop : Stop) (heard : List Envelope) (start mid new : K) (w u v : Option (List ℕ)) (input line slice : List ℕ)
      → HasReadTo m c heard start mid w u input line → slice ≡ line
      → TakesLine m c (heard_lines c heard (whole_lines input)) mid new u v {T = T} slice (Err stop)
      → (more : List ℕ) → LinesEndBy m c heard start new w v ((input ++ line_feed ∷ []) ++ more) (lines_end_of stop)
  advances-stopped T stop heard start mid new w u v input line slice stands same took more =
      ends-stopped T stop heard start mid new w u v input ((input ++ line_feed ∷ []) ++ more) line slice (cuts.beginning-ended input more) stands same took

  -- other octets were buffered
  pub advances-on : (heard : List Envelope) (start mid : K) (w u : Option (List ℕ)) (input line octets next : List ℕ)
      → has_line_feed octets ≡ false → next ≡ line_with line octets
      → HasReadTo m c heard start mid w u input line
      → HasReadTo m c heard start mid w u (input ++ octets) next
  advances-on heard start mid w u input line octets next other grown stands = record {
    up = stands.up;
    begun = grown ∙ ap (λ l. line_with l octets) stands.begun ∙ parts.line_with-part (last_line input) octets
        ∙ ap part (sym (cuts.last_line-octets input octets other));
    answered = subst (λ lines. HasAnswered m c heard start mid w u lines None) (sym (cuts.whole_lines-octets input octets other)) stands.answered;
  }

  -- there was no memory for them
  pub advances-without : (heard : List Envelope) (start mid : K) (w u : Option (List ℕ)) (input line octets : List ℕ)
      → has_line_feed octets ≡ false → octets ≢ []
      → HasReadTo m c heard start mid w u input line
      → (more : List ℕ) → LinesEndBy m c heard start mid w u ((input ++ octets) ++ more) (lines_end_of (Unavailable Memory))
  advances-without heard start mid w u input line octets other some stands more =
      let next = cuts.next_line (input ++ octets) more in
      let begun : last_line (input ++ octets) ≡ last_line input ++ octets = cuts.last_line-octets input octets other in
      record {
        lines = whole_lines (input ++ octets);
        line = last_line (input ++ octets) ++ next.0;
        some = λ none. has_octets (last_line input) octets next.0 some (ap (λ l. l ++ next.0) (sym begun) ∙ none);
        beginning = next.1;
        answered = subst (λ d. HasAnswered m c heard start mid w u (whole_lines (input ++ octets)) d)
            (sym (no_doubt_memory (envelope_of_text c (last_line (input ++ octets) ++ next.0))))
            (subst (λ lines. HasAnswered m c heard start mid w u lines None) (sym (cuts.whole_lines-octets input octets other)) stands.answered);
        unavailability = tt;
        size = λ is. cc;
      }

  -- ---- however it ended

  -- the store is in order for some lines
  pub ends_in_order : (heard : List Envelope) (old new : K) (w v : Option (List ℕ)) (input : List ℕ) (end : LinesEnd) → LinesEndBy m c heard old new w v input end
      → (lines : List (List ℕ)) × IsInOrder m c new (heard_lines c heard lines)
  ends_in_order heard old new w v input lines_end.Done ends = (all_lines input, ends.hears.order)
  ends_in_order heard old new w v input lines_end.Read ends = (whole_lines input, ends.hears.order)
  ends_in_order heard old new w v input lines_end.Write ends = (ends.lines ++ ends.line ∷ [], ends.hears.order)
  ends_in_order heard old new w v input (lines_end.Unavailable fault) ends = (ends.lines, ends.answered.hears.order)

-- ---- octets after octets

-- a line that ends in some octets, and more
pub ended-more : (input octets more : List ℕ) → (input ++ octets) ++ (line_feed ∷ more) ≡ ((input ++ octets) ++ line_feed ∷ []) ++ more
ended-more input octets more = sym (append_assoc (input ++ octets) (line_feed ∷ []) more)

-- one line more is done
pub line-done : (input done front : List ℕ) → ((input ++ done) ++ front) ++ line_feed ∷ [] ≡ input ++ (done ++ (front ++ line_feed ∷ []))
line-done input done front = append_assoc (input ++ done) front (line_feed ∷ []) ∙ append_assoc input done (front ++ line_feed ∷ [])

pub parts-on : (octets done front rest left : List ℕ) → octets ≡ done ++ rest → rest ≡ front ++ line_feed ∷ left
    → octets ≡ (done ++ (front ++ line_feed ∷ [])) ++ left
parts-on octets done front rest left is cut =
    is ∙ ap (λ l. done ++ l) (cut ∙ sym (append_assoc front (line_feed ∷ []) left)) ∙ sym (append_assoc done (front ++ line_feed ∷ []) left)

pub line-rest : (input octets done front rest left more : List ℕ) → octets ≡ done ++ rest → rest ≡ front ++ line_feed ∷ left
    → (((input ++ done) ++ front) ++ line_feed ∷ []) ++ (left ++ more) ≡ (input ++ octets) ++ more
line-rest input octets done front rest left more is cut =
    ap (λ l. l ++ (left ++ more)) (line-done input done front)
    ∙ sym (append_assoc (input ++ (done ++ (front ++ line_feed ∷ []))) left more)
    ∙ ap (λ l. l ++ more) (append_assoc input (done ++ (front ++ line_feed ∷ [])) left ∙ ap (λ l. input ++ l) (sym (parts-on octets done front rest left is cut)))

-- and all that is left
pub octets-done : (input octets done rest : List ℕ) → octets ≡ done ++ rest → (input ++ done) ++ rest ≡ input ++ octets
octets-done input octets done rest is = append_assoc input done rest ∙ ap (λ l. input ++ l) (sym is)

-- a read that gave no octet
pub consumes-none : (a b c : Option (List ℕ)) (input chunk : List ℕ) (n : ℕ) → Consumes a b input → Consumes b c (take n chunk) → n ≡ 0 → Consumes a c input
consumes-none a b c input chunk n p q none =
    subst (Consumes a c) (append-nil input) (Consumes-trans a b c input [] p (subst (λ k. Consumes b c (take k chunk)) none q))
