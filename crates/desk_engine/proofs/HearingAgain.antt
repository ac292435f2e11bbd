-- An answer that was given stays, and the same texts get the same answers again.
use Rattle.std.proofs.Common.{◌≡◌, ℕ, Bool, true, false, List, [], ◌∷◌, ◌++◌, map, Option, Some, None, Result, Ok, Err, refl, ap, sym, ◌∙◌}
use Rattle.std.specs.Prelude.{IfOk, is_some, find, if◌then◌else◌}
use Rattle.std.specs.List.{AllByRecursion}
use Rattle.std.specs.Option.{option_or}
use Rattle.std.proofs.Common.{inl, inr}
use Rattle.std.proofs.lemmas.Bool.{cases_Bool, eq-eqb}
use Rattle.std.proofs.lemmas.List.Elements.{recursion_from_All}
use Rattle.std.proofs.lemmas.List.Folds.{find-append}
use Rattle.std.proofs.lemmas.Slice.Eq.{bytes_eq-Decides}
use Rattle.registry_core.specs.declared.answers.Answer.{Answer}
use Rattle.registry_core.specs.declared.messages.Envelope.{Envelope}
use Rattle.registry_core.specs.declared.messages.Role.{Role}
use Rattle.registry_core.specs.Heard.{answers_of, has_pair, heard_with, is_sender, pair_place, reply_at, reply_to, same_pair, state_of}
use Rattle.registry_core.specs.Laws.{SendersStay, adds_sender}
use Rattle.registry_core.specs.Same.{SameMessageTells}
use Rattle.registry_core.specs.Settings.{Settings}
use Rattle.registry_core.specs.State.{opening}
use Rattle.registry_core.specs.Step.{step}
use Rattle.desk_wire.specs.declared.faults.WireFault.{WireFault}
use Rattle.desk_engine.specs.Deliveries.{heard_after, heard_all, heard_read}
use Rattle.desk_engine.specs.Laws.{AddsNoSender, HeardAgain, KeptAnswersStay, delivered, told_each}
use Rattle.desk_engine.specs.Told.{envelope_of_text, told_of_read, told_of_reply}
use Rattle.desk_engine.proofs.KeptAfter.{answers_after-push, state_after-push}
use Rattle.desk_engine.proofs.Places.{cases_option, has_pair-pair_place}
use Rattle.desk_engine.proofs.Replies.{heard_with-new, reply-known, reply-stranger, unless-again, unless-stranger}

-- ---- places stay

-- with an envelope at the end, what was found is found
place_pushed : (c : Settings) (heard : List Envelope) (new e : Envelope) (kept : Envelope × Answer) → pair_place c heard e ≡ Some kept → pair_place c (heard ++ new ∷ []) e ≡ Some kept
place_pushed c heard new e kept at =
    let tail : List (Envelope × Answer) = (new, (step c (state_of c heard) new).1) ∷ [] in
    ap (find (λ x. same_pair e x.0)) (answers_after-push c (opening c) heard new)
    ∙ find-append (λ (x : Envelope × Answer). same_pair e x.0) (answers_of c heard) tail
    ∙ ap (λ found. option_or found (find (λ (x : Envelope × Answer). same_pair e x.0) tail)) at

place_by : (c : Settings) (heard : List Envelope) (new e : Envelope) (kept : Envelope × Answer) (b : Bool) → pair_place c heard e ≡ Some kept → pair_place c (if b then heard ++ new ∷ [] else heard) e ≡ Some kept
place_by c heard new e kept true at = place_pushed c heard new e kept at
place_by c heard new e kept false at = at

place_stays : (c : Settings) (heard : List Envelope) (new e : Envelope) (kept : Envelope × Answer) → pair_place c heard e ≡ Some kept → pair_place c (heard_with c heard new) e ≡ Some kept
unfolding heard_with
place_stays c heard new e kept at = place_by c heard new e kept _ at

read_stays : (unavailable : Bool) (c : Settings) (heard : List Envelope) (wanted : Result Envelope WireFault) (e : Envelope) (kept : Envelope × Answer) → pair_place c heard e ≡ Some kept
    → pair_place c (heard_read unavailable c heard wanted) e ≡ Some kept
read_stays unavailable c heard (Err fault) e kept at = at
read_stays true c heard (Ok new) e kept at = at
read_stays false c heard (Ok new) e kept at = place_stays c heard new e kept at

pub kept_answers_stay : KeptAnswersStay
kept_answers_stay c heard d e kept at = read_stays d.unavailable c heard (envelope_of_text c d.text) e kept at

-- ---- a list that extends another, with no sender more

record Extends (c : Settings) (before after : List Envelope) : Type 0 where
  senders : (name : List ℕ) → is_sender (state_of c after) name ≡ is_sender (state_of c before) name
  places : (e : Envelope) (kept : Envelope × Answer) → pair_place c before e ≡ Some kept → pair_place c after e ≡ Some kept

itself : (c : Settings) (heard : List Envelope) → Extends c heard heard
itself c heard = record { senders = λ name. refl; places = λ e kept at. at }

further : (c : Settings) (a b d : List Envelope) → Extends c a b → Extends c b d → Extends c a d
further c a b d x y = record { senders = λ name. y.senders name ∙ x.senders name; places = λ e kept at. y.places e kept (x.places e kept at) }

senders_by : (stay : SendersStay) (c : Settings) (heard : List Envelope) (new : Envelope) (name : List ℕ) (b : Bool) → adds_sender new.message ≡ false
    → is_sender (state_of c (if b then heard ++ new ∷ [] else heard)) name ≡ is_sender (state_of c heard) name
senders_by stay c heard new name true none =
    ap (λ s. is_sender s name) (state_after-push c (opening c) heard new) ∙ ap (λ (senders : List ℕ → Option Role). is_some (senders name)) (stay c (state_of c heard) new none)
senders_by stay c heard new name false none = refl

with_one : (stay : SendersStay) (c : Settings) (heard : List Envelope) (new : Envelope) → adds_sender new.message ≡ false → Extends c heard (heard_with c heard new)
unfolding heard_with
with_one stay c heard new none = record { senders = λ name. senders_by stay c heard new name _ none; places = place_stays c heard new }

-- ---- one envelope again

pair_self : (e : Envelope) → same_pair e e ≡ true
pair_self e = rw (eq-eqb e.transaction e.transaction refl, (bytes_eq-Decides e.sender e.sender).1 refl) refl

record Again (c : Settings) (before after : List Envelope) (e : Envelope) : Type 0 where
  reply : reply_to c after e ≡ reply_to c before e
  stays : heard_with c after e ≡ after

-- if its transaction number has a place, that determines its answer, and nothing is heard
placed : (c : Settings) (before after : List Envelope) (e : Envelope) (kept : Envelope × Answer) → is_sender (state_of c before) e.sender ≡ true → is_sender (state_of c after) e.sender ≡ true
    → pair_place c before e ≡ Some kept → pair_place c after e ≡ Some kept → Again c before after e
placed c before after e kept known_before known_after at_before at_after = record {
  reply = reply-known c after e known_after ∙ ap (λ place. reply_at place e (step c (state_of c after) e).1) at_after
      ∙ sym (reply-known c before e known_before ∙ ap (λ place. reply_at place e (step c (state_of c before) e).1) at_before);
  stays = unless-again false c after e (has_pair-pair_place c after e ∙ ap is_some at_after);
}

-- the place of an envelope that has just been heard
new_place : (c : Settings) (heard : List Envelope) (e : Envelope) → pair_place c heard e ≡ None → pair_place c (heard ++ e ∷ []) e ≡ Some (e, (step c (state_of c heard) e).1)
new_place c heard e none =
    let tail : List (Envelope × Answer) = (e, (step c (state_of c heard) e).1) ∷ [] in
    ap (find (λ x. same_pair e x.0)) (answers_after-push c (opening c) heard e)
    ∙ find-append (λ (x : Envelope × Answer). same_pair e x.0) (answers_of c heard) tail
    ∙ ap (λ found. option_or found (find (λ (x : Envelope × Answer). same_pair e x.0) tail)) none
    ∙ rw (pair_self e) refl

-- a new one is replied by its own answer, then and later
newly_placed : (same : SameMessageTells) (c : Settings) (before after : List Envelope) (e : Envelope) → is_sender (state_of c before) e.sender ≡ true → is_sender (state_of c after) e.sender ≡ true
    → pair_place c before e ≡ None → pair_place c after e ≡ Some (e, (step c (state_of c before) e).1) → Again c before after e
newly_placed same c before after e known_before known_after at_before at_after = record {
  reply = reply-known c after e known_after ∙ ap (λ place. reply_at place e (step c (state_of c after) e).1) at_after
      ∙ rw ((same e.message e.message).1 refl) refl
      ∙ sym (reply-known c before e known_before ∙ ap (λ place. reply_at place e (step c (state_of c before) e).1) at_before);
  stays = unless-again false c after e (has_pair-pair_place c after e ∙ ap is_some at_after);
}

again : (same : SameMessageTells) (c : Settings) (before after : List Envelope) (e : Envelope) → Extends c before after → Extends c (heard_with c before e) after → Again c before after e
again same c before after e from_before from_with = elim (cases_Bool (is_sender (state_of c before) e.sender)) [
  | inr unknown ↦
      let later : is_sender (state_of c after) e.sender ≡ false = from_before.senders e.sender ∙ unknown in
      record { reply = reply-stranger c after e later ∙ sym (reply-stranger c before e unknown); stays = unless-stranger false c after e later }
  | inl known ↦
      let later : is_sender (state_of c after) e.sender ≡ true = from_before.senders e.sender ∙ known in
      elim (cases_option (pair_place c before e)) [
        | inr found ↦ placed c before after e found.0 known later found.1 (from_before.places e found.0 found.1)
        | inl none ↦
            let new : has_pair before e ≡ false = has_pair-pair_place c before e ∙ ap is_some none in
            newly_placed same c before after e known later none
            (from_with.places e (e, (step c (state_of c before) e).1) (ap (λ l. pair_place c l e) (heard_with-new c before e known new) ∙ new_place c before e none))
      ]
]

-- ---- one text again

record TextAgain (c : Settings) (before after : List Envelope) (wanted : Result Envelope WireFault) : Type 0 where
  told : told_of_read c after wanted ≡ told_of_read c before wanted
  stays : heard_read false c after wanted ≡ after

text_again : (same : SameMessageTells) (c : Settings) (before after : List Envelope) (wanted : Result Envelope WireFault) → Extends c before after → Extends c (heard_read false c before wanted) after
    → TextAgain c before after wanted
text_again same c before after (Err fault) from_before from_with = record { told = refl; stays = refl }
text_again same c before after (Ok e) from_before from_with =
    let one = again same c before after e from_before from_with in
    record { told = ap (told_of_reply c e) one.reply; stays = one.stays }

read_extends : (stay : SendersStay) (c : Settings) (heard : List Envelope) (wanted : Result Envelope WireFault) → IfOk wanted (λ e. adds_sender e.message ≡ false) → Extends c heard (heard_read false c heard wanted)
read_extends stay c heard (Err fault) none = itself c heard
read_extends stay c heard (Ok e) none = with_one stay c heard e none

-- ---- many

AddNoSender : Settings → List (List ℕ) → Type 0
AddNoSender c texts = AllByRecursion (AddsNoSender c) texts

all_extend : (stay : SendersStay) (c : Settings) (heard : List Envelope) (texts : List (List ℕ)) → AddNoSender c texts → Extends c heard (heard_all c heard (map delivered texts))
unfolding AddNoSender
all_extend stay c heard [] none = itself c heard
all_extend stay c heard (text ∷ texts) none =
    let next : List Envelope = heard_after c heard (delivered text) in
    further c heard next (heard_all c next (map delivered texts)) (read_extends stay c heard (envelope_of_text c text) none.0) (all_extend stay c next texts none.1)

-- from a log that extends what the texts leave, they get the same answers, and it stays
each_again : (same : SameMessageTells) (stay : SendersStay) (c : Settings) (before after : List Envelope) (texts : List (List ℕ)) → AddNoSender c texts
    → Extends c (heard_all c before (map delivered texts)) after → (told_each c after texts ≡ told_each c before texts) × (heard_all c after (map delivered texts) ≡ after)
unfolding AddNoSender
each_again same stay c before after [] none extends = (refl, refl)
each_again same stay c before after (text ∷ texts) none extends =
    let next : List Envelope = heard_after c before (delivered text) in
    let from_next : Extends c next after = further c next (heard_all c next (map delivered texts)) after (all_extend stay c next texts none.1) extends in
    let from_before : Extends c before after = further c before next after (read_extends stay c before (envelope_of_text c text) none.0) from_next in
    let one = text_again same c before after (envelope_of_text c text) from_before from_next in
    let rest = each_again same stay c next after texts none.1 extends in
    (λ i. one.told i ∷ (ap (λ l. told_each c l texts) one.stays ∙ rest.0) i, ap (λ l. heard_all c l (map delivered texts)) one.stays ∙ rest.1)

pub heard_again : SameMessageTells → SendersStay → HeardAgain
unfolding AddNoSender
heard_again same stay c heard texts none =
    each_again same stay c heard (heard_all c heard (map delivered texts)) texts (recursion_from_All (AddsNoSender c) texts none) (itself c (heard_all c heard (map delivered texts)))
