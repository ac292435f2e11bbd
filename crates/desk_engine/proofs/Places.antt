-- Where a sender and transaction number are in a log.
use Rattle.std.proofs.Common.{◌≡◌, true, false, cond, List, [], ◌∷◌, ◌++◌, map, Option, Some, None, refl, ap, sym, ◌∙◌, subst}
use Rattle.std.specs.Prelude.{◌⊎◌, ◌||◌, option_map, is_some, unwrap_or}
use Rattle.std.specs.List.{find, list_any}
use Rattle.std.proofs.Common.{inl, inr}
use Rattle.std.proofs.lemmas.Bool.{and_parts, eqb-true}
use Rattle.std.proofs.lemmas.Slice.Eq.{bytes_eq-Decides}
use Rattle.registry_core.specs.declared.answers.Answer.{Answer}
use Rattle.registry_core.specs.declared.messages.Envelope.{Envelope}
use Rattle.registry_core.specs.Heard.{AreHeard, IsHeard, answers_after, answers_of, has_pair, pair_place, same_pair}
use Rattle.registry_core.specs.Ranges.{IsEnvelope}
use Rattle.registry_core.specs.Settings.{Settings}
use Rattle.registry_core.specs.State.{State, opening}
use Rattle.registry_core.specs.Step.{step}
use Rattle.desk_store.specs.Kept.{entry_of}
use Rattle.desk_engine.specs.InOrder.{entry_at, entries_of}

pub cases_option : {A : Type 0} (o : Option A) → (o ≡ None) ⊎ ((x : A) × (o ≡ Some x))
cases_option None = inl refl
cases_option (Some x) = inr (x, refl)

entry_of-map : (c : Settings) (e : Envelope) (xs : List (Envelope × Answer)) → entry_of e (map (entry_at c) xs) ≡ option_map (entry_at c) (find (λ x. same_pair e x.0) xs)
entry_of-map c e [] = refl
entry_of-map c e (x ∷ xs) =
    elim (same_pair e x.0) as (λ b. cond b (Some (entry_at c x)) (entry_of e (map (entry_at c) xs)) ≡ option_map (entry_at c) (cond b (Some x) (find (λ y. same_pair e y.0) xs))) [
      | true ↦ refl
      | false ↦ entry_of-map c e xs
    ]

-- the entry of an envelope is that of the place that has its pair
pub entry_of-entries_of : (c : Settings) (heard : List Envelope) (e : Envelope) → entry_of e (entries_of c heard) ≡ option_map (entry_at c) (pair_place c heard e)
entry_of-entries_of c heard e = entry_of-map c e (answers_of c heard)

pair_at : (c : Settings) (s : State) (heard : List Envelope) (e : Envelope) → list_any (same_pair e) heard ≡ is_some (find (λ x. same_pair e x.0) (answers_after c s heard))
pair_at c s [] e = refl
pair_at c s (h ∷ hs) e =
    elim (same_pair e h) as (λ b. (b || list_any (same_pair e) hs) ≡ is_some (cond b (Some (h, (step c s h).1)) (find (λ (y : Envelope × Answer). same_pair e y.0) (answers_after c (step c s h).0 hs)))) [
      | true ↦ refl
      | false ↦ pair_at c (step c s h).0 hs e
    ]

-- the list has the pair where some place has it
pub has_pair-pair_place : (c : Settings) (heard : List Envelope) (e : Envelope) → has_pair heard e ≡ is_some (pair_place c heard e)
has_pair-pair_place c heard e = pair_at c (opening c) heard e

-- no entry, no place
pub no_place : (c : Settings) (heard : List Envelope) (e : Envelope) → entry_of e (entries_of c heard) ≡ None → pair_place c heard e ≡ None
no_place c heard e none = elim (cases_option (pair_place c heard e)) [
  | inl same ↦ same
  | inr found ↦ let k : None ≡ Some (entry_at c found.0) = sym none ∙ entry_of-entries_of c heard e ∙ ap (option_map (entry_at c)) found.1 in cc
]

-- what is at a place that was found
pub record StandsFor (e other : Envelope) : Type 0 where
  pub in_range : IsEnvelope other
  pub pair : same_pair e other ≡ true

stands_for_from : (c : Settings) (before rest : List Envelope) (s : State) (e : Envelope) (x : Envelope × Answer) → AreHeard c before rest
    → find (λ y. same_pair e y.0) (answers_after c s rest) ≡ Some x → StandsFor e x.0
stands_for_from c before [] s e x each at = cc
stands_for_from c before (h ∷ hs) s e x each at =
    (elim (same_pair e h) as (λ b. same_pair e h ≡ b → cond b (Some (h, (step c s h).1)) (find (λ y. same_pair e y.0) (answers_after c (step c s h).0 hs)) ≡ Some x → StandsFor e x.0) [
      | true ↦ λ same here.
          let is : h ≡ x.0 = ap (λ (o : Option (Envelope × Answer)). (unwrap_or o x).0) here in
          subst (λ other. StandsFor e other) is (record { in_range = each.0; pair = same })
      | false ↦ λ differ later. stands_for_from c (before ++ h ∷ []) hs (step c s h).0 e x each.3 later
    ]) refl at

pub stands_for : (c : Settings) (heard : List Envelope) (e : Envelope) (x : Envelope × Answer) → IsHeard c heard → pair_place c heard e ≡ Some x → StandsFor e x.0
stands_for c heard e x list at = stands_for_from c [] heard (opening c) e x list.each at

-- two of one pair and one message are one
pub same_envelope : (e other : Envelope) → same_pair e other ≡ true → e.message ≡ other.message → e ≡ other
same_envelope e other pair message =
    let parts = and_parts _ _ pair in
    let transaction : e.transaction ≡ other.transaction = eqb-true _ _ parts.0 in
    let sender : e.sender ≡ other.sender = (bytes_eq-Decides e.sender other.sender).0 parts.1 in
    λ i. record { sender = sender i; transaction = transaction i; message = message i }
