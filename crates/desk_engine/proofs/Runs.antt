-- A run over one text more: the log, the outcomes, and which message is in flight after a disk error.
use Rattle.std.proofs.Common.{◌≡◌, ℕ, true, false, cond, List, [], ◌∷◌, ◌++◌, Option, Some, None, refl, ap, subst, sym, inl, inr, ◌∙◌, ◌<◌, ◌≤◌, ◌+◌, map, take, length, get_or, Bor}
use Rattle.std.specs.Prelude.{◌||◌, Result, Ok, Err}
use Rattle.std.proofs.lemmas.List.{take_more, map-append, take_all}
use Rattle.registry_core.specs.declared.messages.Envelope.{Envelope}
use Rattle.registry_core.specs.Settings.{Settings}
use Rattle.desk_store.specs.declared.faults.StoreFault.TheVariants.{Size}
use Rattle.desk_store.specs.Calls.{is_disk, is_not_a_desk}
use Rattle.desk_store.specs.Meaning.{Meaning}
use Rattle.desk_wire.specs.declared.faults.WireFault.{WireFault}
use Rattle.desk_engine.specs.declared.outcomes.Outcome.{Outcome}
use Rattle.desk_engine.specs.Deliveries.{heard_after, heard_all}
use Rattle.desk_engine.specs.Hearing.{Hears}
use Rattle.desk_engine.specs.InOrder.{HasNoRoom, WasInOrder}
use Rattle.desk_engine.specs.Outcomes.{AreOutcomes, IsOutcome, deliveries_of, delivery_of, doubt_of_text, doubt_read, outcome_fault, first_doubt, has_disk, has_not_a_desk}
use Rattle.desk_engine.specs.Sizes.{AreDelivered, IsDelivered, SizesAreMostHeard}
use Rattle.desk_engine.specs.Told.{envelope_of_text, told_of_text}
use Rattle.desk_engine.proofs.Hearings.{hears_as, hears_then, was_before}

heard_all-push : (c : Settings) (heard : List Envelope) (ts : List (List ℕ)) (os : List Outcome) (t : List ℕ) (o : Outcome) → AreOutcomes c heard ts os
    → heard_all c heard (deliveries_of (ts ++ t ∷ []) (os ++ o ∷ [])) ≡ heard_after c (heard_all c heard (deliveries_of ts os)) (delivery_of t o)
heard_all-push c heard [] [] t o all = refl
heard_all-push c heard (x ∷ xs) (y ∷ ys) t o all = heard_all-push c (heard_after c heard (delivery_of x y)) xs ys t o all.1
heard_all-push c heard [] (y ∷ ys) t o all = absurd all
heard_all-push c heard (x ∷ xs) [] t o all = absurd all

outcomes-push : (c : Settings) (heard : List Envelope) (ts : List (List ℕ)) (os : List Outcome) (t : List ℕ) (o : Outcome) → AreOutcomes c heard ts os
    → IsOutcome (told_of_text c (heard_all c heard (deliveries_of ts os)) t) o → AreOutcomes c heard (ts ++ t ∷ []) (os ++ o ∷ [])
outcomes-push c heard [] [] t o all one = (one, tt)
outcomes-push c heard (x ∷ xs) (y ∷ ys) t o all one = (all.0, outcomes-push c (heard_after c heard (delivery_of x y)) xs ys t o all.1 one)
outcomes-push c heard [] (y ∷ ys) t o all one = absurd all
outcomes-push c heard (x ∷ xs) [] t o all one = absurd all

-- ---- the in-flight message

pub has_disk-push : (os : List Outcome) (o : Outcome) → has_disk (os ++ o ∷ []) ≡ (has_disk os || is_disk (outcome_fault o))
has_disk-push [] o = elim (is_disk (outcome_fault o)) as (λ b. (b || false) ≡ b) [ true ↦ refl | false ↦ refl ]
has_disk-push (y ∷ ys) o =
    elim (is_disk (outcome_fault y)) as (λ b. (b || has_disk (ys ++ o ∷ [])) ≡ ((b || has_disk ys) || is_disk (outcome_fault o))) [ true ↦ refl | false ↦ has_disk-push ys o ]

one_doubt : (wanted : Result Envelope WireFault) (o : Outcome) → cond (is_disk (outcome_fault o)) (doubt_read wanted o) None ≡ doubt_read wanted o
one_doubt (Ok e) o = elim (is_disk (outcome_fault o)) as (λ b. cond b (cond b (Some e) None) None ≡ cond b (Some e) None) [ true ↦ refl | false ↦ refl ]
one_doubt (Err fault) o = elim (is_disk (outcome_fault o)) as (λ b. cond {A = Option Envelope} b None None ≡ None) [ true ↦ refl | false ↦ refl ]

first_doubt-push : (c : Settings) (heard : List Envelope) (ts : List (List ℕ)) (os : List Outcome) (t : List ℕ) (o : Outcome) → AreOutcomes c heard ts os
    → first_doubt c (ts ++ t ∷ []) (os ++ o ∷ []) ≡ cond (has_disk os) (first_doubt c ts os) (doubt_of_text c t o)
first_doubt-push c heard [] [] t o all = one_doubt (envelope_of_text c t) o
first_doubt-push c heard (x ∷ xs) (y ∷ ys) t o all =
    elim (is_disk (outcome_fault y)) as (λ b. cond b (doubt_of_text c x y) (first_doubt c (xs ++ t ∷ []) (ys ++ o ∷ []))
    ≡ cond (b || has_disk ys) (cond b (doubt_of_text c x y) (first_doubt c xs ys)) (doubt_of_text c t o)) [
      | true ↦ refl
      | false ↦ first_doubt-push c (heard_after c heard (delivery_of x y)) xs ys t o all.1
    ]
first_doubt-push c heard [] (y ∷ ys) t o all = absurd all
first_doubt-push c heard (x ∷ xs) [] t o all = absurd all

has_not_a_desk-push : (os : List Outcome) (o : Outcome) → has_not_a_desk (os ++ o ∷ []) ≡ (has_not_a_desk os || is_not_a_desk (outcome_fault o))
has_not_a_desk-push [] o = elim (is_not_a_desk (outcome_fault o)) as (λ b. (b || false) ≡ b) [ true ↦ refl | false ↦ refl ]
has_not_a_desk-push (y ∷ ys) o =
    elim (is_not_a_desk (outcome_fault y)) as (λ b. (b || has_not_a_desk (ys ++ o ∷ [])) ≡ ((b || has_not_a_desk ys) || is_not_a_desk (outcome_fault o))) [ true ↦ refl | false ↦ has_not_a_desk-push ys o ]

-- ---- one more

module _ {K : Type 0} (m : Meaning K) where
  pub run_more : (old mid new : K) (ts : List (List ℕ)) (os : List Outcome) (t : List ℕ) (o : Outcome)
      → Hears m old mid (has_disk os) (has_not_a_desk os) (λ c heard. heard_all c heard (deliveries_of ts os)) (λ c. first_doubt c ts os)
      → ((c : Settings) (heard : List Envelope) → WasInOrder m c heard old mid → AreOutcomes c heard ts os)
      → Hears m mid new (is_disk (outcome_fault o)) (is_not_a_desk (outcome_fault o)) (λ c heard. heard_after c heard (delivery_of t o)) (λ c. doubt_of_text c t o)
      → Hears m old new (has_disk (os ++ o ∷ [])) (has_not_a_desk (os ++ o ∷ []))
      (λ c heard. heard_all c heard (deliveries_of (ts ++ t ∷ []) (os ++ o ∷ []))) (λ c. first_doubt c (ts ++ t ∷ []) (os ++ o ∷ []))
  run_more old mid new ts os t o ran told more =
      rw (has_disk-push os o, has_not_a_desk-push os o)
      (hears_as m old new _ _ _ (λ c heard. heard_all c heard (deliveries_of (ts ++ t ∷ []) (os ++ o ∷ []))) _ (λ c. first_doubt c (ts ++ t ∷ []) (os ++ o ∷ []))
      (hears_then m old mid new _ _ _ _ _ _ _ _ ran more)
      (λ c heard was. heard_all-push c heard ts os t o (told c heard (was_before m c heard old mid new more.call.was_sound was)))
      (λ c heard was. first_doubt-push c heard ts os t o (told c heard (was_before m c heard old mid new more.call.was_sound was))))

  delivered-push : (c : Settings) (heard : List Envelope) (old mid new : K) (ts : List (List ℕ)) (os : List Outcome) (t : List ℕ) (o : Outcome) → AreOutcomes c heard ts os
      → AreDelivered m c heard old mid ts os → IsDelivered m c (heard_all c heard (deliveries_of ts os)) mid new t o
      → AreDelivered m c heard old new (ts ++ t ∷ []) (os ++ o ∷ [])
  delivered-push c heard old mid new [] [] t o all told one = (new, subst (λ k. IsDelivered m c heard k new t o) (sym told) one, refl)
  delivered-push c heard old mid new (x ∷ xs) (y ∷ ys) t o all told one =
      (told.0, told.1, delivered-push c (heard_after c heard (delivery_of x y)) told.0 mid new xs ys t o all.1 told.2 one)
  delivered-push c heard old mid new [] (y ∷ ys) t o all told one = absurd all
  delivered-push c heard old mid new (x ∷ xs) [] t o all told one = absurd all

  -- the outcomes so far of a run, on a store that represented a log
  pub record HasTold (c : Settings) (heard : List Envelope) (old mid : K) (ts : List (List ℕ)) (os : List Outcome) : Type 0 where
    pub outcomes : AreOutcomes c heard ts os
    pub delivered : AreDelivered m c heard old mid ts os

  pub told_more : (c : Settings) (heard : List Envelope) (old mid new : K) (ts : List (List ℕ)) (os : List Outcome) (t : List ℕ) (o : Outcome) → HasTold c heard old mid ts os
      → IsOutcome (told_of_text c (heard_all c heard (deliveries_of ts os)) t) o
      → Hears m mid new (is_disk (outcome_fault o)) (is_not_a_desk (outcome_fault o)) (λ s list. heard_after s list (delivery_of t o)) (λ s. doubt_of_text s t o)
      → (outcome_fault o ≡ Some Size → HasNoRoom m new (heard_all c heard (deliveries_of ts os)))
      → HasTold c heard old new (ts ++ t ∷ []) (os ++ o ∷ [])
  told_more c heard old mid new ts os t o told outcome hears size = record {
    outcomes = outcomes-push c heard ts os t o told.outcomes outcome;
    delivered = delivered-push c heard old mid new ts os t o told.outcomes told.delivered (record { hears = hears; size = size });
  }

  -- of stores whose media have no size of their own
  pub most_heard_at_sizes : ((k : K) → ¬ (m.out_of_space k)) → (c : Settings) (heard : List Envelope) (old new : K) (ts : List (List ℕ)) (os : List Outcome)
      → AreDelivered m c heard old new ts os → SizesAreMostHeard c heard ts os
  most_heard_at_sizes not_out_of_space c heard old new [] [] told = tt
  most_heard_at_sizes not_out_of_space c heard old new (t ∷ ts) (o ∷ os) told = (
    λ is. elim (told.1.size is) [ inl full ↦ full | inr out_of_space ↦ absurd (not_out_of_space told.0 out_of_space) ],
    most_heard_at_sizes not_out_of_space c (heard_after c heard (delivery_of t o)) told.0 new ts os told.2,
  )
  most_heard_at_sizes not_out_of_space c heard old new [] (o ∷ os) told = absurd told
  most_heard_at_sizes not_out_of_space c heard old new (t ∷ ts) [] told = absurd told

-- the texts, as far as the loop has come
pub seen_more : (ts : List (Bor (List ℕ))) (i : ℕ) (d : Bor (List ℕ)) → i < length ts → map (λ t. t.now) (take (i + 1) ts) ≡ map (λ t. t.now) (take i ts) ++ (get_or ts i d).now ∷ []
seen_more ts i d within = ap (map (λ (t : Bor (List ℕ)). t.now)) (take_more ts i d within) ∙ map-append (λ (t : Bor (List ℕ)). t.now) (take i ts) (get_or ts i d ∷ [])

pub seen_all : (ts : List (Bor (List ℕ))) (i : ℕ) → length ts ≤ i → take i ts ≡ ts
seen_all ts i past = take_all i ts past
