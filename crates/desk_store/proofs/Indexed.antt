-- One more uplink in the list is one more in the index.
use Rattle.std.proofs.Common.{◌≡◌, ℕ, ◌+◌, Bool, false, cond, List, [], ◌∷◌, ◌++◌, length, Option, Some, refl, sym, ◌∙◌, ap, rules, if◌then◌else◌}
use Rattle.std.specs.Prelude.{max, nat_eq}
use Rattle.std.specs.Option.{option_map_or, unwrap_or}
use Rattle.std.proofs.lemmas.Grind.{common_steps}
use Rattle.indexmap.specs.IndexMap.{get, IsUnchanged}
use Rattle.registry_core.specs.declared.facts.Kind.TheVariants.{Join, Data}
use Rattle.registry_core.specs.declared.facts.Uplink.{Uplink}
use Rattle.registry_core.specs.Derived.{is_data_with, is_data_of}
use Rattle.registry_core.specs.Numbered.{first_that}
use Rattle.desk_store.specs.declared.uplink_index.UplinkIndex.{UplinkIndex}
use Rattle.desk_store.specs.steps.Uplinks.{is_join_of, number_of, same_numbers, IsIndexOf}
use Rattle.desk_store.proofs.FirstThat.{number_of-append}
use Rattle.desk_store.proofs.Greatest.{greatest-append}

module _ (uplinks : List Uplink) (uplink : Uplink) (number : ℕ) (last : number ≡ length uplinks + 1) where
  -- where an uplink doesn't pass, the first that does stays
  other_first : (test : Uplink → Bool) → test uplink ≡ false → number_of (first_that test uplinks) ≡ number_of (first_that test (uplinks ++ uplink ∷ []))
  other_first test apart = ap (λ b. cond b (Some (unwrap_or (number_of (first_that test uplinks)) number)) (number_of (first_that test uplinks))) (sym apart) ∙ number_of-append test uplinks uplink number last

  noted_first : (test : Uplink → Bool) (old new : Option ℕ) (b : Bool) → test uplink ≡ b → old ≡ number_of (first_that test uplinks)
      → new ≡ cond b (Some (unwrap_or old number)) old → new ≡ number_of (first_that test (uplinks ++ uplink ∷ []))
  noted_first test old new b same was is =
      is ∙ ap (λ found. cond b (Some (unwrap_or found number)) found) was
      ∙ ap (λ passes. cond passes (Some (unwrap_or (number_of (first_that test uplinks)) number)) (number_of (first_that test uplinks))) (sym same)
      ∙ number_of-append test uplinks uplink number last

  module _ (old new : UplinkIndex) (was : IsIndexOf uplinks old) where
    pub join_noted : uplink.kind ≡ Join
        → ((pair : ℕ × ℕ) → get same_numbers new.joins pair ≡ (if same_numbers (uplink.session, uplink.counter) pair then Some (unwrap_or (get same_numbers old.joins pair) number) else get same_numbers old.joins pair))
        → new.frames ≡ old.frames → new.counters ≡ old.counters
        → IsIndexOf (uplinks ++ uplink ∷ []) new
    join_noted kind joins frames counters = record {
      joins = λ n counter. noted_first (is_join_of n counter) _ _ _ (rw kind refl) (was.joins n counter) (joins (n, counter));
      frames = λ n counter. rw frames (was.frames n counter ∙ other_first (is_data_with n counter) (rw kind refl));
      counters = λ n. rw counters (was.counters n ∙ sym (greatest-append (λ (u : Uplink). u.counter) (is_data_of n) uplinks uplink ∙ rw kind refl));
    }

    pub data_noted : uplink.kind ≡ Data
        → new.joins ≡ old.joins
        → ((pair : ℕ × ℕ) → get same_numbers new.frames pair ≡ (if same_numbers (uplink.session, uplink.counter) pair then Some (unwrap_or (get same_numbers old.frames pair) number) else get same_numbers old.frames pair))
        → ((n : ℕ) → get nat_eq new.counters n ≡ (if nat_eq uplink.session n then Some (option_map_or (max uplink.counter) (get nat_eq old.counters n) uplink.counter) else get nat_eq old.counters n))
        → IsIndexOf (uplinks ++ uplink ∷ []) new
    data_noted kind joins frames counters = record {
      joins = λ n counter. rw joins (was.joins n counter ∙ other_first (is_join_of n counter) (rw kind refl));
      frames = λ n counter. noted_first (is_data_with n counter) _ _ _ (rw kind refl) (was.frames n counter) (frames (n, counter));
      counters = λ n. counters n ∙ ap (λ found. cond (nat_eq uplink.session n) (Some (option_map_or (max uplink.counter) found uplink.counter)) found) (was.counters n)
          ∙ sym (greatest-append (λ (u : Uplink). u.counter) (is_data_of n) uplinks uplink ∙ rw kind refl);
    }

-- an index with the same look-ups is the same index
pub index_unchanged : (uplinks : List Uplink) (old new : UplinkIndex) → IsIndexOf uplinks old → IsUnchanged old.joins new.joins → IsUnchanged old.frames new.frames
    → IsUnchanged old.counters new.counters → IsIndexOf uplinks new
index_unchanged uplinks old new was joins frames counters = search (rules, common_steps)
