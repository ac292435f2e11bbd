-- A log with one more message is a log.
use Rattle.std.proofs.Common.{◌≡◌, ◌<◌, true, false, List, [], ◌∷◌, ◌++◌, length, append_assoc, append-nil, arith, inl, inr}
use Rattle.std.specs.Prelude.{IsTrue}
use Rattle.std.proofs.lemmas.Bool.{cases_Bool}
use Rattle.std.proofs.lemmas.List.{length-append}
use Rattle.registry_core.specs.declared.messages.Envelope.{Envelope}
use Rattle.registry_core.specs.Heard.{AreHeard, IsHeard, HeardListsStay, has_pair, heard_with, is_sender, most_heard, state_of}
use Rattle.registry_core.specs.Ranges.{IsEnvelope}
use Rattle.registry_core.specs.Settings.{Settings}

are_heard_with : (c : Settings) (before rest : List Envelope) (e : Envelope) → AreHeard c before rest
    → IsEnvelope e → IsTrue (is_sender (state_of c (before ++ rest)) e.sender) → has_pair (before ++ rest) e ≡ false
    → AreHeard c before (rest ++ e ∷ [])
are_heard_with c before [] e each in_range known new =
    (in_range, rw (append-nil before) at known, rw (append-nil before) at new, tt)
are_heard_with c before (h ∷ hs) e each in_range known new =
    (each.0, each.1, each.2, are_heard_with c (before ++ h ∷ []) hs e each.3 in_range (rw append_assoc known) (rw append_assoc new))

heard_list_more : (c : Settings) (heard : List Envelope) (e : Envelope) → IsHeard c heard → length heard < most_heard → IsEnvelope e
    → is_sender (state_of c heard) e.sender ≡ true → has_pair heard e ≡ false → IsHeard c (heard ++ e ∷ [])
heard_list_more c heard e list room in_range known new = record {
  few = omega (arith, length-append heard (e ∷ []));
  each = are_heard_with c [] heard e list.each in_range known new;
}

-- where the sender is unknown, or the pair was heard, the list stays
pub heard_lists_stay : HeardListsStay
unfolding heard_with
heard_lists_stay c heard e list room in_range = elim (cases_Bool (is_sender (state_of c heard) e.sender)) [
  | inr unknown ↦ rw unknown list
  | inl known ↦ elim (cases_Bool (has_pair heard e)) [
    | inl again ↦ rw (known, again) list
    | inr new ↦ rw (known, new) (heard_list_more c heard e list room in_range known new)
  ]
]
