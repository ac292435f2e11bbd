-- What `hear` promises, for each of the things that the store may have found of the message.
use Rattle.std.proofs.Common.{◌≡◌, ◌∙◌, ℕ, false, Bool, List, Some, None, Result, Ok, is_ok, is_some, refl, ap, sym, subst}
use Rattle.std.specs.Prelude.{◌||◌}
use Rattle.std.specs.Global.{Vec}
use Rattle.registry_core.specs.declared.answers.Refusal.TheVariants.{UnknownSender}
use Rattle.registry_core.specs.declared.messages.Envelope.{Envelope}
use Rattle.registry_core.specs.declared.views.View.{View}
use Rattle.registry_core.specs.Ranges.{IsEnvelope, IsSettings}
use Rattle.registry_core.specs.Same.{SameMessageTells}
use Rattle.registry_core.specs.Settings.{Settings}
use Rattle.desk_store.specs.declared.faults.StoreFault.{StoreFault}
use Rattle.desk_store.specs.declared.faults.StoreFault.TheVariants.{Size}
use Rattle.desk_store.specs.declared.keeper.Loaded.{Loaded}
use Rattle.desk_store.specs.declared.keeper.Loaded.TheVariants.{Stranger, Heard, Fresh}
use Rattle.desk_store.specs.Calls.{ForHeld, IsOfCalls, IsRead, TellsFailed, is_disk, is_not_a_desk}
use Rattle.desk_store.specs.Looks.{Loads}
use Rattle.desk_store.specs.Meaning.{Meaning}
use Rattle.desk_wire.specs.Answers.{head_of_envelope}
use Rattle.desk_wire.specs.Laws.{MessageReadsBack}
use Rattle.desk_engine.specs.declared.outcomes.Outcome.{Outcome}
use Rattle.desk_engine.specs.declared.outcomes.Outcome.TheVariants.{Answered, Refused, Unavailable}
use Rattle.desk_engine.specs.Deliveries.{heard_unless}
use Rattle.desk_engine.specs.Hearing.{Hears}
use Rattle.desk_engine.specs.InOrder.{HasNoRoom, WasInOrder, kept_after}
use Rattle.desk_engine.specs.Outcomes.{IfRefused, IsOutcome, IsUnheardEnvelope, doubt_of, is_unavailable, outcome_fault}
use Rattle.desk_engine.specs.steps.Hearing.{HearsFresh, HearsLoaded, KeepsRules, Repeats, Says}
use Rattle.desk_engine.specs.Told.{told_of_envelope, told_of_refusal}
use Rattle.desk_engine.proofs.HearingCases.{IsHeardAfter, IsQuiet, heard_pair, is_heard, new_outcome, repeat_outcome, repeats_quiet, repeats_refused, says_at, says_quiet, says_refused, stranger_outcome, was_up}
use Rattle.desk_engine.proofs.Hearings.{reading_hears}
use Rattle.desk_engine.proofs.Replies.{unless-again, unless-stranger}

-- what is refused where nothing is
none_refused : (o : Outcome) → IfRefused o (λ refusal. ⊥) → IfRefused o IsUnheardEnvelope
none_refused (Answered text) none = tt
none_refused (Refused refusal text) none = absurd none
none_refused (Unavailable fault) none = tt

module _ {K : Type 0} (m : Meaning K) (old mid : K) (e : Envelope) (found : Loaded) where
  -- the store was asked, and this is what it knew of the message
  pub record WasAsked : Type 0 where
    pub read : IsRead m old mid None
    pub loads : ForHeld m old mid (λ kept. Loads (m.configuration old) kept e found)

module _ {K : Type 0} (m : Meaning K) where
  -- ---- of a store in order

  loaded_of : (c : Settings) (heard : List Envelope) (old mid new : K) (e : Envelope) (found : Loaded) → WasAsked m old mid e found → m.sound mid → WasInOrder m c heard old new
      → Loads c (kept_after c heard) e found
  loaded_of c heard old mid new e found asked sound was = subst (λ s. Loads s (kept_after c heard) e found) (sym was.its) (asked.loads (kept_after c heard) sound was.order.kept)

  there : (c : Settings) (heard : List Envelope) (old mid new : K) → IsRead m old mid None → m.sound mid → WasInOrder m c heard old new → WasInOrder m c heard mid new
  there c heard old mid new read sound was =
      record { its = was.its ∙ sym read.same; sound = was.sound; order = record { list = was.order.list; kept = read.held _ sound was.order.kept } }

  -- ---- the store is unavailable

  pub untold_store : KeepsRules m → (old new : K) (e : Envelope) (fault : StoreFault) → IsRead m old new (Some fault)
      → Hears m old new (is_disk (Some fault)) (is_not_a_desk (Some fault)) (λ c heard. heard) (λ c. doubt_of e (Unavailable fault))
  untold_store rules old new e fault read = reading_hears m rules old new (Some fault) _ _ _ _ read refl refl (λ c heard was. refl)

  -- ---- nothing was called after it

  abbrev HearsStore : K → K → Envelope → Outcome → Type 0
  HearsStore old new e o = Hears m old new (is_disk (outcome_fault o)) (is_not_a_desk (outcome_fault o)) (λ c heard. heard_unless (is_unavailable o) c heard e) (λ c. doubt_of e o)

  quiet_store : KeepsRules m → (old new : K) (e : Envelope) (o : Outcome) → IsRead m old new None → IsQuiet o
      → ((c : Settings) (heard : List Envelope) → WasInOrder m c heard old new → heard_unless (is_unavailable o) c heard e ≡ heard) → HearsStore old new e o
  quiet_store rules old new e o read quiet same = reading_hears m rules old new None _ _ _ _ read quiet.disk quiet.not_a_desk same

  stranger_stays : (old new : K) (e : Envelope) (o : Outcome) → WasAsked m old new e Stranger → (c : Settings) (heard : List Envelope) → WasInOrder m c heard old new
      → heard_unless (is_unavailable o) c heard e ≡ heard
  unfolding kept_after
  stranger_stays old new e o asked c heard was = unless-stranger _ c heard e (loaded_of c heard old new new e Stranger asked was.sound was)

  repeat_stays : (old new : K) (e : Envelope) (message answer : Vec ℕ) (o : Outcome) → WasAsked m old new e (Heard message answer) → (c : Settings) (heard : List Envelope) → WasInOrder m c heard old new
      → heard_unless (is_unavailable o) c heard e ≡ heard
  unfolding kept_after
  repeat_stays old new e message answer o asked c heard was =
      unless-again _ c heard e (heard_pair c heard e _ _ (loaded_of c heard old new new e (Heard message answer) asked was.sound was).1)

  stranger_told : (old new : K) (e : Envelope) (o : Outcome) → WasAsked m old new e Stranger → Says (told_of_refusal (m.configuration new) UnknownSender (Some (head_of_envelope e))) o
      → (c : Settings) (heard : List Envelope) → WasInOrder m c heard old new → IsOutcome (told_of_envelope c heard e) o
  unfolding kept_after
  stranger_told old new e o asked said c heard was =
      stranger_outcome c heard e o (loaded_of c heard old new new e Stranger asked was.sound was)
      (says_at _ c (λ s. told_of_refusal s UnknownSender (Some (head_of_envelope e))) o (asked.read.same ∙ sym was.its) said)

  repeat_told : MessageReadsBack → SameMessageTells → (old new : K) (e : Envelope) (message answer : Vec ℕ) (o : Outcome) → IsSettings (m.configuration old) → IsEnvelope e
      → WasAsked m old new e (Heard message answer) → Repeats (m.configuration new) e message.items answer.items o
      → (c : Settings) (heard : List Envelope) → WasInOrder m c heard old new → IsOutcome (told_of_envelope c heard e) o
  unfolding kept_after
  repeat_told back tells old new e message answer o settings in_range asked said c heard was =
      let loaded = loaded_of c heard old new new e (Heard message answer) asked was.sound was in
      repeat_outcome c heard e _ _ o back tells (subst IsSettings (sym was.its) settings).receiver in_range was.order.list loaded.0 loaded.1
      (subst (λ s. Repeats s e message.items answer.items o) (asked.read.same ∙ sym was.its) said)

  -- ---- a new pair

  fresh_after : (old mid new : K) (e : Envelope) (view : View) (o : Outcome) → WasAsked m old mid e (Fresh view) → m.failed old ≡ false → HearsFresh m mid new e view o
      → (c : Settings) (heard : List Envelope) → WasInOrder m c heard old new → IsHeardAfter m c heard e new o × IsOutcome (told_of_envelope c heard e) o
  unfolding kept_after
  fresh_after old mid new e view o asked up fresh c heard was =
      let sound = fresh.call.was_sound was.sound in
      let loaded = loaded_of c heard old mid new e (Fresh view) asked sound was in
      let known = ap is_some loaded.1.role in
      let hears = fresh.hears c heard (there c heard old mid new asked.read sound was) (asked.read.shut ∙ up) loaded.0 loaded.1 in
      (is_heard m c heard e new o known loaded.0 hears, new_outcome m c heard e new o known loaded.0 hears)

  fresh_store : KeepsRules m → (old mid new : K) (e : Envelope) (view : View) (o : Outcome) → WasAsked m old mid e (Fresh view) → m.failed old ≡ false → HearsFresh m mid new e view o
      → HearsStore old new e o
  fresh_store rules old mid new e view o asked up fresh =
      let call = fresh.call in
      let after = λ (c : Settings) (heard : List Envelope) (was : WasInOrder m c heard old new). (fresh_after old mid new e view o asked up fresh c heard was).0 in
      record {
        call = record {
          same = call.same ∙ asked.read.same;
          was_sound = λ sound. asked.read.was_sound (call.was_sound sound);
          shut = call.shut ∙ ap (λ (b : Bool). is_disk (outcome_fault o) || b) asked.read.shut;
          not_a_desk_now = call.not_a_desk_now ∙ ap (λ (b : Bool). is_not_a_desk (outcome_fault o) || b) asked.read.not_a_desk_now;
        };
        order = λ c heard was. (after c heard was).order;
        crash = λ c heard doubt was survived. rw up (after c heard was).crash;
        rules = λ c heard was. rules c _ new was.sound (after c heard was).order;
      }

  -- ---- all

  -- a store whose look-up succeeded wasn't failed
  pub found_up : (old : K) (r : Result Loaded StoreFault) (found : Loaded) → TellsFailed m old r → r ≡ Ok found → m.failed old ≡ false
  found_up old r found failed is = was_up m old r failed (ap is_ok is)

  pub loaded_store : KeepsRules m → (old mid new : K) (e : Envelope) (found : Loaded) (o : Outcome) → WasAsked m old mid e found → m.failed old ≡ false → HearsLoaded m mid new e found o
      → HearsStore old new e o
  loaded_store rules old mid new e Stranger o asked up hears =
      subst (λ k. HearsStore old k e o) (sym hears.0) (quiet_store rules old mid e o asked.read (says_quiet _ o hears.1) (stranger_stays old mid e o asked))
  loaded_store rules old mid new e (Heard message answer) o asked up hears =
      subst (λ k. HearsStore old k e o) (sym hears.0) (quiet_store rules old mid e o asked.read (repeats_quiet (m.configuration mid) e _ _ o hears.1) (repeat_stays old mid e message answer o asked))
  loaded_store rules old mid new e (Fresh view) o asked up hears = fresh_store rules old mid new e view o asked up hears

  pub loaded_told : MessageReadsBack → SameMessageTells → (old mid new : K) (e : Envelope) (found : Loaded) (o : Outcome) → IsSettings (m.configuration old) → IsEnvelope e
      → WasAsked m old mid e found → m.failed old ≡ false → HearsLoaded m mid new e found o
      → (c : Settings) (heard : List Envelope) → WasInOrder m c heard old new → IsOutcome (told_of_envelope c heard e) o
  loaded_told back tells old mid new e Stranger o settings in_range asked up hears c heard was =
      stranger_told old mid e o asked hears.1 c heard (subst (λ k. WasInOrder m c heard old k) hears.0 was)
  loaded_told back tells old mid new e (Heard message answer) o settings in_range asked up hears c heard was =
      repeat_told back tells old mid e message answer o settings in_range asked hears.1 c heard (subst (λ k. WasInOrder m c heard old k) hears.0 was)
  loaded_told back tells old mid new e (Fresh view) o settings in_range asked up hears c heard was = (fresh_after old mid new e view o asked up hears c heard was).1

  pub loaded_refused : (mid new : K) (e : Envelope) (found : Loaded) (o : Outcome) → HearsLoaded m mid new e found o → IfRefused o IsUnheardEnvelope
  loaded_refused mid new e Stranger o hears = says_refused IsUnheardEnvelope _ _ o tt hears.1
  loaded_refused mid new e (Heard message answer) o hears = repeats_refused (m.configuration mid) e _ _ o hears.1
  loaded_refused mid new e (Fresh view) o hears = none_refused o hears.refused

  pub loaded_of_calls : (mid new : K) (e : Envelope) (found : Loaded) (o : Outcome) → HearsLoaded m mid new e found o → IsOfCalls (outcome_fault o)
  loaded_of_calls mid new e Stranger o hears = (says_quiet _ o hears.1).told
  loaded_of_calls mid new e (Heard message answer) o hears = (repeats_quiet (m.configuration mid) e _ _ o hears.1).told
  loaded_of_calls mid new e (Fresh view) o hears = hears.told

  pub loaded_size : (old mid new : K) (e : Envelope) (found : Loaded) (o : Outcome) → WasAsked m old mid e found → HearsLoaded m mid new e found o
      → (c : Settings) (heard : List Envelope) → WasInOrder m c heard old new → outcome_fault o ≡ Some Size → HasNoRoom m new heard
  loaded_size old mid new e Stranger o asked hears c heard was told = absurd ((says_quiet _ o hears.1).size told)
  loaded_size old mid new e (Heard message answer) o asked hears c heard was told = absurd ((repeats_quiet (m.configuration mid) e _ _ o hears.1).size told)
  loaded_size old mid new e (Fresh view) o asked hears c heard was told = hears.size c heard (there c heard old mid new asked.read (hears.call.was_sound was.sound) was) told
