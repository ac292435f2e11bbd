-- What calls do to a store: none of them, one that only reads, and one after another.
use Rattle.std.proofs.Common.{◌≡◌, ◌∙◌, Bool, true, false, List, Option, None, refl, ap, sym, subst, inl, inr}
use Rattle.std.specs.Prelude.{◌||◌, if◌then◌else◌}
use Rattle.registry_core.specs.declared.messages.Envelope.{Envelope}
use Rattle.registry_core.specs.Rules.{RulesAreKept}
use Rattle.registry_core.specs.Settings.{Settings}
use Rattle.desk_store.specs.declared.faults.StoreFault.{StoreFault}
use Rattle.desk_store.specs.Calls.{IsCall, IsRead, is_disk, is_not_a_desk}
use Rattle.desk_store.specs.Meaning.{Meaning}
use Rattle.desk_engine.specs.Hearing.{Hears}
use Rattle.desk_engine.specs.InOrder.{IsInOrder, Survives, WasInOrder, doubt_after, kept_after}
use Rattle.desk_engine.specs.Laws.{NoCallHearsNothing, ReadsHearNothing}
use Rattle.desk_engine.specs.steps.Hearing.{KeepsRules}
use Rattle.desk_engine.proofs.KeptAfter.{HoldsOne, holds_rules}

or_true : (b : Bool) → (b || true) ≡ true
or_true true = refl
or_true false = refl

or_after : (a b c : Bool) → (b || (a || c)) ≡ ((a || b) || c)
or_after true true c = refl
or_after true false c = refl
or_after false b c = refl

doubts : (was disk mid : Bool) (before first last : Option Envelope) → mid ≡ (disk || was)
    → doubt_after mid (doubt_after was before first) last ≡ doubt_after was before (if disk then first else last)
doubts true true mid before first last is = rw is refl
doubts true false mid before first last is = rw is refl
doubts false true mid before first last is = rw is refl
doubts false false mid before first last is = rw is refl

module _ {K : Type 0} (m : Meaning K) where
  -- ---- reading alone

  -- no call was made
  pub reads_none : (k : K) → IsRead m k k None
  reads_none k = record {
    same = refl;
    was_sound = λ sound. sound;
    shut = refl;
    not_a_desk_now = refl;
    reading = tt;
    held = λ kept sound held. held;
    left = λ kept all sound held left. left;
    unavailable = λ kept sound held. tt;
    rests = λ stored sound rests. rests;
  }

  -- what a crash leaves stays, with its in-flight message
  pub survives_reads : (c : Settings) (heard : List Envelope) (doubt now : Option Envelope) (old new : K) (fault : Option StoreFault)
      → IsRead m old new fault → m.sound new → m.holds old (kept_after c heard)
      → Survives m c old heard doubt → Survives m c new heard (doubt_after (m.failed old) doubt now)
  survives_reads c heard doubt now old new fault reads sound held (inl alone) = inl (reads.left _ _ sound held alone)
  survives_reads c heard doubt now old new fault reads sound held (inr (e, in_doubt, d)) =
      inr (
        e,
        ap (λ b. doubt_after b doubt now) d.is_failed ∙ in_doubt,
        record {
          is_failed = reads.shut ∙ ap (λ b. is_disk fault || b) d.is_failed ∙ or_true (is_disk fault);
          list = d.list;
          left = reads.left _ _ sound held d.left;
        },
      )

  -- reading calls that heard nothing
  pub reading_hears : KeepsRules m → (old new : K) (fault : Option StoreFault) (disk not_a_desk : Bool)
      (after : Settings → List Envelope → List Envelope) (doubtful : Settings → Option Envelope)
      → IsRead m old new fault → disk ≡ is_disk fault → not_a_desk ≡ is_not_a_desk fault
      → ((c : Settings) (heard : List Envelope) → WasInOrder m c heard old new → after c heard ≡ heard)
      → Hears m old new disk not_a_desk after doubtful
  reading_hears keeps old new fault disk not_a_desk after doubtful reads disk_is not_a_desk_is same = record {
    call = record { same = reads.same; was_sound = reads.was_sound; shut = rw disk_is reads.shut; not_a_desk_now = rw not_a_desk_is reads.not_a_desk_now };
    order = λ c heard was. subst (λ l. IsInOrder m c new l) (sym (same c heard was)) (stays c heard was);
    crash = λ c heard doubt was s.
        subst (λ l. Survives m c new l (doubt_after (m.failed old) doubt (doubtful c))) (sym (same c heard was))
        (survives_reads c heard doubt (doubtful c) old new fault reads was.sound was.order.kept s);
    rules = λ c heard was. keeps c heard new was.sound (stays c heard was);
  }
    where
      stays : (c : Settings) (heard : List Envelope) → WasInOrder m c heard old new → IsInOrder m c new heard
      stays c heard was = record { list = was.order.list; kept = reads.held _ was.sound was.order.kept }

  pub hears_nothing : HoldsOne m → RulesAreKept → (old new : K) (fault : Option StoreFault) (disk not_a_desk : Bool)
      (after : Settings → List Envelope → List Envelope) (doubtful : Settings → Option Envelope)
      → IsRead m old new fault → disk ≡ is_disk fault → not_a_desk ≡ is_not_a_desk fault
      → ((c : Settings) (heard : List Envelope) → WasInOrder m c heard old new → after c heard ≡ heard)
      → Hears m old new disk not_a_desk after doubtful
  hears_nothing one law = reading_hears (holds_rules m one law)

  -- ---- one after another

  pub call_then : (old mid new : K) (disk not_a_desk : Bool) → IsCall m old mid false false → IsCall m mid new disk not_a_desk → IsCall m old new disk not_a_desk
  call_then old mid new disk not_a_desk first second = record {
    same = second.same ∙ first.same;
    was_sound = λ sound. first.was_sound (second.was_sound sound);
    shut = second.shut ∙ ap (λ b. disk || b) first.shut;
    not_a_desk_now = second.not_a_desk_now ∙ ap (λ b. not_a_desk || b) first.not_a_desk_now;
  }

  -- the store before the last call was in order
  pub was_before : (c : Settings) (heard : List Envelope) (old mid new : K) → (m.sound new → m.sound mid) → WasInOrder m c heard old new → WasInOrder m c heard old mid
  was_before c heard old mid new was_sound was = record { its = was.its; sound = was_sound was.sound; order = was.order }

  -- the same in other words
  pub hears_as : (old new : K) (disk not_a_desk : Bool) (after other : Settings → List Envelope → List Envelope) (doubtful doubted : Settings → Option Envelope)
      → Hears m old new disk not_a_desk after doubtful
      → ((c : Settings) (heard : List Envelope) → WasInOrder m c heard old new → other c heard ≡ after c heard)
      → ((c : Settings) (heard : List Envelope) → WasInOrder m c heard old new → doubted c ≡ doubtful c)
      → Hears m old new disk not_a_desk other doubted
  hears_as old new disk not_a_desk after other doubtful doubted h same in_doubt = record {
    call = h.call;
    order = λ c heard was. subst (λ l. IsInOrder m c new l) (sym (same c heard was)) (h.order c heard was);
    crash = λ c heard doubt was s.
        subst (λ l. Survives m c new l (doubt_after (m.failed old) doubt (doubted c))) (sym (same c heard was))
        (subst (λ d. Survives m c new (after c heard) (doubt_after (m.failed old) doubt d)) (sym (in_doubt c heard was)) (h.crash c heard doubt was s));
    rules = h.rules;
  }

  pub hears_then : (old mid new : K) (first_disk first_not_a_desk disk not_a_desk : Bool) (first_after after : Settings → List Envelope → List Envelope) (first_doubt doubtful : Settings → Option Envelope)
      → Hears m old mid first_disk first_not_a_desk first_after first_doubt → Hears m mid new disk not_a_desk after doubtful
      → Hears m old new (first_disk || disk) (first_not_a_desk || not_a_desk) (λ c heard. after c (first_after c heard)) (λ c. if first_disk then first_doubt c else doubtful c)
  hears_then old mid new first_disk first_not_a_desk disk not_a_desk first_after after first_doubt doubtful first second = record {
    call = record {
      same = second.call.same ∙ first.call.same;
      was_sound = λ sound. first.call.was_sound (second.call.was_sound sound);
      shut = second.call.shut ∙ ap (λ b. disk || b) first.call.shut ∙ or_after first_disk disk (m.failed old);
      not_a_desk_now = second.call.not_a_desk_now ∙ ap (λ b. not_a_desk || b) first.call.not_a_desk_now ∙ or_after first_not_a_desk not_a_desk (m.not_a_desk old);
    };
    order = λ c heard was. second.order c (first_after c heard) (there c heard was);
    crash = λ c heard doubt was s.
        subst (λ d. Survives m c new (after c (first_after c heard)) d)
        (doubts (m.failed old) first_disk (m.failed mid) doubt (first_doubt c) (doubtful c) first.call.shut)
        (second.crash c (first_after c heard) _ (there c heard was) (first.crash c heard doubt (here c heard was) s));
    rules = λ c heard was. second.rules c (first_after c heard) (there c heard was);
  }
    where
      here : (c : Settings) (heard : List Envelope) → WasInOrder m c heard old new → WasInOrder m c heard old mid
      here c heard was = was_before c heard old mid new second.call.was_sound was

      there : (c : Settings) (heard : List Envelope) → WasInOrder m c heard old new → WasInOrder m c (first_after c heard) mid new
      there c heard was = record { its = was.its ∙ sym first.call.same; sound = was.sound; order = first.order c heard (here c heard was) }

  -- ---- laws

  pub reads_hear_nothing : KeepsRules m → ReadsHearNothing m
  reads_hear_nothing keeps old new fault reads = reading_hears keeps old new fault _ _ _ _ reads refl refl (λ c heard was. refl)

  pub no_call_hears_nothing : KeepsRules m → NoCallHearsNothing m
  no_call_hears_nothing keeps keeper = reading_hears keeps keeper keeper None _ _ _ _ (reads_none keeper) refl refl (λ c heard was. refl)
