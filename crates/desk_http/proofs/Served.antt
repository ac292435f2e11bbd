-- What connections that are served one after another do to a store, and what they are answered.
use Rattle.std.proofs.Common.{◌≡◌, ℕ, zero, suc, Bool, true, false, cond, List, [], ◌∷◌, ◌++◌, Option, Some, None, Result, Ok, Err, inl, inr, refl, ap, sym, subst, ◌∙◌}
use Rattle.std.proofs.lemmas.List.{append-nil}
use Rattle.std.specs.Io.KnownBytes.{Consumes}
use Rattle.std.specs.Prelude.{◌||◌}
use Rattle.registry_core.specs.declared.messages.Envelope.{Envelope}
use Rattle.registry_core.specs.Settings.{Settings}
use Rattle.desk_store.specs.declared.faults.StoreFault.{StoreFault}
use Rattle.desk_store.specs.Calls.{IsRead, is_disk, is_not_a_desk}
use Rattle.desk_store.specs.Meaning.{Meaning}
use Rattle.desk_engine.specs.declared.outcomes.Outcome.{Outcome}
use Rattle.desk_engine.specs.Deliveries.{Delivery, heard_after, heard_all}
use Rattle.desk_engine.specs.Hearing.{Hears}
use Rattle.desk_engine.specs.InOrder.{WasInOrder}
use Rattle.desk_engine.specs.Laws.{CallsHearInOrder, NoCallHearsNothing, ReadsHearNothing}
use Rattle.desk_engine.specs.Outcomes.{delivery_of, doubt_of_text, doubt_read, outcome_fault}
use Rattle.desk_engine.specs.Reporting.{store_fault_in}
use Rattle.desk_engine.specs.Told.{envelope_of_text}
use Rattle.desk_http.specs.declared.network_faults.NetworkFault.{NetworkFault}
use Rattle.desk_http.specs.declared.serving.ServeEnd.{ServeEnd}
use Rattle.desk_http.specs.declared.serving.ServeEnd.TheVariants.{Done, Closed, Read, Write, Memory}
use Rattle.desk_http.specs.Requests.{IsReadAs, Request, refused, message, report}
use Rattle.desk_http.specs.Responses.{Response}
use Rattle.desk_http.specs.Serving.{IsDelivered, ServesRequest, ServingEndsBy}
use Rattle.desk_http.specs.Answered.{Answers, Delivered, and_then, none_delivered}
use Rattle.desk_http.specs.Served.{Connections, HearsDeliveries, HearsEach, ServesAll, ServesConnection, ServesEach, delivered_by}

heard_all-append : (c : Settings) (heard : List Envelope) (ds more : List Delivery) → heard_all c heard (ds ++ more) ≡ heard_all c (heard_all c heard ds) more
heard_all-append c heard [] more = refl
heard_all-append c heard (d ∷ ds) more = heard_all-append c (heard_after c heard d) ds more

-- without a disk error no message is in flight
no_doubt : (c : Settings) (text : List ℕ) (outcome : Outcome) → is_disk (outcome_fault outcome) ≡ false → doubt_of_text c text outcome ≡ None
no_doubt c text outcome is = elim (envelope_of_text c text) as (λ wanted. doubt_read wanted outcome ≡ None) [
  | Ok e ↦ ap (λ b. cond b (Some e) None) is
  | Err fault ↦ refl
]

no_doubts : (first second : Bool) (a b : Option Envelope) → (first ≡ false → a ≡ None) → (second ≡ false → b ≡ None) → (first || second) ≡ false → cond first a b ≡ None
no_doubts true second a b p q is = absurd (let k : true ≡ false = is in cc)
no_doubts false second a b p q is = q is

-- nothing more was delivered
nothing_more : (these : Delivered) → (these.disk ≡ false → these.doubt ≡ None) → these ≡ and_then these none_delivered
nothing_more these undoubted = λ i. record {
  deliveries = sym (append-nil these.deliveries) i;
  disk = no_other these.disk i;
  doubt = stays these.disk these.doubt undoubted i;
}
  where
    no_other : (b : Bool) → b ≡ (b || false)
    no_other true = refl
    no_other false = refl

    stays : (b : Bool) (doubt : Option Envelope) → (b ≡ false → doubt ≡ None) → doubt ≡ cond b doubt None
    stays true doubt undoubted = refl
    stays false doubt undoubted = undoubted refl

module _ {K : Type 0} (m : Meaning K) (in_order : CallsHearInOrder m) (reads : ReadsHearNothing m) (none : NoCallHearsNothing m) where
  hears_none : (old new : K) → new ≡ old → HearsDeliveries m old new
  hears_none old new is = record {
    deliveries = [];
    disk = false;
    not_a_desk = false;
    doubtful = λ c. None;
    undoubted = λ up c. refl;
    hears = subst (λ k. Hears m old k false false (λ c heard. heard) (λ c. None)) (sym is) (none old);
  }

  hears_reads : (old new : K) (fault : Option StoreFault) → IsRead m old new fault → HearsDeliveries m old new
  hears_reads old new fault read = record {
    deliveries = [];
    disk = is_disk fault;
    not_a_desk = is_not_a_desk fault;
    doubtful = λ c. None;
    undoubted = λ up c. refl;
    hears = reads old new fault read;
  }

  hears_message : (old new : K) (body : List ℕ) (outcome : Outcome) → IsDelivered m old new body outcome → HearsDeliveries m old new
  hears_message old new body outcome delivered = record {
    deliveries = delivery_of body outcome ∷ [];
    disk = is_disk (outcome_fault outcome);
    not_a_desk = is_not_a_desk (outcome_fault outcome);
    doubtful = λ c. doubt_of_text c body outcome;
    undoubted = λ up c. no_doubt c body outcome up;
    hears = delivered.store;
  }

  hears_more : (old mid new : K) → HearsDeliveries m old mid → HearsDeliveries m mid new → HearsDeliveries m old new
  hears_more old mid new first second = record {
    deliveries = first.deliveries ++ second.deliveries;
    disk = first.disk || second.disk;
    not_a_desk = first.not_a_desk || second.not_a_desk;
    doubtful = λ c. cond first.disk (first.doubtful c) (second.doubtful c);
    undoubted = λ up c. no_doubts first.disk second.disk (first.doubtful c) (second.doubtful c) (λ is. first.undoubted is c) (λ is. second.undoubted is c) up;
    hears = subst (λ (after : Settings → List Envelope → List Envelope). Hears m old new (first.disk || second.disk) (first.not_a_desk || second.not_a_desk) after (λ c. cond first.disk (first.doubtful c) (second.doubtful c)))
        (λ i c heard. sym (heard_all-append c heard first.deliveries second.deliveries) i)
        (in_order old mid new first.disk first.not_a_desk second.disk second.not_a_desk _ _ first.doubtful second.doubtful first.hears second.hears);
  }

  -- ---- one connection

  request_hears : (old new : K) (request : Request) (body : List ℕ) (response : Response) → ServesRequest m old new request body response → HearsDeliveries m old new
  request_hears old new (refused wanted) body response served = hears_none old new served.0
  request_hears old new (message count) body response (inl served) = hears_message old new body served.1 served.2
  request_hears old new (message count) body response (inr served) = hears_none old new served.1
  request_hears old new (report wanted) body response served = hears_reads old new (store_fault_in served.0) served.2.read

  end_hears : (old new : K) (serves : Response → Type 0) (closed : Type 0) (before after : Option (List ℕ)) (end : ServeEnd)
      → ((response : Response) → serves response → HearsDeliveries m old new)
      → ServingEndsBy old new serves closed before after end → HearsDeliveries m old new
  end_hears old new serves closed before after (Done status) hears ends = hears ends.0 ends.2
  end_hears old new serves closed before after Closed hears ends = hears_none old new ends.1.0
  end_hears old new serves closed before after Read hears ends = hears_none old new ends.0
  end_hears old new serves closed before after Write hears ends = hears ends.0 ends.1
  end_hears old new serves closed before after Memory hears ends = hears_none old new ends.0

  module _ {L R W : Type 0} (l : Connections L R W) (remaining : R → Option (List ℕ)) (contents : W → Option (List ℕ)) where
    next_hears : (old new : K) (before after : L) → ServesConnection l remaining contents (ServesRequest m) old new before after → HearsDeliveries m old new
    next_hears old new before after one =
        end_hears old new _ _ _ _ one.end (λ response served. request_hears old new served.2 served.3 response served.5) one.served

    each_hears : (n : ℕ) (old new : K) (before after : L) → ServesEach l remaining contents (ServesRequest m) n old new before after → HearsDeliveries m old new
    each_hears zero old new before after served = hears_none old new served.0
    each_hears (suc n) old new before after (mid, between, served, next) =
        hears_more old mid new (each_hears n old mid before between served) (next_hears mid new between after next)

  -- ---- what it is answered

  module _ (c : Settings) (heard : List Envelope) where
    -- in order before the first of two calls
    before_both : (old mid new : K) → HearsDeliveries m mid new → WasInOrder m c heard old new → WasInOrder m c heard old mid
    before_both old mid new second was = record { its = was.its; sound = second.hears.call.was_sound was.sound; order = was.order }

    -- and before the second
    between_both : (old mid new : K) (first : HearsDeliveries m old mid) → HearsDeliveries m mid new → WasInOrder m c heard old new
        → WasInOrder m c (heard_all c heard first.deliveries) mid new
    between_both old mid new first second was = record {
      its = was.its ∙ sym first.hears.call.same;
      sound = was.sound;
      order = first.hears.order c heard (before_both old mid new second was);
    }

    -- What was delivered before the connection. Without a disk error no message of it is in flight.
    module _ (before : Delivered) (undoubted : before.disk ≡ false → before.doubt ≡ None) where
      request_answers : (old new : K) (request : Request) (body : List ℕ) (response : Response) (served : ServesRequest m old new request body response)
          → WasInOrder m c (heard_all c heard before.deliveries) old new
          → Answers c heard before (and_then before (delivered_by (request_hears old new request body response served) c)) request body response
      unfolding request_hears hears_none hears_message hears_reads
      request_answers old new (refused wanted) body response served was = (sym (nothing_more before undoubted), served.1)
      request_answers old new (message count) body response (inl served) was =
          inl (served.0, served.1, served.2.told c _ was, refl, served.3)
      request_answers old new (message count) body response (inr served) was = inr (served.0, sym (nothing_more before undoubted), served.2)
      request_answers old new (report wanted) body response served was =
          (served.0, served.2.told c _ was, served.2.time, refl, served.1)

      end_answers : (old new : K) (serves : Response → Type 0) (answers : Delivered → Response → Type 0) (closed : Type 0) (held holds : Option (List ℕ)) (end : ServeEnd)
          (hears : (response : Response) → serves response → HearsDeliveries m old new)
          → ((response : Response) (served : serves response) → answers (and_then before (delivered_by (hears response served) c)) response)
          → (ends : ServingEndsBy old new serves closed held holds end)
          → ServingEndsBy before (and_then before (delivered_by (end_hears old new serves closed held holds end hears ends) c))
          (answers (and_then before (delivered_by (end_hears old new serves closed held holds end hears ends) c))) closed held holds end
      unfolding end_hears hears_none
      end_answers old new serves answers closed held holds (Done status) hears told ends = (ends.0, ends.1, told ends.0 ends.2, ends.3)
      end_answers old new serves answers closed held holds Closed hears told ends = (ends.0, (sym (nothing_more before undoubted), ends.1.1))
      end_answers old new serves answers closed held holds Read hears told ends = (sym (nothing_more before undoubted), ends.1)
      end_answers old new serves answers closed held holds Write hears told ends = (ends.0, told ends.0 ends.1)
      end_answers old new serves answers closed held holds Memory hears told ends = (sym (nothing_more before undoubted), ends.1)

      module _ {L R W : Type 0} (l : Connections L R W) (remaining : R → Option (List ℕ)) (contents : W → Option (List ℕ)) where
        next_answers : (old new : K) (first last : L) (served : ServesConnection l remaining contents (ServesRequest m) old new first last)
            → WasInOrder m c (heard_all c heard before.deliveries) old new
            → ServesConnection l remaining contents (Answers c heard) before (and_then before (delivered_by (next_hears l remaining contents old new first last served) c)) first last
        unfolding next_hears hears_none
        next_answers old new first last one was = record {
          meanwhile = one.meanwhile;
          reader = one.reader;
          left = one.left;
          writer = one.writer;
          written = one.written;
          end = one.end;
          comes = one.comes;
          served = end_answers old new _
              (λ now response. (input : List ℕ) × Consumes (remaining one.reader) (remaining one.left) input
              × (request : Request) × (body : List ℕ) × IsReadAs input (remaining one.left) request body × Answers c heard before now request body response)
              _ _ _ one.end _
              (λ response served. (served.0, served.1, served.2, served.3, served.4, request_answers old new served.2 served.3 response served.5 was)) one.served;
          finishes = one.finishes;
        }

    each_answers : {L R W : Type 0} (l : Connections L R W) (remaining : R → Option (List ℕ)) (contents : W → Option (List ℕ)) (n : ℕ) (old new : K) (before after : L)
        (served : ServesEach l remaining contents (ServesRequest m) n old new before after) → WasInOrder m c heard old new
        → ServesEach l remaining contents (Answers c heard) n none_delivered (delivered_by (each_hears l remaining contents n old new before after served) c) before after
    unfolding each_hears hears_none hears_more
    each_answers l remaining contents zero old new before after served was = (refl, served.1)
    each_answers l remaining contents (suc n) old new before after (mid, between, served, next) was =
        let first = each_hears l remaining contents n old mid before between served in
        let second = next_hears l remaining contents mid new between after next in (
          delivered_by first c,
          between,
          each_answers l remaining contents n old mid before between served (before_both old mid new second was),
          next_answers (delivered_by first c) (λ up. first.undoubted up c) l remaining contents mid new between after next (between_both old mid new first second was),
        )

  pub hears_each : {L R W : Type 0} (l : Connections L R W) (remaining : R → Option (List ℕ)) (contents : W → Option (List ℕ)) {T : Type 0} (n : ℕ) (old new : K) (before after : L) (result : Result T NetworkFault)
      → ServesAll l remaining contents (ServesRequest m) n old new before after result → HearsEach m l remaining contents n old new before after result
  hears_each l remaining contents n old new before after (Ok x) served = record {
    hears = each_hears l remaining contents n old new before after served;
    answers = λ c heard was. each_answers c heard l remaining contents n old new before after served was;
  }
  hears_each l remaining contents n old new before after (Err fault) (count, fewer, between, served, none) = record {
    hears = each_hears l remaining contents count old new before between served;
    answers = λ c heard was. (count, fewer, between, each_answers c heard l remaining contents count old new before between served was, none);
  }
