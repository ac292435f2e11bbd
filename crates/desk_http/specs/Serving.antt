-- How one connection is served.
use Rattle.std.specs.Prelude.{◌≡◌, ◌<◌, ◌⊎◌, ℕ, List, [], length, Option, Some, Result}
use Rattle.std.specs.Io.KnownBytes.{Appends, Consumes, IsAtEnd, Keeps}
use Rattle.registry_core.specs.declared.messages.Envelope.{Envelope}
use Rattle.registry_core.specs.Settings.{Settings}
use Rattle.desk_store.specs.declared.faults.StoreFault.TheVariants.{Size}
use Rattle.desk_store.specs.Calls.{IsOfCalls, IsRead, is_disk, is_not_a_desk}
use Rattle.desk_store.specs.Meaning.{Meaning}
use Rattle.desk_engine.specs.declared.report_faults.ReportFault.{ReportFault}
use Rattle.desk_engine.specs.declared.outcomes.Outcome.{Outcome}
use Rattle.desk_engine.specs.Deliveries.{heard_after}
use Rattle.desk_engine.specs.Hearing.{Hears}
use Rattle.desk_engine.specs.InOrder.{HasNoRoom, IsInOrder, WasInOrder}
use Rattle.desk_engine.specs.Outcomes.{IfRefused, IsOutcome, IsUnheard, delivery_of, doubt_of_text, outcome_fault}
use Rattle.desk_engine.specs.Reporting.{store_fault_in}
use Rattle.desk_engine.specs.Told.{told_of_text}
use Rattle.desk_http.specs.declared.serving.ServeEnd.{ServeEnd}
use Rattle.desk_http.specs.declared.serving.ServeEnd.TheVariants.{Done, Closed, Read, Write, Memory}
use Rattle.desk_http.specs.Reports.{IsAnswer, RefusesTime, Report, kind_of}
use Rattle.desk_http.specs.Requests.{IsReadAs, Request, refused, message, report}
use Rattle.desk_http.specs.Responses.{Response, response_text, cut_body, outcome_response, report_response}

module _ {K : Type 0} (m : Meaning K) (old new : K) where
  -- The body was delivered once, with this outcome. The outcome is the answer of the text, and the store represents the log with it.
  pub record IsDelivered (body : List ℕ) (outcome : Outcome) : Type 0 where
    pub store : Hears m old new (is_disk (outcome_fault outcome)) (is_not_a_desk (outcome_fault outcome))
        (λ c heard. heard_after c heard (delivery_of body outcome)) (λ c. doubt_of_text c body outcome)
    pub told : (c : Settings) (heard : List Envelope) → WasInOrder m c heard old new → IsOutcome (told_of_text c heard body) outcome
    pub refused : IfRefused outcome IsUnheard
    pub fault : IsOfCalls (outcome_fault outcome)
    pub size : (c : Settings) (heard : List Envelope) → WasInOrder m c heard old new → outcome_fault outcome ≡ Some Size → HasNoRoom m new heard

  -- A body of `count` octets was delivered once; or it is cut off, and the store is as before.
  abbrev pub ServesMessage : ℕ → List ℕ → Response → Type 0
  ServesMessage count body response =
      ((length body ≡ count) × (outcome : Outcome) × IsDelivered body outcome × (response ≡ outcome_response outcome))
      ⊎ ((length body < count) × (new ≡ old) × (response ≡ cut_body))

  -- A report was asked for once, with this answer. The store is only read, and represents the same log.
  pub record MakesReport (wanted : Report) (answer : Result (List ℕ) ReportFault) : Type 0 where
    pub read : IsRead m old new (store_fault_in answer)
    pub time : RefusesTime wanted answer
    pub told : (c : Settings) (heard : List Envelope) → WasInOrder m c heard old new → IsAnswer c heard wanted answer
    pub order : (c : Settings) (heard : List Envelope) → WasInOrder m c heard old new → IsInOrder m c new heard

  -- A report was asked for once, and this is the response to its answer.
  abbrev pub ServesReport : Report → Response → Type 0
  ServesReport wanted response = (answer : Result (List ℕ) ReportFault) × (response ≡ report_response (kind_of wanted) answer) × MakesReport wanted answer

  -- what was done for a request with this body, and the response
  abbrev pub ServesRequest : Request → List ℕ → Response → Type 0
  ServesRequest (refused wanted) body response = (new ≡ old) × (response ≡ wanted)
  ServesRequest (message count) body response = ServesMessage count body response
  ServesRequest (report wanted) body response = ServesReport wanted response

  -- This input was read, and this may be left of it: a request, which was served so.
  abbrev pub Serves : List ℕ → Option (List ℕ) → Response → Type 0
  Serves input rest response = (request : Request) × (body : List ℕ) × IsReadAs input rest request body × ServesRequest request body response

-- the store is as before, and nothing was written
abbrev pub IsIdle : {K : Type 0} → K → K → Option (List ℕ) → Option (List ℕ) → Type 0
IsIdle old new before after = (new ≡ old) × Keeps before after

-- What is true of one serving, by how it ended. With `Done` the response was written to its end. With `Write` the store is as with `Done`,
-- and what was written isn't known. The store was `old` and is `new`; the writer had `before` and has `after`.
abbrev pub ServingEndsBy : {K : Type 0} → K → K → (Response → Type 0) → Type 0 → Option (List ℕ) → Option (List ℕ) → ServeEnd → Type 0
ServingEndsBy old new serves closed before after (Done status) =
    (response : Response) × (status ≡ response.status) × serves response × Appends before after (response_text response)
ServingEndsBy old new serves closed before after Closed = closed × IsIdle old new before after
ServingEndsBy old new serves closed before after Read = IsIdle old new before after
ServingEndsBy old new serves closed before after Write = (response : Response) × serves response
ServingEndsBy old new serves closed before after Memory = IsIdle old new before after

-- One request was read and served so, or the reader has no octet, or the serving ended before. The store was `old` and is `new`. `reader`
-- and `rest` are the reader before and after, `writer` and `written` the writer.
abbrev pub ServesOneRequest : {K R W : Type 0} → Meaning K → (R → Option (List ℕ)) → (W → Option (List ℕ)) → K → K → R → R → W → W → ServeEnd → Type 0
ServesOneRequest m remaining contents old new reader rest writer written end = ServingEndsBy old new
    (λ response. (input : List ℕ) × Consumes (remaining reader) (remaining rest) input × Serves m old new input (remaining rest) response)
    (Consumes (remaining reader) (remaining rest) [] × IsAtEnd (remaining rest))
    (contents writer) (contents written) end
