-- What requests are answered at a desk that is served, given what was delivered before them.
use Rattle.std.specs.Prelude.{◌≡◌, ◌<◌, ◌⊎◌, ◌||◌, ◌++◌, ℕ, Bool, false, List, [], ◌∷◌, length, Option, None, Result, if◌then◌else◌}
use Rattle.registry_core.specs.declared.messages.Envelope.{Envelope}
use Rattle.registry_core.specs.Settings.{Settings}
use Rattle.desk_store.specs.declared.faults.StoreFault.{StoreFault}
use Rattle.desk_store.specs.Calls.{is_disk}
use Rattle.desk_engine.specs.declared.report_faults.ReportFault.{ReportFault}
use Rattle.desk_engine.specs.declared.outcomes.Outcome.{Outcome}
use Rattle.desk_engine.specs.Deliveries.{Delivery, heard_all}
use Rattle.desk_engine.specs.Outcomes.{IsOutcome, delivery_of, doubt_of_text, outcome_fault}
use Rattle.desk_engine.specs.Reporting.{store_fault_in}
use Rattle.desk_engine.specs.Told.{told_of_text}
use Rattle.desk_http.specs.Reports.{IsAnswer, RefusesTime, Report, kind_of}
use Rattle.desk_http.specs.Requests.{Request, refused, message, report}
use Rattle.desk_http.specs.Responses.{Response, cut_body, outcome_response, report_response}

-- ---- what was delivered

-- The messages that were delivered, in this order; whether a call returned `Disk`; and the in-flight message after that.
pub record Delivered : Type 0 where
  pub deliveries : List Delivery
  pub disk : Bool
  pub doubt : Option Envelope

abbrev pub none_delivered : Delivered
none_delivered = record { deliveries = []; disk = false; doubt = None }

-- one text, with this outcome
abbrev pub one_delivered : Settings → List ℕ → Outcome → Delivered
one_delivered c text outcome = record { deliveries = delivery_of text outcome ∷ []; disk = is_disk (outcome_fault outcome); doubt = doubt_of_text c text outcome }

-- no text: the store was read, and returned this error or none
abbrev pub only_read : Option StoreFault → Delivered
only_read fault = record { deliveries = []; disk = is_disk fault; doubt = None }

-- The first, and then the others. The first disk error determines the in-flight message.
abbrev pub and_then : Delivered → Delivered → Delivered
and_then first others = record {
  deliveries = first.deliveries ++ others.deliveries;
  disk = first.disk || others.disk;
  doubt = if first.disk then first.doubt else others.doubt;
}

-- ---- what a request is answered

-- `heard` is the log before the first connection
module _ (c : Settings) (heard : List Envelope) where
  -- A body of `count` octets was delivered once, and the response has the answer of its text after what was delivered before. Or the body
  -- is cut off, and nothing was delivered.
  abbrev pub AnswersMessage : ℕ → List ℕ → Delivered → Delivered → Response → Type 0
  AnswersMessage count body old new response =
      ((length body ≡ count) × (outcome : Outcome) × IsOutcome (told_of_text c (heard_all c heard old.deliveries) body) outcome
      × (new ≡ and_then old (one_delivered c body outcome)) × (response ≡ outcome_response outcome))
      ⊎ ((length body < count) × (new ≡ old) × (response ≡ cut_body))

  -- Nothing was delivered: the response is the report of the log by then, or why there is none.
  abbrev pub AnswersReport : Report → Delivered → Delivered → Response → Type 0
  AnswersReport wanted old new response =
      (answer : Result (List ℕ) ReportFault) × IsAnswer c (heard_all c heard old.deliveries) wanted answer × RefusesTime wanted answer
      × (new ≡ and_then old (only_read (store_fault_in answer))) × (response ≡ report_response (kind_of wanted) answer)

  -- what was delivered before a request with this body and after it, and its response
  abbrev pub Answers : Delivered → Delivered → Request → List ℕ → Response → Type 0
  Answers old new (refused wanted) body response = (new ≡ old) × (response ≡ wanted)
  Answers old new (message count) body response = AnswersMessage count body old new response
  Answers old new (report wanted) body response = AnswersReport wanted old new response
