-- Responses, and their text.
use Rattle.std.specs.Prelude.{ℕ, List, [], ◌++◌, length, codes, decimal, Option, Some, None, Result, Ok, Err, unwrap_or}
use Rattle.http.specs.StatusCode.{reason_phrase}
use Rattle.registry_core.specs.declared.answers.Refusal.{Refusal}
use Rattle.registry_core.specs.declared.answers.Refusal.TheVariants.{TransactionReused}
use Rattle.desk_engine.specs.declared.report_faults.ReportFault.{ReportFault}
use Rattle.desk_engine.specs.declared.report_faults.ReportFault.TheVariants as fault
use Rattle.desk_engine.specs.declared.outcomes.Outcome.{Outcome}
use Rattle.desk_engine.specs.declared.outcomes.Outcome.TheVariants.{Answered, Refused, Unavailable}

-- a response: its status, the type of its body, the method that is allowed if another was used, and its body
pub record Response : Type 0 where
  pub status : ℕ
  pub kind : List ℕ
  pub allow : Option (List ℕ)
  pub body : List ℕ

-- ---- the text

abbrev pub allow_line : Option (List ℕ) → List ℕ
allow_line None = []
allow_line (Some method) = codes "allow: " ++ method ++ codes "\r\n"

-- the lines that every response begins with
abbrev pub start_lines : ℕ → List ℕ → ℕ → List ℕ
start_lines status kind length =
    codes "HTTP/1.1 " ++ decimal status ++ codes " " ++ unwrap_or (reason_phrase status) []
    ++ codes "\r\ncontent-type: " ++ kind ++ codes "\r\ncontent-length: " ++ decimal length ++ codes "\r\n"

-- the octets of a response: its head and its body
unfoldable pub response_text : Response → List ℕ
response_text r = start_lines r.status r.kind (length r.body) ++ allow_line r.allow ++ codes "connection: close\r\n\r\n" ++ r.body

-- ---- the responses

-- one line that names the error
abbrev pub plain : ℕ → List ℕ → Response
plain status line = record { status = status; kind = codes "text/plain"; allow = None; body = line }

abbrev pub no_head : Response
no_head = plain 400 (codes "head\n")

abbrev pub cross_origin : Response
cross_origin = plain 403 (codes "origin\n")

abbrev pub no_route : Response
no_route = plain 404 (codes "route\n")

-- what is named has one method, and this is it
abbrev pub other_method : List ℕ → Response
other_method method = record { status = 405; kind = codes "text/plain"; allow = Some method; body = codes "method\n" }

abbrev pub no_number : Response
no_number = plain 400 (codes "number\n")

abbrev pub no_length : Response
no_length = plain 411 (codes "length\n")

abbrev pub too_long : Response
too_long = plain 413 (codes "size\n")

abbrev pub cut_body : Response
cut_body = plain 400 (codes "body\n")

abbrev pub unavailable : Response
unavailable = plain 503 (codes "unavailable\n")

-- the text of an answer
abbrev pub json : ℕ → List ℕ → Response
json status text = record { status = status; kind = codes "application/json"; allow = None; body = text }

-- 409 Conflict for a used transaction number, and 400 Bad Request for any other message that isn't heard
abbrev pub status_of : Refusal → ℕ
status_of TransactionReused = 409
status_of _ = 400

-- the response to a delivery; a message that is heard has status 200, also if its answer is a refusal
abbrev pub outcome_response : Outcome → Response
outcome_response (Answered text) = json 200 text.items
outcome_response (Refused refusal text) = json (status_of refusal) text.items
outcome_response (Unavailable fault) = unavailable

-- the response for why there is no text
abbrev pub fault_response : ReportFault → Response
fault_response fault.Month = plain 400 (codes "time\n")
fault_response fault.Time = plain 400 (codes "time\n")
fault_response fault.Owner = plain 404 (codes "owner\n")
fault_response fault.Gateway = plain 404 (codes "gateway\n")
fault_response fault.Device = plain 404 (codes "device\n")
fault_response (fault.Unavailable of_store) = unavailable

-- the response to a GET of a text of this type
abbrev pub report_response : List ℕ → Result (List ℕ) ReportFault → Response
report_response kind (Ok text) = record { status = 200; kind = kind; allow = None; body = text }
report_response kind (Err fault) = fault_response fault
