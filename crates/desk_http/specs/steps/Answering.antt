-- What is written of a response, and the answer to a report as octets.
use Rattle.std.specs.Prelude.{◌≡◌, ℕ, List, Option, Result, Ok, Err}
use Rattle.std.specs.Io.KnownBytes.{Appends}
use Rattle.desk_http.specs.declared.serving.ServeEnd.{ServeEnd}
use Rattle.desk_http.specs.declared.serving.ServeEnd.TheVariants.{Done, Write}
use Rattle.desk_http.specs.Responses.{Response, response_text}
use Rattle.desk_engine.specs.declared.report_faults.ReportFault.{ReportFault}

-- This response was written to its end, or a write of it failed. Stated of some response, so that the search finds it.
abbrev pub WritesResponse : Response → Option (List ℕ) → Option (List ℕ) → ServeEnd → Type 0
WritesResponse response before after (Done status) = (written : Response) × (status ≡ written.status) × (written ≡ response) × Appends before after (response_text written)
WritesResponse response before after Write = (written : Response) × (written ≡ response)
WritesResponse response before after _ = ⊥

-- an answer of the engine, with the octets of its text
abbrev pub answer_shown : {T : Type 0} → (T → List ℕ) → Result T ReportFault → Result (List ℕ) ReportFault
answer_shown octets (Ok text) = Ok (octets text)
answer_shown octets (Err fault) = Err fault
