-- How a report is answered, from the engine's contract, and what is written of the answer.
use Rattle.std.proofs.Common.{◌≡◌, ◌↔◌, ℕ, List, Option, None, Result, Ok, Err, IfOk, IfErr, OnOk, IsTrue, refl, ap, sym}
use Rattle.std.specs.Prelude.{ℤ}
use Rattle.std.specs.Global.{Vec}
use Rattle.registry_core.specs.Heard.{state_of}
use Rattle.registry_core.specs.State.{State}
use Rattle.desk_store.specs.Calls.{IsRead}
use Rattle.desk_store.specs.Meaning.{Meaning}
use Rattle.desk_engine.specs.declared.report_faults.ReportFault.{ReportFault}
use Rattle.desk_engine.specs.declared.report_faults.ReportFault.TheVariants.{Month, Time, Owner, Gateway, Device, Unavailable}
use Rattle.desk_engine.specs.InOrder.{ForLog, kept_after}
use Rattle.desk_engine.specs.Listing.{IsDeviceFault, is_device}
use Rattle.desk_engine.specs.MonthReports.{IsDownlinkReport, IsReceptionReportOf}
use Rattle.desk_engine.specs.Months.{ForMonth, IsMonth}
use Rattle.desk_engine.specs.Reporting.{ForFacts, IfDownlinks, IfNoDownlinks, IfNoOwnerReport, IfNoReceptions, IfNoRoomReport, IfOwnerReport, IfReceptions, IfRoomReport, IsGatewayFault, IsOwnerFault, OnlyIfDevice, OnlyIfGateway, OnlyIfOwner, store_fault_in}
use Rattle.desk_engine.specs.Reports.{IsOwnerReport, is_gateway, is_owner}
use Rattle.desk_engine.specs.Rooms.{time_in}
use Rattle.desk_http.specs.declared.reports.Wanted.{Wanted}
use Rattle.desk_http.specs.declared.reports.Wanted.TheVariants.{OwnerReport, Room, Receptions, Downlinks}
use Rattle.desk_http.specs.declared.serving.ServeEnd.{ServeEnd}
use Rattle.desk_http.specs.Reports.{IsAnswer, IsMonthAnswer, RefusesTime, Report, downlink_report, kind_of, owner_report, reception_report, room_report}
use Rattle.desk_http.specs.Responses.{report_response}
use Rattle.desk_http.specs.Serving.{MakesReport, ServesReport, ServingEndsBy}
use Rattle.desk_http.specs.steps.Answering.{WritesResponse, answer_shown}
use Rattle.desk_http.specs.steps.Reports.{report_of}
use Rattle.desk_http.specs.steps.Targets.{after_slash, before_slash}
use Rattle.desk_http.proofs.Ended.{ends-written}

-- an answer with the octets of its text
abbrev shown : Result (Vec ℕ) ReportFault → Result (List ℕ) ReportFault
shown r = answer_shown (λ text. text.items) r

same_fault : (r : Result (Vec ℕ) ReportFault) → store_fault_in (shown r) ≡ store_fault_in r
same_fault (Ok text) = refl
same_fault (Err Month) = refl
same_fault (Err Time) = refl
same_fault (Err Owner) = refl
same_fault (Err Gateway) = refl
same_fault (Err Device) = refl
same_fault (Err (Unavailable fault)) = refl

same_why : (why : ReportFault) (r : Result (Vec ℕ) ReportFault) (P : Type 0) → (r ≡ Err why) ↔ P → (shown r ≡ Err why) ↔ P
same_why why (Ok text) P h = (λ e. cc, λ p. let e = h.1 p in cc)
same_why why (Err fault) P h = (λ e. let same : fault ≡ why = cc in h.0 (ap Err same), λ p. let e = h.1 p in let same : fault ≡ why = cc in ap Err same)

known_shown : (r : Result (Vec ℕ) ReportFault) (P : Type 0) → OnOk r P → OnOk (shown r) P
known_shown (Ok text) P h = h
known_shown (Err why) P h = h

text_shown : (r : Result (Vec ℕ) ReportFault) (P : List ℕ → Type 0) → IfOk r (λ text. P text.items) → IfOk (shown r) P
text_shown (Ok text) P h = h
text_shown (Err why) P h = h

fault_shown : (r : Result (Vec ℕ) ReportFault) (P : ReportFault → Type 0) → IfErr r P → IfErr (shown r) P
fault_shown (Ok text) P h = h
fault_shown (Err why) P h = h

module _ {K : Type 0} (m : Meaning K) (old new : K) where
  -- a report whose answer was written, or a write of it failed
  pub report_written : (wanted : Report) (answer : Result (List ℕ) ReportFault) (kind : List ℕ) (before after : Option (List ℕ)) (end : ServeEnd)
      → MakesReport m old new wanted answer → kind ≡ kind_of wanted → WritesResponse (report_response kind answer) before after end
      → ServingEndsBy old new (ServesReport m old new wanted) ⊥ before after end
  report_written wanted answer kind before after end answered is written =
      ends-written old new _ _ _ before after end (answer, ap (λ k. report_response k answer) is, answered) written

  -- what is so of the facts is so of the state after the log
  after_log : (P : State → Type 0) → ForFacts m old new P → ForLog m old new (λ c heard. P (state_of c heard))
  unfolding kept_after
  after_log P so c heard was = so (kept_after c heard) was.sound was.order.kept

  module _ (r : Result (Vec ℕ) ReportFault) (read : IsRead m old new (store_fault_in r)) where
    answered : (wanted : Report) → RefusesTime wanted (shown r) → ForLog m old new (λ c heard. IsAnswer c heard wanted (shown r)) → MakesReport m old new wanted (shown r)
    answered wanted time told = record {
      read = rw (same_fault r) read;
      time = time;
      told = told;
      order = λ c heard was. record { list = was.order.list; kept = read.held (kept_after c heard) was.sound was.order.kept };
    }

    month_answer : (month : List ℕ) (IsKnown : State → Type 0) (IsReport : State → ℤ → ℤ → List ℕ → Type 0) (IsFault : State → ReportFault → Type 0)
        → ForFacts m old new (λ s. OnOk r (IsKnown s)) → ForFacts m old new (λ s. ForMonth month (λ from to. IfOk r (λ text. IsReport s from to text.items)))
        → ForFacts m old new (λ s. ForMonth month (λ from to. IfErr r (IsFault s)))
        → ForLog m old new (λ c heard. let s = state_of c heard in IsMonthAnswer month (IsKnown s) (IsReport s) (IsFault s) (shown r))
    month_answer month IsKnown IsReport IsFault known report fault c heard was = record {
      known = known_shown r _ (after_log _ known c heard was);
      report = λ from to is. text_shown r _ (after_log _ report c heard was from to is);
      fault = λ from to is. fault_shown r _ (after_log _ fault c heard was from to is);
    }

    module _ (names first second : List ℕ) (before : first ≡ before_slash names) (after : second ≡ after_slash names) (wanted : Wanted) where
      pub owner_answered : wanted ≡ OwnerReport → (r ≡ Err Month) ↔ ((from to : ℤ) → ¬ (IsMonth second from to)) → ForFacts m old new (OnlyIfOwner first r)
          → ForFacts m old new (IfOwnerReport first second r) → ForFacts m old new (IfNoOwnerReport first second r) → MakesReport m old new (report_of names wanted) (shown r)
      owner_answered is time known report fault = rw (is, sym before, sym after) (answered (owner_report first second) (same_why Month r _ time)
          (month_answer second (λ s. IsTrue (is_owner s first)) (λ s. IsOwnerReport s first) (λ s. IsOwnerFault s first) known report fault))

      pub receptions_answered : wanted ≡ Receptions → (r ≡ Err Month) ↔ ((from to : ℤ) → ¬ (IsMonth second from to)) → ForFacts m old new (OnlyIfDevice first r)
          → ForFacts m old new (IfReceptions first second r) → ForFacts m old new (IfNoReceptions first second r) → MakesReport m old new (report_of names wanted) (shown r)
      receptions_answered is time known report fault = rw (is, sym before, sym after) (answered (reception_report first second) (same_why Month r _ time)
          (month_answer second (λ s. IsTrue (is_device s first)) (λ s. IsReceptionReportOf s first) (λ s. IsDeviceFault s first) known report fault))

      pub downlinks_answered : wanted ≡ Downlinks → (r ≡ Err Month) ↔ ((from to : ℤ) → ¬ (IsMonth second from to)) → ForFacts m old new (OnlyIfGateway first r)
          → ForFacts m old new (IfDownlinks first second r) → ForFacts m old new (IfNoDownlinks first second r) → MakesReport m old new (report_of names wanted) (shown r)
      downlinks_answered is time known report fault = rw (is, sym before, sym after) (answered (downlink_report first second) (same_why Month r _ time)
          (month_answer second (λ s. IsTrue (is_gateway s first)) (λ s. IsDownlinkReport s first) (λ s. IsGatewayFault s first) known report fault))

      pub room_answered : wanted ≡ Room → (r ≡ Err Time) ↔ (time_in second ≡ None) → ForFacts m old new (OnlyIfGateway first r)
          → IfRoomReport m old new first second r → ForFacts m old new (IfNoRoomReport first second r) → MakesReport m old new (report_of names wanted) (shown r)
      room_answered is refused known report fault = rw (is, sym before, sym after) (answered (room_report first second) (same_why Time r _ refused) (λ c heard was. record {
        known = known_shown r _ (after_log _ known c heard was);
        report = λ at t. text_shown r _ (report c heard at was t);
        fault = λ at t. fault_shown r _ (after_log _ fault c heard was at t);
      }))
