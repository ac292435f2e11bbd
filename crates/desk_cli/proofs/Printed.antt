-- A report that a store was asked for, printed.
use Rattle.std.proofs.Common.{◌≡◌, ◌↔◌, ◌⊎◌, ℕ, List, false, Option, Some, None, Result, Ok, Err, IfOk, IfErr, OnOk, IsTrue, inl, inr, refl, ap, subst, sym}
use Rattle.std.specs.Prelude.{ℤ}
use Rattle.std.specs.Io.KnownBytes.{Keeps}
use Rattle.sqlite.specs.Held.{Held}
use Rattle.sqlite_trees.specs.declared.store.Store.{Ghosts}
use Rattle.registry_core.specs.State.{State}
use Rattle.desk_store.specs.declared.faults.StoreFault.TheVariants as store
use Rattle.desk_store.specs.Calls.{is_disk}
use Rattle.desk_engine.specs.declared.report_faults.ReportFault.{ReportFault}
use Rattle.desk_engine.specs.declared.report_faults.ReportFault.TheVariants.{Month, Time, Owner, Gateway, Device, Unavailable}
use Rattle.desk_engine.specs.Months.{IsMonth}
use Rattle.desk_engine.specs.Reporting.{IsGatewayFault, store_fault_in}
use Rattle.desk_engine.specs.Reports.{IsBandReport, is_gateway}
use Rattle.desk_engine.specs.Rooms.{IsRoomReport, time_in}
use Rattle.desk_http.specs.Reports.{IsBandAnswer, IsMonthAnswer}
use Rattle.desk_cli.proofs.Opened.{err}
use Rattle.desk_cli.specs.Faults.{fault_of_report}
use Rattle.desk_cli.specs.RefusedFiles.{RefusesFile}
use Rattle.desk_cli.specs.Printing.{IsGatewaysRoom, IsOfMonth, PrintsAnswer, PrintsBy, RefusesMonth, RefusesTime}
use Rattle.desk_cli.specs.steps.Printing.{IsPrinted, shown, unasked}
use Rattle.desk_cli.specs.declared.faults.Fault.{Fault}
use Rattle.desk_cli.specs.declared.faults.Fault.TheVariants as told

-- a text is not an error
is_no_fault : {X : Type 0} {why : ReportFault} (text : X) → Ok text ≡ Err why → ⊥
is_no_fault text is = subst IsText is tt
  where
    IsText : {X : Type 0} → Result X ReportFault → Type 0
    IsText (Ok text) = Unit {0}
    IsText (Err why) = ⊥

module _ {X : Type 0} (octets : X → List ℕ) (month : List ℕ) (IsKnown : Type 0) (IsReport : ℤ → ℤ → List ℕ → Type 0) (IsFault : ReportFault → Type 0) where
  pub of_month : (r : Result X ReportFault) → (r ≡ Err Month) ↔ ((from to : ℤ) → ¬ (IsMonth month from to))
      → OnOk r IsKnown
      → ((from to : ℤ) → IsMonth month from to → IfOk r (λ text. IsReport from to (octets text)))
      → ((from to : ℤ) → IsMonth month from to → IfErr r IsFault) → IsOfMonth month (IsMonthAnswer month IsKnown IsReport IsFault) (shown octets r)
  of_month (Ok text) refused known report fault = record {
    answer_is = record { known = known; report = report; fault = fault };
    bad_month = λ is. absurd (is_no_fault (octets text) is);
    no_month = λ none. absurd (is_no_fault text (refused.1 none));
  }
  of_month (Err why) refused known report fault = record {
    answer_is = record { known = known; report = report; fault = fault };
    bad_month = λ is. let same : why ≡ Month = cc in refused.0 (ap Err same);
    no_month = λ none. subst (λ (r : Result X ReportFault). RefusesMonth (shown octets r)) (sym (refused.1 none)) tt;
  }

module _ {X : Type 0} (octets : X → List ℕ) (s : State) where
  pub gateways_room : (gateway time : List ℕ) (r : Result X ReportFault) → (r ≡ Err Time) ↔ (time_in time ≡ None)
      → OnOk r (IsTrue (is_gateway s gateway))
      → ((at : ℕ) → time_in time ≡ Some at → IfOk r (λ text. IsRoomReport s gateway at (octets text)))
      → ((at : ℕ) → time_in time ≡ Some at → IfErr r (IsGatewayFault s gateway)) → IsGatewaysRoom s gateway time (shown octets r)
  gateways_room gateway time (Ok text) refused known report fault = record {
    answer_is = record { known = known; report = report; fault = fault };
    bad_time = λ is. absurd (is_no_fault (octets text) is);
    no_time = λ none. absurd (is_no_fault text (refused.1 none));
  }
  gateways_room gateway time (Err why) refused known report fault = record {
    answer_is = record { known = known; report = report; fault = fault };
    bad_time = λ is. let same : why ≡ Time = cc in refused.0 (ap Err same);
    no_time = λ none. subst (λ (r : Result X ReportFault). RefusesTime (shown octets r)) (sym (refused.1 none)) tt;
  }

  pub gateways_bands : (gateway : List ℕ) (r : Result X ReportFault) → OnOk r (IsTrue (is_gateway s gateway))
      → IfOk r (λ text. IsBandReport s gateway (octets text)) → IfErr r (IsGatewayFault s gateway) → IsBandAnswer s gateway (shown octets r)
  gateways_bands gateway (Ok text) known report fault = record { known = known; report = report; fault = fault }
  gateways_bands gateway (Err why) known report fault = record { known = known; report = report; fault = fault }

-- the store is unavailable, or it is unchanged
either : (X Kept : Type 0) (fault : Fault) (why : ReportFault) → (is_disk (store_fault_in {T = X} (Err why)) ≡ false → Kept) → fault ≡ fault_of_report why → (fault ≡ told.Unavailable) ⊎ Kept
either X Kept fault Month kept is = inr (kept refl)
either X Kept fault Time kept is = inr (kept refl)
either X Kept fault Owner kept is = inr (kept refl)
either X Kept fault Gateway kept is = inr (kept refl)
either X Kept fault Device kept is = inr (kept refl)
either X Kept fault (Unavailable store.Memory) kept is = inl is
either X Kept fault (Unavailable store.Disk) kept is = inl is
either X Kept fault (Unavailable store.Size) kept is = inl is
either X Kept fault (Unavailable store.NotADesk) kept is = inr (kept refl)
either X Kept fault (Unavailable store.SchemaVersion) kept is = inr (kept refl)
either X Kept fault (Unavailable store.Exists) kept is = inr (kept refl)

module _ (Kept Left : Type 0) (before after : Option (List ℕ)) (IsAnswer : Result (List ℕ) ReportFault → Type 0) {T : Type 0} where
  -- it is printed, or the reason why not is returned
  pub prints : {X : Type 0} (octets : X → List ℕ) (report : Result X ReportFault) (r : Result T Fault) → IsAnswer (shown octets report)
      → (is_disk (store_fault_in report) ≡ false → Kept) → Left → IsPrinted octets report before after r → PrintsBy Kept Left before after IsAnswer r
  prints octets (Ok text) (Ok x) is kept left printed = record { answer = Ok (octets text); answer_is = is; prints = (printed, kept refl) }
  prints octets (Ok text) (Err fault) is kept left printed = record { answer = Ok (octets text); answer_is = is; prints = (printed, kept refl) }
  prints octets (Err why) (Ok x) is kept left printed = absurd printed
  prints {X = X} octets (Err why) (Err fault) is kept left printed = record { answer = Err why; answer_is = is; prints = (printed.0, printed.1, either X Kept fault why kept printed.0, left) }

-- a statement about a store is true of the file that it is in
module _ {Kept Stands Left Stays : Type 0} (kept : Kept → Stands) (left : Left → Stays) (before after : Option (List ℕ)) (IsAnswer : Result (List ℕ) ReportFault → Type 0) {T : Type 0} where
  prints_so : (answer : Result (List ℕ) ReportFault) (r : Result T Fault) → PrintsAnswer Kept Left before after answer r → PrintsAnswer Stands Stays before after answer r
  prints_so (Ok text) (Ok x) by = (by.0, kept by.1)
  prints_so (Ok text) (Err fault) by = (by.0, kept by.1)
  prints_so (Err why) (Ok x) by = absurd by
  prints_so (Err why) (Err fault) by = (by.0, by.1, elim by.2 [ inl is ↦ inl is | inr stands ↦ inr (kept stands) ], left by.3)

  pub printed_by : (r : Result T Fault) → PrintsBy Kept Left before after IsAnswer r → PrintsBy Stands Stays before after IsAnswer r
  printed_by r by = record { answer = by.answer; answer_is = by.answer_is; prints = prints_so by.answer r by.prints }

-- a file that is refused, where more is known of the streams
pub refused_so : {S T : Type 0} (g : Ghosts S) (conn back : Held S) {More Untouched : Type 0} → (More → Untouched) → (r : Result T Fault)
    → RefusesFile g conn back More r → RefusesFile g conn back Untouched r
refused_so g conn back so (Ok x) by = absurd by
refused_so g conn back so (Err fault) by = (by.0, so by.1)

-- where the desk couldn't be opened, nothing is printed
pub prints_unopened : (Kept Left : Type 0) (before : Option (List ℕ)) (IsAnswer : Result (List ℕ) ReportFault → Type 0) {T : Type 0} (fault : Fault)
    → fault ≡ told.Unavailable → Left → Keeps before before → IsAnswer unasked → PrintsBy Kept Left before before IsAnswer (err {T = T} fault)
prints_unopened Kept Left before IsAnswer fault is left kept answer = record { answer = unasked; answer_is = answer; prints = (is, kept, inl is, left) }
