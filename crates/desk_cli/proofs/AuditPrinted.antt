-- What an audit has printed, by what it has found.
use Rattle.std.proofs.Common.{◌≡◌, ℕ, List, Option, Some, None, Result, Ok, Err, IfOk, IfErr, OnOk, OnErr, inl, inr, refl, sym, subst, ap, ◌∙◌}
use Rattle.std.specs.Prelude.{IfSome, ◌≢◌, ◌⊎◌}
use Rattle.std.specs.Io.KnownBytes.{Keeps}
use Rattle.sqlite.specs.Held.{Held, state}
use Rattle.sqlite.specs.State.{HasCleanDisk}
use Rattle.sqlite_trees.specs.declared.store.Store.{Ghosts}
use Rattle.registry_core.specs.declared.messages.Envelope.{Envelope}
use Rattle.registry_core.specs.Settings.{Settings}
use Rattle.desk_tables.specs.Adopting.{IsGivenBack}
use Rattle.desk_cli.specs.Audit.{IsFinding}
use Rattle.desk_cli.specs.RefusedFiles.{IsNotADesk, IsRefused, RefusesFile}
use Rattle.desk_cli.specs.OnTables.{KeepsHeard}
use Rattle.desk_cli.specs.commands.Auditing.{AuditsBy, IsAuditFault, IsPassed}
use Rattle.desk_cli.specs.declared.audit.Finding.{Finding}
use Rattle.desk_cli.specs.declared.audit.Finding.TheVariants.{InOrder, Differs}
use Rattle.desk_cli.specs.declared.faults.Fault.{Fault}
use Rattle.desk_cli.specs.declared.faults.Fault.TheVariants.{NotADesk, Schema, Unavailable, File}
use Rattle.desk_cli.specs.steps.Auditing.{PrintsFinding, finding_of, store_of}
use Rattle.desk_cli.proofs.Audited.{if_some}

-- what was found is no error
is_no_error : {finding : Finding} {why : Fault} → Ok finding ≡ Err why → ⊥
is_no_error is = subst IsFound is tt
  where
    IsFound : Result Finding Fault → Type 0
    IsFound (Ok finding) = Unit {0}
    IsFound (Err why) = ⊥

-- a file that is refused is not a desk, or memory or the disk failed
refused_by : {S : Type 0} (g : Ghosts S) (conn back : Held S) (why : Fault) → IsRefused g conn back why → IsAuditFault why
refused_by g conn back why refused = elim refused.told [
  | inl is ↦ subst IsAuditFault (sym is) tt
  | inr other ↦ elim other [ inl is ↦ subst IsAuditFault (sym is) tt | inr is ↦ subst IsAuditFault (sym is) tt ]
]

module _ {T : Type 0} (before after : Option (List ℕ)) where
  quiet_by : (found : Result Finding Fault) (r : Result T Fault) → PrintsFinding found before after r → OnErr r ((r ≡ Err File) ⊎ Keeps before after)
  quiet_by (Ok (InOrder count)) (Ok x) printed = tt
  quiet_by (Ok (InOrder count)) (Err fault) printed = elim printed [ inl is ↦ inl (ap Err is) | inr kept ↦ inr kept.1 ]
  quiet_by (Ok (Differs place)) (Ok x) printed = absurd printed
  quiet_by (Ok (Differs place)) (Err fault) printed = inr printed.1
  quiet_by (Err why) (Ok x) printed = absurd printed
  quiet_by (Err why) (Err fault) printed = inr printed.1

  gone_by : (found : Result Finding Fault) (r : Result T Fault) → PrintsFinding found before after r → found ≡ Err Unavailable → r ≡ Err Unavailable
  gone_by (Ok finding) r printed is = absurd (is_no_error is)
  gone_by (Err why) (Ok x) printed is = absurd printed
  gone_by (Err why) (Err fault) printed is = let same : why ≡ Unavailable = cc in ap Err (printed.0 ∙ same)

  module _ {S : Type 0} (g : Ghosts S) (conn back : Held S) (Sure : Type 0) where
    passed_by : (found : Result Finding Fault) (r : Result T Fault) → PrintsFinding found before after r
        → (HasCleanDisk (state g back) → Sure → IfOk found (IsFinding g back)) → OnOk r (IsPassed g conn (Some back) before after Sure)
    passed_by (Ok (InOrder count)) (Ok x) printed passes = record { back = back; is_back = refl; count = count; printed = printed; passes = passes }
    passed_by (Ok (InOrder count)) (Err fault) printed passes = tt
    passed_by (Ok (Differs place)) (Ok x) printed passes = absurd printed
    passed_by (Ok (Differs place)) (Err fault) printed passes = tt
    passed_by (Err why) (Ok x) printed passes = absurd printed
    passed_by (Err why) (Err fault) printed passes = tt

    told_by : (found : Result Finding Fault) (r : Result T Fault) → PrintsFinding found before after r → IfErr found (IsRefused g conn back) → IfErr r IsAuditFault
    told_by (Ok (InOrder count)) (Ok x) printed refused = tt
    told_by (Ok (InOrder count)) (Err fault) printed refused =
        elim printed [ inl is ↦ subst IsAuditFault (sym is) tt | inr kept ↦ subst IsAuditFault (sym kept.0) tt ]
    told_by (Ok (Differs place)) (Ok x) printed refused = absurd printed
    told_by (Ok (Differs place)) (Err fault) printed refused = subst IsAuditFault (sym printed.0) tt
    told_by (Err why) (Ok x) printed refused = absurd printed
    told_by (Err why) (Err fault) printed refused = subst IsAuditFault (sym printed.0) (refused_by g conn back why refused)

    of_desk_by : (found : Result Finding Fault) (r : Result T Fault) → PrintsFinding found before after r → IfErr found (λ fault. fault ≡ Unavailable)
        → IfErr r (λ fault. (fault ≢ NotADesk) × (fault ≢ Schema))
    of_desk_by (Ok (InOrder count)) (Ok x) printed unavailable = tt
    of_desk_by (Ok (InOrder count)) (Err fault) printed unavailable =
        elim printed [ inl is ↦ (λ e. cc, λ e. cc) | inr kept ↦ let is = kept.0 in (λ e. cc, λ e. cc) ]
    of_desk_by (Ok (Differs place)) (Ok x) printed unavailable = absurd printed
    of_desk_by (Ok (Differs place)) (Err fault) printed unavailable = let is = printed.0 in (λ e. cc, λ e. cc)
    of_desk_by (Err why) (Ok x) printed unavailable = absurd printed
    of_desk_by (Err why) (Err fault) printed unavailable = let is = printed.0 in (λ e. cc, λ e. cc)

    not_a_desk_by : (found : Result Finding Fault) (r : Result T Fault) → PrintsFinding found before after r → IfErr found (IsRefused g conn back)
        → IfOk found (λ finding. ¬ IsNotADesk g conn) → IsNotADesk g conn → RefusesFile g conn back (Keeps before after) r
    not_a_desk_by (Ok finding) r printed refused never none = absurd (never none)
    not_a_desk_by (Err why) (Ok x) printed refused never none = absurd printed
    not_a_desk_by (Err why) (Err fault) printed refused never none = (subst (IsRefused g conn back) (sym printed.0) refused, printed.1)

  module _ {S : Type 0} (g : Ghosts S) (conn : Held S) (Sure : Type 0) where
    -- what was found is printed, or why not
    pub audits_by : (given_back : Option (Held S)) (found : Result Finding Fault) (r : Result T Fault) → PrintsFinding found before after r
        → IfSome given_back (λ back. HasCleanDisk (state g back) → Sure → IfOk found (IsFinding g back))
        → IfSome given_back (λ back. HasCleanDisk (state g back) → IfErr found (IsRefused g conn back))
        → IfSome given_back (λ back. HasCleanDisk (state g back) → IfOk found (λ finding. ¬ IsNotADesk g conn))
        → IfSome given_back (λ back. HasCleanDisk (state g back) → (c : Settings) (heard : List Envelope)
        → KeepsHeard g conn c heard → IfErr found (λ fault. fault ≡ Unavailable))
        → IfSome given_back (λ back. IsGivenBack (state g conn) (state g back) (λ trees. ⊥))
        → (given_back ≡ None → found ≡ Err Unavailable) → AuditsBy g conn given_back before after Sure r
    audits_by (Some back) found r printed passes refused never unavailable kept gone = record {
      passed = passed_by g conn back Sure found r printed passes;
      quiet = quiet_by found r printed;
      told = λ clean. told_by g conn back Sure found r printed (refused clean);
      desk = λ clean c heard keeps. of_desk_by g conn back Sure found r printed (unavailable clean c heard keeps);
      not_a_desk = λ clean none. not_a_desk_by g conn back Sure found r printed (refused clean) (never clean) none;
      kept = kept;
      gone = λ is. gone_by found r printed (gone is);
    }
    audits_by None found r printed passes refused never unavailable kept gone = record {
      passed = none_passed found r printed (gone refl);
      quiet = quiet_by found r printed;
      told = tt;
      desk = tt;
      not_a_desk = tt;
      kept = tt;
      gone = λ is. gone_by found r printed (gone is);
    }
      where
        none_passed : (found : Result Finding Fault) (r : Result T Fault) → PrintsFinding found before after r → found ≡ Err Unavailable → OnOk r (IsPassed g conn None before after Sure)
        none_passed (Ok finding) r printed is = absurd (is_no_error is)
        none_passed (Err why) (Ok x) printed is = absurd printed
        none_passed (Err why) (Err fault) printed is = tt

-- ---- with a scratch database

module _ {S : Type 0} (g : Ghosts S) (given_back : Option (Held S)) where
  -- what rests on nothing
  pub on_nothing : (found : Result Finding Fault) → IfSome given_back (λ back. HasCleanDisk (state g back) → IfOk found (IsFinding g back))
      → IfSome given_back (λ back. HasCleanDisk (state g back) → Unit {0} → IfOk found (IsFinding g back))
  on_nothing found passes = if_some given_back (λ back all clean sure. all clean) passes

module _ {S R : Type 0} (before after : Option (List ℕ)) (g : Ghosts S) (conn : Held S) (IsSure : R → Type 0) (given_back : Option (Held S)) where
  finding_passes : (ended : Result (Finding × R) Fault) → IfSome given_back (λ back. HasCleanDisk (state g back) → IfOk ended (λ f. IsSure f.1 → IsFinding g back f.0))
      → IfSome given_back (λ back. HasCleanDisk (state g back) → IfSome (store_of ended) IsSure → IfOk (finding_of ended) (IsFinding g back))
  finding_passes (Ok both) passes = if_some given_back (λ back all clean sure. all clean sure) passes
  finding_passes (Err why) passes = if_some given_back (λ back all clean sure. tt) passes

  finding_refused : (P : Held S → Fault → Type 0) (ended : Result (Finding × R) Fault) → IfSome given_back (λ back. HasCleanDisk (state g back) → IfErr ended (P back))
      → IfSome given_back (λ back. HasCleanDisk (state g back) → IfErr (finding_of ended) (P back))
  finding_refused P (Ok both) refused = if_some given_back (λ back all clean. tt) refused
  finding_refused P (Err why) refused = refused

  finding_never : (P : Type 0) (ended : Result (Finding × R) Fault) → IfSome given_back (λ back. HasCleanDisk (state g back) → IfOk ended (λ _. P))
      → IfSome given_back (λ back. HasCleanDisk (state g back) → IfOk (finding_of ended) (λ _. P))
  finding_never P (Ok both) never = never
  finding_never P (Err why) never = if_some given_back (λ back all clean. tt) never

  finding_of_desk : (P : Fault → Type 0) (ended : Result (Finding × R) Fault)
      → IfSome given_back (λ back. HasCleanDisk (state g back) → (c : Settings) (heard : List Envelope) → KeepsHeard g conn c heard → IfErr ended P)
      → IfSome given_back (λ back. HasCleanDisk (state g back) → (c : Settings) (heard : List Envelope) → KeepsHeard g conn c heard → IfErr (finding_of ended) P)
  finding_of_desk P (Ok both) all = if_some given_back (λ back all clean c heard keeps. tt) all
  finding_of_desk P (Err why) all = all

  finding_gone : (ended : Result (Finding × R) Fault) → ended ≡ Err Unavailable → finding_of ended ≡ Err Unavailable
  finding_gone ended is = ap finding_of is

  -- what an audit with a scratch database has found is printed, or why not
  pub audits_beside_by : {T : Type 0} (ended : Result (Finding × R) Fault) (found : Result Finding Fault) (store : Option R) (r : Result T Fault) → found ≡ finding_of ended → store ≡ store_of ended
      → PrintsFinding found before after r
      → IfSome given_back (λ back. HasCleanDisk (state g back) → IfOk ended (λ f. IsSure f.1 → IsFinding g back f.0))
      → IfSome given_back (λ back. HasCleanDisk (state g back) → IfErr ended (IsRefused g conn back))
      → IfSome given_back (λ back. HasCleanDisk (state g back) → IfOk ended (λ _. ¬ IsNotADesk g conn))
      → IfSome given_back (λ back. HasCleanDisk (state g back) → (c : Settings) (heard : List Envelope) → KeepsHeard g conn c heard → IfErr ended (λ fault. fault ≡ Unavailable))
      → IfSome given_back (λ back. IsGivenBack (state g conn) (state g back) (λ trees. ⊥))
      → (given_back ≡ None → ended ≡ Err Unavailable) → AuditsBy g conn given_back before after (IfSome store IsSure) r
  audits_beside_by ended found store r found_is store_is printed passes refused never unavailable kept gone =
      subst (λ s. AuditsBy g conn given_back before after (IfSome s IsSure) r) (sym store_is)
      (audits_by before after g conn (IfSome (store_of ended) IsSure) given_back (finding_of ended) r (subst (λ f. PrintsFinding f before after r) found_is printed)
      (finding_passes ended passes) (finding_refused (IsRefused g conn) ended refused) (finding_never (¬ IsNotADesk g conn) ended never)
      (finding_of_desk (λ fault. fault ≡ Unavailable) ended unavailable) kept (λ is. finding_gone ended (gone is)))
