-- What a query shows after calls that changed nothing, and how it fails, is what it would have been before them.
use Rattle.std.proofs.Common.{◌≡◌, ◌≤◌, inl, inr, ℕ, List, Ok, true≢false, sym, subst, ◌∙◌, arith, None}
use Rattle.sqlite_value.specs.Order.{Row}
use Rattle.sqlite_trees.specs.declared.error.StoreError.{StoreError}
use Rattle.sqlite_trees.specs.declared.error.StoreError.TheVariants.{OutOfMemory, Io, Corrupt, Full, Broken, Unstorable}
use Rattle.sqlite_resolve.specs.declared.compiled.Compiled.{Compiled}
use Rattle.sqlite.specs.declared.error.Error.{Error}
use Rattle.sqlite.specs.Clock.{timed}
use Rattle.sqlite.specs.Effect.{Database, RefusesToRead}
use Rattle.sqlite.specs.Listing.{understood, reads_listing, IsSourceOf}
use Rattle.sqlite.specs.State.{State, FailsToQuery, FailsToShow, HasCause, IsNotRun, IsNoStatement, IsStatement, IsUnchanged, Shown, ShowsRows}
use Rattle.sqlite.proofs.Callers.{IsPlain, unchanged_then}
use Rattle.desk_rows.specs.CallLaws.{back_then}

module _ (sql : List ℕ) (params : Row) (old mid new : State) (plain : IsPlain (understood old.now.schema sql)) (same : IsUnchanged old mid) where
  abbrev statement : (c : Compiled) → IsStatement mid sql params c → IsStatement old sql params c
  statement c it = record {
    is = subst (λ (d : Database). understood d.schema sql ≡ Ok c) same.0.now_is it.is;
    whole = it.whole;
    given = it.given;
    now = it.now;
  }

  pub shown_later : (rows : List Row) → Shown sql params mid new rows → Shown sql params old new rows
  unfolding Shown
  shown_later rows h =
      let first = statement h.0 h.1 in
      let none : h.0.returning ≡ None = (subst IsPlain first.is plain).0 in
      let full = timed params h.0.formats h.1.now in
      let it = subst (ShowsRows mid new sql h.0 full rows) none h.2 in (
        h.0,
        first,
        subst (ShowsRows old new sql h.0 full rows) (sym none)
            (it.0, subst (λ (d : Database). IsSourceOf (reads_listing d.schema sql) d it.0) same.0.now_is it.1, it.2, unchanged_then old mid new same it.3),
      )

  caused : (cause : StoreError) → old.faults ≤ mid.faults → HasCause mid new ⊥ cause → HasCause old new ⊥ cause
  caused OutOfMemory up h = h
  caused Io up h = omega (arith, up, h)
  caused Corrupt up h = omega (arith, up, h)
  caused Full up h = omega (arith, up, h)
  caused Broken up h = absurd (true≢false (sym same.0.is_open ∙ h))
  caused Unstorable up h = h

  pub fails_later : old.faults ≤ mid.faults → mid.step_limit ≡ old.step_limit → (e : Error) → FailsToQuery sql params mid new e
      → FailsToQuery sql params old new e
  unfolding FailsToQuery IsNotRun
  fails_later up limit e (inl (inl h)) = inl (inl (
    subst (λ (d : Database). IsNoStatement (record mid { now = d }) sql params e) same.0.now_is h.0,
    unchanged_then old mid new same h.1,
  ))
  fails_later up limit e (inl (inr h)) = inl (inr (h.0, h.1, caused h.0 up h.2, back_then old mid new same h.3, h.4))
  fails_later up limit e (inr h) =
      let first = statement h.0 h.1 in
      let none : h.0.returning ≡ None = (subst IsPlain first.is plain).0 in
      let full = timed params h.0.formats h.1.now in
      let it = subst (FailsToShow mid new sql h.0 full e) none h.2 in
      inr (
        h.0,
        first,
        subst (FailsToShow old new sql h.0 full e) (sym none) (
          it.0,
          subst (λ (d : Database). IsSourceOf (reads_listing d.schema sql) d it.0) same.0.now_is it.1,
          subst (λ most. RefusesToRead most h.0.command it.0 full e) limit it.2,
          unchanged_then old mid new same it.3,
        ),
      )
