-- Reading a query's rows one after another.
use Rattle.std.proofs.Common.{◌≡◌, inl, inr, ℕ, List, [], ◌∷◌, ◌++◌, Vec, Some, None, Ok, Err, Result, false, refl, sym, subst, arith}
use Rattle.std.specs.declared.alloc.Global.{Global}
use Rattle.sqlite_value.specs.Order.{Row}
use Rattle.sqlite_trees.specs.declared.store.Store.{Ghosts}
use Rattle.sqlite.specs.declared.error.Error.{Error}
use Rattle.sqlite.specs.Given.{Advances, FailsToAdvance, HasBegun}
use Rattle.sqlite.specs.Held.{Held, state}
use Rattle.sqlite.specs.State.{Begins, HasCleanDisk, IsUnchanged, Survives, CommitsShowing}
use Rattle.sqlite.proofs.Callers.{begun_plain, given_begin, unchanged_then}
use Rattle.sqlite.proofs.StateLemmas.{survives_then}
use Rattle.desk_rows.specs.Faults.{row_fault, IsEven}
use Rattle.desk_rows.specs.steps.Errors.{Decodes}
use Rattle.desk_rows.specs.steps.Queries.{AreRead, EndsIn, FindsAll, IsGiving}
use Rattle.desk_rows.specs.declared.faults.RowFault.{RowFault}
use Rattle.desk_rows.specs.declared.faults.RowFault.TheVariants.{Memory}
use Rattle.desk_rows.proofs.LaterLemmas.{fails_later, shown_later}

read_then : {T Seen : Type 0} (seen : T → Seen) (shows : Seen → Row) (InRange : Seen → Type 0) (rows : List Row) (xs : List T) (row : Row) (x : T)
    → AreRead seen shows InRange rows xs → Decodes seen shows InRange row (Ok x) → AreRead seen shows InRange (rows ++ row ∷ []) (xs ++ x ∷ [])
read_then seen shows InRange [] [] row x before now = (now, tt)
read_then seen shows InRange (r ∷ rows) (y ∷ ys) row x before now = (before.0, read_then seen shows InRange rows ys row x before.1 now)
read_then seen shows InRange [] (y ∷ ys) row x before now = absurd before
read_then seen shows InRange (r ∷ rows) [] row x before now = absurd before

module _ {S : Type 0} (g : Ghosts S) (sql : List ℕ) (params : Row) (first : Held S) where
  -- it goes on from one row to the next, or fails
  survives_on : (mid new : Held S) → Survives (state g first) (state g mid) (CommitsShowing sql params (state g first)) → Survives (state g mid) (state g new)
      (λ _. ⊥)
      → Survives (state g first) (state g new) (CommitsShowing sql params (state g first))
  survives_on mid new one two = survives_then (state g first) (state g mid) (state g new) _ _ _ (λ _ db may. may) (λ _ db none. absurd none) one two

  pub begins : (now : Held S) {Given : List Row → Type 0} → Given [] → (first.in_transaction ≡ false → now.in_transaction ≡ false)
      → Survives (state g first) (state g now) (CommitsShowing sql params (state g first)) → (HasCleanDisk (state g now) → HasBegun g sql params first now)
      → IsGiving g sql params first now Given
  begins now nothing mode survives begun = record {
    mode = mode;
    survives = survives;
    gives = λ plain clean. let it = begun_plain g sql params first now plain (begun clean) in (it.1, ([], it.0, nothing));
  }

  module _ {T Seen : Type 0} (seen : T → Seen) (shows : Seen → Row) (InRange : Seen → Type 0) where
    abbrev Ends : Held S → Result (Vec T Global) RowFault → Type 0
    Ends new result = FindsAll sql params (state g first) (state g new) seen shows InRange result

    module _ (mid new : Held S) (items : List T) (at : IsGiving g sql params first mid (λ given. AreRead seen shows InRange given items))
        (mode : mid.in_transaction ≡ false → new.in_transaction ≡ false) (survives : Survives (state g mid) (state g new) (λ _. ⊥)) where
      early : HasCleanDisk (state g new) → HasCleanDisk (state g mid)
      early clean = omega (arith, survives.clean, clean)

      -- the next row
      pub moves : (row : Row) → (HasCleanDisk (state g new) → Advances g mid new (Some row))
          → (HasCleanDisk (state g new) → IsUnchanged (state g mid) (state g new))
          → IsGiving g sql params first new (EndsIn (λ given. AreRead seen shows InRange given items) row)
      moves row next same = record {
        mode = λ idle. mode (at.mode idle);
        survives = survives_on mid new at.survives survives;
        gives = λ plain clean.
            let was = at.gives plain (early clean) in
            (unchanged_then _ _ _ was.0 (same clean), (was.1.0 ++ row ∷ [], next clean sql params was.1.0 was.1.1, (was.1.0, refl, was.1.2)));
      }

      -- no row more
      pub ends : (all : Vec T Global) → all.items ≡ items → (HasCleanDisk (state g new) → Advances g mid new None) → Ends new (Ok all)
      ends all is next = record {
        mode = λ idle. mode (at.mode idle);
        survives = survives_on mid new at.survives survives;
        ends = λ plain clean.
            let was = at.gives plain (early clean) in (
              was.1.0,
              shown_later sql params (state g first) (state g mid) (state g new) plain was.0 was.1.0 (next clean sql params was.1.0 was.1.1),
              subst (AreRead seen shows InRange was.1.0) (sym is) was.1.2,
            );
      }

      pub fails : (e : Error) (fault : RowFault) → fault ≡ row_fault e → (HasCleanDisk (state g new) → FailsToAdvance g mid new e) → Ends new (Err fault)
      fails e fault is next = record {
        mode = λ idle. mode (at.mode idle);
        survives = survives_on mid new at.survives survives;
        ends = λ plain clean.
            let was = at.gives plain (early clean) in
            inl (
              e,
              is,
              fails_later sql params (state g first) (state g mid) (state g new) plain was.0 at.survives.counts at.survives.limit e
                  (next clean sql params was.1.0 was.1.1),
            );
      }

    module _ (now : Held S) where
      -- short of memory
      pub gives_up : {Given : List Row → Type 0} → IsGiving g sql params first now Given → Ends now (Err Memory)
      gives_up at = record { mode = at.mode; survives = at.survives; ends = λ plain clean. inr ((at.gives plain clean).0, inl refl) }

      module _ (items : List T) (row : Row) (at : IsGiving g sql params first now (EndsIn (λ given. AreRead seen shows InRange given items) row)) where
        pub unread : (fault : RowFault) → ((y : Seen) → InRange y → row ≡ shows y → IsEven fault) → Ends now (Err fault)
        unread fault why = record {
          mode = at.mode;
          survives = at.survives;
          ends = λ plain clean.
              let was = at.gives plain clean in
              inr (was.0, inr (was.1.2.0, row, subst (Begins sql params (state g now)) was.1.2.1 (given_begin g sql params now was.1.0 was.1.1), why));
        }

        pub read : (x : T) → Decodes seen shows InRange row (Ok x) → IsGiving g sql params first now
            (λ given. AreRead seen shows InRange given (items ++ x ∷ []))
        read x is = record {
          mode = at.mode;
          survives = at.survives;
          gives = λ plain clean.
              let was = at.gives plain clean in (
                was.0,
                (
                  was.1.0,
                  was.1.1,
                  subst (λ rows. AreRead seen shows InRange rows (items ++ x ∷ [])) (sym was.1.2.1)
                      (read_then seen shows InRange was.1.2.0 items row x was.1.2.2 is),
                ),
              );
        }
