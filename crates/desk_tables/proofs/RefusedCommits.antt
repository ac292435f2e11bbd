-- A commit that a store refuses before it writes: it is failed, it is not a desk, or no more may be heard.
use Rattle.std.proofs.Common.{◌≡◌, inl, ℕ, ◌≤◌, true, false, true≢false, List, Some, Err, IsTrue, refl, sym, subst, ◌∙◌, arith}
use Rattle.std.specs.Prelude.{◌||◌}
use Rattle.registry_core.specs.declared.effects.Effect.{Effect}
use Rattle.registry_core.specs.declared.messages.Envelope.{Envelope}
use Rattle.registry_core.specs.Heard.{most_heard}
use Rattle.sqlite_trees.specs.declared.store.Store.{Ghosts}
use Rattle.sqlite_trees.specs.Tree.{Trees}
use Rattle.sqlite.specs.Held.{Held, state}
use Rattle.desk_store.specs.declared.faults.StoreFault.{StoreFault}
use Rattle.desk_store.specs.declared.faults.StoreFault.TheVariants.{Disk, Size}
use Rattle.desk_store.specs.Calls.{IsOfCalls, is_disk, is_not_a_desk}
use Rattle.desk_store.specs.Kept.{Kept}
use Rattle.desk_rows.specs.declared.faults.RowFault.TheVariants.{Refused}
use Rattle.desk_tables.specs.Store.{HoldsKept, meaning_of, own_law}
use Rattle.desk_tables.specs.declared.tables.Tables.{Tables}
use Rattle.desk_tables.specs.steps.Faults.{store_fault}
use Rattle.desk_tables.specs.steps.Keeper.{IsCommit}
use Rattle.desk_tables.specs.steps.CheckedFaults.{Fails, IsCheckedFault}
use Rattle.desk_tables.proofs.LookUps.{disk_or_as}

module _ {S : Type 0} (g : Ghosts S) (old : Tables S) (e : Envelope) (message : List ℕ) (effect : Effect) (answer : List ℕ) where
  -- it is failed
  pub commit_failed : old.failed ≡ true → IsCommit (meaning_of g) old old e message effect answer (Err Disk)
  commit_failed failed = record {
    call = record { same = refl; was_sound = λ clean. clean; shut = failed; not_a_desk_now = refl };
    told = tt;
    failed = λ is. refl;
    added = λ kept clean holds can. tt;
    neither = λ kept clean holds. holds;
    fault = λ kept clean holds can. tt;
    size = λ kept clean holds is. absurd (cc);
    no_room = λ kept clean holds up most. absurd (true≢false (sym failed ∙ up));
    doubt = λ kept clean holds can up is. absurd (true≢false (sym failed ∙ up));
    stays = λ all clean is left. left;
    undone = λ db clean rests. rests;
    rests = λ db clean rests. (db, rests);
  }

  module _ (up : old.failed ≡ false) where
    -- it is in a transaction: it represents nothing
    commit_inside : (new : Held S) (told : StoreFault) → (state g old.conn).in_transaction ≡ true → IsCheckedFault (state g old.conn) (state g new) Refused told
        → IsCommit (meaning_of g) old
        (record old { conn = new; failed = is_disk (Some told) || old.failed; not_a_desk = is_not_a_desk (Some told) || old.not_a_desk })
        e message effect answer (Err told)
    commit_inside new told inside checked =
        let never = λ (kept : Kept) (holds : HoldsKept g old kept). let e : ⊥ = true≢false (sym inside ∙ (holds up).settled.autocommit) in e in
        record {
          call = record { same = refl; was_sound = λ clean. omega (arith, checked.survives.clean, clean); shut = refl; not_a_desk_now = refl };
          told = disk_or_as told (store_fault Refused) (λ f. IsOfCalls (Some f)) tt tt checked.same;
          failed = λ is. absurd (true≢false (sym is ∙ up));
          added = λ kept clean holds can. tt;
          neither = λ kept clean holds. absurd (never kept holds);
          fault = λ kept clean holds can. absurd (never kept holds);
          size = λ kept clean holds is. absurd (never kept holds);
          no_room = λ kept clean holds was most. absurd (never kept holds);
          doubt = λ kept clean holds can was is. absurd (never kept holds);
          stays = λ all clean is left. absurd (true≢false (sym is ∙ up));
          undone = λ db clean rests. absurd (true≢false (sym inside ∙ (rests up).settled.autocommit));
          rests = λ db clean rests. absurd (true≢false (sym inside ∙ (rests up).settled.autocommit));
        }

    pub commit_refused : (new : Tables S) (told : StoreFault) → (state g old.conn).in_transaction ≡ true → Fails g old new Refused told
        → IsCommit (meaning_of g) old new e message effect answer (Err told)
    commit_refused new told inside fails =
        subst (λ k. IsCommit (meaning_of g) old k e message effect answer (Err told)) (sym fails.same) (commit_inside new.conn told inside fails.checked)

    -- as many messages were heard as may ever be
    pub commit_full : ((s : S) (db : Trees) → IsTrue (g.view s).is_open → g.recovers s db → db ≡ (g.view s).committed) → most_heard ≤ old.heard
        → IsCommit (meaning_of g) old old e message effect answer (Err Size)
    commit_full settled full = record {
      call = record { same = refl; was_sound = λ clean. clean; shut = refl; not_a_desk_now = refl };
      told = tt;
      failed = λ is. absurd (true≢false (sym is ∙ up));
      added = λ kept clean holds can. tt;
      neither = λ kept clean holds. holds;
      fault = λ kept clean holds can. tt;
      size = λ kept clean holds is. let heard = (holds up).heard in inl (omega (arith, full, heard));
      no_room = λ kept clean holds was most. (refl, own_law g settled old kept clean up holds);
      doubt = λ kept clean holds can was is. absurd (cc);
      stays = λ all clean is left. left;
      undone = λ db clean rests. rests;
      rests = λ db clean rests. (db, rests);
    }
