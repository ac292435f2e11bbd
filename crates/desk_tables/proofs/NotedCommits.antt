-- The store after a commit: with the effect and the entry if the transaction succeeded, else as before or failed.
use Rattle.std.proofs.Common.{◌≡◌, inl, inr, ℕ, ◌+◌, ◌<◌, Bool, true, false, true≢false, List, [], ◌∷◌, length, None, Some, Result, Ok, Err, IsTrue, refl, sym, ap, subst, ◌∙◌, arith}
use Rattle.std.specs.Prelude.{◌||◌}
use Rattle.registry_core.specs.declared.effects.Effect.{Effect}
use Rattle.registry_core.specs.declared.messages.Envelope.{Envelope}
use Rattle.registry_core.specs.Fits.{Fits}
use Rattle.registry_core.specs.Heard.{most_heard}
use Rattle.registry_core.specs.State.{State}
use Rattle.sqlite_trees.specs.declared.store.Store.{Ghosts}
use Rattle.sqlite_trees.specs.Tree.{Trees}
use Rattle.sqlite.specs.Effect.{Database}
use Rattle.sqlite.specs.Held.{Held, state}
use Rattle.sqlite.specs.State.{HasCleanDisk}
use Rattle.desk_store.specs.declared.faults.StoreFault.{StoreFault}
use Rattle.desk_store.specs.declared.faults.StoreFault.TheVariants.{Size as NoRoom}
use Rattle.desk_store.specs.declared.looks.Counts.{Counts}
use Rattle.desk_store.specs.Calls.{IsOfCalls, IsUnavailability, is_disk, is_not_a_desk}
use Rattle.desk_store.specs.Kept.{CanAdd, Kept, entry_with, with_entry}
use Rattle.desk_rows.specs.declared.faults.RowFault.{RowFault}
use Rattle.desk_rows.specs.declared.faults.RowFault.TheVariants.{Memory, Disk, Size, Row as OutOfRange, Refused}
use Rattle.desk_rows.specs.Faults.{IsEven}
use Rattle.desk_rows.specs.Rows.{Holds}
use Rattle.desk_rows.specs.order.Changes.{RowsFollowFacts, rows_with}
use Rattle.desk_rows.specs.order.Keys.{ChangedRowsAreThere, KeysAreFree}
use Rattle.desk_tables.specs.InOrder.{IsOfDesk}
use Rattle.desk_tables.specs.Seen.{AreSeen, seen_after}
use Rattle.desk_tables.specs.Store.{HoldsKept, IsSettled, IsSettledOver, Leaves, Stands, meaning_of, own_law}
use Rattle.desk_tables.specs.declared.effects.input.Known.{Known}
use Rattle.desk_tables.specs.declared.tables.Tables.{Tables}
use Rattle.desk_tables.specs.steps.Calls.{Commits, IsReady}
use Rattle.desk_tables.specs.steps.Effects.{IsOpenToBoth, IsThereAndKnown, reply_row}
use Rattle.desk_tables.specs.steps.Faults.{store_fault}
use Rattle.desk_tables.specs.steps.Keeper.{CountsWith, IsCommit, IsNoted}
use Rattle.desk_tables.specs.steps.CheckedFaults.{IsCheckedFault, is_size}
use Rattle.desk_tables.proofs.CommitLemmas.{rows_in_order, rows_open}
use Rattle.desk_tables.proofs.CountLemmas.{are_few, one_longer}
use Rattle.desk_tables.proofs.LookUps.{disk_or_as, has_schema}
use Rattle.desk_tables.proofs.SeenLemmas.{seen_with}

-- ---- errors

is_unavailable_writing : (fault : RowFault) → IsEven fault → IsUnavailability (store_fault fault)
is_unavailable_writing Memory even = tt
is_unavailable_writing Disk even = tt
is_unavailable_writing Size even = tt
is_unavailable_writing OutOfRange even = absurd (true≢false even)
is_unavailable_writing Refused even = absurd (true≢false even)

of_calls : (fault : RowFault) → IsOfCalls (Some (store_fault fault))
of_calls Memory = tt
of_calls Disk = tt
of_calls Size = tt
of_calls OutOfRange = tt
of_calls Refused = tt

first_false : (a b : Bool) → (a || b) ≡ false → a ≡ false
first_false false b is = refl
first_false true b is = absurd (true≢false is)

-- ---- a store and what a transaction did

module _ {S : Type 0} (g : Ghosts S) (old : Tables S) (e : Envelope) (message : List ℕ) (effect : Effect) (answer : List ℕ) (up : old.failed ≡ false)
    (room : old.heard < most_heard) (follow : RowsFollowFacts) (keys : KeysAreFree) (changed : ChangedRowsAreThere)
    (settled : (s : S) (db : Trees) → IsTrue (g.view s).is_open → g.recovers s db → db ≡ (g.view s).committed) where
  abbrev known : Known
  known = record { uplinks = old.counts.uplinks; seen = old.seen }

  abbrev CommitsTo : Held S → Result (Unit {0}) RowFault → Type 0
  CommitsTo mid done =
      Commits (state g old.conn) (state g mid) done (IsThereAndKnown effect known) (IsOpenToBoth effect e) (rows_with effect (reply_row e message answer))

  ready : (kept : Kept) → Stands g old kept → IsReady (state g old.conn)
  ready kept it = record { is_open = it.settled.open_still; schema = it.desk.in_order.held.ten.schema; committed = it.settled.committed }

  ready_at_rest : (db : Database) → IsSettledOver (state g old.conn) db → IsReady (state g old.conn)
  ready_at_rest db it = record { is_open = it.settled.open_still; schema = has_schema (state g old.conn) db it; committed = it.settled.committed }

  there : (kept : Kept) (it : Stands g old kept) → Fits effect kept.facts → IsThereAndKnown effect known it.desk.in_order.rows
  there kept it fits =
      let r = it.desk.in_order.rows in (
        changed old.config kept.facts r effect it.desk.in_order.are fits,
        record {
          uplinks = it.counts.uplinks ∙ ap (λ (s : State). length s.uplinks) it.desk.in_order.are.is;
          seen = it.seen r it.desk.in_order.held;
        },
      )

  few : (kept : Kept) → Stands g old kept → length kept.entries < most_heard
  few kept it = let heard = it.heard in omega (arith, room, heard)

  -- rows with the effect and the message are those of a desk that represents the effect and the entry too
  with_message : (kept : Kept) (it : Stands g old kept) → CanAdd kept e effect → (db : Database)
      → Holds db (rows_with effect (reply_row e message answer) it.desk.in_order.rows) → IsOfDesk old.config (with_entry kept e message effect answer) db
  with_message kept it can db held =
      let was = it.desk.in_order in
      let longer = one_longer kept.entries (entry_with e message answer) old.heard it.heard in
      record {
        in_order = rows_in_order e message effect answer old.config kept was.rows was.are was.entries follow can.effect_fits db held;
        config = it.desk.config;
        few = omega (arith, longer, room);
      }

  -- ---- it was made

  module _ (mid : Held S) (done : Unit {0}) (commits : CommitsTo mid (Ok done)) (counts : Counts) (counted : CountsWith effect old.counts counts) where
    abbrev after : Tables S
    after = record old { conn = mid; out_of_space = false; heard = old.heard + 1; counts = counts; seen = seen_after old.seen }

    stands_after : (kept : Kept) → HasCleanDisk (state g mid) → Stands g old kept → CanAdd kept e effect
        → Stands g after (with_entry kept e message effect answer)
    stands_after kept clean it can =
        let was = ready kept it in
        let new = commits.ready clean was in
        let r = it.desk.in_order.rows in
        let made = commits.made clean was r it.desk.in_order.held (there kept it can.effect_fits) in
        record {
          settled = record {
            open_still = new.is_open;
            autocommit = commits.mode;
            committed = new.committed;
            unlimited = commits.limit clean was ∙ it.settled.unlimited;
          };
          desk = with_message kept it can (state g mid).now made;
          heard = one_longer kept.entries (entry_with e message answer) old.heard it.heard;
          counts = counted kept.facts (are_few old.config kept r it.desk.in_order.are it.desk.in_order.entries it.desk.few) it.counts;
          seen = seen_with effect (reply_row e message answer) r old.seen (state g mid).now (it.seen r it.desk.in_order.held) made;
        }

    rests_after : (db : Database) → HasCleanDisk (state g mid) → IsSettledOver (state g old.conn) db → IsSettledOver (state g mid) (state g mid).now
    rests_after db clean it =
        let was = ready_at_rest db it in
        let new = commits.ready clean was in
        record {
          settled = record {
            open_still = new.is_open;
            autocommit = commits.mode;
            committed = new.committed;
            unlimited = commits.limit clean was ∙ it.settled.unlimited;
          };
          stored = refl;
          schema = new.schema;
        }

    commit_made : IsCommit (meaning_of g) old after e message effect answer (Ok done)
    commit_made = record {
      call = record { same = refl; was_sound = λ clean. omega (arith, commits.clean, clean); shut = refl; not_a_desk_now = refl };
      told = tt;
      failed = λ is. absurd (true≢false (sym is ∙ up));
      added = λ kept clean holds can still. stands_after kept clean (holds up) can;
      neither = λ kept clean holds. tt;
      fault = λ kept clean holds can. tt;
      size = λ kept clean holds is. absurd (cc);
      no_room = λ kept clean holds was most. let less = few kept (holds up) in absurd (omega (arith, most, less));
      doubt = λ kept clean holds can was is. absurd (cc);
      stays = λ all clean is left. absurd (true≢false (sym is ∙ up));
      undone = λ db clean rests. tt;
      rests = λ db clean rests. ((state g mid).now, λ still. rests_after db clean (rests up));
    }

  -- ---- it failed

  module _ (mid new : Held S) (fault : RowFault) (told : StoreFault) (commits : CommitsTo mid (Err fault)) (checked : IsCheckedFault (state g mid) (state g new) fault told) where
    abbrev undone : Tables S
    undone = record old { conn = new; failed = is_disk (Some told) || old.failed; not_a_desk = is_not_a_desk (Some told) || old.not_a_desk; out_of_space = is_size told }

    early : HasCleanDisk (state g new) → HasCleanDisk (state g mid)
    early clean = omega (arith, checked.survives.clean, clean)

    first : HasCleanDisk (state g new) → HasCleanDisk (state g old.conn)
    first clean = omega (arith, commits.clean, checked.survives.clean, clean)

    -- the connection is still open, and nothing is written
    still_settled : HasCleanDisk (state g new) → (was : IsReady (state g old.conn)) → (state g old.conn).step_limit ≡ None → is_disk (Some told) ≡ false
        → IsSettled (state g new) × ((state g new).now ≡ (state g old.conn).now)
    still_settled clean was unlimited not_disk =
        let stays = checked.stands clean not_disk in
        let back = commits.neither (early clean) was stays.was_open in
        let at : (state g mid).now ≡ (state g mid).committed = back.0 ∙ was.committed ∙ sym back.1 in
        let on = stays.kept at in (
          record {
            open_still = stays.open_still;
            autocommit = checked.mode commits.mode;
            committed = on.0 ∙ at ∙ sym on.1;
            unlimited = checked.survives.limit ∙ commits.limit (early clean) was ∙ unlimited;
          },
          on.0 ∙ back.0,
        )

    rests_still : (db : Database) → HasCleanDisk (state g new) → IsSettledOver (state g old.conn) db → is_disk (Some told) ≡ false → IsSettledOver (state g new) db
    rests_still db clean it not_disk =
        let on = still_settled clean (ready_at_rest db it) it.settled.unlimited not_disk in
        record { settled = on.0; stored = on.1 ∙ it.stored; schema = it.schema }

    stands_still : (kept : Kept) → HasCleanDisk (state g new) → Stands g old kept → is_disk (Some told) ≡ false → Stands g undone kept
    stands_still kept clean it not_disk =
        let on = still_settled clean (ready kept it) it.settled.unlimited not_disk in
        record {
          settled = on.0;
          desk = subst (IsOfDesk old.config kept) (sym on.1) it.desk;
          heard = it.heard;
          counts = it.counts;
          seen = subst (AreSeen old.seen) (sym on.1) it.seen;
        }

    -- a crash leaves what was there, or that with the effect and the entry
    leaves_either : (kept : Kept) → HasCleanDisk (state g new) → HoldsKept g old kept → CanAdd kept e effect
        → Leaves g undone (kept ∷ with_entry kept e message effect answer ∷ [])
    leaves_either kept clean holds can =
        let it = holds up in
        let r = it.desk.in_order.rows in
        let alone = own_law g settled old kept (first clean) up holds in
        let crash = commits.crash (early clean) (ready kept it) r it.desk.in_order.held (there kept it can.effect_fits) in
        λ db may. elim (checked.survives.crash clean db may) [
          | inl before ↦ elim (crash.crash (early clean) db before) [
            | inl still ↦ let own = alone db still in (own.0, elim own.1 [ inl same ↦ inl same | inr none ↦ absurd none ], own.2)
            | inr is ↦ (
              with_entry kept e message effect answer,
              inr (inl refl),
              with_message kept it can _ is,
            )
          ]
          | inr none ↦ absurd none
        ]

    commit_undone : IsCommit (meaning_of g) old undone e message effect answer (Err told)
    commit_undone = record {
      call = record { same = refl; was_sound = first; shut = refl; not_a_desk_now = refl };
      told = disk_or_as told (store_fault fault) (λ f. IsOfCalls (Some f)) tt (of_calls fault) checked.same;
      failed = λ is. absurd (true≢false (sym is ∙ up));
      added = λ kept clean holds can. tt;
      neither = λ kept clean holds still. stands_still kept clean (holds up) (first_false (is_disk (Some told)) old.failed still);
      fault = λ kept clean holds can.
          let it = holds up in
          let r = it.desk.in_order.rows in
          let open_to = rows_open e message effect answer old.config kept r it.desk.in_order.are it.desk.in_order.entries keys changed (few kept it) can in
          let even = commits.in_order (early clean) (ready kept it) it.settled.unlimited r it.desk.in_order.held (there kept it can.effect_fits) open_to in
          disk_or_as told (store_fault fault) IsUnavailability tt (is_unavailable_writing fault even) checked.same;
      size = λ kept clean holds is. inr (let named : told ≡ NoRoom = cc in ap is_size named);
      no_room = λ kept clean holds was most. let less = few kept (holds up) in absurd (omega (arith, most, less));
      doubt = λ kept clean holds can was is. leaves_either kept clean holds can;
      stays = λ all clean is left. absurd (true≢false (sym is ∙ up));
      undone = λ db clean rests still. rests_still db clean (rests up) (first_false (is_disk (Some told)) old.failed still);
      rests = λ db clean rests. (db, λ still. rests_still db clean (rests up) (first_false (is_disk (Some told)) old.failed still));
    }

  -- ---- either

  pub commit_noted : (mid : Held S) (new : Tables S) (done : Result (Unit {0}) RowFault) (result : Result (Unit {0}) StoreFault) → CommitsTo mid done
      → IsNoted g effect (record old { conn = mid }) new done result → IsCommit (meaning_of g) old new e message effect answer result
  commit_noted mid new (Ok done) result commits noted = subst (λ r. IsCommit (meaning_of g) old new e message effect answer r) (sym noted.0)
      (subst (λ k. IsCommit (meaning_of g) old k e message effect answer (Ok done)) (sym noted.1) (commit_made mid done commits new.counts noted.2))
  commit_noted mid new (Err fault) result commits (told, is, undone) = subst (λ r. IsCommit (meaning_of g) old new e message effect answer r) (sym is)
      (subst (λ k. IsCommit (meaning_of g) old k e message effect answer (Err told)) (sym undone.same) (commit_undone mid new.conn fault told commits undone.checked))
