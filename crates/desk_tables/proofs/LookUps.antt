-- The state after a look-up, and what the look-up returns.
use Rattle.std.proofs.Common.{◌≡◌, ◌⊎◌, inl, inr, Bool, true, false, true≢false, IsTrue, None, Some, List, Result, Ok, Err, refl, sym, ap, subst, ◌∙◌, arith}
use Rattle.std.specs.Prelude.{◌||◌, IfOk}
use Rattle.sqlite_trees.specs.declared.store.Store.{Ghosts}
use Rattle.sqlite.specs.Effect.{Database}
use Rattle.sqlite.specs.State.{State, HasCleanDisk, IsUnchanged, IsRolledBack, Survives}
use Rattle.sqlite.specs.Held.{Held, state}
use Rattle.sqlite.proofs.StateLemmas.{survives_then}
use Rattle.desk_store.specs.declared.faults.StoreFault.{StoreFault}
use Rattle.desk_store.specs.declared.faults.StoreFault.TheVariants as told_as
use Rattle.desk_store.specs.Calls.{IsOfReading, IsUnavailability, Tells, fault_in, is_disk, is_not_a_desk}
use Rattle.desk_store.specs.Calls as calls
use Rattle.desk_store.specs.Kept.{Kept}
use Rattle.desk_rows.specs.declared.faults.RowFault.{RowFault}
use Rattle.desk_rows.specs.declared.faults.RowFault.TheVariants.{Memory, Disk, Size, Row as OutOfRange, Refused}
use Rattle.desk_rows.specs.Calls.{IsReadingCall, Reads}
use Rattle.desk_rows.specs.Faults.{IsEven}
use Rattle.desk_rows.specs.Rows.{Holds, Rows}
use Rattle.desk_rows.specs.Schema.{desk_schema}
use Rattle.desk_tables.specs.InOrder.{IsOfDesk}
use Rattle.desk_tables.specs.Seen.{AreSeen, IsSeen}
use Rattle.desk_tables.specs.Store.{IsSettled, IsSettledOver, Leaves, Stands, meaning_of}
use Rattle.desk_tables.specs.declared.seen.Seen.{Seen}
use Rattle.desk_tables.specs.declared.tables.Tables.{Tables}
use Rattle.desk_tables.specs.steps.Calls.{Asks}
use Rattle.desk_tables.specs.steps.LookUps.{OfKept}
use Rattle.desk_tables.specs.steps.Faults.{store_fault}
use Rattle.desk_tables.specs.steps.CheckedFaults.{IsCheckedFault, IsTold, reading_fault}
use Rattle.desk_tables.proofs.CallLemmas.{asks_one}

-- ---- a connection after a look-up

-- the tables are as they were, and all is committed
record IsAsBefore (old new : State) : Type 0 where
  pub open_still : IsTrue new.is_open
  pub mode : new.in_transaction ≡ false
  pub now_is : new.now ≡ old.now
  pub committed_is : new.committed ≡ old.committed
  pub limit : new.step_limit ≡ old.step_limit

unchanged_before : (old new : State) → IsSettled old → Survives old new (λ _. ⊥) → IsUnchanged old new → IsAsBefore old new
unchanged_before old new was survives same = record {
  open_still = same.0.is_open;
  mode = same.0.mode ∙ was.autocommit;
  now_is = same.0.now_is;
  committed_is = same.0.committed_is;
  limit = survives.limit;
}

-- it left all as it was or rolled back
mid_is : (old mid : State) → IsUnchanged old mid ⊎ IsRolledBack old mid → old.now ≡ old.committed → IsTrue mid.is_open
    → (mid.now ≡ old.now) × (mid.committed ≡ old.committed) × (mid.now ≡ mid.committed)
mid_is old mid (inl same) was up = (same.0.now_is, same.0.committed_is, same.0.now_is ∙ was ∙ sym same.0.committed_is)
mid_is old mid (inr back) was up =
    let parts = back.undone up in (parts.0 ∙ sym was, parts.1, parts.0 ∙ sym parts.1)

failed_before : (old mid new : State) (fault : RowFault) (told : StoreFault) → IsSettled old → IsReadingCall old mid false
    → Survives old mid (λ _. ⊥) → IsUnchanged old mid ⊎ IsRolledBack old mid → IsCheckedFault mid new fault told → HasCleanDisk new → is_disk (Some told) ≡ false
    → IsAsBefore old new
failed_before old mid new fault told was read survives left checked clean not_disk =
    let stays = checked.stands clean not_disk in
    let at = mid_is old mid left was.committed stays.was_open in
    let on = stays.kept at.2 in
    record {
      open_still = stays.open_still;
      mode = checked.mode (read.mode was.autocommit);
      now_is = on.0 ∙ at.0;
      committed_is = on.1 ∙ at.1;
      limit = checked.survives.limit ∙ survives.limit;
    }

-- a connection at rest has the desk's schema
pub has_schema : (s : State) (db : Database) → IsSettledOver s db → s.now.schema ≡ desk_schema
has_schema s db it = ap (λ (d : Database). d.schema) it.stored ∙ it.schema

-- what was settled, or at rest, still is
settled_on : (old new : State) → IsAsBefore old new → IsSettled old → IsSettled new
settled_on old new same it = record {
  open_still = same.open_still;
  autocommit = same.mode;
  committed = same.now_is ∙ it.committed ∙ sym same.committed_is;
  unlimited = same.limit ∙ it.unlimited;
}

rests_on : (old new : State) (db : Database) → IsAsBefore old new → IsSettledOver old db → IsSettledOver new db
rests_on old new db same it = record { settled = settled_on old new same it.settled; stored = same.now_is ∙ it.stored; schema = it.schema }

-- ---- a store after a look-up

module _ {S : Type 0} (g : Ghosts S) (old : Tables S) (conn : Held S) (failed not_a_desk : Bool) where
  abbrev later : Tables S
  later = record old { conn = conn; failed = failed; not_a_desk = not_a_desk }

  stands_on : (kept : Kept) → IsAsBefore (state g old.conn) (state g conn) → Stands g old kept → Stands g later kept
  stands_on kept same it = record {
    settled = settled_on (state g old.conn) (state g conn) same it.settled;
    desk = subst (IsOfDesk old.config kept) (sym same.now_is) it.desk;
    heard = it.heard;
    counts = it.counts;
    seen = subst (AreSeen old.seen) (sym same.now_is) it.seen;
  }

  leaves_on : (all : List Kept) → HasCleanDisk (state g conn) → Survives (state g old.conn) (state g conn) (λ _. ⊥) → Leaves g old all → Leaves g later all
  leaves_on all clean survives left = λ db may. elim (survives.crash clean db may) [ inl before ↦ left db before | inr none ↦ absurd none ]

-- ---- errors

is_unavailable_reading : (fault : RowFault) → IsEven fault → IsUnavailability (store_fault (reading_fault fault))
is_unavailable_reading Memory even = tt
is_unavailable_reading Disk even = tt
is_unavailable_reading Size even = tt
is_unavailable_reading OutOfRange even = absurd (true≢false even)
is_unavailable_reading Refused even = absurd (true≢false even)

pub disk_or_as : (told other : StoreFault) (P : StoreFault → Type 0) → P told_as.Disk → P other → (is_disk (Some told) ≡ false → told ≡ other) → P told
disk_or_as told_as.Disk other P disk same not = disk
disk_or_as told_as.Memory other P disk same not = subst P (sym (not refl)) same
disk_or_as told_as.Size other P disk same not = subst P (sym (not refl)) same
disk_or_as told_as.NotADesk other P disk same not = subst P (sym (not refl)) same
disk_or_as told_as.SchemaVersion other P disk same not = subst P (sym (not refl)) same
disk_or_as told_as.Exists other P disk same not = subst P (sym (not refl)) same

of_reading : (fault : RowFault) → IsOfReading (Some (store_fault (reading_fault fault)))
of_reading Memory = tt
of_reading Disk = tt
of_reading Size = tt
of_reading OutOfRange = tt
of_reading Refused = tt

-- ---- a look-up that answered, and one that failed

module _ {S : Type 0} (g : Ghosts S) (old : Tables S) (mid : Held S) (up : old.failed ≡ false) where
  asked : Tables S
  asked = record old { conn = mid }

  answered : IsReadingCall (state g old.conn) (state g mid) true → calls.IsRead (meaning_of g) old (record old { conn = mid }) None
  answered read = record {
    same = refl;
    was_sound = λ clean. omega (arith, read.clean, clean);
    shut = refl;
    not_a_desk_now = refl;
    reading = tt;
    held = λ kept clean holds _.
        let stands = holds up in
        let has = stands.desk.in_order.held.ten.schema in
        let open_was = stands.settled.open_still in
        stands_on g old mid old.failed old.not_a_desk kept
        (unchanged_before (state g old.conn) (state g mid) stands.settled (read.survives has open_was clean) (read.leaves has open_was clean)) stands;
    left = λ kept all clean holds left.
        let stands = holds up in
        leaves_on g old mid old.failed old.not_a_desk all clean (read.survives stands.desk.in_order.held.ten.schema stands.settled.open_still clean) left;
    unavailable = λ kept clean holds. tt;
    rests = λ db clean rests still.
        let was = rests up in
        let has = has_schema (state g old.conn) db was in
        let open_was = was.settled.open_still in
        rests_on (state g old.conn) (state g mid) db
        (unchanged_before (state g old.conn) (state g mid) was.settled (read.survives has open_was clean) (read.leaves has open_was clean)) was;
  }

  module _ (new : Held S) (fault : RowFault) (told : StoreFault) (read : IsReadingCall (state g old.conn) (state g mid) false)
      (checked : IsCheckedFault (state g mid) (state g new) (reading_fault fault) told)
      (in_order : HasCleanDisk (state g mid) → IsTrue (state g old.conn).is_open → (state g old.conn).step_limit ≡ None
      → (r : Rows) → Holds (state g old.conn).now r → IsEven fault) where
    abbrev after : Tables S
    after = record old { conn = new; failed = is_disk (Some told) || old.failed; not_a_desk = is_not_a_desk (Some told) || old.not_a_desk }

    early : HasCleanDisk (state g new) → HasCleanDisk (state g mid)
    early clean = omega (arith, checked.survives.clean, clean)

    not_disk : (is_disk (Some told) || old.failed) ≡ false → is_disk (Some told) ≡ false
    not_disk still = go (is_disk (Some told)) still
      where
        go : (b : Bool) → (b || old.failed) ≡ false → b ≡ false
        go false is = refl
        go true is = absurd (true≢false is)

    failed : calls.IsRead (meaning_of g) old after (Some told)
    failed = record {
      same = refl;
      was_sound = λ clean. omega (arith, read.clean, checked.survives.clean, clean);
      shut = refl;
      not_a_desk_now = refl;
      reading = disk_or_as told (store_fault (reading_fault fault)) (λ f. IsOfReading (Some f)) tt (of_reading fault) checked.same;
      held = λ kept clean holds still.
          let stands = holds up in
          let has = stands.desk.in_order.held.ten.schema in
          let open_was = stands.settled.open_still in
          stands_on g old new (is_disk (Some told) || old.failed) (is_not_a_desk (Some told) || old.not_a_desk) kept
          (failed_before (state g old.conn) (state g mid) (state g new) (reading_fault fault) told stands.settled read
          (read.survives has open_was (early clean)) (read.leaves has open_was (early clean)) checked clean (not_disk still)) stands;
      left = λ kept all clean holds left.
          let stands = holds up in
          let first = read.survives stands.desk.in_order.held.ten.schema stands.settled.open_still (early clean) in
          leaves_on g old new (is_disk (Some told) || old.failed) (is_not_a_desk (Some told) || old.not_a_desk) all clean
          (survives_then (state g old.conn) (state g mid) (state g new) (λ _. ⊥) (λ _. ⊥) (λ _. ⊥) (λ _ db none. none) (λ _ db none. none) first checked.survives) left;
      unavailable = λ kept clean holds.
          let stands = holds up in
          let even = in_order (early clean) stands.settled.open_still stands.settled.unlimited stands.desk.in_order.rows stands.desk.in_order.held in
          disk_or_as told (store_fault (reading_fault fault)) IsUnavailability tt (is_unavailable_reading fault even) checked.same;
      rests = λ db clean rests still.
          let was = rests up in
          let has = has_schema (state g old.conn) db was in
          let open_was = was.settled.open_still in
          rests_on (state g old.conn) (state g new) db
          (failed_before (state g old.conn) (state g mid) (state g new) (reading_fault fault) told was.settled read
          (read.survives has open_was (early clean)) (read.leaves has open_was (early clean)) checked clean (not_disk still)) was;
    }

-- ---- what a look-up of a store returns, and what several in a row do

module _ {S T : Type 0} (g : Ghosts S) (old : Tables S) (mid : Held S) (new : Tables S) where
  pub read_asked : (answer : Result T RowFault) (result : Result T StoreFault) (Says : Rows → T → Type 0) → old.failed ≡ false
      → Asks (state g old.conn) (state g mid) answer (λ _. Unit {0}) (λ _. Unit {0}) Says → IsTold g (record old { conn = mid }) new answer result
      → calls.IsRead (meaning_of g) old new (fault_in result)
  read_asked (Ok x) result Says up asks told = subst (λ r. calls.IsRead (meaning_of g) old new (fault_in r)) (sym told.0)
      (subst (λ k. calls.IsRead (meaning_of g) old k None) (sym told.1) (answered g old mid up asks.read))
  read_asked (Err fault) result Says up asks (t, is, fails) = subst (λ r. calls.IsRead (meaning_of g) old new (fault_in r)) (sym is)
      (subst (λ k. calls.IsRead (meaning_of g) old k (Some t)) (sym fails.same)
      (failed g old mid up new.conn fault t asks.read fails.checked (λ clean open_was unlimited r has. asks.in_order clean open_was unlimited r has tt tt)))

  pub kept_asked : (answer : Result T RowFault) (result : Result T StoreFault) (P : Kept → T → Type 0) → old.failed ≡ false
      → Asks (state g old.conn) (state g mid) answer (λ _. Unit {0}) (λ _. Unit {0}) (OfKept P) → IsTold g (record old { conn = mid }) new answer result
      → Tells (meaning_of g) old new result P
  kept_asked (Ok x) result P up asks told = λ kept clean holds.
      let stands = holds up in
      let clean_mid : HasCleanDisk (state g mid) = subst (λ (k : Tables S). HasCleanDisk (state g k.conn)) told.1 clean in
      let says = asks.told clean_mid stands.settled.open_still stands.desk.in_order.rows stands.desk.in_order.held tt in
      subst (λ r. IfOk r (P kept)) (sym told.0)
      (says old.config kept (record { are = stands.desk.in_order.are; entries = stands.desk.in_order.entries; in_range = stands.desk.in_order.held.ten.in_range; few = stands.desk.few }))
  kept_asked (Err fault) result P up asks (t, is, fails) = λ kept clean holds. subst (λ r. IfOk r (P kept)) (sym is) tt

  pub answered_by_rows : (answer : Result T RowFault) (result : Result T StoreFault) (Says : Rows → T → Type 0) → old.failed ≡ false
      → Reads g old.conn mid answer Says → IsTold g (record old { conn = mid }) new answer result
      → calls.IsRead (meaning_of g) old new (fault_in result)
  answered_by_rows answer result Says up reads told = read_asked answer result Says up (asks_one reads) told

  pub answered_by_kept : (answer : Result T RowFault) (result : Result T StoreFault) (P : Kept → T → Type 0) → old.failed ≡ false
      → Reads g old.conn mid answer (OfKept P) → IsTold g (record old { conn = mid }) new answer result
      → Tells (meaning_of g) old new result P
  answered_by_kept answer result P up reads told = kept_asked answer result P up (asks_one reads) told

-- ---- what a look-up found is cached

told_ok : {S T : Type 0} (g : Ghosts S) (mid new : Tables S) (answer : Result T RowFault) (x : T) → IsTold g mid new answer (Ok x) → (answer ≡ Ok x) × (new ≡ mid)
told_ok {T = T} g mid new (Ok y) x told =
    let same : y ≡ x = let e = told.0 in cc in
    (ap (λ z. let found : Result T RowFault = Ok z in found) same, told.1)
told_ok g mid new (Err fault) x (t, is, fails) = absurd (cc)

module _ {S T : Type 0} (g : Ghosts S) (old : Tables S) (mid : Held S) (up : old.failed ≡ false) (x : T) (Says : Rows → T → Type 0) (seen : Seen)
    (reads : Reads g old.conn mid (Ok x) Says) (so : (r : Rows) → Says r x → IsSeen r old.seen → IsSeen r seen) where
  seen_held : (kept : Kept) → HasCleanDisk (state g mid) → Stands g old kept → Stands g (record old { conn = mid }) kept
      → Stands g (record old { conn = mid; seen = seen }) kept
  seen_held kept clean was it =
      let has = was.desk.in_order.held.ten.schema in
      let up = was.settled.open_still in
      let same = (unchanged_before (state g old.conn) (state g mid) was.settled (reads.read.survives has up clean) (reads.read.leaves has up clean)).now_is in
      record {
        settled = it.settled;
        desk = it.desk;
        heard = it.heard;
        counts = it.counts;
        seen = λ r holds. so r (reads.told clean r (subst (λ d. Holds d r) same holds)) (it.seen r holds);
      }

  seen_read : calls.IsRead (meaning_of g) old (record old { conn = mid; seen = seen }) None
  seen_read =
      let read = answered g old mid up reads.read in
      record {
        same = read.same;
        was_sound = read.was_sound;
        shut = read.shut;
        not_a_desk_now = read.not_a_desk_now;
        reading = read.reading;
        held = λ kept clean holds still. seen_held kept clean (holds up) (read.held kept clean holds still);
        left = read.left;
        unavailable = read.unavailable;
        rests = read.rests;
      }

-- a look-up that answered, and how the store then changes what it has seen
pub answered_and_seen : {S T : Type 0} (g : Ghosts S) (old : Tables S) (mid : Held S) (new : Tables S) (answer : Result T RowFault) (x : T)
    (Says : Rows → T → Type 0) (change : Seen → Seen) → old.failed ≡ false → Reads g old.conn mid answer Says
    → IsTold g (record old { conn = mid }) new answer (Ok x) → ((r : Rows) → Says r x → IsSeen r old.seen → IsSeen r (change old.seen))
    → calls.IsRead (meaning_of g) old (record new { seen = change new.seen }) None
answered_and_seen g old mid new answer x Says change up reads told so =
    let is = told_ok g (record old { conn = mid }) new answer x told in
    subst (λ k. calls.IsRead (meaning_of g) old (record k { seen = change k.seen }) None) (sym is.1)
    (seen_read g old mid up x Says (change old.seen) (subst (λ a. Reads g old.conn mid a Says) is.0 reads) so)

-- what was seen is asked for no more
pub unread : {S : Type 0} (g : Ghosts S) (s : Tables S) → calls.IsRead (meaning_of g) s s None
unread g s = record {
  same = refl;
  was_sound = λ sound. sound;
  shut = refl;
  not_a_desk_now = refl;
  reading = tt;
  held = λ kept sound holds. holds;
  left = λ kept all sound holds left. left;
  unavailable = λ kept sound holds. tt;
  rests = λ db sound rests. rests;
}

-- ---- a failed store looks up nothing

pub failed_read : {S : Type 0} (g : Ghosts S) (s : Tables S) → s.failed ≡ true → calls.IsRead (meaning_of g) s s (Some told_as.Disk)
failed_read g s failed = record {
  same = refl;
  was_sound = λ sound. sound;
  shut = failed;
  not_a_desk_now = refl;
  reading = tt;
  held = λ kept sound holds. holds;
  left = λ kept all sound holds left. left;
  unavailable = λ kept sound holds. tt;
  rests = λ db sound rests. rests;
}
