-- Laws of calls in a row: what several reading calls leave, and what one statement in a transaction does.
use Rattle.std.proofs.Common.{◌≡◌, ◌⊎◌, inl, inr, Bool, true, false, true≢false, refl, IsTrue, arith, sym, subst, ◌∙◌}
use Rattle.sqlite.specs.State.{State, HasCleanDisk, IsUnchanged, IsRolledBack}
use Rattle.sqlite.proofs.Callers.{unchanged_then}
use Rattle.sqlite.proofs.StateLemmas.{survives_then}
use Rattle.sqlite_schema.specs.declared.schema.Schema.{Schema}
use Rattle.desk_rows.specs.Calls.{StaysOrRollsBack, IsReadingCallOf, GoesOn, Writes, IsWritingCall}

-- what was read may then be found out of its range
pub read_weaker : {desk : Schema} (old new : State) (a ok : Bool) → (IsTrue ok → IsTrue a) → IsReadingCallOf desk old new a → IsReadingCallOf desk old new ok
read_weaker old new a ok then_ok read = record { clean = read.clean; mode = read.mode; survives = read.survives; leaves = λ has up sure. go a ok then_ok (read.leaves has up sure) }
  where
    go : (a ok : Bool) → (IsTrue ok → IsTrue a) → StaysOrRollsBack a old new → StaysOrRollsBack ok old new
    go true true h same = same
    go true false h same = inl same
    go false false h left = left
    go false true h left = absurd (true≢false (sym (h refl)))

pub back_then : (a b c : State) → IsUnchanged a b → IsRolledBack b c → IsRolledBack a c
back_then a b c p q = record {
  was_open = λ up. p.0.was_open;
  undone = λ up. ((q.undone up).0 ∙ p.0.committed_is, (q.undone up).1 ∙ p.0.committed_is);
  autocommit = q.autocommit;
  unmarked = q.unmarked;
  counts = record { changes = q.counts.changes ∙ p.1.changes; last_rowid = q.counts.last_rowid ∙ p.1.last_rowid };
}

leaves_then : (ok : Bool) (a b c : State) → IsUnchanged a b → StaysOrRollsBack ok b c → StaysOrRollsBack ok a c
leaves_then true a b c p q = unchanged_then a b c p q
leaves_then false a b c p (inl q) = inl (unchanged_then a b c p q)
leaves_then false a b c p (inr q) = inr (back_then a b c p q)

pub reads_then : {desk : Schema} (a b c : State) (ok : Bool) → IsReadingCallOf desk a b true → IsReadingCallOf desk b c ok → IsReadingCallOf desk a c ok
reads_then {desk} a b c ok one two =
    let early = λ (sure : HasCleanDisk c). let e : HasCleanDisk b = omega (arith, two.clean, sure) in e in
    let has = λ (h : a.now.schema ≡ desk) (up : IsTrue a.is_open) (sure : HasCleanDisk c).
    let e : b.now.schema ≡ desk = subst (λ d. d.schema ≡ desk) (sym (one.leaves h up (early sure)).0.now_is) h in e in
    let still = λ (h : a.now.schema ≡ desk) (up : IsTrue a.is_open) (sure : HasCleanDisk c). (one.leaves h up (early sure)).0.is_open in
    record {
      clean = omega (arith, one.clean, two.clean);
      mode = λ idle. two.mode (one.mode idle);
      survives = λ h up sure. survives_then a b c (λ _. ⊥) (λ _. ⊥) (λ _. ⊥) (λ _ db none. none) (λ _ db none. none) (one.survives h up (early sure)) (two.survives (has h up sure) (still h up sure) sure);
      leaves = λ h up sure. leaves_then ok a b c (one.leaves h up (early sure)) (two.leaves (has h up sure) (still h up sure) sure);
    }

-- ---- writing calls in a row

pub on_or_undone : (old new : State) → IsTrue old.in_transaction → IsUnchanged old new ⊎ IsRolledBack old new → Writes false old new
on_or_undone old new inside (inl same) = inl (record { was_open = same.0.was_open; is_open = same.0.is_open; now_is = refl; committed_is = same.0.committed_is; mode = same.0.mode ∙ inside })
on_or_undone old new inside (inr back) = inr (record { was_open = back.was_open; undone = back.undone; ended = back.autocommit })

then_on : (a b c : State) → GoesOn a b → GoesOn b c → GoesOn a c
then_on a b c p q = record { was_open = p.was_open; is_open = q.is_open; now_is = refl; committed_is = q.committed_is ∙ p.committed_is; mode = q.mode }

then_writes : (ok : Bool) (a b c : State) → GoesOn a b → Writes ok b c → Writes ok a c
then_writes true a b c p q = then_on a b c p q
then_writes false a b c p (inl q) = inl (then_on a b c p q)
then_writes false a b c p (inr q) = inr (record {
  was_open = λ up. p.was_open;
  undone = λ up. ((q.undone up).0 ∙ p.committed_is, (q.undone up).1 ∙ p.committed_is);
  ended = q.ended;
})

pub writes_then : (a b c : State) (ok : Bool) → IsWritingCall a b true → IsWritingCall b c ok → IsWritingCall a c ok
writes_then a b c ok one two = record {
  survives = survives_then a b c (λ _. ⊥) (λ _. ⊥) (λ _. ⊥) (λ _ db none. none) (λ _ db none. none) one.survives two.survives;
  goes_on = λ sure inside up.
      let early : HasCleanDisk b = omega (arith, two.survives.clean, sure) in
      let first = one.goes_on early inside up in
      then_writes ok a b c first (two.goes_on sure first.mode first.is_open);
}
