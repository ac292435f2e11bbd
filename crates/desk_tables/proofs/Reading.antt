-- What a look-up returns, stated of the log and the facts in place of the rows, or of another value; and of no look-up at all.
use Rattle.std.proofs.Common.{◌≡◌, inl, Result, Ok, Err, refl, sym, subst, arith}
use Rattle.sqlite.specs.State.{State, Survives}
use Rattle.desk_rows.specs.declared.faults.RowFault.{RowFault}
use Rattle.desk_rows.specs.Calls.{ReadsRows}
use Rattle.desk_rows.specs.Rows.{Rows}

pub says_also : {X : Type 0} (old new : State) (result : Result X RowFault) (P Q : Rows → X → Type 0) → ((r : Rows) (x : X) → P r x → Q r x)
    → ReadsRows old new result P → ReadsRows old new result Q
says_also old new (Ok x) P Q so reads = record { read = reads.read; told = λ clean r holds. so r x (reads.told clean r holds); in_order = reads.in_order }
says_also old new (Err e) P Q so reads = record { read = reads.read; told = λ clean r holds. tt; in_order = reads.in_order }

-- the result is shown as something else
pub shows : {X Y : Type 0} (old new : State) (x : X) (y : Y) (P : Rows → X → Type 0) (Q : Rows → Y → Type 0) → ((r : Rows) → P r x → Q r y)
    → ReadsRows old new (Ok x) P → ReadsRows old new (Ok y) Q
shows old new x y P Q so reads = record { read = reads.read; told = λ clean r holds. so r (reads.told clean r holds); in_order = λ clean limit r holds. tt }

-- a look-up that failed returns no value
pub fails : {X Y : Type 0} {old new : State} {fault : RowFault} {result : Result Y RowFault} {P : Rows → X → Type 0} {Q : Rows → Y → Type 0}
    → result ≡ Err fault → ReadsRows {X = X} old new (Err fault) P → ReadsRows old new result Q
fails {Y = Y} {old = old} {new = new} {fault = fault} {Q = Q} failed h =
    let same : ReadsRows {X = Y} old new (Err fault) Q = record { read = h.read; told = λ clean r holds. tt; in_order = h.in_order } in
    subst (λ (found : Result Y RowFault). ReadsRows old new found Q) (sym failed) same

-- nothing was done
pub stays : (s : State) → Survives s s (λ _. ⊥)
stays s = record {
  clean = omega arith;
  shield = λ h. h;
  counts = omega arith;
  limit = refl;
  closes = λ clean up. inl up;
  crash = λ clean db may. inl may;
}

-- what needs no question
pub unasked : {X : Type 0} (s : State) (x : X) (P : Rows → X → Type 0) → ((r : Rows) → P r x) → ReadsRows s s (Ok x) P
unasked s x P so = record {
  read = record {
    clean = omega arith;
    mode = λ idle. idle;
    survives = λ has up clean. stays s;
    leaves = λ has up clean. (record { was_open = up; is_open = up; now_is = refl; committed_is = refl; mode = refl }, record { changes = refl; last_rowid = refl }, refl);
  };
  told = λ clean r holds. so r;
  in_order = λ clean limit r holds. tt;
}
