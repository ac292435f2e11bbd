-- Look-ups one after another are one look-up, and statements that write one after another make one change.
use Rattle.std.proofs.Common.{◌≡◌, true, Result, Ok, Err, IfOk, IfErr, OnOk, refl, arith, sym, ap, subst, ◌∙◌}
use Rattle.std.specs.Result.{is_ok, IsErrAnd}
use Rattle.std.proofs.lemmas.Result.{err_from_is_err_and}
use Rattle.sqlite_schema.specs.declared.schema.Schema.{Schema}
use Rattle.sqlite.specs.Effect.{Database}
use Rattle.sqlite.specs.State.{State, HasCleanDisk}
use Rattle.desk_rows.specs.Calls.{ChangesOf, ReadsOf}
use Rattle.desk_rows.specs.Faults.{IsEven}
use Rattle.desk_rows.specs.Schema.{desk_schema}
use Rattle.desk_rows.specs.Rows.{Rows, Holds}
use Rattle.desk_rows.specs.declared.faults.RowFault.{RowFault}
use Rattle.desk_rows.specs.CallLaws.{reads_then, read_weaker, writes_then}
use Rattle.desk_tables.specs.steps.Calls.{Asks, AsksOf, IsInside, Makes}

-- ---- look-ups

pub has_schema : (db : Database) (r : Rows) → Holds db r → db.schema ≡ desk_schema
has_schema db r has = has.ten.schema

-- one look-up
pub asks_one : {desk : Schema} {Have : Database → Rows → Type 0} {X : Type 0} {old new : State} {result : Result X RowFault} {Says : Rows → X → Type 0}
    → ReadsOf desk Have old new result Says → AsksOf desk Have old new result (λ _. Unit {0}) (λ _. Unit {0}) Says
asks_one h = record {
  read = h.read;
  told = λ clean up r has _. h.told clean r has;
  in_order = λ clean up unlimited r has _ _. h.in_order clean unlimited r has;
}

-- what was read is judged without a look-up
pub asks_as : {desk : Schema} {Have : Database → Rows → Type 0} {X Y : Type 0} {old new : State} {x : X} {Was Early Of May : Rows → Type 0} {Said : Rows → X → Type 0}
    {Says : Rows → Y → Type 0} (result : Result Y RowFault) → AsksOf desk Have old new (Ok x) Was Early Said → ((r : Rows) → Of r → Was r)
    → ((r : Rows) → Of r → Said r x → IfOk result (Says r)) → ((r : Rows) → Of r → May r → Said r x → IfErr result IsEven) → AsksOf desk Have old new result Of May Says
asks_as {old = old} {new = new} result h was says even = record {
  read = read_weaker old new true (is_ok result) (λ _. refl) h.read;
  told = λ clean up r has of. says r of (h.told clean up r has (was r of));
  in_order = λ clean up unlimited r has of may. even r of may (h.told clean up r has (was r of));
}

ok_then : {X : Type 0} (result : Result X RowFault) (P Q : X → Type 0) → ((x : X) → P x → Q x) → IfOk result P → IfOk result Q
ok_then (Ok x) P Q f h = f x h
ok_then (Err e) P Q f h = tt

-- another look-up after one
pub asks_then_of : {desk : Schema} {Have : Database → Rows → Type 0} (schema : (db : Database) (r : Rows) → Have db r → db.schema ≡ desk) {X Y : Type 0} {a b c : State} {x : X}
    {result : Result Y RowFault} {First Early Second Late Of May : Rows → Type 0} {Said : Rows → X → Type 0} {Told Says : Rows → Y → Type 0}
    → AsksOf desk Have a b (Ok x) First Early Said → AsksOf desk Have b c result Second Late Told → ((r : Rows) → Of r → First r) → ((r : Rows) → Of r → Said r x → Second r)
    → ((r : Rows) → Of r → May r → Said r x → Late r) → ((r : Rows) → Of r → Said r x → (y : Y) → Told r y → Says r y) → AsksOf desk Have a c result Of May Says
asks_then_of {Have = Have} schema {a = a} {b = b} {c = c} {result = result} {Told = Told} {Says = Says} one two first second late says =
    let early = λ (clean : HasCleanDisk c). let e : HasCleanDisk b = omega (arith, two.read.clean, clean) in e in
    record {
      read = reads_then a b c (is_ok result) one.read two.read;
      told = λ clean up r has of.
          let same = (one.read.leaves (schema a.now r has) up (early clean)).0 in
          let said = one.told (early clean) up r has (first r of) in
          ok_then result (Told r) (Says r) (says r of said) (two.told clean same.is_open r (subst (λ d. Have d r) (sym same.now_is) has) (second r of said));
      in_order = λ clean up unlimited r has of may.
          let same = (one.read.leaves (schema a.now r has) up (early clean)).0 in
          let said = one.told (early clean) up r has (first r of) in
          let limit = (one.read.survives (schema a.now r has) up (early clean)).limit in
          two.in_order clean same.is_open (limit ∙ unlimited) r (subst (λ d. Have d r) (sym same.now_is) has) (second r of said) (late r of may said);
    }

pub asks_then : {X Y : Type 0} {a b c : State} {x : X} {result : Result Y RowFault} {First Early Second Late Of May : Rows → Type 0}
    {Said : Rows → X → Type 0} {Told Says : Rows → Y → Type 0}
    → Asks a b (Ok x) First Early Said → Asks b c result Second Late Told → ((r : Rows) → Of r → First r) → ((r : Rows) → Of r → Said r x → Second r)
    → ((r : Rows) → Of r → May r → Said r x → Late r) → ((r : Rows) → Of r → Said r x → (y : Y) → Told r y → Says r y) → Asks a c result Of May Says
asks_then = asks_then_of has_schema

-- what two look-ups in a row returned
pub asks_also_of : {desk : Schema} {Have : Database → Rows → Type 0} (schema : (db : Database) (r : Rows) → Have db r → db.schema ≡ desk) {X Y : Type 0} {a b c : State} {x : X}
    {result : Result Y RowFault} {Said : Rows → X → Type 0} {Told : Rows → Y → Type 0}
    → AsksOf desk Have a b (Ok x) (λ _. Unit {0}) (λ _. Unit {0}) Said → AsksOf desk Have b c result (λ _. Unit {0}) (λ _. Unit {0}) Told
    → AsksOf desk Have a c result (λ _. Unit {0}) (λ _. Unit {0}) (λ r y. Said r x × Told r y)
asks_also_of schema one two = asks_then_of schema one two (λ r of. of) (λ r of said. of) (λ r of may said. may) (λ r of said y told. (said, told))

pub asks_also : {X Y : Type 0} {a b c : State} {x : X} {result : Result Y RowFault} {Said : Rows → X → Type 0} {Told : Rows → Y → Type 0}
    → Asks a b (Ok x) (λ _. Unit {0}) (λ _. Unit {0}) Said → Asks b c result (λ _. Unit {0}) (λ _. Unit {0}) Told
    → Asks a c result (λ _. Unit {0}) (λ _. Unit {0}) (λ r y. Said r x × Told r y)
asks_also = asks_also_of has_schema

-- ---- statements that write

-- one statement
pub makes_one : {X : Type 0} {old new : State} {result : Result X RowFault} {InRange : Type 0} {Early Of May : Rows → Type 0} {change after : Rows → Rows}
    → ChangesOf old new result InRange Early change → ((r : Rows) → Of r → InRange) → ((r : Rows) → Of r → May r → Early r)
    → ((r : Rows) → Of r → change r ≡ after r) → Makes old new result Of May after
makes_one {new = new} {result = result} {change = change} {after = after} h in_range then same = record {
  write = h.write;
  schema = λ clean inside has. h.schema clean inside.within has;
  made = λ clean inside r has of. subst (λ rows. OnOk result (Holds new.now rows)) (same r of) (h.made clean inside.within (in_range r of) r has);
  in_order = λ clean inside unlimited r has of may. h.in_order clean inside.within unlimited (in_range r of) r has (then r of may);
}

-- what the exit of a `?` returns
pub failed_with : {X : Type 0} {fault : RowFault} (result : Result X RowFault) → IsErrAnd result (λ told. told ≡ fault) → result ≡ Err fault
failed_with {X = X} result h = let p = err_from_is_err_and result h in p.1 ∙ ap (λ (e : RowFault). let told : Result X RowFault = Err e in told) p.2

-- a statement that failed is the last
pub makes_failed : {X Y : Type 0} {old new : State} {fault : RowFault} {result : Result Y RowFault} {Was Early Of May : Rows → Type 0}
    {change after : Rows → Rows}
    → result ≡ Err fault → Makes {X = X} old new (Err fault) Was Early change → ((r : Rows) → Of r → Was r) → ((r : Rows) → Of r → May r → Early r)
    → Makes old new result Of May after
makes_failed {Y = Y} {old = old} {new = new} {fault = fault} {Of = Of} {May = May} {after = after} failed h was then =
    let made : Makes {X = Y} old new (Err fault) Of May after = record {
      write = h.write;
      schema = λ clean inside has. tt;
      made = λ clean inside r has of. tt;
      in_order = λ clean inside unlimited r has of may. h.in_order clean inside unlimited r has (was r of) (then r of may);
    } in
    subst (λ (found : Result Y RowFault). Makes old new found Of May after) (sym failed) made

-- other statements after some
pub makes_then : {X Y : Type 0} {a b c : State} {x : X} {result : Result Y RowFault} {First Second Early Late Of May : Rows → Type 0}
    {change next after : Rows → Rows} → Makes a b (Ok x) First Early change → Makes b c result Second Late next
    → ((r : Rows) → Of r → First r) → ((r : Rows) → Of r → May r → Early r)
    → ((r : Rows) → Of r → Second (change r)) → ((r : Rows) → Of r → May r → Late (change r))
    → ((r : Rows) → Of r → next (change r) ≡ after r) → Makes a c result Of May after
makes_then {a = a} {b = b} {c = c} {result = result} {change = change} one two first early second late same =
    let sure = λ (clean : HasCleanDisk c). let e : HasCleanDisk b = omega (arith, two.write.survives.clean, clean) in e in
    let on = λ (clean : HasCleanDisk c) (inside : IsInside a). one.write.goes_on (sure clean) inside.within inside.is_open in
    let still = λ (clean : HasCleanDisk c) (inside : IsInside a).
    let e : IsInside b = record { within = (on clean inside).mode; is_open = (on clean inside).is_open } in e in
    record {
      write = writes_then a b c (is_ok result) one.write two.write;
      schema = λ clean inside has. two.schema clean (still clean inside) (one.schema (sure clean) inside has);
      made = λ clean inside r has of. subst (λ rows. OnOk result (Holds c.now rows)) (same r of)
          (two.made clean (still clean inside) (change r) (one.made (sure clean) inside r has (first r of)) (second r of));
      in_order = λ clean inside unlimited r has of may. two.in_order clean (still clean inside) (one.write.survives.limit ∙ unlimited) (change r)
          (one.made (sure clean) inside r has (first r of)) (second r of) (late r of may);
    }
