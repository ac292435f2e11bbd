-- The ways out of the loop: no more records, a record out of form with its number, and one record too many.
use Rattle.std.proofs.Common.{ℕ, ◌≡◌, ◌≤◌, ◌∙◌, sym, arith}
use Rattle.csv.specs.Records.{fields_of}
use Rattle.desk_wire.specs.CsvReports.{envelopes_from}
use Rattle.desk_wire.specs.steps.CsvReports.{rows_left}
use Rattle.desk_wire.proofs.CsvRows.{loop_ends, loop_ends_full, loop_goes_on, loop_overflows, loop_refuses}
use Rattle.desk_wire.proofs.csv_reports.envelopes_of.Goals as goal

last : (n : ℕ) → n ≤ 100002 → 100002 ≤ n → n ≡ 100002
last n within past = omega (arith, within, past)

pub returns-then-not-branch-clause-ok : goal.returns-then-not-branch-clause-ok
returns-then-not-branch-clause-ok c = λ reading.
    let l = c.loop-number in
    let all = envelopes_from c.args.sender.now 2 (rows_left 100001 c.args.rows.now) in
    loop_ends c.args.sender.now l.envelopes.items l.number (λ n. rows_left n l.rows) all c.loop-number-test.true (l.invariant.left reading)
    (λ n. rw c.if-not-branch.true at (c.in_ok-next_row.ensures.left n (l.invariant.reading reading)))

pub returns-in_default-clause-err : goal.returns-in_default-clause-err
returns-in_default-clause-err c = λ reading.
    let l = c.loop-number in
    let after = c.next_row.new in
    let all = envelopes_from c.args.sender.now 2 (rows_left 100001 c.args.rows.now) in
    loop_refuses c.args.sender.now l.envelopes.items l.number (λ n. rows_left n l.rows) all (fields_of after.row) (λ n. rows_left n after.rows)
    c.loop-number-test.true (l.invariant.left reading) (λ n. rw c.if-not-branch.false at (c.in_ok-next_row.ensures.left n (l.invariant.reading reading)))
    (sym c.envelope_of.ensures ∙ c.in_default.is)

pub loop-number-preserved : goal.loop-number-preserved
loop-number-preserved c =
    let l = c.loop-number in
    let after = c.next_row.new in
    let all = envelopes_from c.args.sender.now 2 (rows_left 100001 c.args.rows.now) in
    record {
      begun = omega (arith, l.invariant.begun);
      within = omega (arith, c.loop-number-test.true);
      reading = λ reading. c.in_ok-next_row.ensures.reading (l.invariant.reading reading) c.if-not-branch.false;
      left = λ reading. rw c.in_ok-put_envelope.ensures.put
          (loop_goes_on c.args.sender.now l.envelopes.items l.number (λ n. rows_left n l.rows) all (fields_of after.row) (λ n. rows_left n after.rows)
          c.in-Some.envelope c.loop-number-test.true (l.invariant.left reading)
          (λ n. rw c.if-not-branch.false at (c.in_ok-next_row.ensures.left n (l.invariant.reading reading))) (sym c.envelope_of.ensures ∙ c.in-Some.is));
    }

pub returns-then-branch-clause-err : goal.returns-then-branch-clause-err
returns-then-branch-clause-err c = λ reading.
    let l = c.loop-number in
    let after = c.next_row-2.new in
    let all = envelopes_from c.args.sender.now 2 (rows_left 100001 c.args.rows.now) in
    loop_overflows c.args.sender.now l.envelopes.items l.number (λ n. rows_left n l.rows) all (fields_of after.row) (λ n. rows_left n after.rows)
    (last _ l.invariant.within c.loop-number-test.false) (l.invariant.left reading)
    (λ n. rw c.if-branch.true at (c.in_ok-next_row-2.ensures.left n (l.invariant.reading reading)))

pub returns-else-branch-clause-ok : goal.returns-else-branch-clause-ok
returns-else-branch-clause-ok c = λ reading.
    let l = c.loop-number in
    let all = envelopes_from c.args.sender.now 2 (rows_left 100001 c.args.rows.now) in
    loop_ends_full c.args.sender.now l.envelopes.items l.number (λ n. rows_left n l.rows) all (last _ l.invariant.within c.loop-number-test.false)
    (l.invariant.left reading) (λ n. rw c.if-branch.false at (c.in_ok-next_row-2.ensures.left n (l.invariant.reading reading)))
