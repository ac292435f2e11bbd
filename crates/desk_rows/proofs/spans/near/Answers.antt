-- The bounds that the statement compares with, as signed numbers, are those of the near range around the start.
use Rattle.std.proofs.Common.{◌≡◌, pos, rules}
use Rattle.sqlite_value.specs.Value.{owned}
use Rattle.sqlite_value.specs.declared.value.Value.TheVariants.{Int}
use Rattle.duty_core.specs.Near.{is_near, starts_between}
use Rattle.duty_core.specs.Range.{IsStart}
use Rattle.duty_core.specs.Use.{Interval}
use Rattle.desk_rows.proofs.SpanQueries.{reads_near}
use Rattle.desk_rows.proofs.spans.near.Goals as goal

pub returns : goal.returns
returns g c =
    let range = c.near_range-range.result in
    let near : (a : Interval) → IsStart a.start → is_near (pos c.args.start) a ≡ starts_between range.after range.before a = search rules in
    let after : owned c.integer.result ≡ Int range.after = search rules in
    let before : owned c.integer-2.result ≡ Int range.before = search rules in
    reads_near c.near_text.ensures c.args.gateway.now range.after range.before (pos c.args.start) near (rw (c.text.ensures.same, after, before) at c.find_all.ensures)
