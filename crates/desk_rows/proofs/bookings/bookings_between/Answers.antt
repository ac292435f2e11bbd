-- The gateway's rows from one start to another, dropped ones too, give their numbers by start; both bounds are bound as integers.
use Rattle.std.proofs.Common.{◌≡◌, rules}
use Rattle.sqlite_value.specs.Value.{owned}
use Rattle.sqlite_value.specs.declared.value.Value.TheVariants.{Int}
use Rattle.desk_rows.proofs.SpanQueries.{reads_between}
use Rattle.desk_rows.proofs.bookings.bookings_between.Goals as goal

pub returns : goal.returns
returns g c =
    let from : owned c.integer.result ≡ Int c.args.from = search rules in
    let to : owned c.integer-2.result ≡ Int c.args.to = search rules in
    reads_between c.between_text.ensures c.args.gateway.now c.args.from c.args.to (rw (c.text.ensures.same, from, to) at c.find_all.ensures)
