-- The gateway's rows in the band that aren't dropped, ordered by start and then by number, give the spans.
use Rattle.desk_rows.proofs.SpanQueries.{reads_band}
use Rattle.desk_rows.proofs.spans.bookings_of.Goals as goal

pub returns : goal.returns
returns g c = reads_band c.bookings_text.ensures c.args.gateway.now c.args.of (rw (c.text.ensures.same, c.band.ensures) at c.find_all.ensures)
