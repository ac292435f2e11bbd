-- A row comes back exactly if a booking that isn't dropped names the uplink.
use Rattle.desk_rows.proofs.AnsweredUplinks.{reads_answer}
use Rattle.desk_rows.proofs.bookings.is_answered.Goals as goal

pub returns : goal.returns
returns g c = reads_answer c.answer_text.ensures c.args.uplink (rw (c.json_integer.ensures.same) at c.is_found.ensures)
