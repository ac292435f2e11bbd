-- Message by message of the part: one that the other desk has heard gets its first answer, a new one the same decision.
use Rattle.desk_engine.proofs.LogLines.{log_is_the_desk}
use Rattle.desk_engine.proofs.laws.log_is_the_desk.Goals as goal

pub returns : goal.returns
returns c = log_is_the_desk c.first_answers_stay.ensures.first c.first_answers_stay.ensures.new c.message_reads_back.ensures c.messages_fit.ensures
