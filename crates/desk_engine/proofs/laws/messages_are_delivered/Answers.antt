-- The text of a message is read back as its envelope, and no text is longer than a delivery may be.
use Rattle.desk_engine.proofs.OwnTexts.{messages_are_delivered}
use Rattle.desk_engine.proofs.laws.messages_are_delivered.Goals as goal

pub returns : goal.returns
returns c = messages_are_delivered c.message_reads_back.ensures c.messages_fit.ensures
