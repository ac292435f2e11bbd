-- Rows that a database represents can be computed from it, so two lists of rows for one database are equal.
use Rattle.std.proofs.Common.{◌∙◌, sym}
use Rattle.desk_rows.specs.Decode.{held_again}
use Rattle.desk_rows.proofs.laws.rows_are_unique.Goals as goal

pub returns : goal.returns
returns c db a b has also = held_again db a has ∙ sym (held_again db b also)
