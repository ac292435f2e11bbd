-- The loop of `table`: the texts of the items so far are written.
use Rattle.std.proofs.Common.{◌≡◌, None, take}
use Rattle.std.specs.String.{string_bytes}
use Rattle.desk_store.specs.Calls.{ForHeld, IsRead}
use Rattle.desk_engine.specs.Listing.{table_text}
use Rattle.desk_engine.proofs.tables.table.Given as goal

abbrev pub invariant-loop-item : goal.invariant-loop-item
invariant-loop-item g l = record {
  read : IsRead g.K.Looks.meaning l.fn.keeper l.keeper None;
  told : ForHeld g.K.Looks.meaning l.fn.keeper l.keeper (λ kept.
      string_bytes l.text ≡ table_text l.header (g.W.TextOf.written l.writer (g.K.Looks.meaning.configuration l.fn.keeper) kept) (take l.item-index l.items));
}
