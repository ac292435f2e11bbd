-- A part of the log that a store was asked for, printed.
use Rattle.std.proofs.Common.{ℕ, List, [], Option, Result, Ok, Err, refl}
use Rattle.std.proofs.KnownBytes.{Appends-nil}
use Rattle.desk_cli.proofs.Opened.{err}
use Rattle.desk_cli.specs.commands.Log.{LogsBy}
use Rattle.desk_cli.specs.declared.faults.Fault.{Fault}
use Rattle.desk_cli.specs.declared.faults.Fault.TheVariants.{Exists, NotADesk, Schema, Owner, Gateway, Device, Month, Time, CsvSize, CsvEnd, CsvHeader, CsvRecord, Differs, Unavailable, File, Network}

module _ (lines : List (List ℕ)) where
  -- a statement about a store is true of the file that it is in
  pub carried : {Kept Stands Left Stays : Type 0} → (Kept → Stands) → (Left → Stays) → (before after : Option (List ℕ)) → {T : Type 0} → (r : Result T Fault)
      → LogsBy lines Kept Left before after r → LogsBy lines Stands Stays before after r
  carried kept left before after (Ok x) by = (by.0, kept by.1)
  carried kept left before after (Err File) by = (by.0, kept by.1)
  carried kept left before after (Err Unavailable) by = (by.0, left by.1)
  carried kept left before after (Err Exists) by = absurd by
  carried kept left before after (Err NotADesk) by = absurd by
  carried kept left before after (Err Schema) by = absurd by
  carried kept left before after (Err Owner) by = absurd by
  carried kept left before after (Err Gateway) by = absurd by
  carried kept left before after (Err Device) by = absurd by
  carried kept left before after (Err Month) by = absurd by
  carried kept left before after (Err Time) by = absurd by
  carried kept left before after (Err CsvSize) by = absurd by
  carried kept left before after (Err CsvEnd) by = absurd by
  carried kept left before after (Err CsvHeader) by = absurd by
  carried kept left before after (Err (CsvRecord n)) by = absurd by
  carried kept left before after (Err (Differs place)) by = absurd by
  carried kept left before after (Err Network) by = absurd by

  -- where the desk couldn't be opened, nothing is printed
  pub logs_unopened : (Kept Left : Type 0) (before : Option (List ℕ)) → Left → LogsBy lines Kept Left before before (err {T = Unit {0}} Unavailable)
  logs_unopened Kept Left before left = (record { done = []; more = lines; lines_are = refl; written = Appends-nil before }, left)
