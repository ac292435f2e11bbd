-- The number of rows in the tables.
use Rattle.std.specs.Prelude.{◌≡◌, ℕ, length}
use Rattle.desk_store.specs.declared.looks.Counts.{Counts}
use Rattle.desk_rows.specs.Rows.{Rows}

abbrev pub AreCountsIn : Rows → Counts → Type 0
AreCountsIn r v = (v.sessions ≡ length r.sessions) × (v.uplinks ≡ length r.uplinks) × (v.bookings ≡ length r.bookings)

-- the number of messages that were heard, and the numbers of sessions, uplinks and bookings
abbrev pub AreRowsCounted : Rows → ℕ × Counts → Type 0
AreRowsCounted r told = (told.0 ≡ length r.replies) × AreCountsIn r told.1
