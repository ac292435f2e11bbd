-- How long a new interval may be.
use Rattle.std.specs.Prelude.{◌≡◌, ◌≤◌, ◌<◌, ◌↔◌, ℕ, ℤ, List, ◌++◌, ◌∷◌, []}
use Rattle.duty_core.specs.Use.{Interval, EveryHourWithin, IsClear}

-- n microseconds from the start share none with an interval of `all`, and with them every hour of the band is within the limit
pub record HasRoom (all of_band : List Interval) (start : ℤ) (limit n : ℕ) : Type 0 where
  pub clear : IsClear all (record { start = start; len = n })
  pub hours : EveryHourWithin (of_band ++ record { start = start; len = n } ∷ []) limit

-- of the lengths from 1 to `most`, exactly those up to r have room; so r is the greatest of them, or 0 if none has room
pub record IsRoom (all of_band : List Interval) (start : ℤ) (limit most r : ℕ) : Type 0 where
  pub within : r ≤ most
  pub exact : (n : ℕ) → 0 < n → n ≤ most → (n ≤ r) ↔ HasRoom all of_band start limit n

-- a shorter interval has room if a longer one has
abbrev pub ShorterHasRoom : Type 0
ShorterHasRoom = (all of_band : List Interval) (start : ℤ) (limit m n : ℕ) → m ≤ n
    → HasRoom all of_band start limit n → HasRoom all of_band start limit m

-- there is one greatest length
abbrev pub RoomIsUnique : Type 0
RoomIsUnique = (all of_band : List Interval) (start : ℤ) (limit most r s : ℕ)
    → IsRoom all of_band start limit most r → IsRoom all of_band start limit most s → r ≡ s
