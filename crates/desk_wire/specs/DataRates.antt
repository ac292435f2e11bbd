-- The numbers of data rates.
use Rattle.std.specs.Prelude.{ℕ, [], ◌∷◌, Option, ◌==◌, find}
use Rattle.radio_core.specs.DataRates.{dr_number}
use Rattle.radio_core.specs.declared.data_rates.DataRate.{DataRate}
use Rattle.radio_core.specs.declared.data_rates.DataRate.TheVariants.{Dr0, Dr1, Dr2, Dr3, Dr4, Dr5, Dr6, Dr7}

-- the data rate with this number
abbrev pub data_rate_numbered : ℕ → Option DataRate
data_rate_numbered n = find (λ dr. dr_number dr == n) (Dr0 ∷ Dr1 ∷ Dr2 ∷ Dr3 ∷ Dr4 ∷ Dr5 ∷ Dr6 ∷ Dr7 ∷ [])
