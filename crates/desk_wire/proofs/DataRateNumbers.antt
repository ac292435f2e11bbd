-- Each data rate is found by its own number, which is below 8.
use Rattle.std.proofs.Common.{◌≡◌, ◌<◌, Some, refl, arith}
use Rattle.radio_core.specs.DataRates.{dr_number}
use Rattle.radio_core.specs.declared.data_rates.DataRate.{DataRate}
use Rattle.radio_core.specs.declared.data_rates.DataRate.TheVariants.{Dr0, Dr1, Dr2, Dr3, Dr4, Dr5, Dr6, Dr7}
use Rattle.desk_wire.specs.DataRates.{data_rate_numbered}

pub data_rate_numbered-dr_number : (dr : DataRate) → data_rate_numbered (dr_number dr) ≡ Some dr
data_rate_numbered-dr_number Dr0 = refl
data_rate_numbered-dr_number Dr1 = refl
data_rate_numbered-dr_number Dr2 = refl
data_rate_numbered-dr_number Dr3 = refl
data_rate_numbered-dr_number Dr4 = refl
data_rate_numbered-dr_number Dr5 = refl
data_rate_numbered-dr_number Dr6 = refl
data_rate_numbered-dr_number Dr7 = refl

pub dr_number-fits : (dr : DataRate) → dr_number dr < 8
dr_number-fits Dr0 = omega arith
dr_number-fits Dr1 = omega arith
dr_number-fits Dr2 = omega arith
dr_number-fits Dr3 = omega arith
dr_number-fits Dr4 = omega arith
dr_number-fits Dr5 = omega arith
dr_number-fits Dr6 = omega arith
dr_number-fits Dr7 = omega arith
