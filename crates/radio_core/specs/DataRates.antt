-- The data rates of EU863-870: LoRa up to DR6, and FSK at DR7. Lengths in octets, times in microseconds, widths in hertz.
use Rattle.std.specs.Prelude.{ℕ}
use Rattle.radio_core.specs.declared.data_rates.DataRate.{DataRate}
use Rattle.radio_core.specs.declared.data_rates.DataRate.TheVariants.{Dr0, Dr1, Dr2, Dr3, Dr4, Dr5, Dr6, Dr7}

-- the data rate's number (RP002-1.0.4, EU863-870)
abbrev pub dr_number : DataRate → ℕ
dr_number Dr0 = 0
dr_number Dr1 = 1
dr_number Dr2 = 2
dr_number Dr3 = 3
dr_number Dr4 = 4
dr_number Dr5 = 5
dr_number Dr6 = 6
dr_number Dr7 = 7

-- the spreading factor (RP002-1.0.4, EU863-870); FSK has none
abbrev pub spreading_factor : DataRate → ℕ
spreading_factor Dr0 = 12
spreading_factor Dr1 = 11
spreading_factor Dr2 = 10
spreading_factor Dr3 = 9
spreading_factor Dr4 = 8
spreading_factor Dr5 = 7
spreading_factor Dr6 = 7
spreading_factor Dr7 = 0

-- half the bandwidth: 125 kHz up to DR5, 250 kHz at DR6 (RP002-1.0.4, EU863-870), and 125 kHz at DR7 (this project's)
abbrev pub half_width : DataRate → ℕ
half_width Dr0 = 62500
half_width Dr1 = 62500
half_width Dr2 = 62500
half_width Dr3 = 62500
half_width Dr4 = 62500
half_width Dr5 = 62500
half_width Dr6 = 125000
half_width Dr7 = 62500

-- one LoRa symbol: 2 ^ SF / bandwidth (Semtech AN1200.13); FSK has none
abbrev pub symbol_time : DataRate → ℕ
symbol_time Dr0 = 32768
symbol_time Dr1 = 16384
symbol_time Dr2 = 8192
symbol_time Dr3 = 4096
symbol_time Dr4 = 2048
symbol_time Dr5 = 1024
symbol_time Dr6 = 512
symbol_time Dr7 = 0

-- the greatest PHYPayload (this project's table)
abbrev pub max_length : DataRate → ℕ
max_length Dr0 = 64
max_length Dr1 = 64
max_length Dr2 = 64
max_length Dr3 = 128
max_length Dr4 = 255
max_length Dr5 = 255
max_length Dr6 = 255
max_length Dr7 = 255
