-- Time on air in microseconds: of LoRa by Semtech's formula (AN1200.13), with 8 preamble symbols, an explicit header
-- and coding rate 4/5, as LoRaWAN has them; of FSK, at DR7, by its bits.
use Rattle.std.specs.Prelude.{◌≡◌, ℕ, ◌+◌, ◌-◌, ◌*◌, ◌/◌, ◌≤◌, Bool, if◌then◌else◌}
use Rattle.std.specs.Int.{div_ceil}
use Rattle.radio_core.specs.declared.data_rates.DataRate.{DataRate}
use Rattle.radio_core.specs.declared.data_rates.DataRate.TheVariants.{Dr0, Dr1, Dr7}
use Rattle.radio_core.specs.DataRates.{spreading_factor, symbol_time, max_length}

-- low data rate optimization, DE: at the two slowest data rates
abbrev pub low_rate : DataRate → ℕ
low_rate Dr0 = 1
low_rate Dr1 = 1
low_rate dr = 0

-- the bits of the payload's CRC
abbrev pub crc_bits : Bool → ℕ
crc_bits crc = if crc then 16 else 0

-- the number of bits in a block of 5 symbols at coding rate 4/5: those of 4 symbols, each of SF - 2 DE bits
abbrev pub bits_of_block : DataRate → ℕ
bits_of_block dr = 4 * (spreading_factor dr - 2 * low_rate dr)

-- n octets, the header and the CRC fit in this many blocks: 4 (SF - 2 DE) blocks ≥ 8 n - 4 SF + 28 + 16 CRC
abbrev pub FitsBlocks : DataRate → ℕ → Bool → ℕ → Type 0
FitsBlocks dr n crc blocks = 8 * n + 28 + crc_bits crc ≤ bits_of_block dr * blocks + 4 * spreading_factor dr

-- the least number of blocks in which they fit
pub record IsBlockCount (dr : DataRate) (n : ℕ) (crc : Bool) (blocks : ℕ) : Type 0 where
  pub fits : FitsBlocks dr n crc blocks
  pub least : (fewer : ℕ) → FitsBlocks dr n crc fewer → blocks ≤ fewer

-- 12.25 + 8 + 5 blocks symbols, counted in quarters of a symbol, each an integer of microseconds
abbrev pub time_of_blocks : DataRate → ℕ → ℕ
time_of_blocks dr blocks = (81 + 20 * blocks) * (symbol_time dr / 4)

-- n octets of FSK at 50 kbit/s (this project's profile), for uplinks and downlinks: 5 octets of preamble and 3 of sync word, 1 of length,
-- the n, 2 of CRC; a bit takes 20 microseconds
abbrev pub fsk_time : ℕ → ℕ
fsk_time n = 20 * 8 * (5 + 3 + 1 + n + 2)

-- the time on air of n octets; nothing in it is rounded
abbrev pub IsAirtime : DataRate → ℕ → Bool → ℕ → Type 0
IsAirtime Dr7 n crc time = time ≡ fsk_time n
IsAirtime dr n crc time = (blocks : ℕ) × IsBlockCount dr n crc blocks × (time ≡ time_of_blocks dr blocks)

-- ---- the same in forms that compute

-- the quotient rounded up, and 0 where it would be negative
abbrev pub block_count : DataRate → ℕ → Bool → ℕ
block_count dr n crc = div_ceil (8 * n + 28 + crc_bits crc - 4 * spreading_factor dr) (bits_of_block dr)

unfoldable pub airtime_of : DataRate → ℕ → Bool → ℕ
airtime_of Dr7 n crc = fsk_time n
airtime_of dr n crc = time_of_blocks dr (block_count dr n crc)

-- the quotient rounded up is the least number of blocks
abbrev pub AirtimeIsComputed : Type 0
AirtimeIsComputed = (dr : DataRate) (n : ℕ) (crc : Bool) → IsAirtime dr n crc (airtime_of dr n crc)

-- no length that a data rate allows takes longer than 64 octets at DR0
abbrev pub AirtimeIsBounded : Type 0
AirtimeIsBounded = (dr : DataRate) (n : ℕ) (crc : Bool) → n ≤ max_length dr → airtime_of dr n crc ≤ 2793472
