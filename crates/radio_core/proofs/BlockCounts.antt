-- The quotient rounded up is the least number of blocks, and so time on air has a bound.
use Rattle.std.proofs.Common.{◌≢◌, ℕ, Bool, true, false, refl, arith}
use Rattle.radio_core.specs.declared.data_rates.DataRate.{DataRate}
use Rattle.radio_core.specs.declared.data_rates.DataRate.TheVariants.{Dr0, Dr1, Dr2, Dr3, Dr4, Dr5, Dr6, Dr7}
use Rattle.radio_core.specs.TimeOnAir.{IsBlockCount, block_count, airtime_of, AirtimeIsComputed, AirtimeIsBounded}

least_blocks : (dr : DataRate) (n : ℕ) (crc : Bool) → dr ≢ Dr7 → IsBlockCount dr n crc (block_count dr n crc)
least_blocks Dr0 n true lora = record { fits = omega arith; least = λ k h. omega (arith, h) }
least_blocks Dr0 n false lora = record { fits = omega arith; least = λ k h. omega (arith, h) }
least_blocks Dr1 n true lora = record { fits = omega arith; least = λ k h. omega (arith, h) }
least_blocks Dr1 n false lora = record { fits = omega arith; least = λ k h. omega (arith, h) }
least_blocks Dr2 n true lora = record { fits = omega arith; least = λ k h. omega (arith, h) }
least_blocks Dr2 n false lora = record { fits = omega arith; least = λ k h. omega (arith, h) }
least_blocks Dr3 n true lora = record { fits = omega arith; least = λ k h. omega (arith, h) }
least_blocks Dr3 n false lora = record { fits = omega arith; least = λ k h. omega (arith, h) }
least_blocks Dr4 n true lora = record { fits = omega arith; least = λ k h. omega (arith, h) }
least_blocks Dr4 n false lora = record { fits = omega arith; least = λ k h. omega (arith, h) }
least_blocks Dr5 n true lora = record { fits = omega arith; least = λ k h. omega (arith, h) }
least_blocks Dr5 n false lora = record { fits = omega arith; least = λ k h. omega (arith, h) }
least_blocks Dr6 n true lora = record { fits = omega arith; least = λ k h. omega (arith, h) }
least_blocks Dr6 n false lora = record { fits = omega arith; least = λ k h. omega (arith, h) }
least_blocks Dr7 n crc lora = absurd (lora refl)

pub airtime_is_computed : AirtimeIsComputed
unfolding airtime_of
airtime_is_computed Dr7 n crc = refl
airtime_is_computed Dr0 n crc = (block_count Dr0 n crc, least_blocks Dr0 n crc (λ e. cc), refl)
airtime_is_computed Dr1 n crc = (block_count Dr1 n crc, least_blocks Dr1 n crc (λ e. cc), refl)
airtime_is_computed Dr2 n crc = (block_count Dr2 n crc, least_blocks Dr2 n crc (λ e. cc), refl)
airtime_is_computed Dr3 n crc = (block_count Dr3 n crc, least_blocks Dr3 n crc (λ e. cc), refl)
airtime_is_computed Dr4 n crc = (block_count Dr4 n crc, least_blocks Dr4 n crc (λ e. cc), refl)
airtime_is_computed Dr5 n crc = (block_count Dr5 n crc, least_blocks Dr5 n crc (λ e. cc), refl)
airtime_is_computed Dr6 n crc = (block_count Dr6 n crc, least_blocks Dr6 n crc (λ e. cc), refl)

pub airtime_is_bounded : AirtimeIsBounded
unfolding airtime_of
airtime_is_bounded Dr0 n true h = omega (arith, h)
airtime_is_bounded Dr0 n false h = omega (arith, h)
airtime_is_bounded Dr1 n true h = omega (arith, h)
airtime_is_bounded Dr1 n false h = omega (arith, h)
airtime_is_bounded Dr2 n true h = omega (arith, h)
airtime_is_bounded Dr2 n false h = omega (arith, h)
airtime_is_bounded Dr3 n true h = omega (arith, h)
airtime_is_bounded Dr3 n false h = omega (arith, h)
airtime_is_bounded Dr4 n true h = omega (arith, h)
airtime_is_bounded Dr4 n false h = omega (arith, h)
airtime_is_bounded Dr5 n true h = omega (arith, h)
airtime_is_bounded Dr5 n false h = omega (arith, h)
airtime_is_bounded Dr6 n true h = omega (arith, h)
airtime_is_bounded Dr6 n false h = omega (arith, h)
airtime_is_bounded Dr7 n crc h = omega (arith, h)
