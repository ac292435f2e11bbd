-- How the fields of a record are read, and how far the records of a report are read.
use Rattle.std.specs.Prelude.{◌≡◌, ℕ, ◌^◌, List, [], Option, Some, None}
use Rattle.std.proofs.Common.{Bor}
use Rattle.csv.specs.Reading.{Ready, default_config, reader_config, reader_state, reader_trim, records_from, source_of}
use Rattle.csv.specs.Records.{field_at}
use Rattle.csv.specs.declared.parser.State.{State}
use Rattle.csv.specs.declared.reader.Reader.{Reader}
use Rattle.csv.specs.declared.reader.Trim.TheVariants as trim
use Rattle.radio_core.specs.declared.data_rates.DataRate.{DataRate}
use Rattle.radio_core.specs.Names.{is_name}
use Rattle.registry_core.specs.JsonIntegers.{json_integer_limit}
use Rattle.desk_wire.specs.Decimals.{decimal_below, decimal_in}
use Rattle.desk_wire.specs.DataRates.{data_rate_numbered}
use Rattle.desk_wire.specs.Hexadecimal.{octets_in}
use Rattle.desk_wire.specs.Optional.{◌>>=◌, only_if}

-- ---- the field at this place, from 0, in its form

abbrev pub name_field : ℕ → List (List ℕ) → Option (List ℕ)
name_field place fields = field_at fields place >>= only_if is_name

abbrev pub json_integer_field : ℕ → List (List ℕ) → Option ℕ
json_integer_field place fields = field_at fields place >>= decimal_below json_integer_limit

abbrev pub u32_field : ℕ → List (List ℕ) → Option ℕ
u32_field place fields = field_at fields place >>= decimal_below (2 ^ 32)

abbrev pub data_rate_field : ℕ → List (List ℕ) → Option DataRate
data_rate_field place fields = field_at fields place >>= decimal_in >>= data_rate_numbered

abbrev pub octets_field : ℕ → List (List ℕ) → Option (List ℕ)
octets_field place fields = field_at fields place >>= octets_in

-- ---- the records

-- the octets of a slice are known
abbrev pub octets_known : Bor (List ℕ) → Option (List ℕ)
octets_known text = Some text.now

-- the next n records of these octets, or fewer
abbrev pub next_records : ℕ → State → Option (List ℕ) → List (List (List ℕ))
next_records n state None = []
next_records n state (Some octets) = records_from default_config n state octets

abbrev pub rows_left : ℕ → Reader (Bor (List ℕ)) → List (List (List ℕ))
rows_left n rows = next_records n (reader_state rows) (source_of octets_known rows)

-- a reader at the start of a record, by csv's defaults, whose octets are known
pub record IsReading (rows : Reader (Bor (List ℕ))) : Type 0 where
  pub config : reader_config rows ≡ default_config
  pub trim : reader_trim rows ≡ trim.None
  pub ready : Ready rows
  pub known : (octets : List ℕ) × (source_of octets_known rows ≡ Some octets)
