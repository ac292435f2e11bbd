-- The envelopes of a gateway's report in CSV (RFC 4180). Its columns are this project's.
use Rattle.std.specs.Prelude.{◌≡◌, ℕ, ◌+◌, ◌^◌, ◌-◌, ◌==◌, Bool, false, ◌&&◌, List, [], ◌∷◌, length, Option, Some, None, Result, Ok, Err, codes, nat_lt, option_map, slice_get, ⊤, if◌then◌else◌}
use Rattle.std.specs.Option.{option_map_or}
use Rattle.std.specs.Str.{bytes_eq}
use Rattle.csv.specs.Reading.{default_config, records_from, strip_bom}
use Rattle.csv.specs.Records.{field_at}
use Rattle.csv.specs.declared.parser.State.TheVariants.{StartRecord}
use Rattle.radio_core.specs.Names.{is_name}
use Rattle.registry_core.specs.declared.messages.Envelope.{Envelope}
use Rattle.registry_core.specs.declared.messages.Message.{Message}
use Rattle.registry_core.specs.declared.messages.Message.TheVariants.{JoinHeard, FrameHeard}
use Rattle.registry_core.specs.declared.messages.Report.{Report}
use Rattle.registry_core.specs.JsonIntegers.{json_integer_limit}
use Rattle.desk_wire.specs.DataRates.{data_rate_numbered}
use Rattle.desk_wire.specs.Decimals.{decimal_below, decimal_in}
use Rattle.desk_wire.specs.Hexadecimal.{octets_in}
use Rattle.desk_wire.specs.Optional.{◌>>=◌, only_if}
use Rattle.desk_wire.specs.Verdicts.{join_verdict_named}
use Rattle.desk_wire.specs.declared.csv_faults.CsvFault.{CsvFault}
use Rattle.desk_wire.specs.declared.csv_faults.CsvFault.TheVariants.{Size, Unended, Header, Record, Memory}

-- the greatest length of a report, in octets, and the greatest number of records after the header (this project's limits)
abbrev pub longest_report : ℕ
longest_report = 16777216

abbrev pub most_records : ℕ
most_records = 100000

-- ---- a field in its form

-- a counter, or none if the field is empty
abbrev pub counter_or_none : List ℕ → Option (Option ℕ)
counter_or_none [] = Some None
counter_or_none text = option_map Some (decimal_below (2 ^ 32) text)

-- ---- a record

-- the third to the seventh field: gateway, time, frequency, data rate, octets
unfoldable pub report_in : List (List ℕ) → Option Report
report_in fields = do
  gateway ← field_at fields 2 >>= only_if is_name
  time ← field_at fields 3 >>= decimal_below json_integer_limit
  freq ← field_at fields 4 >>= decimal_below (2 ^ 32)
  dr ← field_at fields 5 >>= decimal_in >>= data_rate_numbered
  octets ← field_at fields 6 >>= octets_in
  Some (record { gateway = gateway; time = time; rate = record { freq = freq; dr = dr }; octets = octets })

-- what was heard, by the type's name and the verdict
unfoldable pub heard_in : List ℕ → Report → List ℕ → Option Message
heard_in type_name report verdict =
    if bytes_eq type_name (codes "JoinHeard") then option_map (JoinHeard report) (join_verdict_named verdict)
    else if bytes_eq type_name (codes "FrameHeard") then option_map (FrameHeard report) (counter_or_none verdict)
    else None

-- the envelope that eight fields are
unfoldable pub envelope_in : List ℕ → List (List ℕ) → Option Envelope
envelope_in sender fields = do
  all ← only_if (λ fs. length fs == 8) fields
  transaction ← field_at all 0 >>= decimal_below (2 ^ 32)
  type_name ← field_at all 1
  report ← report_in all
  verdict ← field_at all 7
  message ← heard_in type_name report verdict
  Some (record { sender = sender; transaction = transaction; message = message })

-- ---- a report

-- the field at this place, from 0, is this text
abbrev pub has_field : ℕ → List ℕ → List (List ℕ) → Bool
has_field place text fields = option_map_or (λ field. bytes_eq field text) (field_at fields place) false

-- the first record: the eight fields' names, exactly
unfoldable pub is_header : List (List ℕ) → Bool
is_header fields =
    length fields == 8
    && has_field 0 (codes "transaction") fields
    && has_field 1 (codes "type") fields
    && has_field 2 (codes "gateway") fields
    && has_field 3 (codes "time_us") fields
    && has_field 4 (codes "freq_hz") fields
    && has_field 5 (codes "dr") fields
    && has_field 6 (codes "phy") fields
    && has_field 7 (codes "verdict") fields

-- an envelope before others
abbrev pub with_first : Envelope → Result (List Envelope) CsvFault → Result (List Envelope) CsvFault
with_first e (Ok es) = Ok (e ∷ es)
with_first e (Err fault) = Err fault

-- the envelope of record n and those after it; if the record isn't an envelope, that is the error
abbrev pub record_in : ℕ → Option Envelope → Result (List Envelope) CsvFault → Result (List Envelope) CsvFault
record_in n None rest = Err (Record n)
record_in n (Some e) rest = with_first e rest

-- the envelopes of the records from number n on, or the first error; the header is record 1, so a number above most_records + 1 is one too
-- many
unfoldable pub envelopes_from : List ℕ → ℕ → List (List (List ℕ)) → Result (List Envelope) CsvFault
envelopes_from sender n [] = Ok []
envelopes_from sender n (fields ∷ rest) =
    if nat_lt (most_records + 1) n then Err Size else record_in n (envelope_in sender fields) (envelopes_from sender (n + 1) rest)

-- the header is record 1
abbrev pub report_of_records : List ℕ → List (List (List ℕ)) → Result (List Envelope) CsvFault
report_of_records sender [] = Err Header
report_of_records sender (fields ∷ rest) = if is_header fields then envelopes_from sender 2 rest else Err Header

-- The records of a text, as the crate csv reads them: fields may be quoted, lines may be empty, and a byte order mark may come first. Only
-- the header, as many records as there may be, and one more are read.
abbrev pub records_of : List ℕ → List (List (List ℕ))
records_of text = records_from default_config (most_records + 2) StartRecord (strip_bom text)

abbrev pub is_line_feed : Option ℕ → Bool
is_line_feed None = false
is_line_feed (Some octet) = octet == 10

-- the last octet is LF
abbrev pub is_ended : List ℕ → Bool
is_ended text = is_line_feed (slice_get text (length text - 1))

-- the envelopes that a text is, each with this sender, or its first error
abbrev pub reads_report : List ℕ → List ℕ → Result (List Envelope) CsvFault
reads_report sender text =
    if nat_lt longest_report (length text) then Err Size
    else if is_ended text then report_of_records sender (records_of text)
    else Err Unended

-- ---- what a function returns

abbrev pub IsReportUnlessMemory : CsvFault → Result (List Envelope) CsvFault → Type 0
IsReportUnlessMemory Memory wanted = ⊤
IsReportUnlessMemory fault wanted = wanted ≡ Err fault
