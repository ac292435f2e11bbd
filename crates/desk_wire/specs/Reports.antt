-- What a gateway reports of a frame: which report the members are, and the members of a report.
use Rattle.std.specs.Prelude.{◌^◌, Option, Some, codes}
use Rattle.serde_json.specs.Data.{Data}
use Rattle.radio_core.specs.declared.data_rates.Rate.{Rate}
use Rattle.registry_core.specs.declared.messages.Report.{Report}
use Rattle.registry_core.specs.JsonIntegers.{json_integer_limit}
use Rattle.desk_wire.specs.Members.{name_at, json_integer_at, data_rate_at, octets_at}
use Rattle.desk_wire.specs.Optional.{◌>>=◌}

-- ---- reading

-- the frequency in hertz, and the data rate
unfoldable pub rate_of : Data → Option Rate
rate_of value = do
  freq ← json_integer_at (codes "Freq") (2 ^ 32) value
  dr ← data_rate_at (codes "DataRate") value
  Some (record { freq = freq; dr = dr })

-- the time is 0 to 9,007,199,254,740,991 microseconds
unfoldable pub report_of : Data → Option Report
report_of value = do
  gateway ← name_at (codes "Gateway") value
  time ← json_integer_at (codes "Time") json_integer_limit value
  rate ← rate_of value
  octets ← octets_at (codes "PHYPayload") value
  Some (record { gateway = gateway; time = time; rate = rate; octets = octets })
