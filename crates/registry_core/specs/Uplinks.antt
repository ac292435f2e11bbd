-- What a gateway's report books: an uplink, or a copy of one.
use Rattle.std.specs.Prelude.{ℕ, ◌-◌, Bool, true, ◌&&◌, List, length, Option, Some, None, is_none, nat_le, bytes_eq, if◌then◌else◌}
use Rattle.radio_core.specs.declared.bands.Band.{Band}
use Rattle.radio_core.specs.TimeOnAir.{airtime_of}
use Rattle.registry_core.specs.declared.effects.Effect.{Effect}
use Rattle.registry_core.specs.declared.effects.Effect.TheVariants.{Nothing, AddsReception}
use Rattle.registry_core.specs.declared.facts.Kind.{Kind}
use Rattle.registry_core.specs.declared.facts.Reception.{Reception}
use Rattle.registry_core.specs.declared.facts.Uplink.{Uplink}
use Rattle.registry_core.specs.declared.messages.Report.{Report}

-- from the beginning of 2000 to the beginning of 2100, UTC, in microseconds since 1970
abbrev pub is_time : ℕ → Bool
is_time time = nat_le 946684800000000 time && nat_le time 4102444800000000

abbrev pub reception_of : Report → Reception
reception_of report = record { end = report.time; rate = report.rate }

-- the time on air of what a gateway reports: an uplink has the payload's CRC
abbrev pub time_up : Report → ℕ
time_up report = airtime_of report.rate.dr (length report.octets) true

-- the uplink: it began its time on air before its end
abbrev pub uplink_of : Report → ℕ → Kind → ℕ → Band → Uplink
uplink_of report session kind counter band = record {
  session = session;
  kind = kind;
  counter = counter;
  octets = report.octets;
  start = report.time - time_up report;
  airtime = time_up report;
  band = band;
}

-- an uplink, with its number, if it has these octets
abbrev pub same_octets : List ℕ → ℕ × Uplink → Option (ℕ × Uplink)
same_octets octets found = if bytes_eq found.1.octets octets then Some found else None

-- a copy of the uplink with this number adds its gateway's reception if that gateway has none of it, and nothing else
abbrev pub reception_added : ℕ → Option Reception → Report → Effect
reception_added number at_gateway report = if is_none at_gateway then AddsReception number report.gateway (reception_of report) else Nothing
