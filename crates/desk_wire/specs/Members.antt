-- The members of a JSON object, each in its form, and the members that every message and every answer to one have.
use Rattle.std.specs.Prelude.{ℕ, List, Bool, Option, Some, None, unwrap_or, option_map, nat_le, nat_lt, if◌then◌else◌}
use Rattle.std.specs.Option.{is_some}
use Rattle.serde_json.specs.Data.{Data, null, number, unsigned}
use Rattle.serde_json.specs.Find.{get, as_null, as_bool, as_str, as_number, as_u64}
use Rattle.radio_core.specs.Bands.{limit_of}
use Rattle.radio_core.specs.Names.{is_name}
use Rattle.radio_core.specs.declared.bands.Band.{Band}
use Rattle.radio_core.specs.declared.data_rates.DataRate.{DataRate}
use Rattle.registry_core.specs.declared.messages.JoinVerdict.{JoinVerdict}
use Rattle.registry_core.specs.declared.messages.Role.{Role}
use Rattle.registry_core.specs.declared.windows.Window.{Window}
use Rattle.registry_core.specs.Limits.{Limit}
use Rattle.desk_wire.specs.Bands.{band_named}
use Rattle.desk_wire.specs.DataRates.{data_rate_numbered}
use Rattle.desk_wire.specs.Hexadecimal.{octets_in, eui_in}
use Rattle.desk_wire.specs.Optional.{◌>>=◌, only_if}
use Rattle.desk_wire.specs.Roles.{role_named}
use Rattle.desk_wire.specs.TypeNames.{is_type_name}
use Rattle.desk_wire.specs.Verdicts.{join_verdict_named}
use Rattle.desk_wire.specs.Windows.{window_numbered}

-- ---- a member of an object, in its form

abbrev pub text_at : List ℕ → Data → Option (List ℕ)
text_at member value = get member value >>= as_str

abbrev pub name_at : List ℕ → Data → Option (List ℕ)
name_at member value = text_at member value >>= only_if is_name

abbrev pub type_name_at : List ℕ → Data → Option (List ℕ)
type_name_at member value = text_at member value >>= only_if is_type_name

-- a number that serde_json reads as an unsigned integer: `1.0`, `1e0` and `-0` aren't
abbrev pub unsigned_at : List ℕ → Data → Option ℕ
unsigned_at member value = get member value >>= as_number >>= as_u64

-- an integer below the limit
abbrev pub json_integer_at : List ℕ → ℕ → Data → Option ℕ
json_integer_at member limit value = unsigned_at member value >>= only_if (λ n. nat_lt n limit)

-- the member is null, or isn't there
abbrev pub is_null_at : List ℕ → Data → Bool
is_null_at member value = is_some (as_null (unwrap_or (get member value) null))

-- an integer below the limit, or null
abbrev pub integer_or_null_at : List ℕ → ℕ → Data → Option (Option ℕ)
integer_or_null_at member limit value =
    if is_null_at member value then Some None else option_map Some (json_integer_at member limit value)

-- an integer, 0 to 7
abbrev pub data_rate_at : List ℕ → Data → Option DataRate
data_rate_at member value = unsigned_at member value >>= data_rate_numbered

-- 0 to 510 hexadecimal digits, an even number of them
abbrev pub octets_at : List ℕ → Data → Option (List ℕ)
octets_at member value = text_at member value >>= octets_in

-- 16 hexadecimal digits
abbrev pub eui_at : List ℕ → Data → Option ℕ
eui_at member value = text_at member value >>= eui_in

-- `operator` or `radio`
abbrev pub role_at : List ℕ → Data → Option Role
role_at member value = text_at member value >>= role_named

-- `Good` or `Bad`
abbrev pub join_verdict_at : List ℕ → Data → Option JoinVerdict
join_verdict_at member value = text_at member value >>= join_verdict_named

-- the integer 1 or 2
abbrev pub window_at : List ℕ → Data → Option Window
window_at member value = unsigned_at member value >>= window_numbered

-- `B1` to `B6`
abbrev pub band_named_at : List ℕ → Data → Option Band
band_named_at member value = text_at member value >>= band_named

-- an integer up to the band's own limit
abbrev pub limit_within : Band → ℕ → Option Limit
limit_within band most = if nat_le most (limit_of band) then Some (record { band = band; most = most }) else None

abbrev pub limit_at : List ℕ → Band → Data → Option Limit
limit_at member band value = unsigned_at member value >>= limit_within band

-- `true` or `false`
abbrev pub boolean_at : List ℕ → Data → Option Bool
boolean_at member value = get member value >>= as_bool

-- ---- members for a value that is written

-- the value of an integer, or null
abbrev pub integer_or_null : Option ℕ → Data
integer_or_null (Some n) = number (unsigned n)
integer_or_null None = null
