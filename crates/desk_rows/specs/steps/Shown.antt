-- How the rows of answers show what is read from them.
use Rattle.std.specs.Prelude.{ℕ, [], ◌∷◌}
use Rattle.radio_core.specs.Bands.{band_number}
use Rattle.radio_core.specs.DataRates.{dr_number}
use Rattle.duty_core.specs.Use.{Interval}
use Rattle.registry_core.specs.declared.facts.Booking.{Booking}
use Rattle.registry_core.specs.declared.facts.Reception.{Reception}
use Rattle.registry_core.specs.declared.facts.Uplink.{Uplink}
use Rattle.registry_core.specs.declared.views.NearBooking.{NearBooking}
use Rattle.sqlite_value.specs.declared.value.Value.TheVariants.{Int, Text, Blob}
use Rattle.sqlite_value.specs.Order.{Row}
use Rattle.desk_rows.specs.Rows.{number, kind_number, standing_number}

-- an uplink with its number
abbrev pub uplink_shown : ℕ × Uplink → Row
uplink_shown found = let u = found.1 in number found.0 ∷ number u.session ∷ number (kind_number u.kind) ∷ number u.counter ∷ Blob u.octets ∷ number u.start ∷ number u.airtime ∷ number (band_number u.band) ∷ []

abbrev pub reception_shown : Reception → Row
reception_shown c = number c.end ∷ number c.rate.freq ∷ number (dr_number c.rate.dr) ∷ []

abbrev pub booking_shown : Booking → Row
booking_shown b = number b.uplink ∷ Text b.gateway ∷ number (band_number b.band) ∷ Int b.span.start ∷ number b.span.len ∷ number (standing_number b.standing) ∷ []

abbrev pub span_shown : Interval → Row
span_shown span = Int span.start ∷ number span.len ∷ []

abbrev pub near_booking_shown : NearBooking → Row
near_booking_shown near = Int near.span.start ∷ number near.span.len ∷ number (band_number near.band) ∷ []
