-- A device's receptions uplink by uplink, and the lines of month reports by parts. For private clauses.
use Rattle.std.specs.Prelude.{◌≡◌, ℕ, List, [], ◌∷◌, ◌++◌, map, Option, codes}
use Rattle.std.specs.Fmt.{decimal, signed_decimal}
use Rattle.radio_core.specs.Bands.{band_number}
use Rattle.radio_core.specs.DataRates.{dr_number}
use Rattle.registry_core.specs.declared.facts.Booking.{Booking}
use Rattle.registry_core.specs.declared.facts.Kind.{Kind}
use Rattle.registry_core.specs.declared.facts.Reception.{Reception}
use Rattle.registry_core.specs.declared.facts.Uplink.{Uplink}
use Rattle.registry_core.specs.Listing.{AreNames, has_reception}
use Rattle.registry_core.specs.State.{State}
use Rattle.desk_wire.specs.Hexadecimal.{octet_digits}
use Rattle.desk_engine.specs.Lines.{line_feed}
use Rattle.desk_engine.specs.Listing.{or_empty}
use Rattle.desk_engine.specs.MonthReports.{kind_name, standing_name}

-- ---- a device's receptions

-- the uplink with this number at each of the gateways
abbrev pub at_gateways : ℕ → List (List ℕ) → List (ℕ × List ℕ)
at_gateways number gateways = map (λ gateway. (number, gateway)) gateways

-- the receptions of the uplinks with these numbers, uplink by uplink, and of each uplink by gateway
abbrev pub AreReceptionsOf : State → List ℕ → List (ℕ × List ℕ) → Type 0
AreReceptionsOf s [] receptions = receptions ≡ []
AreReceptionsOf s (number ∷ numbers) receptions = (gateways : List (List ℕ)) × (rest : List (ℕ × List ℕ))
    × AreNames (has_reception s number) gateways × AreReceptionsOf s numbers rest × (receptions ≡ at_gateways number gateways ++ rest)

-- the columns of an uplink, and the rest
abbrev pub uplink_columns : ℕ → Uplink → List ℕ → List ℕ
uplink_columns number uplink rest =
    decimal number ++ (codes "," ++ (decimal uplink.session ++ (codes "," ++ (kind_name uplink.kind ++ (codes "," ++ (decimal uplink.counter ++ (codes "," ++ rest)))))))

-- the columns of a reception at a gateway, and the rest
abbrev pub reception_columns : List ℕ → Reception → List ℕ → List ℕ
reception_columns gateway reception rest =
    gateway ++ (codes "," ++ (decimal reception.end ++ (codes "," ++ (decimal reception.rate.freq ++ (codes "," ++ (decimal (dr_number reception.rate.dr) ++ (codes "," ++ rest)))))))

-- the columns of an uplink's time on air, and of its octets, with LF
abbrev pub air_columns : Uplink → List ℕ
air_columns uplink =
    decimal uplink.start ++ (codes "," ++ (decimal uplink.airtime ++ (codes ",B" ++ (decimal (band_number uplink.band) ++ (codes "," ++ (octet_digits uplink.octets ++ line_feed ∷ []))))))

-- ---- a gateway's downlinks

-- the columns of a booking and of the kind of its uplink, and the rest
abbrev pub booking_columns : ℕ → Booking → Option Kind → List ℕ → List ℕ
booking_columns number booking kind rest = decimal number ++ (codes "," ++ (decimal booking.uplink ++ (codes "," ++ (or_empty kind_name kind ++ (codes "," ++ rest)))))

-- the columns of a booking's time on air, and of its state, with LF
abbrev pub span_columns : Booking → List ℕ
span_columns booking =
    codes "B" ++ (decimal (band_number booking.band) ++ (codes "," ++ (signed_decimal booking.span.start ++ (codes "," ++ (decimal booking.span.len ++ (codes "," ++ (standing_name booking.standing ++ line_feed ∷ [])))))))
