-- Uplinks by their session and band, ordered by start, and what is looked up of them.
use Rattle.std.specs.Prelude.{ℕ, ◌&&◌, ℤ, pos, Bool, List, Option, option_and_then, Some}
use Rattle.radio_core.specs.declared.bands.Band.{Band}
use Rattle.radio_core.specs.Bands.{band_number}
use Rattle.duty_core.specs.Use.{Interval}
use Rattle.registry_core.specs.declared.facts.Uplink.{Uplink}
use Rattle.registry_core.specs.declared.facts.Session.{Session}
use Rattle.registry_core.specs.Numbered.{item_at}
use Rattle.registry_core.specs.Reports.{interval_of, is_in_band, is_uplink_from}
use Rattle.desk_store.specs.declared.start_index.Place.{Place}
use Rattle.desk_store.specs.declared.start_index.StartIndex.{StartIndex}
use Rattle.desk_store.specs.steps.StartIndex.{places_in, places_that, IsStartIndex}
use Rattle.desk_store.specs.steps.Uplinks.{same_numbers}

-- the session and the number of the band by which an uplink is found
abbrev pub key_of : Uplink → ℕ × ℕ
key_of uplink = (uplink.session, band_number uplink.band)

-- the places of the session's uplinks in the band
abbrev pub uplink_places : List Uplink → ℕ → Band → List Place
uplink_places uplinks session band = places_that (λ uplink. pos uplink.start) (λ uplink. same_numbers (key_of uplink) (session, band_number band)) uplinks

-- the index is that of these uplinks
abbrev pub AreStarts : List Uplink → StartIndex (ℕ × ℕ) → Type 0
AreStarts uplinks index = IsStartIndex (λ uplink. pos uplink.start) same_numbers key_of uplinks (places_in same_numbers index)

-- the time on air of the uplink at this place
abbrev pub uplink_span_at : List Uplink → Place → Option Interval
uplink_span_at uplinks place = option_and_then (λ (uplink : Uplink). Some (interval_of uplink)) (item_at uplinks place.number)

-- an uplink of the device in the band that starts at `from` or later and before `to`
abbrev pub is_sent_from : List Session → ℕ → Band → ℤ → ℤ → Uplink → Bool
is_sent_from sessions dev_eui band from to uplink = is_uplink_from sessions dev_eui from to uplink && is_in_band band uplink

-- the places of those uplinks
abbrev pub places_from : List Uplink → List Session → ℕ → Band → ℤ → ℤ → List Place
places_from uplinks sessions dev_eui band from to = places_that (λ uplink. pos uplink.start) (is_sent_from sessions dev_eui band from to) uplinks
