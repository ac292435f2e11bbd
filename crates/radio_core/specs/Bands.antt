-- The sub-bands of EU863-870, and the band of a transmission (this project's table). Frequencies in hertz, times in microseconds.
use Rattle.std.specs.Prelude.{◌≡◌, ℕ, ◌+◌, ◌<◌, ◌≤◌, ◌↔◌, Bool, ◌&&◌, List, [], ◌∷◌, Option, Some, nat_le, find, IsTrue}
use Rattle.radio_core.specs.declared.bands.Band.{Band}
use Rattle.radio_core.specs.declared.bands.Band.TheVariants.{B1, B2, B3, B4, B5, B6}
use Rattle.radio_core.specs.declared.data_rates.DataRate.{DataRate}
use Rattle.radio_core.specs.DataRates.{half_width}

-- the band's number
abbrev pub band_number : Band → ℕ
band_number B1 = 1
band_number B2 = 2
band_number B3 = 3
band_number B4 = 4
band_number B5 = 5
band_number B6 = 6

-- the band's lower edge
abbrev pub band_from : Band → ℕ
band_from B1 = 863000000
band_from B2 = 865000000
band_from B3 = 868000000
band_from B4 = 868700000
band_from B5 = 869400000
band_from B6 = 869700000

-- the band's upper edge
abbrev pub band_to : Band → ℕ
band_to B1 = 865000000
band_to B2 = 868000000
band_to B3 = 868600000
band_to B4 = 869200000
band_to B5 = 869650000
band_to B6 = 870000000

-- the greatest time on air within any hour, 0.1, 1 or 10 percent of it (that duty cycle is time on air within an hour: ETSI EN 300 220-2)
abbrev pub limit_of : Band → ℕ
limit_of B1 = 3600000
limit_of B2 = 36000000
limit_of B3 = 36000000
limit_of B4 = 3600000
limit_of B5 = 360000000
limit_of B6 = 36000000

abbrev pub bands : List Band
bands = B1 ∷ B2 ∷ B3 ∷ B4 ∷ B5 ∷ B6 ∷ []

-- the band contains the whole bandwidth of a transmission on the frequency, both edges included
abbrev pub lies_in : ℕ → DataRate → Band → Bool
lies_in freq dr band =
    nat_le (band_from band + half_width dr) freq && nat_le (freq + half_width dr) (band_to band)

-- the band that contains it, if there is one
unfoldable pub band_at : ℕ → DataRate → Option Band
band_at freq dr = find (lies_in freq dr) bands

-- a transmission is in the band that is found, and in no other
abbrev pub BandIsFound : Type 0
BandIsFound = (freq : ℕ) (dr : DataRate) (band : Band) →
    (band_at freq dr ≡ Some band) ↔ IsTrue (lies_in freq dr band)

-- no two bands overlap: a band begins with its lower edge, and a frequency from there to below its upper edge is in
-- no other band
abbrev pub BandsAreApart : Type 0
BandsAreApart = (freq : ℕ) (one other : Band) →
    band_from one ≤ freq → freq < band_to one →
    band_from other ≤ freq → freq < band_to other → one ≡ other
