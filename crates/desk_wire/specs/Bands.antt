-- The names of sub-bands (this project's names).
use Rattle.std.specs.Prelude.{ℕ, List, Option, Some, None, codes, if◌then◌else◌}
use Rattle.std.specs.Str.{bytes_eq}
use Rattle.radio_core.specs.declared.bands.Band.{Band}
use Rattle.radio_core.specs.declared.bands.Band.TheVariants.{B1, B2, B3, B4, B5, B6}

abbrev pub band_name : Band → List ℕ
band_name B1 = codes "B1"
band_name B2 = codes "B2"
band_name B3 = codes "B3"
band_name B4 = codes "B4"
band_name B5 = codes "B5"
band_name B6 = codes "B6"

-- the band with exactly this name
abbrev pub band_named : List ℕ → Option Band
band_named text =
    if bytes_eq text (codes "B1") then Some B1
    else if bytes_eq text (codes "B2") then Some B2
    else if bytes_eq text (codes "B3") then Some B3
    else if bytes_eq text (codes "B4") then Some B4
    else if bytes_eq text (codes "B5") then Some B5
    else if bytes_eq text (codes "B6") then Some B6
    else None
