-- What an operator sets for a gateway's band.
use Rattle.std.specs.Prelude.{ℕ, ◌≤◌}
use Rattle.radio_core.specs.declared.bands.Band.{Band}
use Rattle.radio_core.specs.Bands.{limit_of}

-- a band, and the greatest time on air within any hour, in microseconds
pub record Limit : Type 0 where
  pub band : Band
  pub most : ℕ

-- no limit is above the band's own
abbrev pub IsLimit : Limit → Type 0
IsLimit limit = limit.most ≤ limit_of limit.band
