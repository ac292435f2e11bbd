-- No two bands have one number.
use Rattle.std.proofs.Common.{◌≡◌, ℕ, cond, refl, sym, ◌∙◌, ap}
use Rattle.std.specs.Prelude.{◌==◌}
use Rattle.radio_core.specs.declared.bands.Band.{Band}
use Rattle.radio_core.specs.declared.bands.Band.TheVariants.{B1, B2, B3, B4, B5, B6}
use Rattle.radio_core.specs.Bands.{band_number}

-- a band by its number
band_with : ℕ → Band
band_with n = cond (n == 1) B1 (cond (n == 2) B2 (cond (n == 3) B3 (cond (n == 4) B4 (cond (n == 5) B5 B6))))

band_back : (band : Band) → band_with (band_number band) ≡ band
unfolding band_with
band_back B1 = refl
band_back B2 = refl
band_back B3 = refl
band_back B4 = refl
band_back B5 = refl
band_back B6 = refl

pub same_band : (a b : Band) → band_number a ≡ band_number b → a ≡ b
same_band a b e = sym (band_back a) ∙ ap band_with e ∙ band_back b
