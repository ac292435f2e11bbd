-- The limit of a gateway's band: SQLite can store it, and its key is the gateway and the band.
use Rattle.std.proofs.Common.{◌≡◌, ℕ, ◌<◌, ◌≤◌, ◌^◌, ◌==◌, List, bytes_eq, true, refl, ap₂, arith, eqb-true}
use Rattle.std.proofs.lemmas.Bool.{and_parts}
use Rattle.std.proofs.lemmas.Slice.Eq.{bytes_eq-Decides}
use Rattle.radio_core.specs.declared.bands.Band.TheVariants.{B1, B2, B3, B4, B5, B6}
use Rattle.radio_core.specs.Bands.{band_number, limit_of}
use Rattle.registry_core.specs.Limits.{Limit, IsLimit}
use Rattle.desk_rows.specs.Rows.{LimitRow, is_limit}
use Rattle.desk_rows.proofs.Terms.{is}

-- SQLite can store each limit
pub storable : (limit : Limit) → IsLimit limit → limit.most < 2 ^ 63
storable limit low = go limit.band refl
  where
    go : (band : _) → limit.band ≡ band → limit.most < 2 ^ 63
    go B1 is = let most : limit.most ≤ limit_of B1 = rw is at low in omega (arith, most)
    go B2 is = let most : limit.most ≤ limit_of B2 = rw is at low in omega (arith, most)
    go B3 is = let most : limit.most ≤ limit_of B3 = rw is at low in omega (arith, most)
    go B4 is = let most : limit.most ≤ limit_of B4 = rw is at low in omega (arith, most)
    go B5 is = let most : limit.most ≤ limit_of B5 = rw is at low in omega (arith, most)
    go B6 is = let most : limit.most ≤ limit_of B6 = rw is at low in omega (arith, most)

-- a limit with the key has that gateway and that band
pub has_key : (l : LimitRow) (gateway : List ℕ) (band : ℕ) → is_limit gateway band l ≡ true → ◌≡◌ {A = List ℕ × ℕ} (l.gateway, band_number l.limit.band) (gateway, band)
has_key l gateway band has =
    let both = and_parts (bytes_eq l.gateway gateway) (band_number l.limit.band == band) has in
    ap₂ (λ a b. (a, b)) ((bytes_eq-Decides l.gateway gateway).0 both.0) (eqb-true (band_number l.limit.band) band both.1)
