-- What rows name is there with each effect.
use Rattle.std.proofs.Common.{◌≡◌, ℕ, ◌+◌, true, List, [], ◌∷◌, ◌++◌, length, Option, Some, None, is_some, refl, sym, ap, ◌∙◌}
use Rattle.std.specs.Prelude.{IsTrue}
use Rattle.std.specs.List.{AllByRecursion}
use Rattle.registry_core.specs.declared.facts.Kind.TheVariants.{Data}
use Rattle.registry_core.specs.declared.facts.Reception.{Reception}
use Rattle.registry_core.specs.declared.facts.Session.{Session}
use Rattle.registry_core.specs.declared.facts.Uplink.{Uplink}
use Rattle.registry_core.specs.Numbered.{item_at}
use Rattle.desk_rows.specs.Rows.{DeviceRow, ReceptionRow}
use Rattle.desk_rows.specs.order.Changes.{reception_row}
use Rattle.desk_rows.specs.order.RowsOf.{IsOfSession, IsOfUplink}
use Rattle.desk_rows.proofs.OrderLemmas.Each.{all_so, all_with}
use Rattle.desk_rows.proofs.OrderLemmas.Numbering.{item_end, item_kept}
use Rattle.desk_rows.proofs.OrderLemmas.Finding.{still_shown}
use Rattle.desk_rows.proofs.OrderLemmas.Telling.{device_found}

-- ---- devices of sessions

abbrev pub HasDevice : List DeviceRow → Session → Type 0
HasDevice devices s = IsTrue (is_some (device_found devices s.device))

pub device_with : (devices more : List DeviceRow) (sessions : List Session) → AllByRecursion (HasDevice devices) sessions
    → AllByRecursion (HasDevice (devices ++ more)) sessions
device_with devices more sessions each =
    all_so (HasDevice devices) (HasDevice (devices ++ more)) (λ s has. still_shown (λ (d : DeviceRow). d.device) _ devices more has) sessions each

pub device_changed : (old new : List DeviceRow) → ((dev_eui : ℕ) → is_some (device_found new dev_eui) ≡ is_some (device_found old dev_eui))
    → (sessions : List Session)
    → AllByRecursion (HasDevice old) sessions → AllByRecursion (HasDevice new) sessions
device_changed old new same sessions each = all_so (HasDevice old) (HasDevice new) (λ s has. same s.device ∙ has) sessions each

-- ---- sessions of uplinks

pub session_kept : (sessions more : List Session) (u : Uplink) → IsOfSession sessions u → IsOfSession (sessions ++ more) u
session_kept sessions more u of = record { session = of.session; there = item_kept sessions more u.session of.session of.there; nonce = of.nonce }

-- a join uplink of a new session
pub session_new : (sessions : List Session) (session : Session) (u : Uplink) → (n : ℕ) → u.session ≡ n → item_at (sessions ++ session ∷ []) n ≡ Some session
    → u.counter ≡ session.nonce
    → IsOfSession (sessions ++ session ∷ []) u
session_new sessions session u n is there nonce =
    record { session = session; there = ap (item_at (sessions ++ session ∷ [])) is ∙ there; nonce = λ join. sym nonce }

-- a data uplink of a session that is there
pub session_there : (sessions : List Session) (u : Uplink) (found : Option Session) → item_at sessions u.session ≡ found → is_some found ≡ true
    → u.kind ≡ Data → IsOfSession sessions u
session_there sessions u None at some is = let none : is_some {T = Session} None ≡ true = some in cc
session_there sessions u (Some s) at some is = record { session = s; there = at; nonce = λ join. cc }

-- ---- uplinks of copies

uplink_kept : (uplinks more : List Uplink) (row : ReceptionRow) (found : Option Uplink) → item_at uplinks row.uplink ≡ found → is_some found ≡ true
    → IsOfUplink (uplinks ++ more) row
uplink_kept uplinks more row None at some = let none : is_some {T = Uplink} None ≡ true = some in cc
uplink_kept uplinks more row (Some u) at some = ap is_some (item_kept uplinks more row.uplink u at)

-- one uplink more, with its first reception
pub receptions_with : (uplinks : List Uplink) (uplink : Uplink) (receptions : List ReceptionRow) (gateway : List ℕ) (reception : Reception)
    → AllByRecursion (IsOfUplink uplinks) receptions
    → AllByRecursion (IsOfUplink (uplinks ++ uplink ∷ [])) (receptions ++ reception_row (length uplinks + 1) gateway reception ∷ [])
receptions_with uplinks uplink receptions gateway reception each =
    all_with (IsOfUplink (uplinks ++ uplink ∷ [])) receptions (reception_row (length uplinks + 1) gateway reception)
    (all_so (IsOfUplink uplinks) (IsOfUplink (uplinks ++ uplink ∷ []))
    (λ row there. uplink_kept uplinks (uplink ∷ []) row (item_at uplinks row.uplink) refl there) receptions each)
    (ap is_some (item_end uplinks uplink))
