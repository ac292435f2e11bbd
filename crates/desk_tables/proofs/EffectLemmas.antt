-- Rows that an effect changes are found before it is written: the device of a session, and whether its floor rises.
use Rattle.std.proofs.Common.{◌≡◌, ℕ, Bool, true, false, List, [], ◌∷◌, filter, find, Option, Some, None, Result, Ok, option_map, refl, sym, ap, subst, ◌∙◌}
use Rattle.registry_core.specs.declared.effects.Effect.{Effect}
use Rattle.registry_core.specs.declared.facts.Session.{Session}
use Rattle.registry_core.specs.declared.facts.Uplink.{Uplink}
use Rattle.registry_core.specs.Derived.{is_above}
use Rattle.registry_core.specs.Numbered.{item_at}
use Rattle.desk_rows.specs.Rows.{Rows, DeviceRow, SessionRow, is_device}
use Rattle.desk_rows.specs.declared.faults.RowFault.{RowFault}
use Rattle.desk_rows.specs.order.Keys.{HasOnly, IsThereFor, RaisesOne, floor_set}
use Rattle.registry_core.specs.JsonIntegers.{IsJsonInteger}
use Rattle.sqlite.specs.State.{State}
use Rattle.desk_tables.specs.Seen.{IsFloorOf, IsSeen, IsSessionAt}
use Rattle.desk_tables.specs.declared.seen.Seen.{Seen}
use Rattle.desk_tables.specs.steps.Calls.{Asks}
use Rattle.desk_tables.specs.declared.effects.input.EffectInput.{EffectInput}
use Rattle.desk_tables.specs.steps.Effects.{AreJsonIntegers, HasSession, IsInput, IsRaised}
use Rattle.desk_tables.proofs.CallLemmas.{asks_then}

-- the only row that passes is the first one
pub find_only : {X : Type 0} (p : X → Bool) (xs : List X) (row : X) → filter p xs ≡ row ∷ [] → find p xs ≡ Some row
find_only p [] row only = absurd cc
find_only p (x ∷ xs) row only = go (p x) refl only (find_only p xs row)
  where
    go : (b : Bool) → p x ≡ b → filter p (x ∷ xs) ≡ row ∷ [] → (filter p xs ≡ row ∷ [] → find p xs ≡ Some row) → find p (x ∷ xs) ≡ Some row
    go true is h rest = let e = rw is at h in rw is (cc)
    go false is h rest = let e = rw is at h in rw is (rest e)

-- and so is what it is written by
abbrev pub AsksInput : State → State → Result EffectInput RowFault → Effect → Type 0
AsksInput old new result effect = Asks old new result (IsThereFor effect) (AreJsonIntegers effect) (IsInput effect)

-- ---- floors

-- the device rises where the session is above the floor, and else none does
abbrev RaisesIf : ℕ → ℕ → Rows → Option ℕ → Type 0
RaisesIf session dev_eui r floor =
    (is_above session floor ≡ true → IsRaised session r (Some dev_eui)) × (is_above session floor ≡ false → IsRaised session r None)

module _ (uplink : Uplink) (r : Rows) (one : RaisesOne uplink r) where
  raised_of : (floor : Option ℕ) → option_map (λ (row : DeviceRow). row.floor) (find (is_device one.session.session.device) r.devices) ≡ Some floor
      → RaisesIf uplink.session one.session.session.device r floor
  raised_of floor told =
      let found = find_only (is_device one.session.session.device) r.devices one.device.row one.device.only in
      let same : one.device.row.floor ≡ floor = let e = rw found at told in cc in (
        λ above. (one.device, one.sets (ap (is_above uplink.session) same ∙ above) ∙ sym (one.device.changed (floor_set uplink.session))),
        λ above. one.stays (ap (is_above uplink.session) same ∙ above),
      )

  session_is : (session : Session) → option_map (λ (row : SessionRow). row.session) (item_at r.sessions uplink.session) ≡ Some session
      → one.session.session ≡ session
  session_is session there = let e = rw one.there at there in cc

  -- the floor of the session's device determines which device is raised
  raised : (session : Session) → one.session.session ≡ session → (floor : Option ℕ)
      → option_map (λ (row : DeviceRow). row.floor) (find (is_device session.device) r.devices) ≡ Some floor → RaisesIf uplink.session session.device r floor
  raised session same floor told =
      subst (λ (s : Session). option_map (λ (row : DeviceRow). row.floor) (find (is_device s.device) r.devices) ≡ Some floor
      → RaisesIf uplink.session s.device r floor) same (raised_of floor) told

  device_of : (session : Session) → one.session.session ≡ session → HasOnly (is_device session.device) r.devices
  device_of session same = subst (λ (s : Session). HasOnly (is_device s.device) r.devices) same one.device

pub device_there : (uplink : Uplink) (r : Rows) (one : RaisesOne uplink r) {session : Session}
    → option_map (λ (row : SessionRow). row.session) (item_at r.sessions uplink.session) ≡ Some session → HasOnly (is_device session.device) r.devices
device_there uplink r one {session = session} there = device_of uplink r one session (session_is uplink r one session there)

-- the session of the uplink was asked for, and then its device's floor
pub raised_asked : {a b c : State} {session : Session} {floor : Option ℕ} (uplink : Uplink) (seen : Seen)
    → Asks a b (Ok session) (λ r. IsSeen r seen) (λ r. IsJsonInteger uplink.session × HasSession uplink.session r) (λ r. IsSessionAt r uplink.session)
    → Asks b c (Ok floor) (λ r. IsSeen r seen) (λ r. HasOnly (is_device session.device) r.devices) (λ r. IsFloorOf r session.device)
    → Asks a c (Ok floor) (λ r. RaisesOne uplink r × IsSeen r seen) (λ r. IsJsonInteger uplink.session) (RaisesIf uplink.session session.device)
raised_asked {session = session} uplink seen one two = asks_then one two (λ r of. of.1) (λ r of there. of.1)
    (λ r of may there. device_there uplink r of.0 there)
    (λ r of there floor told. raised uplink r of.0 session (session_is uplink r of.0 session there) floor told)
