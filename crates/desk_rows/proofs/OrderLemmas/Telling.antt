-- The rows after an effect represent the facts after it.
use Rattle.std.proofs.Common.{◌≡◌, ℕ, ◌==◌, ◌&&◌, ◌||◌, Bool, true, false, cond, List, [], ◌∷◌, ◌++◌, find, Option, Some, None, option_map, is_some, refl, sym, ap, subst, ◌∙◌}
use Rattle.std.specs.Prelude.{bytes_eq}
use Rattle.std.specs.List.{list_any}
use Rattle.std.specs.Cmp.{nat_eq_equiv}
use Rattle.std.specs.Cmp.Lexicographic.{nat_list_eq_equiv}
use Rattle.std.proofs.lemmas.Bool.{and_parts, eqb-true, eq-eqb}
use Rattle.std.proofs.lemmas.List.{map-append}
use Rattle.std.proofs.lemmas.List.Folds.{list_any-append}
use Rattle.std.proofs.lemmas.Slice.Eq.{bytes_eq-Decides}
use Rattle.registry_core.specs.declared.effects.Effect.{Effect}
use Rattle.registry_core.specs.declared.effects.Effect.TheVariants.{Nothing, AddsSender, AddsOwner, AddsGateway, AddsDevice, MovesDevice, AddsSession, AddsUplink, AddsReception, AddsBooking, EndsBooking, SetsLimit}
use Rattle.registry_core.specs.declared.facts.Device.{Device}
use Rattle.registry_core.specs.declared.facts.Kind.{Kind}
use Rattle.registry_core.specs.declared.facts.Kind.TheVariants.{Join, Data}
use Rattle.registry_core.specs.declared.facts.Reception.{Reception}
use Rattle.registry_core.specs.declared.messages.Role.{Role}
use Rattle.registry_core.specs.Derived.{is_of_device}
use Rattle.registry_core.specs.Fits.{Fits}
use Rattle.registry_core.specs.State.{at_name, at_number, devices_with_move, ended, owned_by, receptions_with, state_with}
use Rattle.sqlite_keyed.specs.Lists.{update_where}
use Rattle.desk_rows.specs.Rows.{Rows, SenderRow, ReplyRow, DeviceRow, SessionRow, ReceptionRow, BookingRow, is_reception, is_device, is_sender_named}
use Rattle.desk_rows.specs.order.Changes.{booking_row, counted_down, device_row, ended_row, kind_at, moved, raised, reception_row, rows_with, sender_row, session_of_uplink, session_row, sessions_counted}
use Rattle.desk_rows.specs.order.Facts.{facts_in, is_name_row, sessions_in}
use Rattle.desk_rows.proofs.OrderLemmas.Finding.{find-map, found_passes, key_by, none_shown, shown_with}
use Rattle.desk_rows.proofs.OrderLemmas.Limits.{limit_with}
use Rattle.desk_rows.proofs.OrderLemmas.Numbering.{map-item_changed, map_unchanged}

-- ---- a row with a name

same_name : (a b : List ℕ) → bytes_eq a b ≡ true → a ≡ b
same_name a b is = (bytes_eq-Decides a b).0 is

abbrev pub role_found : List SenderRow → List ℕ → Option Role
role_found senders name = option_map (λ (s : SenderRow). s.role) (find (is_sender_named name) senders)

sender_with : (senders : List SenderRow) (name : List ℕ) (role : Role) → role_found senders name ≡ None → (other : List ℕ)
    → at_name (role_found senders) name (Some role) other ≡ role_found (senders ++ sender_row name role ∷ []) other
sender_with senders name role free other =
    ap (λ b. cond b (Some role) (role_found senders other)) (nat_list_eq_equiv.symm other name)
    ∙ sym (shown_with (λ (s : SenderRow). s.role) (is_sender_named other) senders (sender_row name role)
    (λ same. none_shown (λ (s : SenderRow). s.role) _ (subst (λ n. role_found senders n ≡ None) (same_name name other same) free)))

pub known_with : (names : List (List ℕ)) (name other : List ℕ)
    → at_name (λ n. list_any (is_name_row n) names) name true other ≡ list_any (is_name_row other) (names ++ name ∷ [])
known_with names name other =
    ap (λ b. cond b true (list_any (is_name_row other) names)) (nat_list_eq_equiv.symm other name)
    ∙ go (list_any (is_name_row other) names) (bytes_eq name other) ∙ sym (list_any-append (is_name_row other) names (name ∷ []))
  where
    go : (a b : Bool) → cond b true a ≡ (a || (b || false))
    go true true = refl
    go true false = refl
    go false true = refl
    go false false = refl

-- ---- devices

abbrev pub device_found : List DeviceRow → ℕ → Option Device
device_found devices dev_eui = option_map (λ (d : DeviceRow). d.device) (find (is_device dev_eui) devices)

device_with : (devices : List DeviceRow) (dev_eui : ℕ) (device : Device) → device_found devices dev_eui ≡ None → (other : ℕ)
    → at_number (device_found devices) dev_eui (Some device) other ≡ device_found (devices ++ device_row dev_eui device ∷ []) other
device_with devices dev_eui device free other =
    ap (λ b. cond b (Some device) (device_found devices other)) (nat_eq_equiv.symm other dev_eui)
    ∙ sym (shown_with (λ (d : DeviceRow). d.device) (is_device other) devices (device_row dev_eui device)
    (λ same. none_shown (λ (d : DeviceRow). d.device) _ (subst (λ n. device_found devices n ≡ None) (eqb-true dev_eui other same) free)))

-- a change of those that pass a test, which leaves the DevEUI
module _ (test : DeviceRow → Bool) (change : DeviceRow → DeviceRow) (stays : (d : DeviceRow) → (change d).dev_eui ≡ d.dev_eui) where
  pub found_changed : (dev_eui : ℕ) (devices : List DeviceRow)
      → find (is_device dev_eui) (update_where test change devices) ≡ option_map (λ d. cond (test d) (change d) d) (find (is_device dev_eui) devices)
  found_changed dev_eui devices = find-map (is_device dev_eui) (λ d. cond (test d) (change d) d) (λ d. ap (λ n. n == dev_eui) (key_by (λ (d : DeviceRow). d.dev_eui) test change stays d (test d))) devices

module _ (devices : List DeviceRow) (dev_eui : ℕ) (owner : List ℕ) where
  moved_at : (d : DeviceRow) (b : Bool) → (d.dev_eui == dev_eui) ≡ b
      → (cond (d.dev_eui == dev_eui) (moved owner d) d).device ≡ cond b (owned_by owner d.device) d.device
  moved_at d true is = ap (λ b. (cond b (moved owner d) d).device) is
  moved_at d false is = ap (λ b. (cond b (moved owner d) d).device) is

  moved_found : (other : ℕ) (found : Option DeviceRow) → find (is_device other) devices ≡ found → (b : Bool) → (other == dev_eui) ≡ b
      → cond b (option_map (owned_by owner) (device_found devices dev_eui)) (option_map (λ (d : DeviceRow). d.device) found)
      ≡ option_map (λ (d : DeviceRow). d.device) (option_map (λ d. cond (is_device dev_eui d) (moved owner d) d) found)
  moved_found other found is true same =
      ap (λ n. option_map (owned_by owner) (device_found devices n)) (sym (eqb-true other dev_eui same))
      ∙ ap (λ o. option_map (owned_by owner) (option_map (λ (d : DeviceRow). d.device) o)) is ∙ here found is
    where
      here : (o : Option DeviceRow) → find (is_device other) devices ≡ o → option_map (owned_by owner) (option_map (λ (d : DeviceRow). d.device) o)
          ≡ option_map (λ (d : DeviceRow). d.device) (option_map (λ d. cond (is_device dev_eui d) (moved owner d) d) o)
      here None none = refl
      here (Some d) some = ap Some
          (sym (moved_at d true (ap (λ n. n == dev_eui) (eqb-true d.dev_eui other (found_passes (is_device other) devices d some)) ∙ same)))
  moved_found other None is false apart = refl
  moved_found other (Some d) is false apart =
      ap Some (sym (moved_at d false (ap (λ n. n == dev_eui) (eqb-true d.dev_eui other (found_passes (is_device other) devices d is)) ∙ apart)))

  move_with : (other : ℕ)
      → devices_with_move (device_found devices) dev_eui owner other ≡ device_found (update_where (is_device dev_eui) (moved owner) devices) other
  move_with other =
      moved_found other (find (is_device other) devices) refl (other == dev_eui) refl
      ∙ sym (ap (option_map (λ (d : DeviceRow). d.device)) (found_changed (is_device dev_eui) (moved owner) (λ d. refl) other devices))

-- no device comes or goes
pub there_changed : (test : DeviceRow → Bool) (change : DeviceRow → DeviceRow) → ((d : DeviceRow) → (change d).dev_eui ≡ d.dev_eui)
    → (devices : List DeviceRow) (other : ℕ)
    → is_some (device_found (update_where test change devices) other) ≡ is_some (device_found devices other)
there_changed test change stays devices other =
    ap (λ found. is_some (option_map (λ (d : DeviceRow). d.device) found)) (found_changed test change stays other devices)
    ∙ same (find (is_device other) devices)
  where
    same : (o : Option DeviceRow)
        → is_some (option_map (λ (d : DeviceRow). d.device) (option_map (λ d. cond (test d) (change d) d) o))
        ≡ is_some (option_map (λ (d : DeviceRow). d.device) o)
    same None = refl
    same (Some d) = refl

-- a raised floor changes no fact
pub raised_with : (test : DeviceRow → Bool) (number : ℕ) (devices : List DeviceRow) (other : ℕ)
    → device_found devices other ≡ device_found (update_where test (raised number) devices) other
raised_with test number devices other =
    same (find (is_device other) devices)
    ∙ sym (ap (option_map (λ (d : DeviceRow). d.device)) (found_changed test (raised number) (λ d. refl) other devices))
  where
    by : (d : DeviceRow) (b : Bool) → d.device ≡ (cond b (raised number d) d).device
    by d true = refl
    by d false = refl

    same : (o : Option DeviceRow)
        → option_map (λ (d : DeviceRow). d.device) o ≡ option_map (λ (d : DeviceRow). d.device) (option_map (λ d. cond (test d) (raised number d) d) o)
    same None = refl
    same (Some d) = ap Some (by d (test d))

-- ---- copies

abbrev reception_found : List ReceptionRow → ℕ → List ℕ → Option Reception
reception_found receptions number gateway = option_map (λ (c : ReceptionRow). c.reception) (find (is_reception number gateway) receptions)

reception_key : (receptions : ℕ → List ℕ → Option Reception) (number : ℕ) (gateway : List ℕ) (reception : Reception) (n : ℕ) (at : List ℕ) (b : Bool)
    → (n == number) ≡ b
    → cond (number == n && bytes_eq gateway at) (Some reception) (receptions n at) ≡ receptions_with receptions number gateway reception n at
reception_key receptions number gateway reception n at true is = rw (eqb-true n number is, eq-eqb number number refl)
    (ap (λ b. cond b (Some reception) (receptions number at)) (nat_list_eq_equiv.symm gateway at))
reception_key receptions number gateway reception n at false is = rw (nat_eq_equiv.symm number n, is) refl

reception_with : (receptions : List ReceptionRow) (number : ℕ) (gateway : List ℕ) (reception : Reception) → reception_found receptions number gateway ≡ None → (n : ℕ) (at : List ℕ)
    → receptions_with (reception_found receptions) number gateway reception n at ≡ reception_found (receptions ++ reception_row number gateway reception ∷ []) n at
reception_with receptions number gateway reception free n at =
    sym (reception_key (reception_found receptions) number gateway reception n at (n == number) refl)
    ∙ sym (shown_with (λ (c : ReceptionRow). c.reception) (is_reception n at) receptions (reception_row number gateway reception) (λ same.
    let parts = and_parts (number == n) (bytes_eq gateway at) same in
    none_shown (λ (c : ReceptionRow). c.reception) _
    (subst (λ m. reception_found receptions m at ≡ None) (eqb-true number n parts.0)
    (subst (λ g. reception_found receptions number g ≡ None) (same_name gateway at parts.1) free))))

-- ---- sessions

pub counted_shown : (kind : Kind) (number : ℕ) (sessions : List SessionRow) → sessions_in sessions ≡ sessions_in (sessions_counted kind number sessions)
counted_shown Join number sessions = refl
counted_shown Data number sessions = sym (map_unchanged (λ (s : SessionRow). s.session) counted_down (λ s. refl) sessions number)

-- ---- each effect

pub facts_with : (r : Rows) (effect : Effect) (reply : ReplyRow) → Fits effect (facts_in r)
    → state_with (facts_in r) effect ≡ facts_in (rows_with effect reply r)
facts_with r Nothing reply fits = refl
facts_with r (AddsSender name role) reply fits = λ i. record (facts_in r) { senders = λ other. sender_with r.senders name role fits other i }
facts_with r (AddsOwner name) reply fits = λ i. record (facts_in r) { owners = λ other. known_with r.owners name other i }
facts_with r (AddsGateway name) reply fits = λ i. record (facts_in r) { gateways = λ other. known_with r.gateways name other i }
facts_with r (AddsDevice dev_eui device) reply fits = λ i. record (facts_in r) { devices = λ other. device_with r.devices dev_eui device fits.0 other i }
facts_with r (MovesDevice dev_eui owner) reply fits = λ i. record (facts_in r) { devices = λ other. move_with r.devices dev_eui owner other i }
facts_with r (AddsSession session uplink gateway reception) reply fits = λ i. record (facts_in r) {
  sessions = sym (map-append (λ (s : SessionRow). s.session) r.sessions (session_row session ∷ [])) i;
  uplinks = r.uplinks ++ uplink ∷ [];
  receptions = λ n at. reception_with r.receptions _ gateway reception fits.no_reception n at i;
}
facts_with r (AddsUplink uplink gateway reception) reply fits = λ i. record (facts_in r) {
  devices = λ other. raised_with (λ d. is_of_device (sessions_in r.sessions) d.dev_eui uplink.session) uplink.session r.devices other i;
  uplinks = r.uplinks ++ uplink ∷ [];
  receptions = λ n at. reception_with r.receptions _ gateway reception fits.no_reception n at i;
}
facts_with r (AddsReception number gateway reception) reply fits =
    λ i. record (facts_in r) { receptions = λ n at. reception_with r.receptions number gateway reception fits.no_reception n at i }
facts_with r (AddsBooking booking) reply fits = λ i. record (facts_in r) {
  sessions = counted_shown (kind_at r.uplinks booking.uplink) (session_of_uplink r.uplinks booking.uplink) r.sessions i;
  bookings = sym (map-append (λ (b : BookingRow). b.booking) r.bookings (booking_row r.uplinks booking ∷ [])) i;
}
facts_with r (EndsBooking number sent) reply fits = λ i. record (facts_in r) {
  bookings = sym (map-item_changed (λ (b : BookingRow). b.booking) (ended_row sent) (ended sent) (λ b. refl) r.bookings number) i;
}
facts_with r (SetsLimit gateway limit) reply fits =
    λ i. record (facts_in r) { limits = λ at band. limit_with r.limits gateway limit at band i }
