-- The rows that an effect changes are there, each once.
use Rattle.std.proofs.Common.{◌≡◌, ℕ, suc, ◌+◌, ◌<◌, ◌≤◌, ◌==◌, ◌&&◌, Bool, true, false, cond, List, [], ◌∷◌, ◌++◌, map, filter, find, Option, Some, None, option_map, is_some, slice_get, refl, sym, ap, ap₂, subst, ◌∙◌, arith}
use Rattle.std.specs.Prelude.{max, nat_eq}
use Rattle.std.specs.List.{AllByRecursion, IsDistinct}
use Rattle.std.specs.Option.{option_map_or}
use Rattle.std.specs.Cmp.{nat_eq_equiv}
use Rattle.std.proofs.lemmas.Bool.{eqb-true, ltb-false, ltb-true}
use Rattle.radio_core.specs.Bands.{band_number}
use Rattle.registry_core.specs.declared.effects.Effect.{Effect}
use Rattle.registry_core.specs.declared.effects.Effect.TheVariants.{Nothing, AddsSender, AddsOwner, AddsGateway, AddsDevice, MovesDevice, AddsSession, AddsUplink, AddsReception, AddsBooking, EndsBooking, SetsLimit}
use Rattle.registry_core.specs.declared.facts.Booking.{Booking}
use Rattle.registry_core.specs.declared.facts.Session.{Session}
use Rattle.registry_core.specs.declared.facts.Uplink.{Uplink}
use Rattle.registry_core.specs.Derived.{is_above, is_of_device, is_session_of}
use Rattle.registry_core.specs.Fits.{EndFits, Fits}
use Rattle.registry_core.specs.Limits.{Limit}
use Rattle.registry_core.specs.Numbered.{item_at, place_changed}
use Rattle.registry_core.specs.Settings.{Settings}
use Rattle.registry_core.specs.State.{State}
use Rattle.sqlite_keyed.specs.Lists.{update_where}
use Rattle.sqlite_keyed.proofs.SliceLemmas.{any_is_found}
use Rattle.desk_rows.specs.Rows.{Rows, BookingRow, DeviceRow, LimitRow, SessionRow, is_device, is_limit}
use Rattle.desk_rows.specs.order.Changes.{counted_down, devices_raised, limit_row, limited, raised, session_of_uplink, sessions_counted}
use Rattle.desk_rows.specs.order.Facts.{facts_in, limit_found, sessions_in}
use Rattle.desk_rows.specs.order.Keys.{ChangedRowsAreThere, CountsOne, EndsOne, HasOnly, IsThereFor, RaisesOne, SetsOne, floor_set, next_down_set}
use Rattle.desk_rows.specs.order.RowsOf.{AreRowsOf, IsOfSession, limit_key, same_band}
use Rattle.desk_rows.proofs.OrderLemmas.Counters.{kind_found, session_found}
use Rattle.desk_rows.proofs.OrderLemmas.Counting.{filter_none}
use Rattle.desk_rows.proofs.OrderLemmas.Each.{all_at}
use Rattle.desk_rows.proofs.OrderLemmas.Free.{none_has}
use Rattle.desk_rows.proofs.OrderLemmas.Limits.{key_is, same_other_way}
use Rattle.desk_rows.proofs.OrderLemmas.Named.{HasDevice}
use Rattle.desk_rows.proofs.OrderLemmas.Numbering.{item_changed_as, item_changed_none, item_there, row_there}
use Rattle.desk_rows.proofs.OrderLemmas.Telling.{device_found}

-- ---- the only row with a key

module _ {X K : Type 0} (key : X → K) (same : K → K → Bool) (has_key : X → Bool)
    (other : (y x : X) → has_key y ≡ true → same (key y) (key x) ≡ false → has_key x ≡ false) where
  -- none of the rows has the key of one before them
  none_left : (y : X) → has_key y ≡ true → (xs : List X) → AllByRecursion (λ m. same (key y) m ≡ false) (map key xs)
      → AllByRecursion (λ x. has_key x ≡ false) xs
  none_left y here [] apart = tt
  none_left y here (x ∷ xs) apart = (other y x here apart.0, none_left y here xs apart.1)

  none_changed : (change : X → X) (xs : List X) → AllByRecursion (λ x. has_key x ≡ false) xs → update_where has_key change xs ≡ xs
  none_changed change [] each = refl
  none_changed change (x ∷ xs) each = ap₂ (λ b ys. cond b (change x) x ∷ ys) each.0 (none_changed change xs each.1)

  record IsOnlyAt (xs : List X) : Type 0 where
    place : ℕ
    row : X
    there : slice_get xs place ≡ Some row
    only : filter has_key xs ≡ row ∷ []
    changed : (change : X → X) → update_where has_key change xs ≡ place_changed change xs place

  some_by : (y : X) (ys : List X) → AllByRecursion (λ m. same (key y) m ≡ false) (map key ys) → (b : Bool) → has_key y ≡ b
      → is_some (cond b (Some y) (find has_key ys)) ≡ true → (is_some (find has_key ys) ≡ true → IsOnlyAt ys) → IsOnlyAt (y ∷ ys)
  some_by y ys apart true here some later =
      let none = none_left y here ys apart in
      record {
        place = 0;
        row = y;
        there = refl;
        only = ap₂ (λ b kept. cond b (y ∷ kept) kept) here (filter_none has_key ys none);
        changed = λ change. ap₂ (λ b zs. cond b (change y) y ∷ zs) here (none_changed change ys none);
      }
  some_by y ys apart false here some later =
      let rest = later some in
      record {
        place = suc rest.place;
        row = rest.row;
        there = rest.there;
        only = ap (λ b. cond b (y ∷ filter has_key ys) (filter has_key ys)) here ∙ rest.only;
        changed = λ change. ap₂ (λ b zs. cond b (change y) y ∷ zs) here (rest.changed change);
      }

  only_at : (xs : List X) → IsDistinct same (map key xs) → is_some (find has_key xs) ≡ true → IsOnlyAt xs
  unfolding IsDistinct
  only_at [] apart some = let no : is_some {T = X} None ≡ true = some in cc
  only_at (y ∷ ys) apart some = some_by y ys apart.0 (has_key y) refl some (only_at ys apart.1)

shown_some : {X V : Type 0} (show : X → V) (o : Option X) → is_some (option_map show o) ≡ true → is_some o ≡ true
shown_some show None some = some
shown_some show (Some x) some = refl

only_device : (devices : List DeviceRow) (dev_eui : ℕ) → IsDistinct nat_eq (map (λ (d : DeviceRow). d.dev_eui) devices)
    → is_some (device_found devices dev_eui) ≡ true
    → HasOnly (is_device dev_eui) devices
only_device devices dev_eui apart some =
    let at =
    only_at (λ (d : DeviceRow). d.dev_eui) nat_eq (is_device dev_eui)
    (λ y x here differs. ap (λ n. x.dev_eui == n) (sym (eqb-true y.dev_eui dev_eui here)) ∙ nat_eq_equiv.symm x.dev_eui y.dev_eui ∙ differs)
    devices apart (shown_some (λ (d : DeviceRow). d.device) _ some) in
    record { number = suc at.place; row = at.row; there = at.there; only = at.only; changed = at.changed }

only_limit : (limits : List LimitRow) (gateway : List ℕ) (band : ℕ) → IsDistinct same_band (map limit_key limits)
    → is_some (limit_found limits gateway band) ≡ true
    → HasOnly (is_limit gateway band) limits
only_limit limits gateway band apart some =
    let at =
    only_at limit_key same_band (is_limit gateway band)
    (λ y x here differs. ap (same_band (limit_key x)) (sym (key_is (limit_key y) (gateway, band) here)) ∙ same_other_way (limit_key x) (limit_key y) ∙ differs)
    limits apart (shown_some (λ (l : LimitRow). l.limit.most) _ some) in
    record { number = suc at.place; row = at.row; there = at.there; only = at.only; changed = at.changed }

-- ---- the floor that is raised

above_is : (n : ℕ) (o : Option ℕ) → is_above n o ≡ true → Some (option_map_or (max n) o n) ≡ Some n
above_is n None above = refl
above_is n (Some m) above = let less : m < n = ltb-true m n above in ap Some (omega arith)

below_is : (n : ℕ) (o : Option ℕ) → is_above n o ≡ false → Some (option_map_or (max n) o n) ≡ o
below_is n None below = let no : true ≡ false = below in cc
below_is n (Some m) below = let least : n ≤ m = ltb-false m n below in ap Some (omega arith)

raised_above : (n : ℕ) (d : DeviceRow) → is_above n d.floor ≡ true → raised n d ≡ floor_set n d
raised_above n d above = λ i. record d { floor = above_is n d.floor above i }

raised_below : (n : ℕ) (d : DeviceRow) → is_above n d.floor ≡ false → raised n d ≡ d
raised_below n d below = λ i. record d { floor = below_is n d.floor below i }

module _ (n : ℕ) (test : DeviceRow → Bool) where
  raised_by : (d : DeviceRow) (b t : Bool) → is_above n d.floor ≡ b → cond t (raised n d) d ≡ cond (t && b) (floor_set n d) d
  raised_by d true true is = raised_above n d is
  raised_by d true false is = refl
  raised_by d false true is = raised_below n d is
  raised_by d false false is = refl

  raised_where : (devices : List DeviceRow) → update_where test (raised n) devices ≡ update_where (λ d. test d && is_above n d.floor) (floor_set n) devices
  raised_where [] = refl
  raised_where (d ∷ ds) = ap₂ (λ x xs. x ∷ xs) (raised_by d (is_above n d.floor) (test d) refl) (raised_where ds)

-- ---- each effect

module _ (c : Settings) (facts : State) (r : Rows) (are : AreRowsOf c facts r) where
  same_test : (number : ℕ) (s : SessionRow) (session : Session) → item_at (sessions_in r.sessions) number ≡ Some session → s.session ≡ session
      → (λ (d : DeviceRow). is_of_device (sessions_in r.sessions) d.dev_eui number) ≡ is_device s.session.device
  same_test number s session there is = λ i d. (
      ap (λ found. option_map_or (is_session_of d.dev_eui) found false) there
      ∙ nat_eq_equiv.symm session.device d.dev_eui
      ∙ ap (λ (x : Session). d.dev_eui == x.device) (sym is)) i

  raises_one : (uplink : Uplink) → is_some (item_at (sessions_in r.sessions) uplink.session) ≡ true → RaisesOne uplink r
  raises_one uplink some =
      let found = item_there (sessions_in r.sessions) uplink.session _ refl some in
      let row = row_there (λ (s : SessionRow). s.session) r.sessions uplink.session found.0 found.1 in
      let has : HasDevice r.devices found.0 = all_at (HasDevice r.devices) (sessions_in r.sessions) uplink.session found.0 found.1 are.names.sessions in
      let device : HasOnly (is_device row.0.session.device) r.devices =
      only_device r.devices row.0.session.device are.keyed.devices (ap (λ (s : Session). is_some (device_found r.devices s.device)) row.2 ∙ has) in
      let raises : devices_raised r.sessions uplink.session r.devices ≡ update_where (is_device row.0.session.device) (raised uplink.session) r.devices =
      ap (λ test. update_where test (raised uplink.session) r.devices) (same_test uplink.session row.0 found.0 found.1 row.2) in
      record {
        session = row.0;
        there = row.1;
        device = device;
        sets = λ above. raises ∙ device.changed (raised uplink.session)
            ∙ item_changed_as (raised uplink.session) (floor_set uplink.session) r.devices device.number device.row device.there
            (raised_above uplink.session device.row above);
        stays = λ below. raises ∙ device.changed (raised uplink.session)
            ∙ item_changed_none (raised uplink.session) r.devices device.number device.row device.there (raised_below uplink.session device.row below);
        at_once = raises ∙ raised_where uplink.session (is_device row.0.session.device) r.devices;
      }

  counts_one : (booking : Booking) → is_some (item_at r.uplinks booking.uplink) ≡ true → CountsOne booking r
  counts_one booking some =
      let found = item_there r.uplinks booking.uplink _ refl some in
      let of : IsOfSession (sessions_in r.sessions) found.0 =
      all_at (IsOfSession (sessions_in r.sessions)) r.uplinks booking.uplink found.0 found.1 are.names.uplinks in
      let row = row_there (λ (s : SessionRow). s.session) r.sessions found.0.session of.session of.there in
      let session = session_found r.uplinks booking.uplink found.0 found.1 in
      let kind = kind_found r.uplinks booking.uplink found.0 found.1 in
      record {
        uplink = found.0;
        answered = found.1;
        row = λ i. record { booking = booking; session = session i; kind = kind i };
        session = row.0;
        there = row.1;
        counts = λ data_up. ap₂ (λ k n. sessions_counted k n r.sessions) (kind ∙ data_up) session
            ∙ item_changed_as counted_down (next_down_set (row.0.next_down + 1)) r.sessions found.0.session row.0 row.1 refl;
        stays = λ join. ap (λ k. sessions_counted k (session_of_uplink r.uplinks booking.uplink) r.sessions) (kind ∙ join);
      }

  ends_one : (number : ℕ) → EndFits number (facts_in r) → EndsOne number r
  ends_one number fits =
      let row = row_there (λ (b : BookingRow). b.booking) r.bookings number fits.booking fits.there in
      record { row = row.0; there = row.1; standing = ap (λ (b : Booking). b.standing) row.2 ∙ fits.standing }

  sets_one : (gateway : List ℕ) (limit : Limit) → SetsOne gateway limit r
  sets_one gateway limit =
      let test = is_limit gateway (band_number limit.band) in
      let after = λ (b : Bool). cond b (update_where test (limited limit.most) r.limits) (r.limits ++ limit_row gateway limit ∷ []) in
      record {
        adds = λ none. ap after (none_has (λ (l : LimitRow). l.limit.most) test r.limits none);
        changes = λ some. (
          only_limit r.limits gateway (band_number limit.band) are.keyed.limits some,
          ap after (any_is_found test r.limits ∙ shown_some (λ (l : LimitRow). l.limit.most) _ some),
        );
      }

  there_for : (effect : Effect) → Fits effect (facts_in r) → IsThereFor effect r
  there_for Nothing fits = tt
  there_for (AddsSender name role) fits = tt
  there_for (AddsOwner name) fits = tt
  there_for (AddsGateway name) fits = tt
  there_for (AddsDevice dev_eui device) fits = tt
  there_for (MovesDevice dev_eui owner) fits = only_device r.devices dev_eui are.keyed.devices fits.0
  there_for (AddsSession session uplink gateway reception) fits = tt
  there_for (AddsUplink uplink gateway reception) fits = raises_one uplink fits.session
  there_for (AddsReception number gateway reception) fits = tt
  there_for (AddsBooking booking) fits = counts_one booking fits.uplink
  there_for (EndsBooking number sent) fits = ends_one number fits
  there_for (SetsLimit gateway limit) fits = sets_one gateway limit

pub changed_rows_are_there : ChangedRowsAreThere
changed_rows_are_there c facts r effect are fits = there_for c facts r are effect (subst (Fits effect) are.is fits)
