-- The rows with an effect are those of the facts with it.
use Rattle.std.proofs.Common.{◌≡◌, ℕ, ◌+◌, Bool, true, false, cond, List, [], ◌∷◌, ◌++◌, map, length, Some, None, is_some, refl, sym, ap, subst, ◌∙◌, inl, inr, arith}
use Rattle.std.specs.Prelude.{nat_eq}
use Rattle.std.specs.List.{AllByRecursion, IsDistinct}
use Rattle.std.specs.Option.{option_map_or}
use Rattle.std.proofs.lemmas.Bool.{and_right, both_ways, ne_eqb}
use Rattle.std.proofs.lemmas.List.{length-map, map-append}
use Rattle.registry_core.specs.declared.effects.Effect.{Effect}
use Rattle.registry_core.specs.declared.effects.Effect.TheVariants.{Nothing, AddsSender, AddsOwner, AddsGateway, AddsDevice, MovesDevice, AddsSession, AddsUplink, AddsReception, AddsBooking, EndsBooking, SetsLimit}
use Rattle.registry_core.specs.declared.facts.Booking.{Booking}
use Rattle.registry_core.specs.declared.facts.Kind.TheVariants.{Join}
use Rattle.registry_core.specs.declared.facts.Session.{Session}
use Rattle.registry_core.specs.declared.facts.Uplink.{Uplink}
use Rattle.registry_core.specs.Bookings.{next_down}
use Rattle.registry_core.specs.Derived.{is_data, is_of_device, is_session_of}
use Rattle.registry_core.specs.Fits.{Fits}
use Rattle.registry_core.specs.Numbered.{greatest, item_at}
use Rattle.registry_core.specs.State.{state_with}
use Rattle.sqlite_keyed.specs.Lists.{update_where}
use Rattle.desk_rows.specs.Rows.{Rows, DeviceRow, ReplyRow, SessionRow, is_device}
use Rattle.desk_rows.specs.order.Changes.{RowsFollowFacts, booking_row, device_row, kind_at, moved, raised, reception_row, rows_with, sender_row, session_of_uplink, session_row, sessions_counted}
use Rattle.desk_rows.specs.order.Facts.{bookings_in, facts_in, sessions_in}
use Rattle.desk_rows.specs.order.RowsOf.{AnswersUplink, IsCounted, IsKeyed, IsOfSession, IsOfUplink, NamesRows, floor_of, is_data_from, same_join}
use Rattle.desk_rows.proofs.OrderLemmas.Counters.{HasDowns, HasFloor, answers_ended, answers_new, answers_with, downs_with, floor_join, floor_session, floors_raised, kind_found, next_down_ended, next_down_kept, next_down_none, session_found}
use Rattle.desk_rows.proofs.OrderLemmas.Counting.{filter_none}
use Rattle.desk_rows.proofs.OrderLemmas.Each.{all_at, all_map, all_so, all_with}
use Rattle.desk_rows.proofs.OrderLemmas.Few.{few_with}
use Rattle.desk_rows.proofs.OrderLemmas.Finding.{keys_changed}
use Rattle.desk_rows.proofs.OrderLemmas.Keys.{devices_with, named_once_with, receptions_keyed, senders_with, sessions_with}
use Rattle.desk_rows.proofs.OrderLemmas.Limits.{limits_keyed}
use Rattle.desk_rows.proofs.OrderLemmas.Named.{HasDevice, device_changed, device_with, receptions_with, session_kept, session_new, session_there}
use Rattle.desk_rows.proofs.OrderLemmas.Numbering.{item_end, item_past, item_there, item_with}
use Rattle.desk_rows.proofs.OrderLemmas.Telling.{counted_shown, device_found, facts_with, there_changed}

sessions_more : (sessions : List SessionRow) (session : Session) → sessions_in (sessions ++ session_row session ∷ []) ≡ sessions_in sessions ++ session ∷ []
sessions_more sessions session = map-append (λ (s : SessionRow). s.session) sessions (session_row session ∷ [])

-- ---- counters

-- a device that isn't there has no data uplink
pub no_floor : (r : Rows) → NamesRows r → (dev_eui : ℕ) → device_found r.devices dev_eui ≡ None → None ≡ floor_of r.uplinks (sessions_in r.sessions) dev_eui
no_floor r names dev_eui free = sym (ap (λ us. greatest (map (λ (u : Uplink). u.session) us))
    (filter_none (is_data_from sessions dev_eui) r.uplinks
    (all_so (IsOfSession sessions) (λ u. is_data_from sessions dev_eui u ≡ false) not_own r.uplinks names.uplinks)))
  where
    sessions : List Session
    sessions = sessions_in r.sessions

    not_own : (u : Uplink) → IsOfSession sessions u → is_data_from sessions dev_eui u ≡ false
    not_own u of =
        let has : HasDevice r.devices of.session = all_at (HasDevice r.devices) sessions u.session of.session of.there names.sessions in
        and_right (is_data u.kind) _ (ap (λ found. option_map_or (is_session_of dev_eui) found false) of.there
        ∙ ne_eqb of.session.device dev_eui
        (λ same. both_ways (is_some (device_found r.devices of.session.device)) (ap is_some (ap (device_found r.devices) same ∙ free)) has))

moved_floors : (r : Rows) (dev_eui : ℕ) (owner : List ℕ) → IsCounted r
    → AllByRecursion (HasFloor r.uplinks (sessions_in r.sessions)) (update_where (is_device dev_eui) (moved owner) r.devices)
moved_floors r dev_eui owner counted = all_map has has _ (λ d floor. by d (is_device dev_eui d) floor) r.devices counted.floors
  where
    has : DeviceRow → Type 0
    has = HasFloor r.uplinks (sessions_in r.sessions)

    by : (d : DeviceRow) (b : Bool) → HasFloor r.uplinks (sessions_in r.sessions) d → HasFloor r.uplinks (sessions_in r.sessions) (cond b (moved owner d) d)
    by d true floor = floor
    by d false floor = floor

-- with a new session and its join uplink
module _ (r : Rows) (session : Session) (uplink : Uplink) (join : uplink.kind ≡ Join) (names : NamesRows r) (counted : IsCounted r) where
  session_floors : AllByRecursion (HasFloor (r.uplinks ++ uplink ∷ []) (sessions_in (r.sessions ++ session_row session ∷ []))) r.devices
  session_floors = all_so (HasFloor r.uplinks (sessions_in r.sessions))
      (HasFloor (r.uplinks ++ uplink ∷ []) (sessions_in (r.sessions ++ session_row session ∷ [])))
      (λ d has. has ∙ sym (
      floor_join r.uplinks (sessions_in (r.sessions ++ session_row session ∷ [])) uplink join d.dev_eui
      ∙ ap (λ sessions. floor_of r.uplinks sessions d.dev_eui) (sessions_more r.sessions session)
      ∙ floor_session (sessions_in r.sessions) (session ∷ []) r.uplinks names.uplinks d.dev_eui))
      r.devices counted.floors

  session_downs : (n : ℕ) (s : SessionRow) → item_at (r.sessions ++ session_row session ∷ []) n ≡ Some s → HasDowns r.bookings (r.uplinks ++ uplink ∷ []) n s
  session_downs n s at =
      let kept : next_down (bookings_in r.bookings) (r.uplinks ++ uplink ∷ []) n ≡ next_down (bookings_in r.bookings) r.uplinks n =
      next_down_kept r.uplinks (uplink ∷ []) r.bookings counted.bookings n in
      elim (item_with r.sessions (session_row session) n s at) [
        | inl before ↦ counted.next_downs n s before ∙ sym kept
        | inr new ↦
            let absent : item_at (sessions_in r.sessions) n ≡ None =
            item_past (sessions_in r.sessions) n (omega (arith, new.0, length-map r.sessions (λ (x : SessionRow). x.session))) in
            ap (λ (x : SessionRow). x.next_down) (sym new.1)
            ∙ sym (kept ∙ next_down_none r.uplinks (sessions_in r.sessions) names.uplinks n absent r.bookings counted.bookings)
      ]

-- with a new booking
module _ (r : Rows) (booking : Booking) (uplink : Uplink) (there : item_at r.uplinks booking.uplink ≡ Some uplink) (counted : IsCounted r) where
  booking_downs : (n : ℕ) (s : SessionRow)
      → item_at (sessions_counted (kind_at r.uplinks booking.uplink) (session_of_uplink r.uplinks booking.uplink) r.sessions) n ≡ Some s
      → HasDowns (r.bookings ++ booking_row r.uplinks booking ∷ []) r.uplinks n s
  booking_downs n s at =
      downs_with r.bookings r.uplinks booking uplink there r.sessions counted.next_downs (booking_row r.uplinks booking) refl
      (kind_at r.uplinks booking.uplink) (sym (kind_found r.uplinks booking.uplink uplink there)) n s
      (ap (λ m. item_at (sessions_counted (kind_at r.uplinks booking.uplink) m r.sessions) n) (sym (session_found r.uplinks booking.uplink uplink there))
      ∙ at)

counted_with : (r : Rows) (effect : Effect) (reply : ReplyRow) → NamesRows r → Fits effect (facts_in r) → IsCounted r → IsCounted (rows_with effect reply r)
counted_with r Nothing reply names fits counted = record { floors = counted.floors; next_downs = counted.next_downs; bookings = counted.bookings }
counted_with r (AddsSender name role) reply names fits counted =
    record { floors = counted.floors; next_downs = counted.next_downs; bookings = counted.bookings }
counted_with r (AddsOwner name) reply names fits counted = record { floors = counted.floors; next_downs = counted.next_downs; bookings = counted.bookings }
counted_with r (AddsGateway name) reply names fits counted = record { floors = counted.floors; next_downs = counted.next_downs; bookings = counted.bookings }
counted_with r (AddsReception number gateway reception) reply names fits counted =
    record { floors = counted.floors; next_downs = counted.next_downs; bookings = counted.bookings }
counted_with r (AddsDevice dev_eui device) reply names fits counted = record {
  floors = all_with (HasFloor r.uplinks (sessions_in r.sessions)) r.devices (device_row dev_eui device) counted.floors (no_floor r names dev_eui fits.0);
  next_downs = counted.next_downs;
  bookings = counted.bookings;
}
counted_with r (MovesDevice dev_eui owner) reply names fits counted =
    record { floors = moved_floors r dev_eui owner counted; next_downs = counted.next_downs; bookings = counted.bookings }
counted_with r (AddsSession session uplink gateway reception) reply names fits counted = record {
  floors = session_floors r session uplink fits.kind names counted;
  next_downs = session_downs r session uplink fits.kind names counted;
  bookings = answers_with r.uplinks (uplink ∷ []) r.bookings counted.bookings;
}
counted_with r (AddsUplink uplink gateway reception) reply names fits counted = record {
  floors = floors_raised r.uplinks r.sessions uplink fits.kind r.devices counted.floors;
  next_downs = λ n s at. counted.next_downs n s at ∙ sym (next_down_kept r.uplinks (uplink ∷ []) r.bookings counted.bookings n);
  bookings = answers_with r.uplinks (uplink ∷ []) r.bookings counted.bookings;
}
counted_with r (AddsBooking booking) reply names fits counted =
    let found = item_there r.uplinks booking.uplink (item_at r.uplinks booking.uplink) refl fits.uplink in
    record {
      floors = subst (λ sessions. AllByRecursion (HasFloor r.uplinks sessions) r.devices)
          (counted_shown (kind_at r.uplinks booking.uplink) (session_of_uplink r.uplinks booking.uplink) r.sessions) counted.floors;
      next_downs = booking_downs r booking found.0 found.1 counted;
      bookings = all_with (AnswersUplink r.uplinks) r.bookings (booking_row r.uplinks booking) counted.bookings
          (answers_new r.uplinks booking found.0 found.1);
    }
counted_with r (EndsBooking number sent) reply names fits counted = record {
  floors = counted.floors;
  next_downs = λ n s at. counted.next_downs n s at ∙ sym (next_down_ended r.bookings r.uplinks number sent n);
  bookings = answers_ended r.uplinks r.bookings number sent counted.bookings;
}
counted_with r (SetsLimit gateway limit) reply names fits counted =
    record { floors = counted.floors; next_downs = counted.next_downs; bookings = counted.bookings }

-- ---- what rows name

names_with : (r : Rows) (effect : Effect) (reply : ReplyRow) → Fits effect (facts_in r) → NamesRows r → NamesRows (rows_with effect reply r)
names_with r Nothing reply fits names = record { sessions = names.sessions; uplinks = names.uplinks; receptions = names.receptions }
names_with r (AddsSender name role) reply fits names = record { sessions = names.sessions; uplinks = names.uplinks; receptions = names.receptions }
names_with r (AddsOwner name) reply fits names = record { sessions = names.sessions; uplinks = names.uplinks; receptions = names.receptions }
names_with r (AddsGateway name) reply fits names = record { sessions = names.sessions; uplinks = names.uplinks; receptions = names.receptions }
names_with r (AddsReception number gateway reception) reply fits names = record {
  sessions = names.sessions;
  uplinks = names.uplinks;
  receptions = all_with (IsOfUplink r.uplinks) r.receptions (reception_row number gateway reception) names.receptions fits.uplink;
}
names_with r (EndsBooking number sent) reply fits names = record { sessions = names.sessions; uplinks = names.uplinks; receptions = names.receptions }
names_with r (SetsLimit gateway limit) reply fits names = record { sessions = names.sessions; uplinks = names.uplinks; receptions = names.receptions }
names_with r (AddsDevice dev_eui device) reply fits names =
    record {
      sessions = device_with r.devices (device_row dev_eui device ∷ []) (sessions_in r.sessions) names.sessions;
      uplinks = names.uplinks;
      receptions = names.receptions;
    }
names_with r (MovesDevice dev_eui owner) reply fits names = record {
  sessions = device_changed r.devices _ (there_changed (is_device dev_eui) (moved owner) (λ d. refl) r.devices) (sessions_in r.sessions) names.sessions;
  uplinks = names.uplinks;
  receptions = names.receptions;
}
names_with r (AddsSession session uplink gateway reception) reply fits names =
    let more = sym (sessions_more r.sessions session) in
    let old : List Session = sessions_in r.sessions in
    record {
      sessions = subst (AllByRecursion (HasDevice r.devices)) more (all_with (HasDevice r.devices) old session names.sessions fits.device);
      uplinks = subst (λ sessions. AllByRecursion (IsOfSession sessions) (r.uplinks ++ uplink ∷ [])) more
          (all_with (IsOfSession (old ++ session ∷ [])) r.uplinks uplink
          (all_so (IsOfSession old) (IsOfSession (old ++ session ∷ [])) (session_kept old (session ∷ [])) r.uplinks names.uplinks)
          (session_new old session uplink (length old + 1) fits.number (item_end old session) fits.counter));
      receptions = receptions_with r.uplinks uplink r.receptions gateway reception names.receptions;
    }
names_with r (AddsUplink uplink gateway reception) reply fits names = record {
  sessions = device_changed r.devices _
      (there_changed (λ d. is_of_device (sessions_in r.sessions) d.dev_eui uplink.session) (raised uplink.session) (λ d. refl) r.devices)
      (sessions_in r.sessions) names.sessions;
  uplinks = all_with (IsOfSession (sessions_in r.sessions)) r.uplinks uplink names.uplinks
      (session_there (sessions_in r.sessions) uplink (item_at (sessions_in r.sessions) uplink.session) refl fits.session fits.kind);
  receptions = receptions_with r.uplinks uplink r.receptions gateway reception names.receptions;
}
names_with r (AddsBooking booking) reply fits names =
    let same = counted_shown (kind_at r.uplinks booking.uplink) (session_of_uplink r.uplinks booking.uplink) r.sessions in
    record {
      sessions = subst (AllByRecursion (HasDevice r.devices)) same names.sessions;
      uplinks = subst (λ sessions. AllByRecursion (IsOfSession sessions) r.uplinks) same names.uplinks;
      receptions = names.receptions;
    }

-- ---- keys

keyed_with : (r : Rows) (effect : Effect) (reply : ReplyRow) → Fits effect (facts_in r) → IsKeyed r → IsKeyed (rows_with effect reply r)
keyed_with r Nothing reply fits keyed = record { senders = keyed.senders; owners = keyed.owners; gateways = keyed.gateways; devices = keyed.devices; sessions = keyed.sessions; receptions = keyed.receptions; limits = keyed.limits }
keyed_with r (AddsSender name role) reply fits keyed = record {
  senders = senders_with r.senders (sender_row name role) fits keyed.senders;
  owners = keyed.owners;
  gateways = keyed.gateways;
  devices = keyed.devices;
  sessions = keyed.sessions;
  receptions = keyed.receptions;
  limits = keyed.limits;
}
keyed_with r (AddsOwner name) reply fits keyed = record {
  senders = keyed.senders;
  owners = named_once_with r.owners name fits keyed.owners;
  gateways = keyed.gateways;
  devices = keyed.devices;
  sessions = keyed.sessions;
  receptions = keyed.receptions;
  limits = keyed.limits;
}
keyed_with r (AddsGateway name) reply fits keyed = record {
  senders = keyed.senders;
  owners = keyed.owners;
  gateways = named_once_with r.gateways name fits keyed.gateways;
  devices = keyed.devices;
  sessions = keyed.sessions;
  receptions = keyed.receptions;
  limits = keyed.limits;
}
keyed_with r (AddsReception number gateway reception) reply fits keyed = record {
  senders = keyed.senders;
  owners = keyed.owners;
  gateways = keyed.gateways;
  devices = keyed.devices;
  sessions = keyed.sessions;
  receptions = receptions_keyed r.receptions (reception_row number gateway reception) fits.no_reception keyed.receptions;
  limits = keyed.limits;
}
keyed_with r (EndsBooking number sent) reply fits keyed = record { senders = keyed.senders; owners = keyed.owners; gateways = keyed.gateways; devices = keyed.devices; sessions = keyed.sessions; receptions = keyed.receptions; limits = keyed.limits }
keyed_with r (AddsDevice dev_eui device) reply fits keyed = record {
  senders = keyed.senders;
  owners = keyed.owners;
  gateways = keyed.gateways;
  devices = devices_with r.devices (device_row dev_eui device) fits.0 keyed.devices;
  sessions = keyed.sessions;
  receptions = keyed.receptions;
  limits = keyed.limits;
}
keyed_with r (MovesDevice dev_eui owner) reply fits keyed = record {
  senders = keyed.senders;
  owners = keyed.owners;
  gateways = keyed.gateways;
  devices = subst (IsDistinct nat_eq) (keys_changed (λ (d : DeviceRow). d.dev_eui) (is_device dev_eui) (moved owner) (λ d. refl) r.devices) keyed.devices;
  sessions = keyed.sessions;
  receptions = keyed.receptions;
  limits = keyed.limits;
}
keyed_with r (AddsSession session uplink gateway reception) reply fits keyed = record {
  senders = keyed.senders;
  owners = keyed.owners;
  gateways = keyed.gateways;
  devices = keyed.devices;
  sessions = subst (IsDistinct same_join) (sym (sessions_more r.sessions session)) (sessions_with (sessions_in r.sessions) session fits.nonce keyed.sessions);
  receptions = receptions_keyed r.receptions (reception_row (length r.uplinks + 1) gateway reception) fits.no_reception keyed.receptions;
  limits = keyed.limits;
}
keyed_with r (AddsUplink uplink gateway reception) reply fits keyed = record {
  senders = keyed.senders;
  owners = keyed.owners;
  gateways = keyed.gateways;
  devices = subst (IsDistinct nat_eq)
      (keys_changed (λ (d : DeviceRow). d.dev_eui) (λ d. is_of_device (sessions_in r.sessions) d.dev_eui uplink.session) (raised uplink.session) (λ d. refl) r.devices) keyed.devices;
  sessions = keyed.sessions;
  receptions = receptions_keyed r.receptions (reception_row (length r.uplinks + 1) gateway reception) fits.no_reception keyed.receptions;
  limits = keyed.limits;
}
keyed_with r (AddsBooking booking) reply fits keyed = record {
  senders = keyed.senders;
  owners = keyed.owners;
  gateways = keyed.gateways;
  devices = keyed.devices;
  sessions = subst (IsDistinct same_join) (counted_shown (kind_at r.uplinks booking.uplink) (session_of_uplink r.uplinks booking.uplink) r.sessions) keyed.sessions;
  receptions = keyed.receptions;
  limits = keyed.limits;
}
keyed_with r (SetsLimit gateway limit) reply fits keyed = record {
  senders = keyed.senders;
  owners = keyed.owners;
  gateways = keyed.gateways;
  devices = keyed.devices;
  sessions = keyed.sessions;
  receptions = keyed.receptions;
  limits = limits_keyed r.limits gateway limit keyed.limits;
}

-- ---- all

settings_with : (r : Rows) (effect : Effect) (reply : ReplyRow) → (rows_with effect reply r).settings ≡ r.settings
settings_with r Nothing reply = refl
settings_with r (AddsSender name role) reply = refl
settings_with r (AddsOwner name) reply = refl
settings_with r (AddsGateway name) reply = refl
settings_with r (AddsReception number gateway reception) reply = refl
settings_with r (AddsDevice dev_eui device) reply = refl
settings_with r (MovesDevice dev_eui owner) reply = refl
settings_with r (AddsSession session uplink gateway reception) reply = refl
settings_with r (AddsUplink uplink gateway reception) reply = refl
settings_with r (AddsBooking booking) reply = refl
settings_with r (EndsBooking number sent) reply = refl
settings_with r (SetsLimit gateway limit) reply = refl

pub rows_follow : RowsFollowFacts
rows_follow c facts r effect reply are fits =
    let here : Fits effect (facts_in r) = subst (Fits effect) are.is fits in
    record {
      settings = settings_with r effect reply ∙ are.settings;
      is = ap (λ s. state_with s effect) are.is ∙ facts_with r effect reply here;
      counted = counted_with r effect reply are.names here are.counted;
      names = names_with r effect reply here are.names;
      keyed = keyed_with r effect reply here are.keyed;
      few = few_with r effect reply are.few;
    }
