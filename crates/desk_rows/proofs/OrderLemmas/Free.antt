-- The keys of the rows that an effect adds are free.
use Rattle.std.proofs.Common.{◌≡◌, ℕ, ◌+◌, ◌<◌, ◌≤◌, ◌==◌, ◌&&◌, Bool, true, false, List, [], ◌∷◌, map, find, length, None, option_map, refl, sym, ap, ap₂, subst, arith}
use Rattle.std.specs.Prelude.{IsTrue}
use Rattle.std.specs.List.{AllByRecursion, list_any}
use Rattle.std.proofs.lemmas.Bool.{and_left, and_right, ne_eqb, or_from}
use Rattle.radio_core.specs.Bands.{band_number}
use Rattle.registry_core.specs.declared.effects.Effect.{Effect}
use Rattle.registry_core.specs.declared.effects.Effect.TheVariants.{Nothing, AddsSender, AddsOwner, AddsGateway, AddsDevice, MovesDevice, AddsSession, AddsUplink, AddsReception, AddsBooking, EndsBooking, SetsLimit}
use Rattle.registry_core.specs.declared.facts.Kind.{Kind}
use Rattle.registry_core.specs.declared.facts.Kind.TheVariants.{Join, Data}
use Rattle.registry_core.specs.declared.facts.Session.{Session}
use Rattle.registry_core.specs.declared.facts.Uplink.{Uplink}
use Rattle.registry_core.specs.Derived.{is_above, is_data, is_data_of, last_counter}
use Rattle.registry_core.specs.Fits.{Fits}
use Rattle.registry_core.specs.Heard.{most_heard}
use Rattle.desk_rows.specs.Rows.{Rows, ReceptionRow, DeviceRow, LimitRow, SenderRow, SessionRow, kind_number, is_reception, is_device, is_limit, is_sender_named, is_uplink}
use Rattle.desk_rows.specs.order.Facts.{facts_in, sessions_in}
use Rattle.desk_rows.specs.order.Keys.{HasRowid, IsFreeFor, KeysAreFree}
use Rattle.desk_rows.specs.order.RowsOf.{IsFew, IsOfSession, same_join}
use Rattle.desk_rows.proofs.OrderLemmas.Counting.{above_each}
use Rattle.desk_rows.proofs.OrderLemmas.Each.{all_so, none_found}
use Rattle.desk_rows.proofs.OrderLemmas.Finding.{none_shown}
use Rattle.desk_rows.proofs.OrderLemmas.Keys.{no_such_join}
use Rattle.desk_rows.proofs.OrderLemmas.Numbering.{item_within}

none_any : {X : Type 0} (p : X → Bool) (xs : List X) → AllByRecursion (λ x. p x ≡ false) xs → list_any p xs ≡ false
none_any p [] each = refl
none_any p (x ∷ xs) each = or_from (p x) _ each.0 (none_any p xs each.1)

-- no row is found, so none has the key
pub none_has : {X V : Type 0} (show : X → V) (p : X → Bool) (xs : List X) → option_map show (find p xs) ≡ None → list_any p xs ≡ false
none_has show p xs none = none_any p xs (none_found p xs (none_shown show (find p xs) none))

none_of_shown : {X Y : Type 0} (f : X → Y) (p : Y → Bool) (xs : List X) → AllByRecursion (λ y. p y ≡ false) (map f xs) → list_any (λ x. p (f x)) xs ≡ false
none_of_shown f p [] each = refl
none_of_shown f p (x ∷ xs) each = or_from (p (f x)) _ each.0 (none_of_shown f p xs each.1)

-- ---- uplinks

-- an uplink of a session that isn't there
session_free : (sessions : List Session) (uplinks : List Uplink) → AllByRecursion (IsOfSession sessions) uplinks → (session : ℕ) (kind : Kind) (counter : ℕ)
    → length sessions < session → list_any (is_uplink session kind counter) uplinks ≡ false
session_free sessions uplinks each session kind counter past = none_any (is_uplink session kind counter) uplinks
    (all_so (IsOfSession sessions) (λ u. is_uplink session kind counter u ≡ false)
    (λ u of. let within = item_within sessions u.session of.session of.there in
    and_left _ (kind_number u.kind == kind_number kind && u.counter == counter) (ne_eqb u.session session (λ same. omega (arith, within.1))))
    uplinks each)

-- a data uplink with a counter above the session's last
module _ (uplinks : List Uplink) (session counter : ℕ) (above : IsTrue (is_above counter (last_counter uplinks session))) where
  counter_by : (u : Uplink) (k : Kind) → u.kind ≡ k → (b : Bool) → (u.session == session) ≡ b → (is_data_of session u ≡ true → u.counter < counter)
      → is_uplink session Data counter u ≡ false
  counter_by u Join is b own below = and_right (u.session == session) _ (and_left _ (u.counter == counter) (ap (λ k. kind_number k == 1) is))
  counter_by u Data is true own below =
      let less : u.counter < counter = below (ap₂ (λ k c. is_data k && c) is own) in
      and_right (u.session == session) _ (and_right (kind_number u.kind == 1) _ (ne_eqb u.counter counter (λ same. omega arith)))
  counter_by u Data is false own below = and_left _ (kind_number u.kind == 1 && u.counter == counter) own

  counter_free : list_any (is_uplink session Data counter) uplinks ≡ false
  counter_free = none_any (is_uplink session Data counter) uplinks
      (all_so (λ u. is_data_of session u ≡ true
      → u.counter < counter) (λ u. is_uplink session Data counter u
      ≡ false) (λ u below. counter_by u u.kind refl (u.session == session) refl below) uplinks
      (above_each (λ (u : Uplink). u.counter) (is_data_of session) counter uplinks above))

-- ---- each effect

room : {X Y : Type 0} (rows : List X) (replies : List Y) → length rows ≤ length replies + 1 → length replies < most_heard → HasRowid rows
room rows replies few below = omega arith

free_for : (r : Rows) (effect : Effect) → AllByRecursion (IsOfSession (sessions_in r.sessions)) r.uplinks → IsFew r → Fits effect (facts_in r)
    → length r.replies < most_heard → IsFreeFor effect r
free_for r Nothing named few fits below = tt
free_for r (AddsSender name role) named few fits below =
    record { key = none_has (λ (s : SenderRow). s.role) (is_sender_named name) r.senders fits; room = room r.senders r.replies few.senders below }
free_for r (AddsOwner name) named few fits below = record { key = fits; room = room r.owners r.replies (omega (arith, few.owners)) below }
free_for r (AddsGateway name) named few fits below = record { key = fits; room = room r.gateways r.replies (omega (arith, few.gateways)) below }
free_for r (AddsDevice dev_eui device) named few fits below = record {
  key = none_has (λ (d : DeviceRow). d.device) (is_device dev_eui) r.devices fits.0;
  room = room r.devices r.replies (omega (arith, few.devices)) below;
}
free_for r (MovesDevice dev_eui owner) named few fits below = tt
free_for r (AddsSession session uplink gateway reception) named few fits below = (
  record {
    key = none_of_shown (λ (s : SessionRow). s.session) (λ s. same_join s session) r.sessions (no_such_join (sessions_in r.sessions) session fits.nonce);
    room = room r.sessions r.replies (omega (arith, few.sessions)) below;
  },
  record {
    key = session_free (sessions_in r.sessions) r.uplinks named uplink.session uplink.kind uplink.counter (omega (arith, fits.number));
    room = room r.uplinks r.replies (omega (arith, few.uplinks)) below;
  },
  record {
    key = none_has (λ (c : ReceptionRow). c.reception) (is_reception (length r.uplinks + 1) gateway) r.receptions fits.no_reception;
    room = room r.receptions r.replies (omega (arith, few.receptions)) below;
  },
)
free_for r (AddsUplink uplink gateway reception) named few fits below = (
  record {
    key = subst (λ k. list_any (is_uplink uplink.session k uplink.counter) r.uplinks ≡ false) (sym fits.kind)
        (counter_free r.uplinks uplink.session uplink.counter fits.counter);
    room = room r.uplinks r.replies (omega (arith, few.uplinks)) below;
  },
  record {
    key = none_has (λ (c : ReceptionRow). c.reception) (is_reception (length r.uplinks + 1) gateway) r.receptions fits.no_reception;
    room = room r.receptions r.replies (omega (arith, few.receptions)) below;
  },
)
free_for r (AddsReception number gateway reception) named few fits below = record {
  key = none_has (λ (c : ReceptionRow). c.reception) (is_reception number gateway) r.receptions fits.no_reception;
  room = room r.receptions r.replies (omega (arith, few.receptions)) below;
}
free_for r (AddsBooking booking) named few fits below = room r.bookings r.replies (omega (arith, few.bookings)) below
free_for r (EndsBooking number sent) named few fits below = tt
free_for r (SetsLimit gateway limit) named few fits below = λ none. record {
  key = none_has (λ (l : LimitRow). l.limit.most) (is_limit gateway (band_number limit.band)) r.limits none;
  room = room r.limits r.replies (omega (arith, few.limits)) below;
}

pub keys_are_free : KeysAreFree
keys_are_free c facts r effect are fits below =
    (free_for r effect are.names.uplinks are.few (subst (Fits effect) are.is fits) below, room r.replies r.replies (omega arith) below)
