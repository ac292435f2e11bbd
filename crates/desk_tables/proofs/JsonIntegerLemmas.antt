-- The numbers in an effect that fits are below 2^53, while the log has space for one more message.
use Rattle.std.proofs.Common.{◌≡◌, ℕ, zero, suc, ◌+◌, ◌≤◌, ◌<◌, List, length, Option, Some, None, is_some, IsTrue, refl, arith, subst}
use Rattle.std.proofs.lemmas.List.{length-map}
use Rattle.std.proofs.lemmas.List.Sums.{count_by-le-length}
use Rattle.std.proofs.lemmas.Option.{slice_get_within}
use Rattle.std.specs.List.{AllByRecursion}
use Rattle.sqlite_trees.proofs.ListLemmas.{all-slice_get}
use Rattle.registry_core.specs.declared.effects.Effect.{Effect}
use Rattle.registry_core.specs.declared.effects.Effect.TheVariants.{Nothing, AddsSender, AddsOwner, AddsGateway, AddsDevice, MovesDevice, AddsSession, AddsUplink, AddsReception, AddsBooking, EndsBooking, SetsLimit}
use Rattle.registry_core.specs.declared.facts.Uplink.{Uplink}
use Rattle.registry_core.specs.Bookings.{is_down_of}
use Rattle.registry_core.specs.Fits.{Fits}
use Rattle.registry_core.specs.Heard.{most_heard}
use Rattle.registry_core.specs.Numbered.{item_at}
use Rattle.registry_core.specs.Settings.{Settings}
use Rattle.registry_core.specs.State.{State}
use Rattle.registry_core.specs.JsonIntegers.{IsJsonInteger}
use Rattle.desk_rows.specs.Rows.{Rows, SessionRow, BookingRow}
use Rattle.desk_rows.specs.order.Facts.{bookings_in, facts_in, sessions_in}
use Rattle.desk_rows.specs.order.RowsOf.{AreRowsOf}
use Rattle.desk_tables.specs.steps.Effects.{AreJsonIntegers}

within : {X : Type 0} (xs : List X) (n : ℕ) (x : X) → item_at xs n ≡ Some x → n ≤ length xs
within xs zero x there = absurd cc
within xs (suc n) x there = let less = slice_get_within xs n x there in omega (arith, less)

within_some : {X : Type 0} (xs : List X) (n : ℕ) → IsTrue (is_some (item_at xs n)) → n ≤ length xs
within_some xs n there = go (item_at xs n) refl there
  where
    go : (found : Option _) → item_at xs n ≡ found → IsTrue (is_some found) → n ≤ length xs
    go None is some = absurd (cc)
    go (Some x) is some = within xs n x is

holds_at : {X : Type 0} (P : X → Type 0) (xs : List X) (n : ℕ) (x : X) → AllByRecursion P xs → item_at xs n ≡ Some x → P x
holds_at P xs zero x all there = absurd cc
holds_at P xs (suc n) x all there = all-slice_get P xs n x there all

module _ (c : Settings) (r : Rows) (rows : AreRowsOf c (facts_in r) r) (room : length r.replies < most_heard) where
  is_json_integer : {X : Type 0} (xs : List X) (n : ℕ) → length xs ≤ length r.replies → n ≤ length xs + 1 → IsJsonInteger n
  is_json_integer xs n few at_most = omega (arith, few, at_most, room)

  counts : (number : ℕ) (uplink : Uplink) → item_at r.uplinks number ≡ Some uplink
      → IsJsonInteger uplink.session × ((session : SessionRow) → item_at r.sessions uplink.session ≡ Some session → IsJsonInteger (session.next_down + 1))
  counts number uplink there =
      let named = holds_at _ r.uplinks number uplink rows.names.uplinks there in
      let all = length-map r.sessions (λ (s : SessionRow). s.session) in
      let at_most = within (sessions_in r.sessions) uplink.session named.session named.there in
      let few : uplink.session ≤ length r.sessions = omega (arith, at_most, all) in (
        is_json_integer r.sessions uplink.session rows.few.sessions (omega (arith, few)),
        λ session at.
            let counted = rows.counted.next_downs uplink.session session at in
            let most = count_by-le-length (is_down_of r.uplinks uplink.session) (bookings_in r.bookings) in
            let all = length-map r.bookings (λ (b : BookingRow). b.booking) in
            is_json_integer r.bookings (session.next_down + 1) rows.few.bookings (omega (arith, counted, most, all)),
      )

  json_integers : (effect : Effect) → Fits effect (facts_in r) → AreJsonIntegers effect r
  json_integers Nothing fits = tt
  json_integers (AddsSender name role) fits = tt
  json_integers (AddsOwner name) fits = tt
  json_integers (AddsGateway name) fits = tt
  json_integers (AddsDevice dev_eui device) fits = tt
  json_integers (MovesDevice dev_eui owner) fits = is_json_integer r.devices (length r.devices) rows.few.devices (omega arith)
  json_integers (AddsSession session uplink gateway reception) fits =
      let all = length-map r.sessions (λ (s : SessionRow). s.session) in
      let number = fits.number in (
        is_json_integer r.sessions uplink.session rows.few.sessions (omega (arith, number, all)),
        is_json_integer r.uplinks (length r.uplinks + 1) rows.few.uplinks (omega arith),
      )
  json_integers (AddsUplink uplink gateway reception) fits =
      let few = within_some (sessions_in r.sessions) uplink.session fits.session in
      let all = length-map r.sessions (λ (s : SessionRow). s.session) in (
        is_json_integer r.sessions uplink.session rows.few.sessions (omega (arith, few, all)),
        is_json_integer r.uplinks (length r.uplinks + 1) rows.few.uplinks (omega arith),
        is_json_integer r.devices (length r.devices) rows.few.devices (omega arith),
      )
  json_integers (AddsReception number gateway reception) fits =
      let few = within_some r.uplinks number fits.uplink in is_json_integer r.uplinks number rows.few.uplinks (omega (arith, few))
  json_integers (AddsBooking booking) fits =
      let few = within_some r.uplinks booking.uplink fits.uplink in
      (is_json_integer r.uplinks booking.uplink rows.few.uplinks (omega (arith, few)), counts booking.uplink)
  json_integers (EndsBooking number sent) fits =
      let few = within (bookings_in r.bookings) number fits.booking fits.there in
      let all = length-map r.bookings (λ (b : BookingRow). b.booking) in
      is_json_integer r.bookings number rows.few.bookings (omega (arith, few, all))
  json_integers (SetsLimit gateway limit) fits = is_json_integer r.limits (length r.limits) rows.few.limits (omega arith)

-- of rows of facts that the effect fits
pub numbers_are_json_integers : (c : Settings) (facts : State) (r : Rows) (effect : Effect) → AreRowsOf c facts r → Fits effect facts
    → length r.replies < most_heard → AreJsonIntegers effect r
numbers_are_json_integers c facts r effect rows fits room =
    json_integers c r (subst (λ (s : State). AreRowsOf c s r) rows.is rows) room effect (subst (λ (s : State). Fits effect s) rows.is fits)
