-- A number from 2^53 on is that of no message, session, uplink or booking, so look-ups by it find nothing.
use Rattle.std.proofs.Common.{◌≡◌, ℕ, zero, suc, ◌+◌, ◌<◌, ◌==◌, ◌&&◌, ◌||◌, not, Bool, true, false, cond, List, [], ◌∷◌, map, filter, find, length, Option, Some, None, option_map, refl, sym, ap, ap₂, ◌∙◌, arith}
use Rattle.std.specs.Prelude.{bytes_eq, is_some}
use Rattle.std.specs.List.{AllByRecursion, list_any}
use Rattle.std.specs.List.Sorted.{IsStrictlySortedBy}
use Rattle.std.proofs.lemmas.Bool.{ne_eqb}
use Rattle.std.proofs.lemmas.List.{length-map}
use Rattle.std.proofs.lemmas.Option.{slice_get_past, slice_get_within}
use Rattle.registry_core.specs.declared.facts.Kind.TheVariants.{Join}
use Rattle.registry_core.specs.declared.facts.Uplink.{Uplink}
use Rattle.registry_core.specs.Bookings.{is_answer_to, is_dropped}
use Rattle.registry_core.specs.Derived.{data_with, is_data, is_data_of, is_data_with, last_counter}
use Rattle.registry_core.specs.Listing.{AreNames, has_reception, is_of_session, last_start}
use Rattle.registry_core.specs.Numbered.{first_from, first_that, greatest, item_at}
use Rattle.registry_core.specs.Settings.{Settings}
use Rattle.registry_core.specs.State.{State}
use Rattle.registry_core.specs.JsonIntegers.{IsJsonInteger}
use Rattle.desk_store.specs.Kept.{Kept}
use Rattle.desk_rows.specs.Rows.{Rows, BookingRow, ReceptionRow, SessionRow, is_reception, is_uplink, kind_number}
use Rattle.desk_rows.specs.order.Facts.{sessions_in}
use Rattle.desk_rows.specs.order.RowsOf.{AnswersUplink, IsOfSession, IsOfUplink}
use Rattle.desk_tables.specs.InOrder.{entry_in}
use Rattle.desk_tables.specs.steps.LookUps.{RowsTell}

-- ---- lists none of whose items passes

module _ {X : Type 0} (p : X → Bool) where
  filter_none : (xs : List X) → AllByRecursion (λ x. p x ≡ false) xs → filter p xs ≡ []
  filter_none [] each = refl
  filter_none (x ∷ xs) each = ap (λ b. cond b (x ∷ filter p xs) (filter p xs)) each.0 ∙ filter_none xs each.1

  first_none : (n : ℕ) (xs : List X) → AllByRecursion (λ x. p x ≡ false) xs → first_from n p xs ≡ None
  first_none n [] each = refl
  first_none n (x ∷ xs) each = ap (λ b. cond b (Some (n, x)) (first_from (n + 1) p xs)) each.0 ∙ first_none (n + 1) xs each.1

  find_none : (xs : List X) → AllByRecursion (λ x. p x ≡ false) xs → find p xs ≡ None
  find_none [] each = refl
  find_none (x ∷ xs) each = ap (λ b. cond b (Some x) (find p xs)) each.0 ∙ find_none xs each.1

  any_none : (xs : List X) → AllByRecursion (λ x. p x ≡ false) xs → list_any p xs ≡ false
  any_none [] each = refl
  any_none (x ∷ xs) each = ap₂ (λ a b. a || b) each.0 (any_none xs each.1)

each_so : {X : Type 0} (P Q : X → Type 0) → ((x : X) → P x → Q x) → (xs : List X) → AllByRecursion P xs → AllByRecursion Q xs
each_so P Q so [] each = tt
each_so P Q so (x ∷ xs) each = (so x each.0, each_so P Q so xs each.1)

-- ---- numbers past the last

item_past : {X : Type 0} (xs : List X) (n : ℕ) → length xs < n → item_at xs n ≡ None
item_past xs zero past = absurd (omega arith)
item_past xs (suc n) past = slice_get_past xs n (omega arith)

-- an item that is there has another number
differs : {X : Type 0} (xs : List X) (n m : ℕ) (x : X) → length xs < n → item_at xs m ≡ Some x → (m == n) ≡ false
differs xs n zero x past at = let no : None ≡ Some x = at in cc
differs xs n (suc m) x past at = ne_eqb (suc m) n (λ is. let within = slice_get_within xs m x at in omega arith)

-- ---- numbers from 2^53 on

and_false : (b : Bool) → (b && false) ≡ false
and_false true = refl
and_false false = refl

module _ (c : Settings) (kept : Kept) (r : Rows) (tell : RowsTell c kept r) (n : ℕ) (beyond : ¬ IsJsonInteger n) where
  -- more than there are messages
  above : length r.replies < n
  above = let same : length kept.entries ≡ length r.replies = ap length tell.entries ∙ length-map r.replies entry_in in omega (arith, same, tell.few, beyond)

  past_sessions : length (sessions_in r.sessions) < n
  past_sessions = omega (arith, above, tell.are.few.sessions, length-map r.sessions (λ (s : SessionRow). s.session))

  past_uplinks : length r.uplinks < n
  past_uplinks = omega (arith, above, tell.are.few.uplinks)

  pub no_reply : item_at r.replies n ≡ None
  no_reply = item_past r.replies n above

  pub no_session : item_at r.sessions n ≡ None
  no_session = item_past r.sessions n (omega (arith, above, tell.are.few.sessions))

  of_no_session : AllByRecursion (λ (u : Uplink). (u.session == n) ≡ false) r.uplinks
  of_no_session = each_so (IsOfSession (sessions_in r.sessions)) (λ u. (u.session == n) ≡ false)
      (λ u of. differs (sessions_in r.sessions) n u.session of.session past_sessions of.there) r.uplinks tell.are.names.uplinks

  of_no_uplink : AllByRecursion (λ (row : ReceptionRow). (row.uplink == n) ≡ false) r.receptions
  of_no_uplink = each_so (IsOfUplink r.uplinks) (λ row. (row.uplink == n) ≡ false) (λ row there. go row (item_at r.uplinks row.uplink) refl there)
      r.receptions tell.are.names.receptions
    where
      go : (row : ReceptionRow) (found : Option Uplink) → item_at r.uplinks row.uplink ≡ found → is_some found ≡ true → (row.uplink == n) ≡ false
      go row None at some = let none : is_some {T = Uplink} None ≡ true = some in cc
      go row (Some u) at some = differs r.uplinks n row.uplink u past_uplinks at

  answers_none : AllByRecursion (λ (b : BookingRow). (b.booking.uplink == n) ≡ false) r.bookings
  answers_none = each_so (AnswersUplink r.uplinks) (λ b. (b.booking.uplink == n) ≡ false)
      (λ b answers. differs r.uplinks n b.booking.uplink answers.uplink past_uplinks answers.there) r.bookings tell.are.counted.bookings

  pub no_counter : last_counter kept.facts.uplinks n ≡ None
  no_counter = ap (λ (s : State). last_counter s.uplinks n) tell.are.is
      ∙ ap (λ us. greatest (map (λ (u : Uplink). u.counter) us)) (filter_none (is_data_of n) r.uplinks
      (each_so (λ (u : Uplink). (u.session == n) ≡ false) (λ u. is_data_of n u ≡ false) (λ u is. ap (λ b. is_data u.kind && b) is ∙ and_false (is_data u.kind)) r.uplinks of_no_session))

  pub no_start : last_start kept.facts.uplinks n ≡ None
  no_start = ap (λ (s : State). last_start s.uplinks n) tell.are.is
      ∙ ap (λ us. greatest (map (λ (u : Uplink). u.start) us)) (filter_none (is_of_session n) r.uplinks of_no_session)

  pub no_data : (counter : ℕ) → data_with kept.facts.uplinks n counter ≡ None
  no_data counter = ap (λ (s : State). data_with s.uplinks n counter) tell.are.is ∙ first_none (is_data_with n counter) 1 r.uplinks
      (each_so (λ (u : Uplink). (u.session == n) ≡ false) (λ u. is_data_with n counter u ≡ false)
      (λ u is. ap (λ b. b && u.counter == counter) (ap (λ b. is_data u.kind && b) is ∙ and_false (is_data u.kind))) r.uplinks of_no_session)

  pub no_join : (nonce : ℕ) → first_that (is_uplink n Join nonce) kept.facts.uplinks ≡ None
  no_join nonce = ap (λ (s : State). first_that (is_uplink n Join nonce) s.uplinks) tell.are.is ∙ first_none (is_uplink n Join nonce) 1 r.uplinks
      (each_so (λ (u : Uplink). (u.session == n) ≡ false) (λ u. is_uplink n Join nonce u ≡ false)
      (λ u is. ap (λ b. b && (kind_number u.kind == kind_number Join && u.counter == nonce)) is) r.uplinks of_no_session)

  pub no_reception : (gateway : List ℕ) → kept.facts.receptions n gateway ≡ None
  no_reception gateway = ap (λ (s : State). s.receptions n gateway) tell.are.is ∙ ap (option_map (λ (row : ReceptionRow). row.reception)) (find_none (is_reception n gateway) r.receptions
      (each_so (λ (row : ReceptionRow). (row.uplink == n) ≡ false) (λ row. is_reception n gateway row ≡ false)
      (λ row is. ap (λ b. b && bytes_eq row.gateway gateway) is) r.receptions of_no_uplink))

  pub no_gateway : AreNames (has_reception kept.facts n) []
  unfolding IsStrictlySortedBy
  no_gateway = record { rising = tt; each = λ name. ap is_some (sym (no_reception name)) }

  pub no_answer : list_any (λ (b : BookingRow). is_answer_to n b.booking) r.bookings ≡ false
  no_answer = any_none (λ (b : BookingRow). is_answer_to n b.booking) r.bookings
      (each_so (λ (b : BookingRow). (b.booking.uplink == n) ≡ false) (λ b. is_answer_to n b.booking ≡ false)
      (λ b is. ap (λ a. a && not (is_dropped b.booking.standing)) is) r.bookings answers_none)
