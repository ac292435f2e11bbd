-- The store's cache is right: when it is empty, after a commit, with something more, and for a counter above the last.
use Rattle.std.proofs.Common.{◌≡◌, ◌<◌, ℕ, ◌+◌, ◌==◌, max, Bool, true, false, cond, List, [], ◌∷◌, ◌++◌, map, filter, find, Option, Some, None, option_map, IfSome, refl, sym, subst, ◌∙◌, arith}
use Rattle.std.proofs.lemmas.Bool.Decides.{nat_tests}
use Rattle.std.specs.Option.{option_map_or}
use Rattle.registry_core.specs.declared.facts.Session.{Session}
use Rattle.registry_core.specs.declared.facts.Uplink.{Uplink}
use Rattle.registry_core.specs.Derived.{is_above, is_data_of, is_data_with, last_counter}
use Rattle.registry_core.specs.Numbered.{first_from, greatest}
use Rattle.registry_core.specs.declared.effects.Effect.{Effect}
use Rattle.registry_core.specs.declared.effects.Effect.TheVariants.{Nothing, AddsSender, AddsOwner, AddsGateway, AddsDevice, MovesDevice, AddsSession, AddsUplink, AddsReception, AddsBooking, EndsBooking, SetsLimit}
use Rattle.registry_core.specs.declared.messages.Role.{Role}
use Rattle.sqlite.specs.Effect.{Database}
use Rattle.desk_rows.specs.Decode.{held_again}
use Rattle.desk_rows.specs.Rows.{Holds, ReplyRow, Rows, SenderRow, is_sender_named}
use Rattle.desk_rows.specs.order.Changes.{rows_with, sender_row}
use Rattle.desk_tables.specs.Seen.{AreSeen, IsCounterOf, IsFloorOf, IsRoleOf, IsSeen, IsSessionAt, nothing, seen_after}
use Rattle.desk_tables.specs.declared.seen.Seen.{Seen}
use Rattle.desk_tables.specs.declared.seen.SeenCounter.{SeenCounter}
use Rattle.desk_tables.specs.declared.seen.SeenFloor.{SeenFloor}
use Rattle.desk_tables.specs.declared.seen.SeenRole.{SeenRole}
use Rattle.desk_tables.specs.declared.seen.SeenSession.{SeenSession}

pub nothing_seen : (r : Rows) → IsSeen r nothing
nothing_seen r = record { role = tt; session = tt; floor = tt; counter = tt }

-- ---- after a commit

some_so : {X : Type 0} (P Q : X → Type 0) (found : Option X) → ((x : X) → P x → Q x) → IfSome found P → IfSome found Q
some_so P Q None so is = tt
some_so P Q (Some x) so is = so x is

role_stays : (name : List ℕ) (role : Role) (xs ys : List SenderRow) → option_map (λ (s : SenderRow). s.role) (find (is_sender_named name) xs) ≡ Some role
    → option_map (λ (s : SenderRow). s.role) (find (is_sender_named name) (xs ++ ys)) ≡ Some role
role_stays name role [] ys is = absurd cc
role_stays name role (x ∷ xs) ys is = go (is_sender_named name x) is (role_stays name role xs ys)
  where
    go : (b : Bool) → option_map (λ (s : SenderRow). s.role) (cond b (Some x) (find (is_sender_named name) xs)) ≡ Some role
        → (option_map (λ (s : SenderRow). s.role) (find (is_sender_named name) xs) ≡ Some role
        → option_map (λ (s : SenderRow). s.role) (find (is_sender_named name) (xs ++ ys)) ≡ Some role)
        → option_map (λ (s : SenderRow). s.role) (cond b (Some x) (find (is_sender_named name) (xs ++ ys))) ≡ Some role
    go true is rest = is
    go false is rest = rest is

-- no effect takes a sender's role
role_with : (effect : Effect) (reply : ReplyRow) (r : Rows) (name : List ℕ) (role : Role) → IsRoleOf r name role → IsRoleOf (rows_with effect reply r) name role
role_with (AddsSender added given) reply r name role is = role_stays name role r.senders (sender_row added given ∷ []) is
role_with Nothing reply r name role is = is
role_with (AddsOwner added) reply r name role is = is
role_with (AddsGateway added) reply r name role is = is
role_with (AddsDevice dev_eui device) reply r name role is = is
role_with (MovesDevice dev_eui owner) reply r name role is = is
role_with (AddsSession session uplink gateway reception) reply r name role is = is
role_with (AddsUplink uplink gateway reception) reply r name role is = is
role_with (AddsReception number gateway reception) reply r name role is = is
role_with (AddsBooking booking) reply r name role is = is
role_with (EndsBooking number sent) reply r name role is = is
role_with (SetsLimit gateway limit) reply r name role is = is

-- for the rows with an effect and a message, what stays in the cache is right
pub seen_with : (effect : Effect) (reply : ReplyRow) (r : Rows) (seen : Seen) (db : Database) → IsSeen r seen → Holds db (rows_with effect reply r) → AreSeen (seen_after seen) db
seen_with effect reply r seen db is holds = λ other has.
    let same : rows_with effect reply r ≡ other = held_again db (rows_with effect reply r) holds ∙ sym (held_again db other has) in
    subst (λ rows. IsSeen rows (seen_after seen)) same (record {
      role = some_so (λ (s : SeenRole). IsRoleOf r s.name s.role) (λ (s : SeenRole). IsRoleOf (rows_with effect reply r) s.name s.role) seen.role
          (λ s h. role_with effect reply r s.name s.role h) is.role;
      session = tt;
      floor = tt;
      counter = tt;
    })

-- ---- what was found

-- what a look-up found is there
pub some_found : {X : Type 0} (found there : Option X) → found ≡ there → IfSome found (λ x. there ≡ Some x)
some_found None there is = tt
some_found (Some x) there is = sym is

-- what was found, as part of something
pub seen_so : {X Y : Type 0} (P : X → Type 0) (Q : Y → Type 0) (f : X → Y) (found : Option X) → ((x : X) → P x → Q (f x)) → IfSome found P → IfSome (option_map f found) Q
seen_so P Q f None so is = tt
seen_so P Q f (Some x) so is = so x is

module _ (r : Rows) (seen : Seen) (before : IsSeen r seen) where
  pub see_role : (name : List ℕ) (found : Option Role) (kept : Option SeenRole) → kept ≡ option_map (λ role. record { name = name; role = role }) found
      → IfSome found (IsRoleOf r name) → IsSeen r (record seen { role = kept })
  see_role name found kept is shows = record {
    role = subst (λ o. IfSome o (λ (s : SeenRole). IsRoleOf r s.name s.role)) (sym is)
        (seen_so (IsRoleOf r name) (λ (s : SeenRole). IsRoleOf r s.name s.role) (λ role. record { name = name; role = role }) found (λ x h. h) shows);
    session = before.session;
    floor = before.floor;
    counter = before.counter;
  }

  pub see_session : (number : ℕ) (found : Option Session) (kept : Option SeenSession)
      → kept ≡ option_map (λ session. record { number = number; session = session }) found → IfSome found (IsSessionAt r number)
      → IsSeen r (record seen { session = kept })
  see_session number found kept is shows = record {
    role = before.role;
    session = subst (λ o. IfSome o (λ (s : SeenSession). IsSessionAt r s.number s.session)) (sym is)
        (seen_so (IsSessionAt r number) (λ (s : SeenSession). IsSessionAt r s.number s.session) (λ session. record { number = number; session = session }) found
        (λ x h. h) shows);
    floor = before.floor;
    counter = before.counter;
  }

  pub see_floor : (device : ℕ) (found : Option (Option ℕ)) (kept : Option SeenFloor)
      → kept ≡ option_map (λ floor. record { device = device; floor = floor }) found → IfSome found (IsFloorOf r device)
      → IsSeen r (record seen { floor = kept })
  see_floor device found kept is shows = record {
    role = before.role;
    session = before.session;
    floor = subst (λ o. IfSome o (λ (s : SeenFloor). IsFloorOf r s.device s.floor)) (sym is)
        (seen_so (IsFloorOf r device) (λ (s : SeenFloor). IsFloorOf r s.device s.floor) (λ floor. record { device = device; floor = floor }) found
        (λ x h. h) shows);
    counter = before.counter;
  }

  pub see_counter : (session : ℕ) (found : Option ℕ) (kept : Option SeenCounter)
      → kept ≡ option_map (λ last. record { session = session; last = last }) found → IfSome found (IsCounterOf r session)
      → IsSeen r (record seen { counter = kept })
  see_counter session found kept is shows = record {
    role = before.role;
    session = before.session;
    floor = before.floor;
    counter = subst (λ o. IfSome o (λ (s : SeenCounter). IsCounterOf r s.session s.last)) (sym is)
        (seen_so (IsCounterOf r session) (λ (s : SeenCounter). IsCounterOf r s.session s.last) (λ last. record { session = session; last = last }) found
        (λ x h. h) shows);
  }

-- ---- counters

above_both : (c x : ℕ) (rest : Option ℕ) → is_above c (Some (option_map_or (max x) rest x)) ≡ true → (x < c) × (is_above c rest ≡ true)
above_both c x None h = (grind (arith, nat_tests), refl)
above_both c x (Some y) h = (grind (arith, nat_tests), grind (arith, nat_tests))

-- no data frame of the session has a counter above the last one
pub none_above : (uplinks : List Uplink) (session counter first : ℕ) → is_above counter (last_counter uplinks session) ≡ true
    → first_from first (is_data_with session counter) uplinks ≡ None
none_above [] session counter first above = refl
none_above (x ∷ xs) session counter first above = go (is_data_of session x) refl above (none_above xs session counter (first + 1))
  where
    go : (b : Bool) → is_data_of session x ≡ b → is_above counter (last_counter (x ∷ xs) session) ≡ true
        → (is_above counter (last_counter xs session) ≡ true → first_from (first + 1) (is_data_with session counter) xs ≡ None)
        → first_from first (is_data_with session counter) (x ∷ xs) ≡ None
    go false is above rest = let e = rw is at above in rw is (rest e)
    go true is above rest =
        let e = rw is at above in
        let both = above_both counter x.counter (greatest (map (λ uplink. uplink.counter) (filter (is_data_of session) xs))) e in
        let other : (x.counter == counter) ≡ false = let less = both.0 in grind (arith, nat_tests) in
        rw (is, other) (rest both.1)
