-- Copies, whatever was heard: what is found is the only uplink that the frame may be a copy of, and a copy books nothing.
use Rattle.std.proofs.Common.{◌≡◌, ℕ, ◌<◌, Bool, true, false, List, Option, Some, None, refl, sym, ◌∙◌, ap, arith, inl, inr}
use Rattle.std.specs.Option.{option_map_or}
use Rattle.std.specs.Prelude.{◌⊎◌, ◌==◌, ◌&&◌}
use Rattle.std.proofs.lemmas.Bool.{and_parts, cases_order, eqb-true}
use Rattle.std.proofs.lemmas.Option.{same_Some}
use Rattle.registry_core.specs.declared.effects.Effect.{Effect}
use Rattle.registry_core.specs.declared.effects.Effect.TheVariants.{AddsSession, AddsUplink, AddsBooking, EndsBooking}
use Rattle.registry_core.specs.declared.facts.Kind.{Kind}
use Rattle.registry_core.specs.declared.facts.Kind.TheVariants.{Join, Data}
use Rattle.registry_core.specs.declared.facts.Session.{Session}
use Rattle.registry_core.specs.declared.facts.Uplink.{Uplink}
use Rattle.registry_core.specs.DataFrames.{original_data}
use Rattle.registry_core.specs.Derived.{is_data, is_data_with, is_join, is_join_with, is_of_device, is_session_of}
use Rattle.registry_core.specs.Heard.{state_of}
use Rattle.registry_core.specs.Joins.{original_join}
use Rattle.registry_core.specs.Laws.{JoinCopiesAreFound, DataCopiesAreFound, CopiesBookNothing}
use Rattle.registry_core.specs.Numbered.{item_at, first_that}
use Rattle.registry_core.specs.Settings.{Settings}
use Rattle.registry_core.specs.State.{State, state_with}
use Rattle.registry_core.specs.Step.{decision_of}
use Rattle.registry_core.proofs.Decisions.{BooksNothing, is_decision, sound_of}
use Rattle.registry_core.proofs.HeardStates.{IsSound, NoncesRiseIn}
use Rattle.registry_core.proofs.Items.{first_is, first_only, kept_with, with_octets}
use Rattle.registry_core.proofs.UplinkLaws.{uplink_once}

is_join_kind : (k : Kind) → is_join k ≡ true → k ≡ Join
is_join_kind Join h = refl
is_join_kind Data h = cc

pub is_data_kind : (k : Kind) → is_data k ≡ true → k ≡ Data
is_data_kind Data h = refl
is_data_kind Join h = cc

-- ---- joins

-- the session of a device
pub of_device : (s : State) (device n : ℕ) (found : Option Session) → item_at s.sessions n ≡ found → option_map_or (is_session_of device) found false ≡ true
    → (a : Session) × (item_at s.sessions n ≡ Some a) × (a.device ≡ device)
of_device s device n None is h = cc
of_device s device n (Some a) is h = (a, is, eqb-true a.device device h)

pub record IsJoinWith (s : State) (device nonce : ℕ) (u : Uplink) : Type 0 where
  pub kind : u.kind ≡ Join
  pub session : (a : Session) × (item_at s.sessions u.session ≡ Some a) × (a.device ≡ device)
  pub counter : u.counter ≡ nonce

pub join_parts : (s : State) (device nonce : ℕ) (u : Uplink) → is_join_with s.sessions device nonce u ≡ true → IsJoinWith s device nonce u
join_parts s device nonce u h =
    let front : (is_join u.kind && is_of_device s.sessions device u.session) ≡ true = (and_parts _ _ h).0 in
    record {
      kind = is_join_kind u.kind (and_parts _ _ front).0;
      session = of_device s device u.session (item_at s.sessions u.session) refl (and_parts _ _ front).1;
      counter = eqb-true u.counter nonce (and_parts _ _ h).1;
    }

-- a device has each nonce once
pub session_once : (sessions : List Session) (m n : ℕ) (a b : Session) → NoncesRiseIn sessions → item_at sessions m ≡ Some a → item_at sessions n ≡ Some b → a.device ≡ b.device → a.nonce ≡ b.nonce
    → (m ≡ n) ⊎ ((m < n) ⊎ (n < m)) → m ≡ n
session_once sessions m n a b rise em en device nonce (inl same) = same
session_once sessions m n a b rise em en device nonce (inr (inl below)) = let lt : a.nonce < b.nonce = rise m n a b em en device below in absurd (omega (arith, lt, nonce))
session_once sessions m n a b rise em en device nonce (inr (inr above)) = let lt : b.nonce < a.nonce = rise n m b a en em (sym device) above in absurd (omega (arith, lt, nonce))

pub join_once : (c : Settings) (s : State) (device nonce m n : ℕ) (u v : Uplink) → IsSound c s → item_at s.uplinks m ≡ Some u → item_at s.uplinks n ≡ Some v
    → is_join_with s.sessions device nonce u ≡ true → is_join_with s.sessions device nonce v ≡ true → m ≡ n
join_once c s device nonce m n u v h em en ju jv =
    let x = join_parts s device nonce u ju in
    let y = join_parts s device nonce v jv in
    let a = h.join_nonces m u em x.kind in
    let b = h.join_nonces n v en y.kind in
    let same_a : a.0 ≡ x.session.0 = same_Some a.0 x.session.0 (sym a.1 ∙ x.session.1) in
    let same_b : b.0 ≡ y.session.0 = same_Some b.0 y.session.0 (sym b.1 ∙ y.session.1) in
    h.joins m n u v em en x.kind y.kind
    (session_once s.sessions u.session v.session a.0 b.0 h.nonces a.1 b.1
    (ap (λ (z : Session). z.device) same_a ∙ x.session.2 ∙ sym (ap (λ (z : Session). z.device) same_b ∙ y.session.2))
    (a.2 ∙ x.counter ∙ sym (b.2 ∙ y.counter)) (cases_order u.session v.session))

pub join_copies_are_found : JoinCopiesAreFound
unfolding original_join
join_copies_are_found c heard join octets n u =
    let s : State = state_of c heard in
    let test : Uplink → Bool = is_join_with s.sessions join.dev_eui join.nonce in (
      λ e. let found = with_octets octets (first_that test s.uplinks) (n, u) e in
          let at = first_is test s.uplinks (n, u) found.0 in (at.0, at.1, found.1),
      λ all. kept_with octets (first_that test s.uplinks) n u
          (first_only test s.uplinks n u all.0 all.1 (λ m v there passes. join_once c s join.dev_eui join.nonce m n v u (sound_of c heard) there all.0 passes all.1)) all.2,
    )

-- ---- data frames

pub record IsDataWith (of_session with_counter : ℕ) (u : Uplink) : Type 0 where
  pub kind : u.kind ≡ Data
  pub session : u.session ≡ of_session
  pub counter : u.counter ≡ with_counter

pub data_parts : (session counter : ℕ) (u : Uplink) → is_data_with session counter u ≡ true → IsDataWith session counter u
data_parts session counter u h =
    let front : (is_data u.kind && u.session == session) ≡ true = (and_parts _ _ h).0 in
    record {
      kind = is_data_kind u.kind (and_parts _ _ front).0;
      session = eqb-true u.session session (and_parts _ _ front).1;
      counter = eqb-true u.counter counter (and_parts _ _ h).1;
    }

pub data_once : (c : Settings) (s : State) (session counter m n : ℕ) (u v : Uplink) → IsSound c s → item_at s.uplinks m ≡ Some u → item_at s.uplinks n ≡ Some v
    → is_data_with session counter u ≡ true → is_data_with session counter v ≡ true → m ≡ n
data_once c s session counter m n u v sound em en du dv =
    let x = data_parts session counter u du in
    let y = data_parts session counter v dv in
    uplink_once c s m n u v sound em en (x.session ∙ sym y.session) (x.kind ∙ sym y.kind) (x.counter ∙ sym y.counter)

pub data_copies_are_found : DataCopiesAreFound
unfolding original_data
data_copies_are_found c heard session counter octets n u =
    let s : State = state_of c heard in
    let test : Uplink → Bool = is_data_with session counter in (
      λ e. let found = with_octets octets (first_that test s.uplinks) (n, u) e in
          let at = first_is test s.uplinks (n, u) found.0 in (at.0, at.1, found.1),
      λ all. kept_with octets (first_that test s.uplinks) n u
          (first_only test s.uplinks n u all.0 all.1 (λ m v there passes. data_once c s session counter m n v u (sound_of c heard) there all.0 passes all.1)) all.2,
    )

-- ---- a copy books nothing

booked_nothing : (s : State) (effect : Effect) → BooksNothing effect → ((state_with s effect).sessions ≡ s.sessions) × ((state_with s effect).uplinks ≡ s.uplinks) × ((state_with s effect).bookings ≡ s.bookings)
booked_nothing s (AddsSession session new gateway reception) k = absurd k
booked_nothing s (AddsUplink new gateway reception) k = absurd k
booked_nothing s (AddsBooking booking) k = absurd k
booked_nothing s (EndsBooking number sent) k = absurd k
booked_nothing s effect k = (refl, refl, refl)

pub copies_book_nothing : CopiesBookNothing
copies_book_nothing c heard e copy =
    booked_nothing (state_of c heard) (decision_of c (state_of c heard) e).0 ((is_decision c (state_of c heard) e (sound_of c heard)).copy copy)
