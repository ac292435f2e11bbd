-- The numbers of a view have space for one more: those of a log are few.
use Rattle.std.proofs.Common.{◌≡◌, ℕ, ◌+◌, ◌≤◌, List, [], ◌∷◌, length, Option, Some, None, refl, sym, ◌∙◌, ap, subst, arith}
use Rattle.std.specs.Prelude.{IfSome, option_map, option_and_then}
use Rattle.std.proofs.lemmas.List.{length_push}
use Rattle.std.proofs.lemmas.Option.{same_Some}
use Rattle.radio_core.specs.Frames.{frame_of}
use Rattle.radio_core.specs.TimeOnAir.{AirtimeIsBounded}
use Rattle.duty_core.specs.Laws.{HoursWithinByNearOnes, HoursWithinTells, IsClearByNearOnes}
use Rattle.registry_core.specs.declared.effects.Effect.{Effect}
use Rattle.registry_core.specs.declared.effects.Effect.TheVariants.{AddsSession, AddsUplink, AddsBooking, EndsBooking}
use Rattle.registry_core.specs.declared.facts.Session.{Session}
use Rattle.registry_core.specs.declared.facts.Uplink.{Uplink}
use Rattle.registry_core.specs.declared.frames.JoinRequest.{JoinRequest}
use Rattle.registry_core.specs.declared.messages.Envelope.{Envelope}
use Rattle.registry_core.specs.declared.messages.JoinVerdict.{JoinVerdict}
use Rattle.registry_core.specs.declared.messages.Message.TheVariants.{JoinHeard, FrameHeard, DownBook}
use Rattle.registry_core.specs.declared.messages.Report.{Report}
use Rattle.registry_core.specs.declared.views.View.{View}
use Rattle.registry_core.specs.declared.windows.Window.{Window}
use Rattle.registry_core.specs.steps.ByView.{HasRoom, frame_heard_by, join_heard_by}
use Rattle.registry_core.specs.Checks.{Checked}
use Rattle.registry_core.specs.Decision.{Decision}
use Rattle.registry_core.specs.Derived.{is_data_with, is_join_with, join_with}
use Rattle.registry_core.specs.DataFrames.{frame_heard}
use Rattle.registry_core.specs.Downlinks.{down_book}
use Rattle.registry_core.specs.steps.DownlinksByView.{down_book_by}
use Rattle.registry_core.specs.Frames.{join_request}
use Rattle.registry_core.specs.Heard.{IsHeard, state_after, state_of}
use Rattle.registry_core.specs.Joins.{join_heard}
use Rattle.registry_core.specs.Numbered.{item_at}
use Rattle.registry_core.specs.Settings.{Settings, IsBlock}
use Rattle.registry_core.specs.State.{State, ended, opening, state_with}
use Rattle.registry_core.specs.Step.{decision_of, step}
use Rattle.registry_core.specs.Viewed.{IsView, data_for, session_for, view_of_uplink, uplink_for}
use Rattle.registry_core.proofs.BookedHours.{kept_of}
use Rattle.registry_core.proofs.DataByView.{frame_heard_same}
use Rattle.registry_core.proofs.Decisions.{sound_of}
use Rattle.registry_core.proofs.DownlinksByView.{down_book_same}
use Rattle.registry_core.proofs.HeardStates.{IsSound}
use Rattle.registry_core.proofs.Items.{first_is, item_changed_length}
use Rattle.registry_core.proofs.JoinsByView.{join_heard_same}

record IsFew (s : State) (n : ℕ) : Type 0 where
  uplinks : length s.uplinks ≤ n
  bookings : length s.bookings ≤ n

-- a change adds one uplink at most, and one booking
one_more : (s : State) (effect : Effect) (n : ℕ) → IsFew s n → IsFew (state_with s effect) (n + 1)
one_more s (AddsSession session u gateway reception) n h = record { uplinks = omega (arith, length_push s.uplinks u, h.uplinks); bookings = omega (arith, h.bookings) }
one_more s (AddsUplink u gateway reception) n h = record { uplinks = omega (arith, length_push s.uplinks u, h.uplinks); bookings = omega (arith, h.bookings) }
one_more s (AddsBooking booking) n h = record { uplinks = omega (arith, h.uplinks); bookings = omega (arith, length_push s.bookings booking, h.bookings) }
one_more s (EndsBooking number sent) n h = record { uplinks = omega (arith, h.uplinks); bookings = omega (arith, item_changed_length (ended sent) s.bookings number, h.bookings) }
one_more s effect n h = record { uplinks = omega (arith, h.uplinks); bookings = omega (arith, h.bookings) }

few_after : (c : Settings) (s : State) (es : List Envelope) (n : ℕ) → IsFew s n → IsFew (state_after c s es) (n + length es)
few_after c s [] n h = record { uplinks = omega (arith, h.uplinks); bookings = omega (arith, h.bookings) }
few_after c s (e ∷ es) n h =
    let rest = few_after c (step c s e).0 es (n + 1) (one_more s (decision_of c s e).0 n h) in
    record { uplinks = omega (arith, rest.uplinks); bookings = omega (arith, rest.bookings) }

few : (c : Settings) (heard : List Envelope) → IsFew (state_of c heard) (length heard)
few c heard =
    let all = few_after c (opening c) heard 0 (record { uplinks = omega arith; bookings = omega arith }) in
    record { uplinks = omega (arith, all.uplinks); bookings = omega (arith, all.bookings) }

-- an uplink's session has an address of the block
in_block : (c : Settings) (s : State) (n : ℕ) (u : Uplink) → IsSound c s → item_at s.uplinks n ≡ Some u → (1 ≤ u.session) × (u.session ≤ c.addresses)
in_block c s n u h there = let within = h.sessions n u there in (within.0, omega (arith, within.1, h.block))

-- and so has the uplink that a view shows: that of a join, of a data frame, or one named by its number
session_within : (c : Settings) (s : State) (gateway : List ℕ) (found : Option (ℕ × Uplink))
    → ((p : ℕ × Uplink) → found ≡ Some p → (1 ≤ p.1.session) × (p.1.session ≤ c.addresses))
    → IfSome (option_map (view_of_uplink s gateway) found) (λ seen. (1 ≤ seen.uplink.session) × (seen.uplink.session ≤ c.addresses))
session_within c s gateway None k = tt
session_within c s gateway (Some p) k = k p refl

join_within : (c : Settings) (s : State) (told : Option JoinRequest) → IsSound c s → (p : ℕ × Uplink)
    → option_and_then (λ (join : JoinRequest). join_with s.uplinks s.sessions join.dev_eui join.nonce) told ≡ Some p → (1 ≤ p.1.session) × (p.1.session ≤ c.addresses)
join_within c s None h p e = cc
join_within c s (Some join) h p e =
    in_block c s p.0 p.1 h (first_is (is_join_with s.sessions join.dev_eui join.nonce) s.uplinks p e).0

data_within : (c : Settings) (s : State) (session : Option (ℕ × Session)) (verdict : Option ℕ) → IsSound c s → (p : ℕ × Uplink) → data_for s session verdict ≡ Some p
    → (1 ≤ p.1.session) × (p.1.session ≤ c.addresses)
data_within c s None verdict h p e = cc
data_within c s (Some found) None h p e = cc
data_within c s (Some found) (Some counter) h p e =
    in_block c s p.0 p.1 h (first_is (is_data_with found.0 counter) s.uplinks p e).0

named_within : (c : Settings) (s : State) (number : ℕ) (uplink : Option Uplink) → IsSound c s → item_at s.uplinks number ≡ uplink → (p : ℕ × Uplink) → option_map (λ (u : Uplink). (number, u)) uplink ≡ Some p
    → (1 ≤ p.1.session) × (p.1.session ≤ c.addresses)
named_within c s number None h is p e = cc
named_within c s number (Some uplink) h is p e =
    subst (λ (q : ℕ × Uplink). (1 ≤ q.1.session) × (q.1.session ≤ c.addresses)) (same_Some (number, uplink) p e) (in_block c s number uplink h is)

has_room : (c : Settings) (heard : List Envelope) (e : Envelope) (v : View) (gateway : List ℕ) (found : Option (ℕ × Uplink)) → IsBlock c.base c.addresses → IsHeard c heard → IsView c (state_of c heard) e v
    → v.uplink ≡ option_map (view_of_uplink (state_of c heard) gateway) found → ((p : ℕ × Uplink) → found ≡ Some p → (1 ≤ p.1.session) × (p.1.session ≤ c.addresses)) → HasRoom v
has_room c heard e v gateway found block list sees shown within = record {
  block = rw (sees.base, sees.addresses) block.room;
  uplinks = omega (arith, sees.uplinks, (few c heard).uplinks, list.few);
  bookings = omega (arith, sees.bookings, (few c heard).bookings, list.few);
  session =
      subst (λ limit. IfSome v.uplink (λ seen. (1 ≤ seen.uplink.session) × (seen.uplink.session ≤ limit))) (sym sees.addresses)
      (subst (λ seen_one. IfSome seen_one (λ seen. (1 ≤ seen.uplink.session) × (seen.uplink.session ≤ c.addresses))) (sym shown)
      (session_within c (state_of c heard) gateway found within));
}

pub join_checked : (c : Settings) (heard : List Envelope) (e : Envelope) (v : View) (report : Report) (verdict : JoinVerdict) (checked : Checked Decision) → IsBlock c.base c.addresses → IsHeard c heard
    → e.message ≡ JoinHeard report verdict → IsView c (state_of c heard) e v → (HasRoom v → checked ≡ join_heard_by v report verdict)
    → checked ≡ join_heard c (state_of c heard) report verdict
join_checked c heard e v report verdict checked block list same sees decided =
    decided (has_room c heard e v report.gateway _ block list sees (sees.uplink ∙ ap (uplink_for c (state_of c heard)) same)
    (join_within c (state_of c heard) (join_request (frame_of report.octets)) (sound_of c heard)))
    ∙ join_heard_same c (state_of c heard) e v report verdict same sees

pub frame_checked : (c : Settings) (heard : List Envelope) (e : Envelope) (v : View) (report : Report) (verdict : Option ℕ) (checked : Checked Decision) → IsBlock c.base c.addresses → IsHeard c heard
    → e.message ≡ FrameHeard report verdict → IsView c (state_of c heard) e v → (HasRoom v → checked ≡ frame_heard_by v report verdict)
    → checked ≡ frame_heard c (state_of c heard) report verdict
frame_checked c heard e v report verdict checked block list same sees decided =
    decided (has_room c heard e v report.gateway _ block list sees (sees.uplink ∙ ap (uplink_for c (state_of c heard)) same)
    (data_within c (state_of c heard) (session_for c (state_of c heard) (FrameHeard report verdict)) verdict (sound_of c heard)))
    ∙ frame_heard_same c (state_of c heard) e v report verdict same sees

pub book_checked : (bounded : AirtimeIsBounded) (tells : HoursWithinTells) (clear : IsClearByNearOnes) (hours : HoursWithinByNearOnes) (c : Settings)
    (heard : List Envelope) (e : Envelope) (v : View) (number : ℕ) (gateway : List ℕ) (window : Window) (octets : List ℕ)
    (checked : Checked Decision) → IsBlock c.base c.addresses → IsHeard c heard → e.message ≡ DownBook number gateway window octets → IsView c (state_of c heard) e v
    → (HasRoom v → checked ≡ down_book_by v gateway window octets) → checked ≡ down_book c (state_of c heard) number gateway window octets
book_checked bounded tells clear hours c heard e v number gateway window octets checked block list same sees decided =
    decided (has_room c heard e v gateway _ block list sees (sees.uplink ∙ ap (uplink_for c (state_of c heard)) same)
    (named_within c (state_of c heard) number (item_at (state_of c heard).uplinks number) (sound_of c heard) refl))
    ∙ down_book_same bounded clear hours c (state_of c heard) e v number gateway window octets (kept_of bounded tells c heard) same sees
