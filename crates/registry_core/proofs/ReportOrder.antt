-- Two reports of one frame, whatever it is: the copies that they leave, and the states that differ in which came first.
use Rattle.std.proofs.Common.{◌≡◌, ◌≢◌, ℕ, ◌+◌, List, [], ◌∷◌, ◌++◌, length, Bool, true, Option, Some, None, refl, sym, ap, subst, ◌∙◌}
use Rattle.std.specs.Prelude.{◌==◌, IsTrue, bytes_eq, option_and_then}
use Rattle.registry_core.specs.declared.effects.Effect.{Effect}
use Rattle.registry_core.specs.declared.facts.Reception.{Reception}
use Rattle.registry_core.specs.declared.facts.Uplink.{Uplink}
use Rattle.registry_core.specs.declared.messages.Envelope.{Envelope}
use Rattle.registry_core.specs.declared.messages.Message.{Message}
use Rattle.registry_core.specs.declared.messages.Report.{Report}
use Rattle.registry_core.specs.Checks.{Checked}
use Rattle.registry_core.specs.Decision.{Decision, decision_or_refusal}
use Rattle.registry_core.specs.Numbered.{first_that, item_at}
use Rattle.registry_core.specs.ReportOrder.{AreSameFrames, IsSameFrame, SameButFirst, is_success}
use Rattle.registry_core.specs.Settings.{Settings}
use Rattle.registry_core.specs.State.{State, next_uplink, state_with, with_uplink}
use Rattle.registry_core.specs.Step.{checked_decision, step}
use Rattle.registry_core.specs.Uplinks.{reception_added, reception_of, same_octets}
use Rattle.registry_core.proofs.Receptions.{either_order, other_gateway}
use Rattle.registry_core.proofs.Decisions.{no_reception, sound_after}
use Rattle.registry_core.proofs.HeardStates.{IsSound}
use Rattle.registry_core.proofs.Items.{first_only, item_new, kept_with}
use Rattle.registry_core.proofs.Telling.{NoRefusal, AnswerPasses}

abbrev pub Succeeds : Checked Decision → Type 0
Succeeds checked = AnswerPasses is_success checked

pub no_refusal : NoRefusal is_success
no_refusal r = refl

-- what it changes
abbrev pub effect_of : Checked Decision → Effect
effect_of checked = (decision_or_refusal checked).0

-- ---- the copies

-- what a copy of uplink n leaves, where the gateway has that copy of it
abbrev pub put : State → ℕ → Option Reception → Report → State
put s n at report = state_with s (reception_added n at report)

same_frame : (u v : Uplink) → u ≡ v → IsSameFrame u v
same_frame u v is = subst (IsSameFrame u) is (record { session = refl; kind = refl; counter = refl; octets = refl })

frames_self : (us : List Uplink) → AreSameFrames us us
frames_self [] = tt
frames_self (u ∷ us) = (same_frame u u refl, frames_self us)

frames_push : (us : List Uplink) (u v : Uplink) → IsSameFrame u v → AreSameFrames (us ++ u ∷ []) (us ++ v ∷ [])
frames_push [] u v same = (same, tt)
frames_push (w ∷ us) u v same = (same_frame w w refl, frames_push us u v same)

-- two states that differ in the uplinks alone, and there in which copy came first
differ_first : (s : State) (us : List Uplink) (receptions : ℕ → List ℕ → Option Reception) → AreSameFrames s.uplinks us → ((m : ℕ) (at : List ℕ) → s.receptions m at ≡ receptions m at)
    → SameButFirst s (record s { uplinks = us; receptions = receptions })
differ_first s us receptions uplinks same =
    record { senders = refl; owners = refl; gateways = refl; devices = refl; sessions = refl; uplinks = uplinks; receptions = same; bookings = refl; limits = refl }

-- two copies of an uplink come to the same in either order, whichever of them it is booked as
both_receptions : (s : State) (us : List Uplink) (n : ℕ) (a b : Report) (at_a at_b : Option Reception) → a.gateway ≢ b.gateway → AreSameFrames s.uplinks us
    → SameButFirst (put (put s n at_a a) n at_b b) (put (put (record s { uplinks = us }) n at_b b) n at_a a)
both_receptions s us n a b (Some x) (Some y) apart same = differ_first s us s.receptions same (λ m at. refl)
both_receptions s us n a b (Some x) None apart same = let once : State = put s n None b in differ_first once us once.receptions same (λ m at. refl)
both_receptions s us n a b None (Some y) apart same = let once : State = put s n None a in differ_first once us once.receptions same (λ m at. refl)
both_receptions s us n a b None None apart same =
    differ_first (put (put s n None a) n None b) us (put (put s n None b) n None a).receptions same (λ m at. either_order s.receptions n a.gateway b.gateway
    (reception_of a) (reception_of b) m at (m == n) (bytes_eq at a.gateway) (bytes_eq at b.gateway) apart refl refl refl)

-- what is true of two states is true of states that are equal to them
either : (x y a b : State) → x ≡ a → y ≡ b → SameButFirst a b → SameButFirst x y
either x y a b is_a is_b same = subst (λ z. SameButFirst z y) (sym is_a) (subst (SameButFirst a) (sym is_b) same)

-- ---- two reports of one frame

-- how a kind of report is decided
abbrev pub Hearing : Type 0
Hearing = State → Report → Checked Decision

-- what a report leaves
abbrev pub after_report : Hearing → State → Report → State
after_report hearing s report = state_with s (effect_of (hearing s report))

-- a report is one of uplink n, whatever copies there are
abbrev pub IsCopy : Hearing → State → ℕ → Report → Type 0
IsCopy hearing s n report = (receptions : ℕ → List ℕ → Option Reception) → effect_of (hearing (record s { receptions = receptions }) report) ≡ reception_added n (receptions n report.gateway) report

-- also after the copy of another gateway
second_copy : (hearing : Hearing) (s : State) (n : ℕ) (a b : Report) (at_a at_b : Option Reception) → s.receptions n b.gateway ≡ at_b → b.gateway ≢ a.gateway
    → IsCopy hearing s n b → after_report hearing (put s n at_a a) b ≡ put (put s n at_a a) n at_b b
second_copy hearing s n a b (Some x) at_b is apart copy = ap (state_with s) (copy s.receptions ∙ ap (λ at. reception_added n at b) is)
second_copy hearing s n a b None at_b is apart copy =
    let once : State = put s n None a in
    ap (state_with once) (copy once.receptions ∙ ap (λ at. reception_added n at b) (other_gateway s.receptions n a.gateway b.gateway (reception_of a) apart ∙ is))

-- Each report comes to its copy of one uplink, which is booked as the one or the other: then both orders leave the same.
in_any_order : (hearing : Hearing) (s base : State) (us : List Uplink) (n : ℕ) (a b : Report) (at_a at_b : Option Reception) → let other : State = record base { uplinks = us } in
    a.gateway ≢ b.gateway → AreSameFrames base.uplinks us → base.receptions n a.gateway ≡ at_a → base.receptions n b.gateway ≡ at_b
    → after_report hearing s a ≡ put base n at_a a → after_report hearing s b ≡ put other n at_b b → IsCopy hearing base n b → IsCopy hearing other n a
    → SameButFirst (after_report hearing (after_report hearing s a) b) (after_report hearing (after_report hearing s b) a)
in_any_order hearing s base us n a b at_a at_b apart same is_a is_b first_a first_b copy_b copy_a =
    let other : State = record base { uplinks = us } in
    either _ _ _ _ (ap (λ once. after_report hearing once b) first_a ∙ second_copy hearing base n a b at_a at_b is_b (λ e. apart (sym e)) copy_b)
    (ap (λ once. after_report hearing once a) first_b ∙ second_copy hearing other n b a at_b at_a is_a apart copy_a) (both_receptions base us n a b at_a at_b apart same)

-- so it is of an uplink that is booked
pub booked_in_any_order : (hearing : Hearing) (s : State) (n : ℕ) (a b : Report) → a.gateway ≢ b.gateway → IsCopy hearing s n a → IsCopy hearing s n b
    → SameButFirst (after_report hearing (after_report hearing s a) b) (after_report hearing (after_report hearing s b) a)
booked_in_any_order hearing s n a b apart copy_a copy_b =
    in_any_order hearing s s s.uplinks n a b (s.receptions n a.gateway) (s.receptions n b.gateway) apart (frames_self s.uplinks) refl refl
    (ap (state_with s) (copy_a s.receptions)) (ap (state_with s) (copy_b s.receptions)) copy_b copy_a

-- The one report books the uplink, with its copy, and the other is a copy of that.
pub record Books (hearing : Hearing) (s opened : State) (uplink : Uplink) (one other : Report) : Type 0 where
  pub first : after_report hearing s one ≡ put (with_uplink opened uplink) (next_uplink s) None one
  pub second : IsCopy hearing (with_uplink opened uplink) (next_uplink s) other

-- and of a new one, whichever report books it
pub new_in_any_order : (c : Settings) (hearing : Hearing) (s opened : State) (u v : Uplink) (a b : Report) → IsSound c s → opened.receptions ≡ s.receptions → a.gateway ≢ b.gateway → IsSameFrame u v
    → Books hearing s opened u a b → Books hearing s opened v b a
    → SameButFirst (after_report hearing (after_report hearing s a) b) (after_report hearing (after_report hearing s b) a)
new_in_any_order c hearing s opened u v a b sound receptions apart same by_a by_b =
    in_any_order hearing s (with_uplink opened u) (opened.uplinks ++ v ∷ []) (next_uplink s) a b None None apart (frames_push opened.uplinks u v same) (none a.gateway) (none b.gateway)
    by_a.first by_b.first by_a.second by_b.second
  where
    none : (gateway : List ℕ) → opened.receptions (next_uplink s) gateway ≡ None
    none gateway = ap (λ (all : ℕ → List ℕ → Option Reception). all (next_uplink s) gateway) receptions ∙ no_reception c s gateway (s.receptions (next_uplink s) gateway) sound refl

-- the new uplink is found by its octets, where no other passes the test that it passes
pub found_new : (test : Uplink → Bool) (us : List Uplink) (u : Uplink) (octets : List ℕ) → test u ≡ true → u.octets ≡ octets
    → ((m n : ℕ) (z v : Uplink) → item_at (us ++ u ∷ []) m ≡ Some z → item_at (us ++ u ∷ []) n ≡ Some v → test z ≡ true → test v ≡ true → m ≡ n)
    → option_and_then (same_octets octets) (first_that test (us ++ u ∷ [])) ≡ Some (length us + 1, u)
found_new test us u octets passes same once =
    let there : item_at (us ++ u ∷ []) (length us + 1) ≡ Some u = item_new us u (length us + 1) refl in
    kept_with octets (first_that test (us ++ u ∷ [])) (length us + 1) u
    (first_only test (us ++ u ∷ []) (length us + 1) u there passes (λ m z at h. once m (length us + 1) z u at there h passes)) same

-- ---- the envelopes that have the reports as their messages

-- where such an envelope is answered Success, its checks let it through, and it leaves what its report leaves, a sound state
record Steps (c : Settings) (hearing : Hearing) (s : State) (e : Envelope) (report : Report) : Type 0 where
  leaves : (t : State) → (step c t e).0 ≡ after_report hearing t report
  sound : IsSound c (after_report hearing s report)
  success : IsTrue (is_success (step c s e).1) → Succeeds (hearing s report)

steps : (c : Settings) (hearing : Hearing) (message : Report → Message) (s : State) (e : Envelope) (report : Report)
    → ((t : State) → checked_decision c t e (message report) ≡ hearing t report) → e.message ≡ message report → IsSound c s → Steps c hearing s e report
steps c hearing message s e report decided same sound = record {
  leaves = leaves;
  sound = subst (IsSound c) (leaves s) (sound_after c s (e ∷ []) sound);
  success = subst Succeeds (told s);
}
  where
    told : (t : State) → checked_decision c t e e.message ≡ hearing t report
    told t = ap (checked_decision c t e) same ∙ decided t

    leaves : (t : State) → (step c t e).0 ≡ after_report hearing t report
    leaves t = ap (λ checked. state_with t (effect_of checked)) (told t)

pub by_reports : (c : Settings) (hearing : Hearing) (message : Report → Message) (s : State) (x y : Envelope) (a b : Report)
    → ((t : State) (e : Envelope) (report : Report) → checked_decision c t e (message report) ≡ hearing t report) → x.message ≡ message a → y.message ≡ message b → IsSound c s
    → (Succeeds (hearing s a) → Succeeds (hearing s b) → IsSound c (after_report hearing s a) → IsSound c (after_report hearing s b)
    → SameButFirst (after_report hearing (after_report hearing s a) b) (after_report hearing (after_report hearing s b) a))
    → IsTrue (is_success (step c s x).1) → IsTrue (is_success (step c s y).1) → SameButFirst (step c (step c s x).0 y).0 (step c (step c s y).0 x).0
by_reports c hearing message s x y a b decided is_x is_y sound reports first second =
    let one = steps c hearing message s x a (λ t. decided t x a) is_x sound in
    let other = steps c hearing message s y b (λ t. decided t y b) is_y sound in
    either _ _ _ _ (ap (λ once. (step c once y).0) (one.leaves s) ∙ other.leaves (after_report hearing s a))
    (ap (λ once. (step c once x).0) (other.leaves s) ∙ one.leaves (after_report hearing s b)) (reports (one.success first) (other.success second) one.sound other.sound)
