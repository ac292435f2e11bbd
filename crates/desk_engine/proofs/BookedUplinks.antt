-- Uplinks that were booked stay, whatever is delivered after them.
use Rattle.std.proofs.Common.{◌≡◌, ℕ, zero, suc, List, [], ◌∷◌, ◌++◌, Option, Some, take, refl, ap, sym, ◌∙◌, append-nil}
use Rattle.std.specs.Prelude.{unwrap_or}
use Rattle.registry_core.specs.declared.facts.Uplink.{Uplink}
use Rattle.registry_core.specs.declared.messages.Envelope.{Envelope}
use Rattle.registry_core.specs.Heard.{state_after, state_of}
use Rattle.registry_core.specs.Laws.{UplinksStay}
use Rattle.registry_core.specs.Numbered.{item_at}
use Rattle.registry_core.specs.Rules.{RulesAreKept}
use Rattle.registry_core.specs.Settings.{Settings}
use Rattle.registry_core.specs.State.{State, opening}
use Rattle.registry_core.specs.Step.{step}
use Rattle.desk_engine.specs.Deliveries.{Delivery, heard_after, heard_all}
use Rattle.desk_engine.specs.Uplinks.{UplinksStayBooked}
use Rattle.desk_engine.proofs.HeardTexts.{deliveries_add_at_the_end}

-- what the first deliveries leave is a beginning of what all leave
begins : (count : ℕ) (c : Settings) (heard : List Envelope) (ds : List Delivery) → (more : List Envelope) × (heard_all c heard ds ≡ heard_all c heard (take count ds) ++ more)
begins zero c heard ds = deliveries_add_at_the_end c heard ds
begins (suc count) c heard [] = ([], sym (append-nil heard))
begins (suc count) c heard (d ∷ ds) = begins count c (heard_after c heard d) ds

state_after-append : (c : Settings) (s : State) (xs ys : List Envelope) → state_after c s (xs ++ ys) ≡ state_after c (state_after c s xs) ys
state_after-append c s [] ys = refl
state_after-append c s (x ∷ xs) ys = state_after-append c (step c s x).0 xs ys

stays_after : UplinksStay → (c : Settings) (s : State) (more : List Envelope) (n : ℕ) (u : Uplink) → item_at s.uplinks n ≡ Some u → item_at (state_after c s more).uplinks n ≡ Some u
stays_after stay c s [] n u at = at
stays_after stay c s (e ∷ more) n u at = stays_after stay c (step c s e).0 more n u (stay c s e n u at)

pub uplinks_stay_booked : UplinksStay → RulesAreKept → (c : Settings) (heard : List Envelope) (ds : List Delivery) → UplinksStayBooked c heard ds
uplinks_stay_booked stay rules c heard ds = λ count.
    let more = begins count c heard ds in
    let before : List Envelope = heard_all c heard (take count ds) in
    let later : state_of c (heard_all c heard ds) ≡ state_after c (state_of c before) more.0 = ap (state_of c) more.1 ∙ state_after-append c (opening c) before more.0 in
    let stays : (n : ℕ) (u : Uplink) → item_at (state_of c before).uplinks n ≡ Some u → item_at (state_of c (heard_all c heard ds)).uplinks n ≡ Some u =
    λ n u at. ap (λ (s : State). item_at s.uplinks n) later ∙ stays_after stay c (state_of c before) more.0 n u at in
    record {
      stays = stays;
      first = λ m n u v at there session kind counter.
          let same : n ≡ m = (rules c (heard_all c heard ds)).frames n m v u there (stays m u at) session kind counter in
          let one : Some v ≡ Some u = sym there ∙ ap (item_at (state_of c (heard_all c heard ds)).uplinks) same ∙ stays m u at in
          (same, ap (λ (o : Option Uplink). unwrap_or o v) one);
    }
