-- How an envelope is answered and what it adds to the log: an unknown sender, a pair in the log, a new pair.
use Rattle.std.proofs.Common.{◌≡◌, Bool, true, false, cond, List, [], ◌∷◌, ◌++◌, refl}
use Rattle.std.specs.Prelude.{◌&&◌}
use Rattle.registry_core.specs.declared.messages.Envelope.{Envelope}
use Rattle.registry_core.specs.Heard.{Stranger, has_pair, heard_with, is_sender, pair_place, reply_at, reply_to, state_of}
use Rattle.registry_core.specs.Settings.{Settings}
use Rattle.registry_core.specs.Step.{step}
use Rattle.desk_engine.specs.Deliveries.{heard_unless}

pub reply-stranger : (c : Settings) (heard : List Envelope) (e : Envelope) → is_sender (state_of c heard) e.sender ≡ false → reply_to c heard e ≡ Stranger
unfolding reply_to
reply-stranger c heard e unknown = rw unknown

pub reply-known : (c : Settings) (heard : List Envelope) (e : Envelope) → is_sender (state_of c heard) e.sender ≡ true
    → reply_to c heard e ≡ reply_at (pair_place c heard e) e (step c (state_of c heard) e).1
unfolding reply_to
reply-known c heard e known = rw known

pub unless-stranger : (u : Bool) (c : Settings) (heard : List Envelope) (e : Envelope) → is_sender (state_of c heard) e.sender ≡ false → heard_unless u c heard e ≡ heard
unfolding heard_with
unless-stranger true c heard e unknown = refl
unless-stranger false c heard e unknown = rw unknown

pub unless-again : (u : Bool) (c : Settings) (heard : List Envelope) (e : Envelope) → has_pair heard e ≡ true → heard_unless u c heard e ≡ heard
unfolding heard_with
unless-again true c heard e again = refl
unless-again false c heard e again = rw again (elim (is_sender (state_of c heard) e.sender) as (λ b. cond (b && false) (heard ++ e ∷ []) heard ≡ heard) [ true ↦ refl | false ↦ refl ])

pub heard_with-new : (c : Settings) (heard : List Envelope) (e : Envelope) → is_sender (state_of c heard) e.sender ≡ true → has_pair heard e ≡ false
    → heard_with c heard e ≡ heard ++ e ∷ []
unfolding heard_with
heard_with-new c heard e known new = rw (known, new)
