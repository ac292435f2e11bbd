-- Each session has its join uplink, and each uplink its session, whatever was heard.
use Rattle.std.proofs.Common.{◌≡◌, ℕ, zero, suc, ◌+◌, ◌≤◌, List, [], ◌∷◌, ◌++◌, length, Some, refl, sym, ap, ◌∙◌, arith, inl, inr}
use Rattle.std.specs.Prelude.{◌⊎◌}
use Rattle.std.proofs.lemmas.Option.{same_Some}
use Rattle.registry_core.specs.declared.effects.Effect.{Effect}
use Rattle.registry_core.specs.declared.effects.Effect.TheVariants.{AddsSession, AddsUplink}
use Rattle.registry_core.specs.declared.facts.Kind.TheVariants.{Join}
use Rattle.registry_core.specs.declared.facts.Session.{Session}
use Rattle.registry_core.specs.declared.facts.Uplink.{Uplink}
use Rattle.registry_core.specs.Heard.{state_of}
use Rattle.registry_core.specs.Laws.{SessionsHaveJoins, UplinksHaveSessions}
use Rattle.registry_core.specs.Numbered.{item_at}
use Rattle.registry_core.specs.Settings.{Settings}
use Rattle.registry_core.specs.State.{State, state_with}
use Rattle.registry_core.specs.Step.{decision_of}
use Rattle.registry_core.proofs.Decisions.{sound_of, whatever_heard}
use Rattle.registry_core.proofs.HeardStates.{IsAllowed}
use Rattle.registry_core.proofs.Items.{item_last, item_new, item_stays, item_within}

-- the session with this number has its join among the uplinks
abbrev HasJoin : List Uplink → ℕ → Session → Type 0
HasJoin uplinks n a = (m : ℕ) × (u : Uplink) × (item_at uplinks m ≡ Some u) × (u.kind ≡ Join) × (u.session ≡ n) × (u.counter ≡ a.nonce)

abbrev HaveJoins : List Session → List Uplink → Type 0
HaveJoins sessions uplinks = (n : ℕ) (a : Session) → item_at sessions n ≡ Some a → HasJoin uplinks n a

join_stays : (uplinks : List Uplink) (new : Uplink) (n : ℕ) (a : Session) → HasJoin uplinks n a → HasJoin (uplinks ++ new ∷ []) n a
join_stays uplinks new n a h = (h.0, h.1, item_stays uplinks new h.0 h.1 h.2, h.3, h.4, h.5)

change_joins : (c : Settings) (s : State) (effect : Effect) → IsAllowed c s effect → HaveJoins s.sessions s.uplinks → HaveJoins (state_with s effect).sessions (state_with s effect).uplinks
change_joins c s (AddsSession session uplink gateway reception) k h = λ n a e. by n a (item_last s.sessions session n a e)
  where
    by : (n : ℕ) (a : Session) → (item_at s.sessions n ≡ Some a) ⊎ ((n ≡ length s.sessions + 1) × (session ≡ a)) → HasJoin (s.uplinks ++ uplink ∷ []) n a
    by n a (inl old) = join_stays s.uplinks uplink n a (h n a old)
    by n a (inr new) =
        (length s.uplinks + 1, uplink, item_new s.uplinks uplink (length s.uplinks + 1) refl, k.0.kind, k.0.number ∙ sym new.0, k.0.counter ∙ ap (λ (z : Session). z.nonce) new.1)
change_joins c s (AddsUplink uplink gateway reception) k h = λ n a e. join_stays s.uplinks uplink n a (h n a e)
change_joins c s effect k h = h

pub sessions_have_joins : SessionsHaveJoins
sessions_have_joins c =
    whatever_heard c (λ s. HaveJoins s.sessions s.uplinks) (λ n a e. absurd (omega (arith, item_within [] n a e))) (λ s e allowed h. change_joins c s (decision_of c s e).0 allowed h)

-- within the length there is an item
item_there : {X : Type 0} (xs : List X) (n : ℕ) → 1 ≤ n → n ≤ length xs → (x : X) × (item_at xs n ≡ Some x)
item_there xs zero least most = absurd (omega (arith, least))
item_there [] (suc i) least most = absurd (omega (arith, most))
item_there (x ∷ xs) (suc zero) least most = (x, refl)
item_there (x ∷ xs) (suc (suc i)) least most = item_there xs (suc i) (omega arith) (omega (arith, most))

pub uplinks_have_sessions : UplinksHaveSessions
uplinks_have_sessions c heard n u e =
    let sound = sound_of c heard in
    let within = sound.sessions n u e in
    let at = item_there (state_of c heard).sessions u.session within.0 within.1 in (
      at.0,
      at.1,
      λ join.
          let was = sound.join_nonces n u e join in
          ap (λ (z : Session). z.nonce) (same_Some at.0 was.0 (sym at.1 ∙ was.1)) ∙ was.2,
    )
