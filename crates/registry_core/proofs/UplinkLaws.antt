-- Uplinks, whatever was heard: each frame is booked once, counters rise and agree with frames, each has a reception, and none changes.
use Rattle.std.proofs.Common.{◌≡◌, ℕ, Some, refl, arith, ◌<◌, sym, inl, inr}
use Rattle.std.specs.Prelude.{◌⊎◌}
use Rattle.std.proofs.lemmas.Bool.{cases_order}
use Rattle.registry_core.specs.declared.effects.Effect.{Effect}
use Rattle.registry_core.specs.declared.effects.Effect.TheVariants.{AddsSession, AddsUplink}
use Rattle.registry_core.specs.declared.facts.Kind.{Kind}
use Rattle.registry_core.specs.declared.facts.Kind.TheVariants.{Join, Data}
use Rattle.registry_core.specs.declared.facts.Uplink.{Uplink}
use Rattle.registry_core.specs.Laws.{UplinksHaveReceptions, UplinksStay, CountersRise, CountersAgreeWithFrames}
use Rattle.registry_core.specs.Numbered.{item_at}
use Rattle.registry_core.specs.Settings.{Settings}
use Rattle.registry_core.specs.State.{State, state_with}
use Rattle.registry_core.specs.Step.{decision_of}
use Rattle.registry_core.proofs.Decisions.{sound_of}
use Rattle.registry_core.proofs.HeardStates.{IsSound}
use Rattle.registry_core.proofs.Items.{item_stays}

pub counters_rise : CountersRise
counters_rise c heard = (sound_of c heard).counters

pub counters_agree_with_frames : CountersAgreeWithFrames
counters_agree_with_frames c heard = (sound_of c heard).frames

once_by : (c : Settings) (s : State) (m n : ℕ) (u v : Uplink) (k : Kind) → IsSound c s → item_at s.uplinks m ≡ Some u → item_at s.uplinks n ≡ Some v
    → u.session ≡ v.session → u.kind ≡ k → v.kind ≡ k → u.counter ≡ v.counter → (m ≡ n) ⊎ ((m < n) ⊎ (n < m)) → m ≡ n
once_by c s m n u v Join sound em en same ku kv counter either = sound.joins m n u v em en ku kv same
once_by c s m n u v Data sound em en same ku kv counter (inl here) = here
once_by c s m n u v Data sound em en same ku kv counter (inr (inl below)) =
    let rise : u.counter < v.counter = sound.counters m n u v em en ku kv same below in absurd (omega (arith, rise, counter))
once_by c s m n u v Data sound em en same ku kv counter (inr (inr above)) =
    let rise : v.counter < u.counter = sound.counters n m v u en em kv ku (sym same) above in absurd (omega (arith, rise, counter))

pub uplink_once : (c : Settings) (s : State) (m n : ℕ) (u v : Uplink) → IsSound c s → item_at s.uplinks m ≡ Some u → item_at s.uplinks n ≡ Some v
    → u.session ≡ v.session → u.kind ≡ v.kind → u.counter ≡ v.counter → m ≡ n
uplink_once c s m n u v sound em en same kinds counter = once_by c s m n u v v.kind sound em en same kinds refl counter (cases_order m n)

pub uplinks_have_receptions : UplinksHaveReceptions
uplinks_have_receptions c heard = (sound_of c heard).copied

-- no change changes an uplink
pub uplink_stays_with : (s : State) (effect : Effect) (n : ℕ) (u : Uplink) → item_at s.uplinks n ≡ Some u → item_at (state_with s effect).uplinks n ≡ Some u
uplink_stays_with s (AddsSession session new gateway reception) n u e = item_stays s.uplinks new n u e
uplink_stays_with s (AddsUplink new gateway reception) n u e = item_stays s.uplinks new n u e
uplink_stays_with s effect n u e = e

pub uplinks_stay : UplinksStay
uplinks_stay c s e n u there = uplink_stays_with s (decision_of c s e).0 n u there
