-- With the view that a state has for a limit that is to be set, the checks by the view are those of the state.
use Rattle.std.proofs.Common.{◌≡◌, Bool, true, false, List, ℕ, refl, sym, ◌∙◌, ap, subst}
use Rattle.std.specs.Prelude.{IsPermutation}
use Rattle.duty_core.specs.Computed.{hours_within}
use Rattle.duty_core.specs.Laws.{HoursIgnoreOrder, HoursWithinTells}
use Rattle.duty_core.specs.Use.{Interval}
use Rattle.registry_core.specs.declared.messages.Envelope.{Envelope}
use Rattle.registry_core.specs.declared.messages.Message.TheVariants.{LimitSet}
use Rattle.registry_core.specs.declared.views.View.{View}
use Rattle.registry_core.specs.Administration.{limit_set}
use Rattle.registry_core.specs.Bookings.{downlinks_in}
use Rattle.registry_core.specs.Limits.{Limit}
use Rattle.registry_core.specs.Settings.{Settings}
use Rattle.registry_core.specs.State.{State}
use Rattle.registry_core.specs.Viewed.{IsView, gateway_known, in_band_for}
use Rattle.registry_core.specs.steps.LimitsByView.{limit_set_by}

both : (a b : Bool) → (a ≡ true → b ≡ true) → (b ≡ true → a ≡ true) → a ≡ b
both true b to from = sym (to refl)
both false true to from = from refl
both false false to from = refl

-- the order makes no difference
within_same : HoursIgnoreOrder → HoursWithinTells → (l k : List Interval) (most : ℕ) → IsPermutation l k → hours_within k most ≡ hours_within l most
within_same ignores tells l k most moved =
    both (hours_within k most) (hours_within l most) (λ e. (tells l most).1 ((ignores l k most moved).0 ((tells k most).0 e))) (λ e. (tells k most).1 ((ignores l k most moved).1 ((tells l most).0 e)))

pub limit_set_same : (ignores : HoursIgnoreOrder) (tells : HoursWithinTells) (c : Settings) (s : State) (e : Envelope) (v : View) (gateway : List ℕ) (limit : Limit) → e.message ≡ LimitSet gateway limit → IsView c s e v
    → limit_set_by v gateway limit ≡ limit_set s e gateway limit
unfolding limit_set_by limit_set
limit_set_same ignores tells c s e v gateway limit same sees =
    rw (
      sees.role,
      sees.gateway ∙ ap (gateway_known s) same,
      within_same ignores tells (downlinks_in s.bookings gateway limit.band) v.in_band.items limit.most (subst (λ m. IsPermutation (in_band_for s m) v.in_band.items) same sees.in_band),
    ) refl
