-- Laws of the limits that operators set.
use Rattle.std.specs.Prelude.{◌≡◌, ◌≢◌, ◌↔◌, ℕ, ◌==◌, ◌≤◌, Bool, true, false, ◌&&◌, List, [], ◌∷◌, Option, Some, None, IsTrue, bytes_eq, if◌then◌else◌}
use Rattle.std.specs.Option.{option_map_or, option_or}
use Rattle.radio_core.specs.declared.bands.Band.{Band}
use Rattle.radio_core.specs.Bands.{band_number, limit_of}
use Rattle.duty_core.specs.Use.{EveryHourWithin}
use Rattle.registry_core.specs.declared.answers.Answer.{Answer}
use Rattle.registry_core.specs.declared.answers.Answer.TheVariants.{Success}
use Rattle.registry_core.specs.declared.messages.Envelope.{Envelope}
use Rattle.registry_core.specs.declared.messages.Message.{Message}
use Rattle.registry_core.specs.declared.messages.Message.TheVariants.{LimitSet}
use Rattle.registry_core.specs.Administration.{is_operator}
use Rattle.registry_core.specs.Bookings.{downlinks_in, limit_standing}
use Rattle.registry_core.specs.Heard.{IsHeard, answers_of, state_of}
use Rattle.registry_core.specs.Limits.{Limit}
use Rattle.registry_core.specs.Settings.{Settings}
use Rattle.registry_core.specs.State.{State}
use Rattle.registry_core.specs.Step.{step}

-- ---- which are set

-- The sender is an operator, the gateway is known, and no sliding hour of its band is above the limit, dropped bookings aside.
pub record IsSet (s : State) (e : Envelope) (gateway : List ℕ) (limit : Limit) : Type 0 where
  pub operator : IsTrue (is_operator (s.senders e.sender))
  pub known : IsTrue (s.gateways gateway)
  pub hours : EveryHourWithin (downlinks_in s.bookings gateway limit.band) limit.most

-- a limit is set if and only if these conditions are met
abbrev pub SetExactly : Type 0
SetExactly = (c : Settings) (s : State) (e : Envelope) (gateway : List ℕ) (limit : Limit) → e.message ≡ LimitSet gateway limit
    → ((step c s e).1 ≡ Success) ↔ IsSet s e gateway limit

-- ---- what they do

-- once it is set, it is the limit of the gateway's band, whatever the limit was before
abbrev pub SetLimitsStand : Type 0
SetLimitsStand = (c : Settings) (s : State) (e : Envelope) (gateway : List ℕ) (limit : Limit) → e.message ≡ LimitSet gateway limit
    → (step c s e).1 ≡ Success → limit_standing (step c s e).0 gateway limit.band ≡ limit.most

-- another message, or one for another gateway or band, leaves a band's limit as it is
abbrev pub OtherLimitsStay : Type 0
OtherLimitsStay = (c : Settings) (s : State) (e : Envelope) (gateway : List ℕ) (band : Band)
    → ((limit : Limit) → e.message ≡ LimitSet gateway limit → limit.band ≢ band)
    → limit_standing (step c s e).0 gateway band ≡ limit_standing s gateway band

-- whatever was heard, no limit is above the band's own
abbrev pub LimitsAreWithin : Type 0
LimitsAreWithin = (c : Settings) (heard : List Envelope) (gateway : List ℕ) (band : Band) → IsHeard c heard
    → limit_standing (state_of c heard) gateway band ≤ limit_of band

-- ---- the last one that was set

-- the limit that the message names for the gateway's band, if it is a LimitSet for that band
abbrev pub limit_named : List ℕ → Band → Message → Option ℕ
limit_named gateway band (LimitSet at limit) =
    if bytes_eq gateway at && band_number band == band_number limit.band then Some limit.most else None
limit_named gateway band message = None

abbrev pub is_success : Answer → Bool
is_success Success = true
is_success _ = false

-- the limit that an envelope with its answer sets for the gateway's band: none if it is refused
abbrev pub limit_accepted : List ℕ → Band → Envelope × Answer → Option ℕ
limit_accepted gateway band heard = if is_success heard.1 then limit_named gateway band heard.0.message else None

-- the limit that the last accepted LimitSet for the gateway's band sets, if there is one
abbrev pub last_limit : List ℕ → Band → List (Envelope × Answer) → Option ℕ
last_limit gateway band [] = None
last_limit gateway band (heard ∷ later) = option_or (last_limit gateway band later) (limit_accepted gateway band heard)

-- whatever was heard, the limit of a gateway's band is that of the last accepted LimitSet for it, and else the band's own
abbrev pub LastLimitStands : Type 0
LastLimitStands = (c : Settings) (heard : List Envelope) (gateway : List ℕ) (band : Band)
    → limit_standing (state_of c heard) gateway band ≡ option_map_or (λ most. most) (last_limit gateway band (answers_of c heard)) (limit_of band)
