-- Which frames are booked as new uplinks.
use Rattle.std.specs.Prelude.{◌≡◌, ◌≢◌, ◌↔◌, ℕ, ◌<◌, Bool, false, not, List, length, Option, Some, is_some, IsTrue}
use Rattle.radio_core.specs.Bands.{band_at}
use Rattle.radio_core.specs.Counters.{is_candidate}
use Rattle.registry_core.specs.declared.answers.Answer.{Answer}
use Rattle.registry_core.specs.declared.answers.Answer.TheVariants.{JoinSuccess, FrameSuccess}
use Rattle.registry_core.specs.declared.facts.Device.{Device}
use Rattle.registry_core.specs.declared.facts.Kind.TheVariants.{Data}
use Rattle.registry_core.specs.declared.facts.Session.{Session}
use Rattle.registry_core.specs.declared.facts.Uplink.{Uplink}
use Rattle.registry_core.specs.declared.frames.DataFrame.{DataFrame}
use Rattle.registry_core.specs.declared.frames.JoinRequest.{JoinRequest}
use Rattle.registry_core.specs.declared.messages.Envelope.{Envelope}
use Rattle.registry_core.specs.declared.messages.JoinVerdict.{JoinVerdict}
use Rattle.registry_core.specs.declared.messages.JoinVerdict.TheVariants.{Good}
use Rattle.registry_core.specs.declared.messages.Message.TheVariants.{JoinHeard, FrameHeard}
use Rattle.registry_core.specs.declared.messages.Report.{Report}
use Rattle.registry_core.specs.Derived.{address_of, last_counter}
use Rattle.registry_core.specs.Frames.{data_up, frame_at_rate, join_request}
use Rattle.registry_core.specs.Heard.{state_of}
use Rattle.registry_core.specs.Numbered.{item_at}
use Rattle.registry_core.specs.Settings.{Settings}
use Rattle.registry_core.specs.State.{State}
use Rattle.registry_core.specs.Step.{step}
use Rattle.registry_core.specs.Uplinks.{is_time}

-- The time is in its range, the gateway is known, and the transmission is in a band.
pub record IsReported (s : State) (report : Report) : Type 0 where
  pub time : IsTrue (is_time report.time)
  pub gateway : IsTrue (s.gateways report.gateway)
  pub band : IsTrue (is_some (band_at report.rate.freq report.rate.dr))

-- ---- joins

-- The octets are a join request of a known device with the JoinEUI that it was added with, and its integrity code is right.
-- Its DevNonce is above that of each session of the device, and there are fewer sessions than addresses.
pub record IsAcceptedJoin (c : Settings) (s : State) (report : Report) (verdict : JoinVerdict) : Type 0 where
  pub reported : IsReported s report
  pub join : JoinRequest
  pub frame : join_request (frame_at_rate report.rate.dr report.octets) ≡ Some join
  pub device : Device
  pub there : s.devices join.dev_eui ≡ Some device
  pub join_eui : device.join_eui ≡ join.join_eui
  pub good : verdict ≡ Good
  pub nonce : (n : ℕ) (session : Session) → item_at s.sessions n ≡ Some session → session.device ≡ join.dev_eui → session.nonce < join.nonce
  pub room : length s.sessions < c.addresses

abbrev pub tells_join : Answer → Bool
tells_join (JoinSuccess airtime band copy addr uplink) = not copy
tells_join _ = false

-- whatever was heard, a join request makes a session if and only if it is accepted: then it isn't a copy
abbrev pub JoinedExactly : Type 0
JoinedExactly = (c : Settings) (heard : List Envelope) (e : Envelope) (report : Report) (verdict : JoinVerdict) → e.message ≡ JoinHeard report verdict
    → IsTrue (tells_join (step c (state_of c heard) e).1) ↔ IsAcceptedJoin c (state_of c heard) report verdict

-- ---- data frames

-- The octets are a data frame of a device with the address of a session, and no later session of the session's device has a
-- data uplink. The counter at which the integrity code is right is the one that FCnt gives after the session's last.
pub record IsAcceptedFrame (c : Settings) (s : State) (report : Report) (verdict : Option ℕ) : Type 0 where
  pub reported : IsReported s report
  pub frame : DataFrame
  pub is_frame : data_up (frame_at_rate report.rate.dr report.octets) ≡ Some frame
  pub number : ℕ
  pub session : Session
  pub there : item_at s.sessions number ≡ Some session
  pub address : address_of c number ≡ frame.addr
  pub latest : (n m : ℕ) (later : Session) (uplink : Uplink) → item_at s.sessions n ≡ Some later → later.device ≡ session.device → number < n
      → item_at s.uplinks m ≡ Some uplink → uplink.kind ≡ Data → uplink.session ≢ n
  pub counter : ℕ
  pub right : verdict ≡ Some counter
  pub follows : IsTrue (is_candidate (last_counter s.uplinks number) frame.fcnt counter)

abbrev pub tells_frame : Answer → Bool
tells_frame (FrameSuccess airtime band copy counter dev_eui uplink) = not copy
tells_frame _ = false

-- a data frame is booked as a new uplink if and only if it is accepted: then it isn't a copy
abbrev pub FramesBookedExactly : Type 0
FramesBookedExactly = (c : Settings) (s : State) (e : Envelope) (report : Report) (verdict : Option ℕ) → e.message ≡ FrameHeard report verdict
    → IsTrue (tells_frame (step c s e).1) ↔ IsAcceptedFrame c s report verdict
