-- The parts of a view, each with what the facts have for the message.
use Rattle.std.specs.Prelude.{◌≡◌, option_map}
use Rattle.duty_core.specs.InOrder.{IsByStart}
use Rattle.registry_core.specs.declared.messages.Message.{Message}
use Rattle.registry_core.specs.Settings.{Settings}
use Rattle.registry_core.specs.State.{State}
use Rattle.registry_core.specs.Viewed.{sender_known, owner_known, gateway_known, device_named, last_nonce_for, session_for, uplink_for, view_of_session, answered_for, next_down_for, near_for, in_band_for, limit_for}
use Rattle.desk_store.specs.declared.loading.Names.{Names}
use Rattle.desk_store.specs.declared.loading.DeviceView.{DeviceView}
use Rattle.desk_store.specs.declared.loading.FrameView.{FrameView}
use Rattle.desk_store.specs.declared.booked.BookedView.{BookedView}
use Rattle.desk_store.specs.declared.air.AirView.{AirView}

pub record AreNames (s : State) (m : Message) (v : Names) : Type 0 where
  pub sender : v.sender ≡ sender_known s m
  pub owner : v.owner ≡ owner_known s m
  pub gateway : v.gateway ≡ gateway_known s m

pub record IsDeviceView (s : State) (m : Message) (v : DeviceView) : Type 0 where
  pub device : v.device ≡ device_named s m
  pub last_nonce : v.last_nonce ≡ last_nonce_for s m

pub record IsFrameView (c : Settings) (s : State) (m : Message) (v : FrameView) : Type 0 where
  pub session : v.session ≡ option_map (view_of_session s) (session_for c s m)
  pub uplink : v.uplink ≡ uplink_for c s m

pub record IsBookedView (s : State) (m : Message) (v : BookedView) : Type 0 where
  pub answered : v.answered ≡ answered_for s m
  pub next_down : v.next_down ≡ next_down_for s m

-- the limit, and the downlinks ordered by start
pub record IsAirView (s : State) (m : Message) (v : AirView) : Type 0 where
  pub limit : v.limit ≡ limit_for s m
  pub near : IsByStart (near_for s m) v.near.items
  pub in_band : IsByStart (in_band_for s m) v.in_band.items
