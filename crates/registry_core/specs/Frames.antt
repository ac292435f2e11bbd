-- The fields of frames that the registry uses.
use Rattle.std.specs.Prelude.{ℕ, ◌^◌, ◌%◌, ◌==◌, ◌&&◌, Bool, true, List, length, Option, Some, None, nat_le, nat_lt, if◌then◌else◌}
use Rattle.radio_core.specs.declared.data_rates.DataRate.{DataRate}
use Rattle.radio_core.specs.declared.frames.Phy.{Phy}
use Rattle.radio_core.specs.declared.frames.Phy.TheVariants as frames
use Rattle.radio_core.specs.DataRates.{max_length}
use Rattle.radio_core.specs.Frames.{frame_of}
use Rattle.registry_core.specs.declared.facts.Kind.{Kind}
use Rattle.registry_core.specs.declared.facts.Kind.TheVariants.{Join, Data}
use Rattle.registry_core.specs.declared.frames.DataFrame.{DataFrame}
use Rattle.registry_core.specs.declared.frames.Downlink.{Downlink}
use Rattle.registry_core.specs.declared.frames.Downlink.TheVariants as downlinks
use Rattle.registry_core.specs.declared.frames.JoinRequest.{JoinRequest}

-- the frame that was sent at this data rate; octets that are more than the rate allows are none
abbrev pub frame_at_rate : DataRate → List ℕ → Option Phy
frame_at_rate dr octets = if nat_le (length octets) (max_length dr) then frame_of octets else None

-- the fields of a frame that is a join request
abbrev pub join_request : Option Phy → Option JoinRequest
join_request (Some (frames.Join join_eui dev_eui nonce)) = Some (record { join_eui = join_eui; dev_eui = dev_eui; nonce = nonce })
join_request _ = None

-- the fields of a frame that is a data frame from a device
abbrev pub data_up : Option Phy → Option DataFrame
data_up (Some (frames.Up confirmed addr fcnt)) = Some (record { addr = addr; fcnt = fcnt })
data_up _ = None

-- the frame that answers an uplink of the kind: a join accept, or a data frame for a device
abbrev pub downlink_to : Kind → Option Phy → Option Downlink
downlink_to Join (Some frames.Accept) = Some downlinks.Accept
downlink_to Data (Some (frames.Down confirmed addr fcnt)) = Some (downlinks.Data (record { addr = addr; fcnt = fcnt }))
downlink_to _ _ = None

-- the frame has this address; a join accept has none, and passes
abbrev pub goes_to : ℕ → Downlink → Bool
goes_to addr downlinks.Accept = true
goes_to addr (downlinks.Data frame) = frame.addr == addr

-- FCnt has the low 16 bits of the counter, and the counter has 32 bits; a join accept has no FCnt, and passes
abbrev pub counts_as : ℕ → Downlink → Bool
counts_as counter downlinks.Accept = true
counts_as counter (downlinks.Data frame) = nat_lt counter (2 ^ 32) && frame.fcnt == counter % 65536
