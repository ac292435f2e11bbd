-- Worked rows, computed from the definitions alone: lists of messages, the answers that they get, and what they leave.
use Rattle.std.proofs.Common.{◌≡◌, ℕ, ◌+◌, ◌-◌, List, [], ◌∷◌, ◌++◌, map, length, replicate, take, Some, None, true, false, refl, arith, inl, inr}
use Rattle.std.specs.Prelude.{codes, pos}
use Rattle.radio_core.specs.declared.bands.Band.{Band}
use Rattle.radio_core.specs.declared.bands.Band.TheVariants.{B1, B3, B4, B5}
use Rattle.radio_core.specs.declared.data_rates.DataRate.{DataRate}
use Rattle.radio_core.specs.declared.data_rates.DataRate.TheVariants.{Dr0, Dr5, Dr6, Dr7}
use Rattle.radio_core.specs.Bands.{band_at}
use Rattle.radio_core.specs.Frames.{frame_of}
use Rattle.radio_core.specs.TimeOnAir.{airtime_of}
use Rattle.duty_core.specs.Computed.{peak_of, hours_within, is_clear}
use Rattle.registry_core.specs.declared.answers.Answer.{Answer}
use Rattle.registry_core.specs.declared.answers.Answer.TheVariants.{Success, JoinSuccess, FrameSuccess, DownSuccess, Refused}
use Rattle.registry_core.specs.declared.answers.Refusal.TheVariants as refusals
use Rattle.registry_core.specs.declared.facts.Kind.TheVariants.{Join, Data}
use Rattle.registry_core.specs.declared.facts.Standing.TheVariants.{Booked, Sent, Dropped}
use Rattle.registry_core.specs.declared.messages.Envelope.{Envelope}
use Rattle.registry_core.specs.declared.messages.JoinVerdict.TheVariants.{Good, Bad}
use Rattle.registry_core.specs.declared.messages.Message.{Message}
use Rattle.registry_core.specs.declared.messages.Message.TheVariants.{SenderAdd, OwnerAdd, GatewayAdd, DeviceAdd, DeviceMove, JoinHeard, FrameHeard, DownBook, DownDone, LimitSet}
use Rattle.registry_core.specs.declared.messages.Report.{Report}
use Rattle.registry_core.specs.declared.messages.Role.TheVariants.{Operator, Radio}
use Rattle.registry_core.specs.declared.windows.Window.{Window}
use Rattle.registry_core.specs.declared.windows.Window.TheVariants.{First, Second}
use Rattle.registry_core.specs.Administration.{sender_add, owner_add, gateway_add, device_add, device_move, limit_set}
use Rattle.registry_core.specs.AirtimeLaws.{IsDownlinkSize}
use Rattle.registry_core.specs.Bookings.{limit_standing}
use Rattle.registry_core.specs.ReceptionLaws.{copied_uplink}
use Rattle.registry_core.specs.DataFrames.{data_added, frame_heard, original_data}
use Rattle.registry_core.specs.Downlinks.{down_added, down_book, down_done}
use Rattle.registry_core.specs.Heard.{Reply, Answers, Reused, Stranger, answers_of, heard_with, reply_to, state_of}
use Rattle.registry_core.specs.Joins.{join_added, join_heard, original_join}
use Rattle.registry_core.specs.LimitLaws.{last_limit}
use Rattle.registry_core.specs.Reports.{interval_of}
use Rattle.registry_core.specs.Same.{same_message}
use Rattle.registry_core.specs.Settings.{Settings}

abbrev desk_of : ℕ → Settings
desk_of addresses = record { receiver = codes "desk"; operator = codes "office"; base = 0x01a00000; addresses = addresses }

abbrev desk : Settings
desk = desk_of 65536

abbrev by_office : ℕ → Message → Envelope
by_office transaction message = record { sender = codes "office"; transaction = transaction; message = message }

abbrev by_bridge : ℕ → Message → Envelope
by_bridge transaction message = record { sender = codes "bridge"; transaction = transaction; message = message }

-- the answers, in order
abbrev answers : List Envelope → List Answer
answers es = map (λ x. x.1) (answers_of desk es)

-- 2024-02-01 00:00 UTC
abbrev start : ℕ
start = 1706745600000000

abbrev device : ℕ
device = 0x0004a30b001a2b3c

abbrev device_of_town : ℕ → Message
device_of_town dev_eui = DeviceAdd dev_eui 0x70b3d57ed0000001 (codes "town")

abbrev gw_a : List ℕ
gw_a = codes "gw-a"

abbrev gw_b : List ℕ
gw_b = codes "gw-b"

-- a radio sender, an owner, two gateways and a device
abbrev names : List Envelope
names =
    by_office 900000 (SenderAdd (codes "bridge") Radio) ∷ by_office 900001 (OwnerAdd (codes "town"))
    ∷ by_office 900002 (GatewayAdd gw_a) ∷ by_office 900003 (GatewayAdd gw_b) ∷ by_office 900004 (device_of_town device) ∷ []

abbrev named : List Answer
named = Success ∷ Success ∷ Success ∷ Success ∷ Success ∷ []

-- ---- the register

-- a device added twice, under two numbers
device_added_twice : answers (by_office 1 (OwnerAdd (codes "town")) ∷ by_office 2 (device_of_town device) ∷ by_office 3 (device_of_town device) ∷ [])
    ≡ Success ∷ Success ∷ Refused refusals.Exists ∷ []
unfolding owner_add device_add
device_added_twice = refl

-- a radio sender adds nobody
radio_adds_nobody : answers (names ++ by_bridge 1 (SenderAdd (codes "third") Radio) ∷ by_bridge 2 (OwnerAdd (codes "town")) ∷ [])
    ≡ named ++ Refused refusals.WrongRole ∷ Refused refusals.WrongRole ∷ []
unfolding sender_add owner_add gateway_add device_add
radio_adds_nobody = refl

-- ---- joins

abbrev join_octets : ℕ → ℕ → List ℕ
join_octets nonce mic = 0 ∷ 1 ∷ 0 ∷ 0 ∷ 0xd0 ∷ 0x7e ∷ 0xd5 ∷ 0xb3 ∷ 0x70 ∷ 0x3c ∷ 0x2b ∷ 0x1a ∷ 0 ∷ 0x0b ∷ 0xa3 ∷ 4 ∷ 0 ∷ nonce ∷ 0 ∷ mic ∷ 0xb2 ∷ 0xc3 ∷ 0xd4 ∷ []

abbrev report_at : List ℕ → ℕ → ℕ → DataRate → List ℕ → Report
report_at gateway time freq dr octets = record { gateway = gateway; time = time; rate = record { freq = freq; dr = dr }; octets = octets }

abbrev join_at : List ℕ → ℕ → ℕ → Message
join_at gateway nonce mic = JoinHeard (report_at gateway (start + 61696) 868100000 Dr5 (join_octets nonce mic)) Good

abbrev three_joins : List Envelope
three_joins = names ++ by_bridge 1 (join_at gw_a 0 0xa1) ∷ by_bridge 2 (join_at gw_b 0 0xa1) ∷ by_bridge 3 (join_at gw_a 0 0xa2) ∷ []

-- a join, its copy at another gateway, and its nonce again with another MIC
join_and_copy : answers three_joins ≡ named ++ JoinSuccess 61696 B3 false 0x01a00000 1 ∷ JoinSuccess 61696 B3 true 0x01a00000 1 ∷ Refused refusals.Nonce ∷ []
unfolding sender_add owner_add gateway_add device_add join_heard join_added original_join frame_of band_at airtime_of
join_and_copy = refl

-- the second is answered with the uplink that the first booked
join_copied : map copied_uplink (answers three_joins) ≡ None ∷ None ∷ None ∷ None ∷ None ∷ None ∷ Some 1 ∷ None ∷ []
unfolding sender_add owner_add gateway_add device_add join_heard join_added original_join frame_of band_at airtime_of
join_copied = refl

-- one session, one uplink, and a copy at each gateway are left
join_leaves : (length (state_of desk three_joins).sessions ≡ 1) × (length (state_of desk three_joins).uplinks ≡ 1)
    × ((state_of desk three_joins).receptions 1 gw_b ≡ Some (record { end = start + 61696; rate = record { freq = 868100000; dr = Dr5 } }))
unfolding sender_add owner_add gateway_add device_add join_heard join_added original_join frame_of band_at airtime_of
join_leaves = (refl, refl, refl)

-- a block of one address
abbrev joins_of_one : List Envelope
joins_of_one =
    names ++ by_bridge 1 (JoinHeard (report_at gw_a (start + 61696) 868100000 Dr5 (join_octets 0 0xa1)) Bad) ∷ by_bridge 2 (join_at gw_a 0 0xa1)
    ∷ by_bridge 3 (join_at gw_a 1 0xa1) ∷ by_bridge 4 (join_at gw_a 0 0xa2) ∷ by_bridge 5 (join_at gw_a 0 0xa1) ∷ []

one_address : map (λ x. x.1) (answers_of (desk_of 1) joins_of_one)
    ≡ named ++ Refused refusals.MicFailed ∷ JoinSuccess 61696 B3 false 0x01a00000 1 ∷ Refused refusals.Addresses ∷ Refused refusals.Nonce ∷ JoinSuccess 61696 B3 true 0x01a00000 1 ∷ []
unfolding sender_add owner_add gateway_add device_add join_heard join_added original_join frame_of band_at airtime_of
one_address = refl

-- ---- data frames

-- the names, and session 1 of the device
abbrev joined : List Envelope
joined = names ++ by_bridge 900005 (join_at gw_a 0 0xa1) ∷ []

abbrev joined_answers : List Answer
joined_answers = named ++ JoinSuccess 61696 B3 false 0x01a00000 1 ∷ []

abbrev up_octets : ℕ → ℕ → ℕ → List ℕ
up_octets low high mic = 0x40 ∷ 0 ∷ 0 ∷ 0xa0 ∷ 1 ∷ 0 ∷ low ∷ high ∷ mic ∷ 0x22 ∷ 0x33 ∷ 0x44 ∷ []

abbrev data_at : List ℕ → ℕ → ℕ → ℕ → ℕ → Message
data_at gateway low high mic verdict = FrameHeard (report_at gateway start 868100000 Dr5 (up_octets low high mic)) (Some verdict)

-- counters that go round
counters_go_round : answers (joined ++ by_bridge 1 (data_at gw_a 255 255 0x11 65535) ∷ by_bridge 2 (data_at gw_a 0 0 0x11 65536) ∷ [])
    ≡ joined_answers ++ FrameSuccess 41216 B3 false 65535 device 2 ∷ FrameSuccess 41216 B3 false 65536 device 3 ∷ []
unfolding sender_add owner_add gateway_add device_add join_heard join_added original_join frame_of band_at airtime_of frame_heard data_added original_data
counters_go_round = refl

-- a copy is booked once; an older counter is late; a used one with other octets is replayed; one too far ahead is a gap
copy_late_replayed_gap : answers (joined ++ by_bridge 1 (data_at gw_a 5 0 0x11 5) ∷ by_bridge 2 (data_at gw_a 6 0 0x11 6) ∷ by_bridge 3 (data_at gw_b 5 0 0x11 5)
    ∷ by_bridge 4 (data_at gw_a 4 0 0x11 4) ∷ by_bridge 5 (data_at gw_a 5 0 0x12 5) ∷ by_bridge 6 (data_at gw_a 7 0 0x11 65543) ∷ [])
    ≡ joined_answers ++ FrameSuccess 41216 B3 false 5 device 2 ∷ FrameSuccess 41216 B3 false 6 device 3 ∷ FrameSuccess 41216 B3 true 5 device 2
    ∷ Refused refusals.Late ∷ Refused refusals.Replayed ∷ Refused refusals.Gap ∷ []
unfolding sender_add owner_add gateway_add device_add join_heard join_added original_join frame_of band_at airtime_of frame_heard data_added original_data
copy_late_replayed_gap = refl

abbrev in_session_2 : ℕ → Message
in_session_2 counter = FrameHeard (report_at gw_a start 868100000 Dr5 (0x40 ∷ 1 ∷ 0 ∷ 0xa0 ∷ 1 ∷ 0 ∷ counter ∷ 0 ∷ 1 ∷ 2 ∷ 3 ∷ 4 ∷ [])) (Some counter)

-- a session ends as the next one's data comes; its copies are still copies
floor_kept : answers (joined ++ by_bridge 1 (data_at gw_a 3 0 0x11 3) ∷ by_bridge 2 (join_at gw_a 1 0xa1) ∷ by_bridge 3 (data_at gw_a 4 0 0x11 4)
    ∷ by_bridge 4 (in_session_2 0) ∷ by_bridge 5 (data_at gw_a 5 0 0x11 5) ∷ by_bridge 6 (data_at gw_b 3 0 0x11 3) ∷ [])
    ≡ joined_answers ++ FrameSuccess 41216 B3 false 3 device 2 ∷ JoinSuccess 61696 B3 false 0x01a00001 3 ∷ FrameSuccess 41216 B3 false 4 device 4
    ∷ FrameSuccess 41216 B3 false 0 device 5 ∷ Refused refusals.SessionEnded ∷ FrameSuccess 41216 B3 true 3 device 2 ∷ []
unfolding sender_add owner_add gateway_add device_add join_heard join_added original_join frame_of band_at airtime_of frame_heard data_added original_data
floor_kept = refl

-- the longest frame at the slowest data rate, and one longer; bands with their edges
abbrev up_at : ℕ → DataRate → ℕ → ℕ → Message
up_at freq dr end counter = FrameHeard (report_at gw_a end freq dr (up_octets counter 0 0x11)) (Some counter)

lengths_and_bands : answers (joined ++ by_bridge 1 (FrameHeard (report_at gw_a start 868100000 Dr0 (up_octets 0 0 0x11 ++ replicate 52 7)) (Some 0))
    ∷ by_bridge 2 (FrameHeard (report_at gw_a start 868100000 Dr0 (up_octets 1 0 0x11 ++ replicate 53 7)) (Some 1))
    ∷ by_bridge 3 (up_at 868562500 Dr0 start 1) ∷ by_bridge 4 (up_at 868000000 Dr5 start 1) ∷ by_bridge 5 (up_at 868500000 Dr6 start 1)
    ∷ by_bridge 6 (up_at 868537500 Dr0 start 1) ∷ by_bridge 7 (up_at 868475000 Dr6 start 2) ∷ [])
    ≡ joined_answers ++ FrameSuccess 2793472 B3 false 0 device 2 ∷ Refused refusals.BadFrame ∷ Refused refusals.OutOfBand ∷ Refused refusals.OutOfBand ∷ Refused refusals.OutOfBand
    ∷ FrameSuccess 1155072 B3 false 1 device 3 ∷ FrameSuccess 20608 B3 false 2 device 4 ∷ []
unfolding sender_add owner_add gateway_add device_add join_heard join_added original_join frame_of band_at airtime_of frame_heard data_added original_data
lengths_and_bands = refl

-- a report that names what isn't there, or doesn't do; the first and the last time; what an operator names that isn't there
abbrev other_device : ℕ
other_device = 0x0004a30b001a2b3d

-- a join request with these lowest octets of JoinEUI and DevEUI
abbrev join_by : ℕ → ℕ → List ℕ
join_by join dev = 0 ∷ join ∷ 0 ∷ 0 ∷ 0xd0 ∷ 0x7e ∷ 0xd5 ∷ 0xb3 ∷ 0x70 ∷ dev ∷ 0x2b ∷ 0x1a ∷ 0 ∷ 0x0b ∷ 0xa3 ∷ 4 ∷ 0 ∷ 1 ∷ 0 ∷ 0xa1 ∷ 0xb2 ∷ 0xc3 ∷ 0xd4 ∷ []

abbrev join_heard_at : ℕ → List ℕ → Message
join_heard_at time octets = JoinHeard (report_at gw_a time 868100000 Dr5 octets) Good

refused_reports : answers (joined ++ by_bridge 1 (JoinHeard (report_at (codes "gw-z") 946684799999999 868100000 Dr5 (join_by 1 0x3c)) Good)
    ∷ by_bridge 2 (JoinHeard (report_at (codes "gw-z") start 868100000 Dr5 (join_by 1 0x3c)) Good) ∷ by_bridge 3 (join_heard_at start (take 22 (join_by 1 0x3c)))
    ∷ by_bridge 4 (join_heard_at start (up_octets 0 0 0x11)) ∷ by_bridge 5 (join_heard_at start (join_by 1 0x3d)) ∷ by_bridge 6 (join_heard_at start (join_by 2 0x3c))
    ∷ by_bridge 7 (in_session_2 0) ∷ by_bridge 8 (FrameHeard (report_at gw_a start 868100000 Dr5 (up_octets 0 0 0x11)) None)
    ∷ by_bridge 9 (up_at 868100000 Dr5 4102444800000001 0) ∷ by_bridge 10 (up_at 868100000 Dr5 4102444800000000 0) ∷ by_bridge 11 (up_at 868100000 Dr5 946684800000000 1)
    ∷ by_office 12 (DeviceMove device (codes "town")) ∷ by_office 13 (DeviceAdd other_device 0x70b3d57ed0000001 (codes "city")) ∷ by_office 14 (DeviceMove other_device (codes "town")) ∷ [])
    ≡ joined_answers ++ Refused refusals.Time ∷ Refused refusals.UnknownGateway ∷ Refused refusals.BadFrame ∷ Refused refusals.BadFrame ∷ Refused refusals.UnknownDevEui
    ∷ Refused refusals.JoinEui ∷ Refused refusals.UnknownDevAddr ∷ Refused refusals.MicFailed ∷ Refused refusals.Time ∷ FrameSuccess 41216 B3 false 0 device 2
    ∷ FrameSuccess 41216 B3 false 1 device 3 ∷ Success ∷ Refused refusals.UnknownOwner ∷ Refused refusals.UnknownDevEui ∷ []
unfolding sender_add owner_add gateway_add device_add device_move join_heard join_added original_join frame_of band_at airtime_of frame_heard data_added original_data
refused_reports = refl

-- ---- downlinks

abbrev down_octets : ℕ → List ℕ
down_octets low = 0x60 ∷ 0 ∷ 0 ∷ 0xa0 ∷ 1 ∷ 0 ∷ low ∷ 0 ∷ 0x55 ∷ 0x66 ∷ 0x77 ∷ 0x88 ∷ []

abbrev down_in : Window → ℕ → ℕ → Message
down_in window uplink counter = DownBook uplink gw_a window (down_octets counter)

abbrev four_uplinks : ℕ → List Envelope
four_uplinks last_end = joined ++ by_bridge 1 (up_at 868800000 Dr0 (start - 1000000) 0) ∷ by_bridge 2 (up_at 868800000 Dr0 (start + 9000000) 1)
    ∷ by_bridge 3 (up_at 868800000 Dr0 (start + 19000000) 2) ∷ by_bridge 4 (up_at 868800000 Dr0 last_end 3) ∷ []

abbrev four_answers : List Answer
four_answers = joined_answers ++ FrameSuccess 1155072 B4 false 0 device 2 ∷ FrameSuccess 1155072 B4 false 1 device 3 ∷ FrameSuccess 1155072 B4 false 2 device 4
    ∷ FrameSuccess 1155072 B4 false 3 device 5 ∷ []

abbrev four_downlinks : List Envelope
four_downlinks = by_bridge 5 (down_in First 2 0) ∷ by_bridge 6 (down_in First 3 1) ∷ by_bridge 7 (down_in First 4 2) ∷ by_bridge 8 (down_in First 5 3) ∷ []

abbrev three_booked : List Answer
three_booked = DownSuccess 991232 B4 1 start ∷ DownSuccess 991232 B4 2 (start + 10000000) ∷ DownSuccess 991232 B4 3 (start + 20000000) ∷ []

-- an hour that is exactly at its limit
hour_full : answers (four_uplinks (start + 3598373696) ++ four_downlinks) ≡ four_answers ++ three_booked ++ DownSuccess 991232 B4 4 (start + 3599373696) ∷ []
unfolding sender_add owner_add gateway_add device_add join_heard join_added original_join frame_of band_at airtime_of frame_heard data_added original_data down_book down_added is_clear hours_within peak_of
hour_full = refl

-- and one that would be a microsecond above it
hour_above : answers (four_uplinks (start + 3598373695) ++ four_downlinks) ≡ four_answers ++ three_booked ++ Refused refusals.Duty ∷ []
unfolding sender_add owner_add gateway_add device_add join_heard join_added original_join frame_of band_at airtime_of frame_heard data_added original_data down_book down_added is_clear hours_within peak_of
hour_above = refl

-- 33 octets down, then 12 that begin at `second`, and then 12 before both
abbrev between : ℕ → List Envelope
between second = joined ++ by_bridge 1 (up_at 868800000 Dr0 (start - 1000000) 0) ∷ by_bridge 2 (up_at 868800000 Dr0 (start + 1799000000) 1)
    ∷ by_bridge 3 (up_at 868800000 Dr0 (second - 1000000) 2) ∷ by_bridge 4 (DownBook 3 gw_a First (down_octets 0 ++ replicate 21 7)) ∷ by_bridge 5 (down_in First 4 1)
    ∷ by_bridge 6 (down_in First 2 2) ∷ []

abbrev between_answers : ℕ → Answer → List Answer
between_answers second last = joined_answers ++ FrameSuccess 1155072 B4 false 0 device 2 ∷ FrameSuccess 1155072 B4 false 1 device 3 ∷ FrameSuccess 1155072 B4 false 2 device 4
    ∷ DownSuccess 1810432 B4 1 (start + 1800000000) ∷ DownSuccess 991232 B4 2 second ∷ last ∷ []

between_two : answers (between (start + 3599201664)) ≡ between_answers (start + 3599201664) (DownSuccess 991232 B4 3 start)
unfolding sender_add owner_add gateway_add device_add join_heard join_added original_join frame_of band_at airtime_of frame_heard data_added original_data down_book down_added is_clear hours_within peak_of
between_two = refl

between_two_above : answers (between (start + 3599201663)) ≡ between_answers (start + 3599201663) (Refused refusals.Duty)
unfolding sender_add owner_add gateway_add device_add join_heard join_added original_join frame_of band_at airtime_of frame_heard data_added original_data down_book down_added is_clear hours_within peak_of
between_two_above = refl

-- a second window, and a downlink in another band that begins as it ends
abbrev beside : ℕ → List Envelope
beside end = joined ++ by_bridge 1 (up_at 868100000 Dr5 start 0) ∷ by_bridge 2 (up_at 868100000 Dr5 end 1) ∷ by_bridge 3 (down_in Second 2 0) ∷ by_bridge 4 (down_in First 3 1) ∷ []

abbrev beside_answers : Answer → List Answer
beside_answers last = joined_answers ++ FrameSuccess 41216 B3 false 0 device 2 ∷ FrameSuccess 41216 B3 false 1 device 3 ∷ DownSuccess 991232 B5 1 (start + 2000000) ∷ last ∷ []

side_by_side : answers (beside (start + 1991232)) ≡ beside_answers (DownSuccess 41216 B3 2 (start + 2991232))
unfolding sender_add owner_add gateway_add device_add join_heard join_added original_join frame_of band_at airtime_of frame_heard data_added original_data down_book down_added is_clear hours_within peak_of
side_by_side = refl

collides : answers (beside (start + 1991231)) ≡ beside_answers (Refused refusals.Collision)
unfolding sender_add owner_add gateway_add device_add join_heard join_added original_join frame_of band_at airtime_of frame_heard data_added original_data down_book down_added is_clear hours_within peak_of
collides = refl

-- a dropped booking frees its uplink, and not its counter
abbrev dropped : List Envelope
dropped = joined ++ by_bridge 1 (up_at 868100000 Dr5 start 0) ∷ by_bridge 2 (down_in First 2 0) ∷ by_bridge 3 (down_in First 2 1) ∷ by_bridge 4 (DownDone 1 false)
    ∷ by_bridge 5 (DownDone 1 false) ∷ by_bridge 6 (down_in First 2 0) ∷ by_bridge 7 (down_in First 2 1) ∷ by_bridge 8 (down_in First 99 2) ∷ by_bridge 9 (DownDone 99 true) ∷ []

dropped_answers : answers dropped
    ≡ joined_answers ++ FrameSuccess 41216 B3 false 0 device 2 ∷ DownSuccess 41216 B3 1 (start + 1000000) ∷ Refused refusals.Answered ∷ Success
    ∷ Refused refusals.Done ∷ Refused refusals.DownCounter ∷ DownSuccess 41216 B3 2 (start + 1000000) ∷ Refused refusals.NoUplink ∷ Refused refusals.NoBooking ∷ []
unfolding sender_add owner_add gateway_add device_add join_heard join_added original_join frame_of band_at airtime_of frame_heard data_added original_data down_book down_added down_done is_clear hours_within peak_of
dropped_answers = refl

-- both bookings are in the state, the first dropped
dropped_leaves : map (λ b. b.standing) (state_of desk dropped).bookings ≡ Dropped ∷ Booked ∷ []
unfolding sender_add owner_add gateway_add device_add join_heard join_added original_join frame_of band_at airtime_of frame_heard data_added original_data down_book down_added down_done is_clear hours_within peak_of
dropped_leaves = refl

-- a reception with its own end and rate; a second report of its gateway changes nothing; and a downlink follows the first of them
abbrev heard_at_two : List Envelope
heard_at_two = joined ++ by_bridge 1 (up_at 868100000 Dr5 start 0) ∷ by_bridge 2 (FrameHeard (report_at gw_b (start + 4) 868300000 Dr0 (up_octets 0 0 0x11)) (Some 0))
    ∷ by_bridge 3 (FrameHeard (report_at gw_b (start + 9) 868100000 Dr5 (up_octets 0 0 0x11)) (Some 0)) ∷ by_bridge 4 (DownBook 2 gw_b First (down_octets 0)) ∷ []

by_its_own_copy : answers heard_at_two ≡ joined_answers ++ FrameSuccess 41216 B3 false 0 device 2 ∷ FrameSuccess 41216 B3 true 0 device 2 ∷ FrameSuccess 41216 B3 true 0 device 2
    ∷ DownSuccess 991232 B3 1 (start + 1000004) ∷ []
unfolding sender_add owner_add gateway_add device_add join_heard join_added original_join frame_of band_at airtime_of frame_heard data_added original_data down_book down_added is_clear hours_within peak_of
by_its_own_copy = refl

-- an uplink that isn't there, or not at the gateway; the wrong kind of frame; 65 octets in the second window; another address; 64 octets
-- there; how it ended
abbrev accept_octets : List ℕ
accept_octets = 0x20 ∷ 0 ∷ 1 ∷ 2 ∷ 3 ∷ 4 ∷ 5 ∷ 6 ∷ 7 ∷ 8 ∷ 9 ∷ 10 ∷ 11 ∷ 12 ∷ 13 ∷ 14 ∷ 15 ∷ []

abbrev asked : List Envelope
asked = joined ++ by_bridge 1 (up_at 868100000 Dr5 start 0) ∷ by_bridge 2 (down_in First 0 0) ∷ by_bridge 3 (DownBook 2 gw_b First (down_octets 0))
    ∷ by_bridge 4 (DownBook 2 (codes "gw-z") First (down_octets 0)) ∷ by_bridge 5 (DownBook 2 gw_a First accept_octets) ∷ by_bridge 6 (down_in First 1 0)
    ∷ by_bridge 7 (DownBook 2 gw_a Second (down_octets 0 ++ replicate 53 7)) ∷ by_bridge 8 (DownBook 2 gw_a First (0x60 ∷ 1 ∷ 0 ∷ 0xa0 ∷ 1 ∷ 0 ∷ 0 ∷ 0 ∷ 1 ∷ 2 ∷ 3 ∷ 4 ∷ []))
    ∷ by_bridge 9 (DownBook 2 gw_a Second (down_octets 0 ++ replicate 52 7)) ∷ by_bridge 10 (DownDone 0 true) ∷ by_bridge 11 (DownDone 1 true) ∷ by_bridge 12 (DownDone 1 false) ∷ []

asked_answers : answers asked
    ≡ joined_answers ++ FrameSuccess 41216 B3 false 0 device 2 ∷ Refused refusals.NoUplink ∷ Refused refusals.NoUplink ∷ Refused refusals.UnknownGateway ∷ Refused refusals.BadFrame
    ∷ Refused refusals.BadFrame ∷ Refused refusals.BadFrame ∷ Refused refusals.UnknownDevAddr ∷ DownSuccess 2793472 B5 1 (start + 2000000) ∷ Refused refusals.NoBooking ∷ Success
    ∷ Refused refusals.Done ∷ []
unfolding sender_add owner_add gateway_add device_add join_heard join_added original_join frame_of band_at airtime_of frame_heard data_added original_data down_book down_added down_done is_clear hours_within peak_of
asked_answers = refl

-- the one booking was sent
asked_leaves : map (λ b. b.standing) (state_of desk asked).bookings ≡ Sent ∷ []
unfolding sender_add owner_add gateway_add device_add join_heard join_added original_join frame_of band_at airtime_of frame_heard data_added original_data down_book down_added down_done is_clear hours_within peak_of
asked_leaves = refl

-- 23 and 12 octets at DR5, each up to the end of its reception; 64 octets at DR0 without CRC, 2 s after the second
asked_on_air : (map interval_of (state_of desk asked).uplinks ≡ record { start = pos start; len = 61696 } ∷ record { start = pos (start - 41216); len = 41216 } ∷ [])
    × (map (λ b. b.span) (state_of desk asked).bookings ≡ record { start = pos (start + 2000000); len = 2793472 } ∷ [])
unfolding sender_add owner_add gateway_add device_add join_heard join_added original_join frame_of band_at airtime_of frame_heard data_added original_data down_book down_added down_done is_clear hours_within peak_of
asked_on_air = (refl, refl)

-- a join request, a data frame and its copy, as two gateways report them, and answers to both uplinks
reported_and_answered : answers (names ++ by_bridge 10 (join_at gw_a 0 0xa1) ∷ by_bridge 11 (up_at 868300000 Dr5 (start + 100041216) 0)
    ∷ by_bridge 12 (FrameHeard (report_at gw_b (start + 100041220) 868300000 Dr5 (up_octets 0 0 0x11)) (Some 0)) ∷ by_bridge 13 (DownBook 1 gw_a First accept_octets)
    ∷ by_bridge 14 (down_in First 2 0) ∷ [])
    ≡ named ++ JoinSuccess 61696 B3 false 0x01a00000 1 ∷ FrameSuccess 41216 B3 false 0 device 2 ∷ FrameSuccess 41216 B3 true 0 device 2 ∷ DownSuccess 46336 B3 1 (start + 5061696)
    ∷ DownSuccess 41216 B3 2 (start + 101041216) ∷ []
unfolding sender_add owner_add gateway_add device_add join_heard join_added original_join frame_of band_at airtime_of frame_heard data_added original_data down_book down_added is_clear hours_within peak_of
reported_and_answered = refl

-- data frames of 12 octets at DR7, and an answer in the first window at DR7 too
by_fsk : answers (joined ++ by_bridge 1 (up_at 868800000 Dr7 start 0) ∷ by_bridge 2 (down_in First 2 0) ∷ by_bridge 3 (up_at 868562500 Dr7 start 1)
    ∷ by_bridge 4 (up_at 868537500 Dr7 start 1) ∷ [])
    ≡ joined_answers ++ FrameSuccess 3680 B4 false 0 device 2 ∷ DownSuccess 3680 B4 1 (start + 1000000) ∷ Refused refusals.OutOfBand
    ∷ FrameSuccess 3680 B3 false 1 device 3 ∷ []
unfolding sender_add owner_add gateway_add device_add join_heard join_added original_join frame_of band_at airtime_of frame_heard data_added original_data down_book down_added is_clear hours_within peak_of
by_fsk = refl

-- the join accept answers the join in its own window
accept_booked : answers (joined ++ by_bridge 13 (DownBook 1 gw_a First accept_octets) ∷ by_bridge 14 (DownDone 1 true) ∷ [])
    ≡ joined_answers ++ DownSuccess 46336 B3 1 (start + 5061696) ∷ Success ∷ []
unfolding sender_add owner_add gateway_add device_add join_heard join_added original_join frame_of band_at airtime_of down_book down_added down_done is_clear hours_within peak_of
accept_booked = refl

-- ---- limits

abbrev sets : ℕ → List ℕ → Band → ℕ → Envelope
sets transaction gateway band most = by_office transaction (LimitSet gateway (record { band = band; most = most }))

-- four downlinks fill an hour of B4: a microsecond less is refused, and as much is set
abbrev limited : List Envelope
limited = four_uplinks (start + 3598373696) ++ four_downlinks ++ sets 1 gw_a B4 3599999 ∷ sets 2 gw_a B4 3600000 ∷ []

limited_answers : answers limited ≡ four_answers ++ three_booked ++ DownSuccess 991232 B4 4 (start + 3599373696) ∷ Refused refusals.Duty ∷ Success ∷ []
unfolding sender_add owner_add gateway_add device_add join_heard join_added original_join frame_of band_at airtime_of frame_heard data_added original_data down_book down_added limit_set is_clear hours_within peak_of
limited_answers = refl

-- if the last one is dropped, the hour of the three others is within their sum, and then there is no space to answer its uplink again
abbrev lowered : List Envelope
lowered = four_uplinks (start + 3598373696) ++ four_downlinks ++ by_bridge 9 (DownDone 4 false) ∷ sets 1 gw_a B4 2973695 ∷ sets 2 gw_a B4 2973696
    ∷ by_bridge 10 (down_in First 5 4) ∷ []

lowered_answers : answers lowered
    ≡ four_answers ++ three_booked ++ DownSuccess 991232 B4 4 (start + 3599373696) ∷ Success ∷ Refused refusals.Duty ∷ Success ∷ Refused refusals.Duty ∷ []
unfolding sender_add owner_add gateway_add device_add join_heard join_added original_join frame_of band_at airtime_of frame_heard data_added original_data down_book down_added down_done limit_set is_clear hours_within peak_of
lowered_answers = refl

-- the last accepted LimitSet of each list for a gateway's band, and the limits
lowered_limits : (last_limit gw_a B4 (answers_of desk lowered) ∷ last_limit gw_a B5 (answers_of desk lowered) ∷ last_limit gw_b B4 (answers_of desk lowered) ∷ [] ≡ Some 2973696 ∷ None ∷ None ∷ [])
    × (limit_standing (state_of desk lowered) gw_a B4 ∷ limit_standing (state_of desk lowered) gw_a B5 ∷ limit_standing (state_of desk lowered) gw_b B4 ∷ [] ≡ 2973696 ∷ 360000000 ∷ 3600000 ∷ [])
unfolding sender_add owner_add gateway_add device_add join_heard join_added original_join frame_of band_at airtime_of frame_heard data_added original_data down_book down_added down_done limit_set is_clear hours_within peak_of
lowered_limits = (refl, refl)

-- a limit for one downlink alone: the second is refused, until the limit is raised again
abbrev raised : List Envelope
raised = four_uplinks (start + 3598373696) ++ sets 1 gw_a B4 991232 ∷ by_bridge 5 (down_in First 2 0) ∷ by_bridge 6 (down_in First 3 1)
    ∷ sets 2 gw_a B4 3600000 ∷ by_bridge 7 (down_in First 3 1) ∷ []

raised_answers : answers raised
    ≡ four_answers ++ Success ∷ DownSuccess 991232 B4 1 start ∷ Refused refusals.Duty ∷ Success ∷ DownSuccess 991232 B4 2 (start + 10000000) ∷ []
unfolding sender_add owner_add gateway_add device_add join_heard join_added original_join frame_of band_at airtime_of frame_heard data_added original_data down_book down_added limit_set is_clear hours_within peak_of
raised_answers = refl

-- the last one counts and not the lowest, and a refused one doesn't
raised_limit : (last_limit gw_a B4 (answers_of desk raised) ≡ Some 3600000) × (last_limit gw_a B4 (answers_of desk limited) ≡ Some 3600000)
unfolding sender_add owner_add gateway_add device_add join_heard join_added original_join frame_of band_at airtime_of frame_heard data_added original_data down_book down_added limit_set is_clear hours_within peak_of
raised_limit = (refl, refl)

-- an unknown gateway, and a sender that is no operator
unset_limits : answers (names ++ sets 1 (codes "gw-z") B1 0 ∷ by_bridge 2 (LimitSet (codes "gw-z") (record { band = B1; most = 0 })) ∷ [])
    ≡ named ++ Refused refusals.UnknownGateway ∷ Refused refusals.WrongRole ∷ []
unfolding sender_add owner_add gateway_add device_add limit_set hours_within peak_of
unset_limits = refl

-- ---- one thing changed

-- a device that is moved has another owner and its JoinEUI
moved_device : (state_of desk (names ++ by_office 1 (OwnerAdd (codes "city")) ∷ by_office 2 (DeviceMove device (codes "city")) ∷ [])).devices device
    ≡ Some (record { join_eui = 0x70b3d57ed0000001; owner = codes "city" })
unfolding sender_add owner_add gateway_add device_add device_move
moved_device = refl

-- a join accept at DR5, 64 octets of a data frame at DR0, and one octet more
downlink_sizes : IsDownlinkSize Join Dr5 17 × IsDownlinkSize Join Dr0 33 × IsDownlinkSize Data Dr0 64 × ¬ IsDownlinkSize Data Dr0 65 × ¬ IsDownlinkSize Data Dr5 11 × ¬ IsDownlinkSize Join Dr5 18
downlink_sizes = (
  record { frame = inl refl; carried = omega arith },
  record { frame = inr refl; carried = omega arith },
  record { frame = omega arith; carried = omega arith },
  λ is. omega (arith, is.carried),
  λ is. omega (arith, is.frame),
  λ is. elim is.frame [ inl short ↦ omega (arith, short) | inr long ↦ omega (arith, long) ],
)

-- ---- hearing once

-- what each is replied, after those before it
abbrev replies : List Envelope → List Envelope → List Reply
replies heard [] = []
replies heard (e ∷ es) = reply_to desk heard e ∷ replies (heard_with desk heard e) es

abbrev owner_of_stranger : Envelope
owner_of_stranger = record { sender = codes "stranger"; transaction = 1; message = OwnerAdd (codes "city") }

-- a message again, another message with its number, and an unknown sender before and after it is added
each_replied : replies [] (by_office 1 (OwnerAdd (codes "town")) ∷ by_office 1 (OwnerAdd (codes "town")) ∷ by_office 2 (OwnerAdd (codes "town")) ∷ by_office 2 (OwnerAdd (codes "town"))
    ∷ by_office 1 (OwnerAdd (codes "city")) ∷ owner_of_stranger ∷ by_office 3 (SenderAdd (codes "stranger") Operator) ∷ owner_of_stranger ∷ [])
    ≡ Answers Success ∷ Answers Success ∷ Answers (Refused refusals.Exists) ∷ Answers (Refused refusals.Exists)
    ∷ Reused ∷ Stranger ∷ Answers Success ∷ Answers Success ∷ []
unfolding sender_add owner_add same_message reply_to heard_with
each_replied = refl
