-- What is read is in the ranges of the types.
use Rattle.std.proofs.Common.{ℕ, ◌<◌, ◌^◌, List, Bool, true, false, Option, Some, None, IfSome, option_map, if◌then◌else◌, Result, Ok, Err, nat_lt, codes, refl, arith, ◌≡◌}
use Rattle.std.specs.Prelude.{nat_le}
use Rattle.std.proofs.lemmas.Bool.{leb-true, ltb-true}
use Rattle.serde_json.specs.Data.{Data}
use Rattle.radio_core.specs.declared.bands.Band.{Band}
use Rattle.radio_core.specs.Bands.{limit_of}
use Rattle.radio_core.specs.Names.{is_name}
use Rattle.registry_core.specs.declared.messages.Message.{Message}
use Rattle.registry_core.specs.Limits.{IsLimit}
use Rattle.registry_core.specs.Ranges.{IsName, IsOctets, IsEui, IsReport, IsMessage, IsEnvelope}
use Rattle.registry_core.specs.JsonIntegers.{json_integer_limit}
use Rattle.desk_wire.specs.Bodies.{sender_add_of, owner_add_of, gateway_add_of, device_add_of, device_move_of, join_heard_of, frame_heard_of, down_book_of, down_done_of, limit_set_of}
use Rattle.desk_wire.specs.Members.{text_at, name_at, unsigned_at, json_integer_at, is_null_at, integer_or_null_at, data_rate_at, octets_at, type_name_at, eui_at, role_at, join_verdict_at, window_at, band_named_at, limit_at, boolean_at}
use Rattle.desk_wire.specs.Reading.{reads_value, value_of, envelope_of, common_members_of, envelope_addressed, message_of, with_message}
use Rattle.desk_wire.specs.Reports.{rate_of, report_of}
use Rattle.desk_wire.specs.Laws.{ReadsInRange}
use Rattle.desk_wire.specs.declared.heads.Head.{Head}
use Rattle.desk_wire.specs.declared.reading.CommonMembers.{CommonMembers}
use Rattle.desk_wire.specs.declared.faults.WireFault.{WireFault}
use Rattle.desk_wire.proofs.HexTexts.{octets_kept, eui_kept}
use Rattle.desk_wire.proofs.Kept.{Keeps, any, after, mapped, made, missing, tested, KeepsOk, done, ok_if_found, either, refused}

-- ---- members in their forms

name_kept : (member : List ℕ) (value : Data) → Keeps IsName (name_at member value)
name_kept member value = tested is_name (text_at member value)

json_integer_kept : (member : List ℕ) (limit : ℕ) (value : Data) → Keeps (λ n. n < limit) (json_integer_at member limit value)
json_integer_kept member limit value =
    let below : ℕ → Bool = λ n. nat_lt n limit in
    record { holds = λ n same. ltb-true n limit ((tested below (unsigned_at member value)).holds n same) }

number_or_null_kept : (limit : ℕ) (found : Option ℕ) (b : Bool) → Keeps (λ n. n < limit) found
    → Keeps (λ number. IfSome number (λ n. n < limit)) (if b then Some None else option_map Some found)
number_or_null_kept limit found true kept = made tt
number_or_null_kept limit found false kept = mapped Some kept (λ n below. below)

integer_or_null_kept : (member : List ℕ) (limit : ℕ) (value : Data)
    → Keeps (λ number. IfSome number (λ n. n < limit)) (integer_or_null_at member limit value)
integer_or_null_kept member limit value =
    number_or_null_kept limit (json_integer_at member limit value) (is_null_at member value) (json_integer_kept member limit value)

octets_at_kept : (member : List ℕ) (value : Data) → Keeps IsOctets (octets_at member value)
octets_at_kept member value = after _ (any (text_at member value)) (λ text _. octets_kept text)

eui_at_kept : (member : List ℕ) (value : Data) → Keeps IsEui (eui_at member value)
eui_at_kept member value = after _ (any (text_at member value)) (λ text _. eui_kept text)

-- ---- the members of every message

record InRange (head : Head) : Type 0 where
  sender : IsName head.sender
  transaction : head.transaction < 2 ^ 32

common_members_kept : (value : Data) → Keeps (λ common. InRange common.head) (common_members_of value)
unfolding common_members_of
common_members_kept value =
    after _ (any (text_at (codes "ProtocolVersion") value)) (λ version _.
    after _ (name_kept (codes "SenderID") value) (λ sender s.
    after _ (any (name_at (codes "ReceiverID") value)) (λ receiver _.
    after _ (json_integer_kept (codes "TransactionID") (2 ^ 32) value) (λ transaction t.
    after _ (any (type_name_at (codes "MessageType") value)) (λ type_name _.
    made (record { sender = s; transaction = t }))))))

-- ---- the members of a report

rate_kept : (value : Data) → Keeps (λ rate. rate.freq < 2 ^ 32) (rate_of value)
unfolding rate_of
rate_kept value =
    after _ (json_integer_kept (codes "Freq") (2 ^ 32) value) (λ freq f.
    after _ (any (data_rate_at (codes "DataRate") value)) (λ dr _.
    made f))

report_kept : (value : Data) → Keeps IsReport (report_of value)
unfolding report_of
report_kept value =
    after _ (name_kept (codes "Gateway") value) (λ gateway g.
    after _ (json_integer_kept (codes "Time") json_integer_limit value) (λ time t.
    after _ (rate_kept value) (λ rate r.
    after _ (octets_at_kept (codes "PHYPayload") value) (λ octets o.
    made (record { gateway = g; time = omega arith; freq = r; octets = o })))))

-- ---- the members of each type

sender_add_kept : (value : Data) → Keeps IsMessage (sender_add_of value)
unfolding sender_add_of
sender_add_kept value =
    after _ (name_kept (codes "Sender") value) (λ sender s.
    after _ (any (role_at (codes "Role") value)) (λ role _.
    made s))

owner_add_kept : (value : Data) → Keeps IsMessage (owner_add_of value)
unfolding owner_add_of
owner_add_kept value = after _ (name_kept (codes "Owner") value) (λ owner o. made o)

gateway_add_kept : (value : Data) → Keeps IsMessage (gateway_add_of value)
unfolding gateway_add_of
gateway_add_kept value = after _ (name_kept (codes "Gateway") value) (λ gateway g. made g)

device_add_kept : (value : Data) → Keeps IsMessage (device_add_of value)
unfolding device_add_of
device_add_kept value =
    after _ (eui_at_kept (codes "DevEUI") value) (λ dev_eui d.
    after _ (eui_at_kept (codes "JoinEUI") value) (λ join_eui j.
    after _ (name_kept (codes "Owner") value) (λ owner o.
    made (d, j, o))))

device_move_kept : (value : Data) → Keeps IsMessage (device_move_of value)
unfolding device_move_of
device_move_kept value =
    after _ (eui_at_kept (codes "DevEUI") value) (λ dev_eui d.
    after _ (name_kept (codes "Owner") value) (λ owner o.
    made (d, o)))

join_heard_kept : (value : Data) → Keeps IsMessage (join_heard_of value)
unfolding join_heard_of
join_heard_kept value =
    after _ (report_kept value) (λ report r.
    after _ (any (join_verdict_at (codes "Verdict") value)) (λ verdict _.
    made r))

frame_heard_kept : (value : Data) → Keeps IsMessage (frame_heard_of value)
unfolding frame_heard_of
frame_heard_kept value =
    after _ (report_kept value) (λ report r.
    after _ (integer_or_null_kept (codes "Verdict") (2 ^ 32) value) (λ verdict v.
    made (r, v)))

down_book_kept : (value : Data) → Keeps IsMessage (down_book_of value)
unfolding down_book_of
down_book_kept value =
    after _ (json_integer_kept (codes "Uplink") json_integer_limit value) (λ uplink u.
    after _ (name_kept (codes "Gateway") value) (λ gateway g.
    after _ (any (window_at (codes "Window") value)) (λ window _.
    after _ (octets_at_kept (codes "PHYPayload") value) (λ octets o.
    made (omega (arith, u), g, o)))))

down_done_kept : (value : Data) → Keeps IsMessage (down_done_of value)
unfolding down_done_of
down_done_kept value =
    after _ (json_integer_kept (codes "Booking") json_integer_limit value) (λ booking b.
    after _ (any (boolean_at (codes "Sent") value)) (λ sent _.
    made (omega (arith, b))))

limit_at_kept : (member : List ℕ) (band : Band) (value : Data) → Keeps IsLimit (limit_at member band value)
limit_at_kept member band value = after _ (any (unsigned_at member value)) (λ most _. within most (nat_le most (limit_of band)) refl)
  where
    within : (most : ℕ) (b : Bool) → nat_le most (limit_of band) ≡ b → Keeps IsLimit (if b then Some (record { band = band; most = most }) else None)
    within most true is = made (leb-true most (limit_of band) is)
    within most false is = missing

limit_set_kept : (value : Data) → Keeps IsMessage (limit_set_of value)
unfolding limit_set_of
limit_set_kept value =
    after _ (name_kept (codes "Gateway") value) (λ gateway g.
    after _ (any (band_named_at (codes "Band") value)) (λ band _.
    after _ (limit_at_kept (codes "Limit") band value) (λ limit l.
    made (g, l))))

message_kept : (head : Head) (value : Data) → KeepsOk IsMessage (message_of head value)
unfolding message_of
message_kept head value =
    either _ (ok_if_found _ (sender_add_kept value))
    (either _ (ok_if_found _ (owner_add_kept value))
    (either _ (ok_if_found _ (gateway_add_kept value))
    (either _ (ok_if_found _ (device_add_kept value))
    (either _ (ok_if_found _ (device_move_kept value))
    (either _ (ok_if_found _ (join_heard_kept value))
    (either _ (ok_if_found _ (frame_heard_kept value))
    (either _ (ok_if_found _ (down_book_kept value))
    (either _ (ok_if_found _ (down_done_kept value))
    (either _ (ok_if_found _ (limit_set_kept value))
    refused)))))))))

-- ---- the envelope

with_message_kept : (head : Head) (message : Result Message WireFault) → InRange head → KeepsOk IsMessage message → KeepsOk IsEnvelope (with_message head message)
with_message_kept head (Ok m) range kept = done (record { sender = range.sender; transaction = range.transaction; message = kept.holds m refl })
with_message_kept head (Err fault) range kept = refused

envelope_kept : (receiver : List ℕ) (value : Data) (found : Option CommonMembers) → Keeps (λ common. InRange common.head) found
    → KeepsOk IsEnvelope (envelope_of receiver found value)
unfolding envelope_addressed
envelope_kept receiver value None range = refused
envelope_kept receiver value (Some common) range =
    either _ (either _ (with_message_kept common.head (message_of common.head value) (range.holds common refl) (message_kept common.head value)) refused) refused

value_kept : (receiver : List ℕ) (found : Option Data) → KeepsOk IsEnvelope (reads_value receiver found)
value_kept receiver None = refused
value_kept receiver (Some value) = envelope_kept receiver value (common_members_of value) (common_members_kept value)

pub reads_in_range : ReadsInRange
reads_in_range receiver text e h = (value_kept receiver (value_of text)).holds e h
