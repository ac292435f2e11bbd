-- The text of a message is read as that message.
use Rattle.std.proofs.Common.{◌≡◌, ℕ, ◌<◌, ◌≤◌, ◌^◌, List, nat_lt, true, Option, Some, None, IfSome, Ok, IsUtf8, codes, refl, ap, ◌∙◌, arith}
use Rattle.std.specs.Str.{bytes_eq}
use Rattle.std.proofs.lemmas.Str.{is_utf8-from_IsUtf8}
use Rattle.std.proofs.lemmas.Bool.{le-leb, lt-ltb}
use Rattle.std.proofs.lemmas.Slice.Eq.{bytes_eq-Decides}
use Rattle.serde_json.specs.Data.{Data, string, number, unsigned, boolean, Members, member}
use Rattle.serde_json.specs.Read.{read, of_json, max_depth}
use Rattle.json.specs.Tree.{depth}
use Rattle.serde_json.specs.Written.{compact_text, outline}
use Rattle.serde_json.proofs.Numbers.{number_of-decimal}
use Rattle.json.proofs.Printed.Utf8.{are_ascii, IsUtf8-are_ascii}
use Rattle.radio_core.specs.declared.bands.Band.{Band}
use Rattle.radio_core.specs.declared.bands.Band.TheVariants.{B1, B2, B3, B4, B5, B6}
use Rattle.radio_core.specs.Bands.{limit_of}
use Rattle.radio_core.specs.DataRates.{dr_number}
use Rattle.registry_core.specs.declared.messages.JoinVerdict.{JoinVerdict}
use Rattle.registry_core.specs.declared.messages.JoinVerdict.TheVariants.{Good, Bad}
use Rattle.registry_core.specs.declared.messages.Report.{Report}
use Rattle.registry_core.specs.declared.messages.Role.{Role}
use Rattle.registry_core.specs.declared.messages.Role.TheVariants.{Operator, Radio}
use Rattle.registry_core.specs.declared.messages.Message.{Message}
use Rattle.registry_core.specs.declared.messages.Message.TheVariants.{SenderAdd, OwnerAdd, GatewayAdd, DeviceAdd, DeviceMove, JoinHeard, FrameHeard, DownBook, DownDone, LimitSet}
use Rattle.registry_core.specs.declared.windows.Window.{Window}
use Rattle.registry_core.specs.declared.windows.Window.TheVariants.{First, Second}
use Rattle.registry_core.specs.Limits.{IsLimit, Limit}
use Rattle.registry_core.specs.Ranges.{IsName, IsReport, IsMessage}
use Rattle.registry_core.specs.JsonIntegers.{json_integer_limit, IsJsonInteger}
use Rattle.desk_wire.specs.Bands.{band_name, band_named}
use Rattle.desk_wire.specs.Bodies.{sender_add_of, owner_add_of, gateway_add_of, device_add_of, device_move_of, join_heard_of, frame_heard_of, down_book_of, down_done_of, limit_set_of}
use Rattle.desk_wire.specs.Hexadecimal.{octet_digits, eui_digits}
use Rattle.desk_wire.specs.Members.{integer_or_null_at, integer_or_null}
use Rattle.desk_wire.specs.Reading.{reads, reads_value, value_of, envelope_of, common_members_of, envelope_addressed, message_of}
use Rattle.desk_wire.specs.Reports.{rate_of, report_of}
use Rattle.desk_wire.specs.Roles.{role_name, role_named}
use Rattle.desk_wire.specs.TypeNames.{type_name_of}
use Rattle.desk_wire.specs.Verdicts.{join_verdict_name, join_verdict_named}
use Rattle.desk_wire.specs.Windows.{window_number, window_numbered}
use Rattle.desk_wire.specs.Writing.{heard_value, message_value, message_text}
use Rattle.desk_wire.specs.Laws.{MessageReadsBack}
use Rattle.desk_wire.specs.declared.reading.CommonMembers.{CommonMembers}
use Rattle.desk_wire.proofs.DataRateNumbers.{data_rate_numbered-dr_number, dr_number-fits}
use Rattle.desk_wire.proofs.HexTexts.{IsUtf8-octet_digits, octets_in-octet_digits, IsUtf8-eui_digits, eui_in-eui_digits}
use Rattle.desk_wire.proofs.NameTexts.{IsUtf8-name}
use Rattle.desk_wire.proofs.PlainValues.{IsPlain, HasPlain, nothing_plain, plain_member, text_member, number_member, IsUtf8-compact_text, read-compact_text}

-- ---- the value is plain

IsUtf8-role_name : (role : Role) → IsUtf8 (role_name role)
IsUtf8-role_name Operator = IsUtf8-are_ascii _ refl
IsUtf8-role_name Radio = IsUtf8-are_ascii _ refl

IsUtf8-join_verdict_name : (verdict : JoinVerdict) → IsUtf8 (join_verdict_name verdict)
IsUtf8-join_verdict_name Good = IsUtf8-are_ascii _ refl
IsUtf8-join_verdict_name Bad = IsUtf8-are_ascii _ refl

IsUtf8-band_name : (band : Band) → IsUtf8 (band_name band)
IsUtf8-band_name B1 = IsUtf8-are_ascii _ refl
IsUtf8-band_name B2 = IsUtf8-are_ascii _ refl
IsUtf8-band_name B3 = IsUtf8-are_ascii _ refl
IsUtf8-band_name B4 = IsUtf8-are_ascii _ refl
IsUtf8-band_name B5 = IsUtf8-are_ascii _ refl
IsUtf8-band_name B6 = IsUtf8-are_ascii _ refl

json_integer_fits : (n : ℕ) → IsJsonInteger n → n < 2 ^ 64
json_integer_fits n h = omega (arith, h)

-- each number of a report fits 64 bits
record FitsWords (report : Report) : Type 0 where
  time : report.time < 2 ^ 64
  freq : report.rate.freq < 2 ^ 64
  dr : dr_number report.rate.dr < 2 ^ 64

fits_words : (report : Report) → IsReport report → FitsWords report
fits_words report h = record { time = json_integer_fits report.time h.time; freq = omega (arith, h.freq); dr = omega (arith, dr_number-fits report.rate.dr) }

integer_or_null-plain : (number : Option ℕ) → IfSome number (λ n. n < 2 ^ 32) → IsPlain (integer_or_null number)
integer_or_null-plain (Some n) fits = omega (arith, fits)
integer_or_null-plain None fits = tt

window_fits : (window : Window) → window_number window < 2 ^ 64
window_fits First = omega arith
window_fits Second = omega arith

-- no limit is above the greatest of the bands' own
most_fits : (limit : Limit) → IsLimit limit → limit.most < 2 ^ 64
most_fits limit h = omega (arith, h, bounded limit.band)
  where
    bounded : (band : Band) → limit_of band ≤ 360000000
    bounded B1 = omega arith
    bounded B2 = omega arith
    bounded B3 = omega arith
    bounded B4 = omega arith
    bounded B5 = omega arith
    bounded B6 = omega arith

module _ (receiver sender : List ℕ) (n : ℕ) (r : IsName receiver) (s : IsName sender) (fits : n < 2 ^ 64) where
  typed : (name : List ℕ) {ms : Members} → are_ascii name ≡ true → HasPlain ms → HasPlain (member (codes "MessageType") (string name) ms)
  typed name a h = text_member (codes "MessageType") name refl (IsUtf8-are_ascii name a) h

  addressed : {ms : Members} → HasPlain ms → HasPlain (member (codes "ProtocolVersion") (string (codes "1.0")) (member (codes "ReceiverID") (string receiver) ms))
  addressed h = text_member (codes "ProtocolVersion") (codes "1.0") refl (IsUtf8-are_ascii _ refl) (text_member (codes "ReceiverID") receiver refl (IsUtf8-name receiver r) h)

  sent : {ms : Members} → HasPlain ms → HasPlain (member (codes "SenderID") (string sender) ms)
  sent h = text_member (codes "SenderID") sender refl (IsUtf8-name sender s) h

  numbered : {ms : Members} → HasPlain ms → HasPlain (member (codes "TransactionID") (number (unsigned n)) ms)
  numbered h = number_member (codes "TransactionID") n refl fits h

  heard-plain : (name : List ℕ) (report : Report) (verdict : Data) → are_ascii name ≡ true → IsReport report → IsPlain verdict
      → IsPlain (heard_value receiver sender n name report verdict)
  heard-plain name report verdict a h p =
      let w : FitsWords report = fits_words report h in
      (number_member (codes "DataRate") (dr_number report.rate.dr) refl w.dr
      (number_member (codes "Freq") report.rate.freq refl w.freq
      (text_member (codes "Gateway") report.gateway refl (IsUtf8-name report.gateway h.gateway)
      (typed name a
      (text_member (codes "PHYPayload") (octet_digits report.octets) refl (IsUtf8-octet_digits report.octets)
      (addressed
      (sent
      (number_member (codes "Time") report.time refl w.time
      (numbered
      (plain_member (codes "Verdict") verdict refl p nothing_plain)))))))))).members

  pub plain : (m : Message) → IsMessage m → IsPlain (message_value receiver sender n m)
  plain (SenderAdd added role) h =
      (typed (codes "SenderAdd") refl (addressed
      (text_member (codes "Role") (role_name role) refl (IsUtf8-role_name role)
      (text_member (codes "Sender") added refl (IsUtf8-name added h)
      (sent (numbered nothing_plain)))))).members
  plain (OwnerAdd owner) h =
      (typed (codes "OwnerAdd") refl
      (text_member (codes "Owner") owner refl (IsUtf8-name owner h)
      (addressed (sent (numbered nothing_plain))))).members
  plain (GatewayAdd gateway) h =
      (text_member (codes "Gateway") gateway refl (IsUtf8-name gateway h)
      (typed (codes "GatewayAdd") refl (addressed (sent (numbered nothing_plain))))).members
  plain (DeviceAdd dev_eui join_eui owner) h =
      (text_member (codes "DevEUI") (eui_digits dev_eui) refl (IsUtf8-eui_digits dev_eui)
      (text_member (codes "JoinEUI") (eui_digits join_eui) refl (IsUtf8-eui_digits join_eui)
      (typed (codes "DeviceAdd") refl
      (text_member (codes "Owner") owner refl (IsUtf8-name owner h.2)
      (addressed (sent (numbered nothing_plain))))))).members
  plain (DeviceMove dev_eui owner) h =
      (text_member (codes "DevEUI") (eui_digits dev_eui) refl (IsUtf8-eui_digits dev_eui)
      (typed (codes "DeviceMove") refl
      (text_member (codes "Owner") owner refl (IsUtf8-name owner h.1)
      (addressed (sent (numbered nothing_plain)))))).members
  plain (JoinHeard report verdict) h =
      heard-plain (codes "JoinHeard") report (string (join_verdict_name verdict)) refl h (IsUtf8-join_verdict_name verdict)
  plain (FrameHeard report verdict) h =
      heard-plain (codes "FrameHeard") report (integer_or_null verdict) refl h.0 (integer_or_null-plain verdict h.1)
  plain (DownBook uplink gateway window octets) h =
      (text_member (codes "Gateway") gateway refl (IsUtf8-name gateway h.1)
      (typed (codes "DownBook") refl
      (text_member (codes "PHYPayload") (octet_digits octets) refl (IsUtf8-octet_digits octets)
      (addressed (sent (numbered
      (number_member (codes "Uplink") uplink refl (json_integer_fits uplink h.0)
      (number_member (codes "Window") (window_number window) refl (window_fits window) nothing_plain)))))))).members
  plain (DownDone booking was_sent) h =
      (number_member (codes "Booking") booking refl (json_integer_fits booking h)
      (typed (codes "DownDone") refl (addressed (sent
      (plain_member (codes "Sent") (boolean was_sent) refl tt
      (numbered nothing_plain)))))).members
  plain (LimitSet gateway limit) h =
      (text_member (codes "Band") (band_name limit.band) refl (IsUtf8-band_name limit.band)
      (text_member (codes "Gateway") gateway refl (IsUtf8-name gateway h.0)
      (number_member (codes "Limit") limit.most refl (most_fits limit h.1)
      (typed (codes "LimitSet") refl (addressed (sent (numbered nothing_plain))))))).members

-- ---- the text is read as the value

of_json-integer_or_null : (number : Option ℕ) → IfSome number (λ n. n < 2 ^ 32)
    → let d : Data = integer_or_null number in of_json (outline d) ≡ Some d
of_json-integer_or_null (Some n) fits =
    let small : n < 2 ^ 64 = omega (arith, fits) in
    rw (number_of-decimal n small) refl
of_json-integer_or_null None fits = refl

of_json-heard_value : (receiver sender : List ℕ) (n : ℕ) (type_name : List ℕ) (report : Report) (verdict : Data)
    → n < 2 ^ 64 → IsReport report → of_json (outline verdict) ≡ Some verdict
    → let d : Data = heard_value receiver sender n type_name report verdict in of_json (outline d) ≡ Some d
of_json-heard_value receiver sender n type_name report verdict fits h same =
    let r : FitsWords report = fits_words report h in
    rw (number_of-decimal n fits, number_of-decimal report.time r.time, number_of-decimal report.rate.freq r.freq, number_of-decimal (dr_number report.rate.dr) r.dr, same) refl

-- each member once, in order
of_json-outline : (receiver sender : List ℕ) (n : ℕ) (m : Message) → n < 2 ^ 64 → IsMessage m
    → let d : Data = message_value receiver sender n m in of_json (outline d) ≡ Some d
of_json-outline receiver sender n (SenderAdd added role) fits h = rw (number_of-decimal n fits) refl
of_json-outline receiver sender n (OwnerAdd owner) fits h = rw (number_of-decimal n fits) refl
of_json-outline receiver sender n (GatewayAdd gateway) fits h = rw (number_of-decimal n fits) refl
of_json-outline receiver sender n (DeviceAdd dev_eui join_eui owner) fits h = rw (number_of-decimal n fits) refl
of_json-outline receiver sender n (DeviceMove dev_eui owner) fits h = rw (number_of-decimal n fits) refl
of_json-outline receiver sender n (JoinHeard report verdict) fits h =
    of_json-heard_value receiver sender n (codes "JoinHeard") report (string (join_verdict_name verdict)) fits h refl
of_json-outline receiver sender n (FrameHeard report verdict) fits h =
    of_json-heard_value receiver sender n (codes "FrameHeard") report (integer_or_null verdict) fits h.0 (of_json-integer_or_null verdict h.1)
of_json-outline receiver sender n (DownBook uplink gateway window octets) fits h =
    rw (number_of-decimal n fits, number_of-decimal uplink (json_integer_fits uplink h.0), number_of-decimal (window_number window) (window_fits window)) refl
of_json-outline receiver sender n (DownDone booking sent) fits h =
    rw (number_of-decimal n fits, number_of-decimal booking (json_integer_fits booking h)) refl
of_json-outline receiver sender n (LimitSet gateway limit) fits h =
    rw (number_of-decimal n fits, number_of-decimal limit.most (most_fits limit h.1)) refl

depth-outline : (receiver sender : List ℕ) (n : ℕ) (m : Message) → depth (outline (message_value receiver sender n m)) ≤ max_depth
depth-outline receiver sender n (SenderAdd added role) = omega arith
depth-outline receiver sender n (OwnerAdd owner) = omega arith
depth-outline receiver sender n (GatewayAdd gateway) = omega arith
depth-outline receiver sender n (DeviceAdd dev_eui join_eui owner) = omega arith
depth-outline receiver sender n (DeviceMove dev_eui owner) = omega arith
depth-outline receiver sender n (JoinHeard report verdict) = omega arith
depth-outline receiver sender n (FrameHeard report (Some counter)) = omega arith
depth-outline receiver sender n (FrameHeard report None) = omega arith
depth-outline receiver sender n (DownBook uplink gateway window octets) = omega arith
depth-outline receiver sender n (DownDone booking sent) = omega arith
depth-outline receiver sender n (LimitSet gateway limit) = omega arith

value_of-text : (d : Data) → IsPlain d → read (compact_text d) ≡ Some d → value_of (compact_text d) ≡ Some d
value_of-text d plain same = rw (is_utf8-from_IsUtf8 _ (IsUtf8-compact_text d plain)) same

value_of-message : (receiver sender : List ℕ) (n : ℕ) (m : Message) → IsName receiver → IsName sender → n < 2 ^ 64 → IsMessage m
    → let d : Data = message_value receiver sender n m in value_of (compact_text d) ≡ Some d
value_of-message receiver sender n m r s fits h =
    let d : Data = message_value receiver sender n m in
    let p : IsPlain d = plain receiver sender n r s fits m h in
    value_of-text d p (read-compact_text d p (depth-outline receiver sender n m) (of_json-outline receiver sender n m fits h))

-- ---- the members are found

common : List ℕ → List ℕ → ℕ → Message → CommonMembers
common receiver sender n m = record { is_current = true; receiver = receiver; head = record { sender = sender; transaction = n; type_name = type_name_of m } }

common_members_of-message : (receiver sender : List ℕ) (n : ℕ) (m : Message) → IsName receiver → IsName sender → n < 2 ^ 32
    → common_members_of (message_value receiver sender n m) ≡ Some (common receiver sender n m)
unfolding common_members_of common
common_members_of-message receiver sender n (SenderAdd added role) r s fits = rw (s, r, lt-ltb n (2 ^ 32) fits) refl
common_members_of-message receiver sender n (OwnerAdd owner) r s fits = rw (s, r, lt-ltb n (2 ^ 32) fits) refl
common_members_of-message receiver sender n (GatewayAdd gateway) r s fits = rw (s, r, lt-ltb n (2 ^ 32) fits) refl
common_members_of-message receiver sender n (DeviceAdd dev_eui join_eui owner) r s fits = rw (s, r, lt-ltb n (2 ^ 32) fits) refl
common_members_of-message receiver sender n (DeviceMove dev_eui owner) r s fits = rw (s, r, lt-ltb n (2 ^ 32) fits) refl
common_members_of-message receiver sender n (JoinHeard report verdict) r s fits = rw (s, r, lt-ltb n (2 ^ 32) fits) refl
common_members_of-message receiver sender n (FrameHeard report verdict) r s fits = rw (s, r, lt-ltb n (2 ^ 32) fits) refl
common_members_of-message receiver sender n (DownBook uplink gateway window octets) r s fits = rw (s, r, lt-ltb n (2 ^ 32) fits) refl
common_members_of-message receiver sender n (DownDone booking sent) r s fits = rw (s, r, lt-ltb n (2 ^ 32) fits) refl
common_members_of-message receiver sender n (LimitSet gateway limit) r s fits = rw (s, r, lt-ltb n (2 ^ 32) fits) refl

role_named-role_name : (role : Role) → role_named (role_name role) ≡ Some role
role_named-role_name Operator = refl
role_named-role_name Radio = refl

join_verdict_named-join_verdict_name : (verdict : JoinVerdict) → join_verdict_named (join_verdict_name verdict) ≡ Some verdict
join_verdict_named-join_verdict_name Good = refl
join_verdict_named-join_verdict_name Bad = refl

window_numbered-window_number : (window : Window) → window_numbered (window_number window) ≡ Some window
window_numbered-window_number First = refl
window_numbered-window_number Second = refl

band_named-band_name : (band : Band) → band_named (band_name band) ≡ Some band
band_named-band_name B1 = refl
band_named-band_name B2 = refl
band_named-band_name B3 = refl
band_named-band_name B4 = refl
band_named-band_name B5 = refl
band_named-band_name B6 = refl

json_integer_below : (n : ℕ) → IsJsonInteger n → nat_lt n json_integer_limit ≡ true
json_integer_below n h = lt-ltb n json_integer_limit (omega (arith, h))

integer_or_null_at-verdict : (receiver sender : List ℕ) (n : ℕ) (report : Report) (verdict : Option ℕ) → IfSome verdict (λ counter. counter < 2 ^ 32)
    → integer_or_null_at (codes "Verdict") (2 ^ 32) (message_value receiver sender n (FrameHeard report verdict)) ≡ Some verdict
integer_or_null_at-verdict receiver sender n report (Some counter) fits = rw (lt-ltb counter (2 ^ 32) fits) refl
integer_or_null_at-verdict receiver sender n report None fits = refl

report_of-heard_value : (receiver sender : List ℕ) (n : ℕ) (type_name : List ℕ) (report : Report) (verdict : Data) → IsReport report
    → report_of (heard_value receiver sender n type_name report verdict) ≡ Some report
unfolding report_of rate_of
report_of-heard_value receiver sender n type_name report verdict h =
    rw (
      h.gateway,
      json_integer_below report.time h.time,
      lt-ltb report.rate.freq (2 ^ 32) h.freq,
      data_rate_numbered-dr_number report.rate.dr,
      octets_in-octet_digits report.octets h.octets.each h.octets.few,
    ) refl

message_of-message : (receiver sender : List ℕ) (n : ℕ) (m : Message) → IsMessage m
    → message_of (common receiver sender n m).head (message_value receiver sender n m) ≡ Ok m
unfolding common message_of sender_add_of owner_add_of gateway_add_of device_add_of device_move_of join_heard_of frame_heard_of down_book_of down_done_of limit_set_of
message_of-message receiver sender n (SenderAdd added role) a = rw (a, role_named-role_name role) refl
message_of-message receiver sender n (OwnerAdd owner) o = rw o refl
message_of-message receiver sender n (GatewayAdd gateway) g = rw g refl
message_of-message receiver sender n (DeviceAdd dev_eui join_eui owner) m = rw (eui_in-eui_digits dev_eui m.0, eui_in-eui_digits join_eui m.1, m.2) refl
message_of-message receiver sender n (DeviceMove dev_eui owner) m = rw (eui_in-eui_digits dev_eui m.0, m.1) refl
message_of-message receiver sender n (JoinHeard report verdict) m =
    let verdict_value : Data = string (join_verdict_name verdict) in
    rw (report_of-heard_value receiver sender n (codes "JoinHeard") report verdict_value m, join_verdict_named-join_verdict_name verdict) refl
message_of-message receiver sender n (FrameHeard report verdict) m =
    rw (
      report_of-heard_value receiver sender n (codes "FrameHeard") report (integer_or_null verdict) m.0,
      integer_or_null_at-verdict receiver sender n report verdict m.1,
    ) refl
message_of-message receiver sender n (DownBook uplink gateway window octets) m =
    rw (
      json_integer_below uplink m.0,
      m.1,
      window_numbered-window_number window,
      octets_in-octet_digits octets m.2.each m.2.few,
    ) refl
message_of-message receiver sender n (DownDone booking sent) b = rw (json_integer_below booking b) refl
message_of-message receiver sender n (LimitSet gateway limit) m = rw (m.0, band_named-band_name limit.band, le-leb limit.most (limit_of limit.band) m.1) refl

-- ---- the whole

same_bytes : (text : List ℕ) → bytes_eq text text ≡ true
same_bytes text = (bytes_eq-Decides text text).1 refl

envelope_of-message : (receiver sender : List ℕ) (n : ℕ) (m : Message) → IsMessage m
    → envelope_of receiver (Some (common receiver sender n m)) (message_value receiver sender n m) ≡ Ok (record { sender = sender; transaction = n; message = m })
unfolding envelope_addressed common
envelope_of-message receiver sender n m h = rw (same_bytes receiver, message_of-message receiver sender n m h) refl

reads_back : (receiver sender : List ℕ) (n : ℕ) (m : Message) → IsName receiver → IsName sender → n < 2 ^ 32 → IsMessage m
    → reads receiver (message_text receiver (record { sender = sender; transaction = n; message = m })) ≡ Ok (record { sender = sender; transaction = n; message = m })
unfolding message_text
reads_back receiver sender n m r s fits h =
    let d : Data = message_value receiver sender n m in
    ap (reads_value receiver) (value_of-message receiver sender n m r s (omega arith) h)
    ∙ ap (λ found. envelope_of receiver found d) (common_members_of-message receiver sender n m r s fits)
    ∙ envelope_of-message receiver sender n m h

pub message_reads_back : MessageReadsBack
message_reads_back receiver e r h = reads_back receiver e.sender e.transaction e.message r h.sender h.transaction h.message
