-- No envelope's text is longer than 65,536 octets.
use Rattle.std.proofs.Common.{◌≡◌, ℕ, ◌+◌, ◌*◌, ◌^◌, ◌<◌, ◌≤◌, Bool, true, false, List, [], ◌∷◌, ◌++◌, length, arith, Option, Some, None, codes, IsTrue}
use Rattle.std.specs.Prelude.{nat_le, ◌&&◌, IfSome}
use Rattle.std.specs.Int.{to_be_bytes, w64}
use Rattle.std.proofs.lemmas.Bool.Decides.{nat_tests}
use Rattle.std.proofs.lemmas.Fmt.{length-decimal-le}
use Rattle.hex.specs.Hex.{encode_lower, lower_digits}
use Rattle.hex.proofs.HexLemmas.{length-encode_with}
use Rattle.serde_json.specs.Data.{Data, string, number, unsigned, boolean, null, object, array, negative, float, Members}
use Rattle.serde_json.specs.Written.{compact_text}
use Rattle.radio_core.specs.declared.bands.Band.{Band}
use Rattle.radio_core.specs.declared.bands.Band.TheVariants.{B1, B2, B3, B4, B5, B6}
use Rattle.radio_core.specs.declared.data_rates.DataRate.{DataRate}
use Rattle.radio_core.specs.declared.data_rates.DataRate.TheVariants.{Dr0, Dr1, Dr2, Dr3, Dr4, Dr5, Dr6, Dr7}
use Rattle.radio_core.specs.Bands.{limit_of}
use Rattle.radio_core.specs.DataRates.{dr_number}
use Rattle.registry_core.specs.declared.messages.Envelope.{Envelope}
use Rattle.registry_core.specs.declared.messages.JoinVerdict.{JoinVerdict}
use Rattle.registry_core.specs.declared.messages.JoinVerdict.TheVariants.{Good, Bad}
use Rattle.registry_core.specs.declared.messages.Message.{Message}
use Rattle.registry_core.specs.declared.messages.Message.TheVariants.{SenderAdd, OwnerAdd, GatewayAdd, DeviceAdd, DeviceMove, JoinHeard, FrameHeard, DownBook, DownDone, LimitSet}
use Rattle.registry_core.specs.declared.messages.Role.{Role}
use Rattle.registry_core.specs.declared.messages.Role.TheVariants.{Operator, Radio}
use Rattle.registry_core.specs.Ranges.{IsName, IsEnvelope, IsMessage, IsOctets}
use Rattle.registry_core.specs.Ranges.{IsReport}
use Rattle.registry_core.specs.declared.messages.Report.{Report}
use Rattle.registry_core.specs.declared.windows.Window.{Window}
use Rattle.registry_core.specs.declared.windows.Window.TheVariants.{First, Second}
use Rattle.desk_wire.specs.Bands.{band_name}
use Rattle.desk_wire.specs.Laws.{MessagesFit}
use Rattle.desk_wire.specs.Windows.{window_number}
use Rattle.desk_wire.specs.Writing.{heard_value, message_text, message_value}
use Rattle.desk_wire.specs.Hexadecimal.{octet_digits, eui_digits}
use Rattle.desk_wire.specs.Members.{integer_or_null}
use Rattle.desk_wire.specs.Roles.{role_name}
use Rattle.desk_wire.specs.Verdicts.{join_verdict_name}
use Rattle.desk_wire.proofs.Sizes.{AreSmall, count_of, quoted_size, small_members}

abbrev IsSmall : Data → Type 0
IsSmall d = length (compact_text d) ≤ 3100

small_text : (s : List ℕ) → length s ≤ 510 → IsSmall (string s)
small_text s h = omega (arith, h, quoted_size s)

small_name : (s : List ℕ) → IsName s → IsSmall (string s)
small_name s is = small_text s (let h : length s ≤ 32 = grind (arith, nat_tests) in omega (arith, h))

small_number : (n : ℕ) → n < 2 ^ 64 → IsSmall (number (unsigned n))
small_number n h = let l = length-decimal-le 20 n (omega arith) (omega (arith, h)) h in omega (arith, l)

small_octets : (o : List ℕ) → IsOctets o → IsSmall (string (octet_digits o))
unfolding octet_digits
small_octets o is = let l = length-encode_with lower_digits o in small_text _ (omega (arith, l, is.few))

role_short : (r : Role) → length (role_name r) ≤ 510
role_short Operator = omega arith
role_short Radio = omega arith

verdict_short : (v : JoinVerdict) → length (join_verdict_name v) ≤ 510
verdict_short Good = omega arith
verdict_short Bad = omega arith

band_short : (b : Band) → length (band_name b) ≤ 510
band_short B1 = omega arith
band_short B2 = omega arith
band_short B3 = omega arith
band_short B4 = omega arith
band_short B5 = omega arith
band_short B6 = omega arith

dr_low : (d : DataRate) → dr_number d < 2 ^ 64
dr_low Dr0 = omega arith
dr_low Dr1 = omega arith
dr_low Dr2 = omega arith
dr_low Dr3 = omega arith
dr_low Dr4 = omega arith
dr_low Dr5 = omega arith
dr_low Dr6 = omega arith
dr_low Dr7 = omega arith

window_low : (w : Window) → window_number w < 2 ^ 64
window_low First = omega arith
window_low Second = omega arith

limit_low : (b : Band) → limit_of b < 2 ^ 64
limit_low B1 = omega arith
limit_low B2 = omega arith
limit_low B3 = omega arith
limit_low B4 = omega arith
limit_low B5 = omega arith
limit_low B6 = omega arith

small_eui : (n : ℕ) → IsSmall (string (eui_digits n))
unfolding eui_digits octet_digits
small_eui n = let l = length-encode_with lower_digits (to_be_bytes w64 n) in let h : length (to_be_bytes w64 n) ≤ 8 = omega arith in small_text (encode_lower (to_be_bytes w64 n)) (omega (arith, l, h))

small_boolean : (b : Bool) → IsSmall (boolean b)
small_boolean true = omega arith
small_boolean false = omega arith

small_verdict : (v : Option ℕ) → IfSome v (λ n. n < 2 ^ 32) → IsSmall (integer_or_null v)
small_verdict None h = omega arith
small_verdict (Some n) h = small_number n (omega (arith, h))

-- ---- a whole message

abbrev Fits : Data → Type 0
Fits (object ms) = AreSmall ms × (count_of ms ≤ 11)
Fits _ = ⊥

fits_text : (d : Data) → Fits d → length (compact_text d) ≤ 65536
fits_text (object ms) h = omega (arith, small_members false ms h.0, h.1)
fits_text null h = absurd h
fits_text (boolean b) h = absurd h
fits_text (number n) h = absurd h
fits_text (string s) h = absurd h
fits_text (array ds) h = absurd h

-- the name of a member
abbrev IsKey : List ℕ → Type 0
IsKey k = length k ≤ 20

module _ (r s : List ℕ) (t : ℕ) (a : IsName r) (b : IsName s) (low : t < 2 ^ 32) where
  version : IsSmall (string (codes "1.0"))
  version = small_text (codes "1.0") (omega arith)

  number_is : IsSmall (number (unsigned t))
  number_is = small_number t (omega (arith, low))

  heard : (name : List ℕ) → length name ≤ 510 → (report : Report) → IsReport report → (verdict : Data) → IsSmall verdict → Fits (heard_value r s t name report verdict)
  heard name short report is verdict small = (
    (omega arith, small_number _ (dr_low report.rate.dr), (omega arith, small_number report.rate.freq (omega (arith, is.freq)), (omega arith, small_name report.gateway is.gateway, (omega arith, small_text name short, (omega arith, small_octets report.octets is.octets, (omega arith, version, (omega arith, small_name r a, (omega arith, small_name s b, (omega arith, small_number report.time (omega (arith, is.time)), (omega arith, number_is, (omega arith, small, tt))))))))))),
    omega arith,
  )

  message_fits : (m : Message) → IsMessage m → Fits (message_value r s t m)
  message_fits (SenderAdd added role) is = ((omega arith, small_text (codes "SenderAdd") (omega arith), (omega arith, version, (omega arith, small_name r a, (omega arith, small_text (role_name role) (role_short role), (omega arith, small_name added is, (omega arith, small_name s b, (omega arith, number_is, tt))))))), omega arith)
  message_fits (OwnerAdd owner) is = ((omega arith, small_text (codes "OwnerAdd") (omega arith), (omega arith, small_name owner is, (omega arith, version, (omega arith, small_name r a, (omega arith, small_name s b, (omega arith, number_is, tt)))))), omega arith)
  message_fits (GatewayAdd gateway) is = ((omega arith, small_name gateway is, (omega arith, small_text (codes "GatewayAdd") (omega arith), (omega arith, version, (omega arith, small_name r a, (omega arith, small_name s b, (omega arith, number_is, tt)))))), omega arith)
  message_fits (DeviceAdd dev_eui join_eui owner) is = ((omega arith, small_eui dev_eui, (omega arith, small_eui join_eui, (omega arith, small_text (codes "DeviceAdd") (omega arith), (omega arith, small_name owner is.2, (omega arith, version, (omega arith, small_name r a, (omega arith, small_name s b, (omega arith, number_is, tt)))))))), omega arith)
  message_fits (DeviceMove dev_eui owner) is = ((omega arith, small_eui dev_eui, (omega arith, small_text (codes "DeviceMove") (omega arith), (omega arith, small_name owner is.1, (omega arith, version, (omega arith, small_name r a, (omega arith, small_name s b, (omega arith, number_is, tt))))))), omega arith)
  message_fits (JoinHeard report verdict) is = heard (codes "JoinHeard") (omega arith) report is (string (join_verdict_name verdict)) (small_text (join_verdict_name verdict) (verdict_short verdict))
  message_fits (FrameHeard report verdict) is = heard (codes "FrameHeard") (omega arith) report is.0 (integer_or_null verdict) (small_verdict verdict is.1)
  message_fits (DownBook uplink gateway window octets) is = ((omega arith, small_name gateway is.1, (omega arith, small_text (codes "DownBook") (omega arith), (omega arith, small_octets octets is.2, (omega arith, version, (omega arith, small_name r a, (omega arith, small_name s b, (omega arith, number_is, (omega arith, small_number uplink (omega (arith, is.0)), (omega arith, small_number (window_number window) (window_low window), tt))))))))), omega arith)
  message_fits (DownDone booking sent) is = ((omega arith, small_number booking (omega (arith, is)), (omega arith, small_text (codes "DownDone") (omega arith), (omega arith, version, (omega arith, small_name r a, (omega arith, small_name s b, (omega arith, small_boolean sent, (omega arith, number_is, tt))))))), omega arith)
  message_fits (LimitSet gateway limit) is = ((omega arith, small_text (band_name limit.band) (band_short limit.band), (omega arith, small_name gateway is.0, (omega arith, small_number limit.most (omega (arith, is.1, limit_low limit.band)), (omega arith, small_text (codes "LimitSet") (omega arith), (omega arith, version, (omega arith, small_name r a, (omega arith, small_name s b, (omega arith, number_is, tt)))))))), omega arith)

pub messages_fit : MessagesFit
unfolding message_text
messages_fit receiver e name is = fits_text (message_value receiver e.sender e.transaction e.message) (message_fits receiver e.sender e.transaction name is.sender is.transaction e.message is.message)
