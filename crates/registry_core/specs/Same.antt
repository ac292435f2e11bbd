-- Whether two messages are equal, after reading.
use Rattle.std.specs.Prelude.{◌≡◌, ◌↔◌, ℕ, ◌==◌, Option, Some, None, Bool, true, false, not, ◌&&◌, bytes_eq, IsTrue}
use Rattle.radio_core.specs.Bands.{band_number}
use Rattle.radio_core.specs.DataRates.{dr_number}
use Rattle.registry_core.specs.declared.messages.JoinVerdict.{JoinVerdict}
use Rattle.registry_core.specs.declared.messages.JoinVerdict.TheVariants.{Good, Bad}
use Rattle.registry_core.specs.declared.messages.Message.{Message}
use Rattle.registry_core.specs.declared.messages.Message.TheVariants.{SenderAdd, OwnerAdd, GatewayAdd, DeviceAdd, DeviceMove, JoinHeard, FrameHeard, DownBook, DownDone, LimitSet}
use Rattle.registry_core.specs.declared.messages.Report.{Report}
use Rattle.registry_core.specs.declared.messages.Role.{Role}
use Rattle.registry_core.specs.declared.messages.Role.TheVariants.{Operator, Radio}
use Rattle.registry_core.specs.declared.windows.Window.{Window}
use Rattle.registry_core.specs.declared.windows.Window.TheVariants.{First, Second}
use Rattle.registry_core.specs.Limits.{Limit}

abbrev pub same_role : Role → Role → Bool
same_role Operator Operator = true
same_role Radio Radio = true
same_role _ _ = false

abbrev pub same_verdict : JoinVerdict → JoinVerdict → Bool
same_verdict Good Good = true
same_verdict Bad Bad = true
same_verdict _ _ = false

abbrev pub same_counter : Option ℕ → Option ℕ → Bool
same_counter None None = true
same_counter (Some n) (Some m) = n == m
same_counter _ _ = false

abbrev pub same_window : Window → Window → Bool
same_window First First = true
same_window Second Second = true
same_window _ _ = false

abbrev pub same_sent : Bool → Bool → Bool
same_sent true b = b
same_sent false b = not b

abbrev pub same_report : Report → Report → Bool
same_report a b = bytes_eq a.gateway b.gateway && a.time == b.time && a.rate.freq == b.rate.freq
    && dr_number a.rate.dr == dr_number b.rate.dr && bytes_eq a.octets b.octets

abbrev pub same_limit : Limit → Limit → Bool
same_limit a b = band_number a.band == band_number b.band && a.most == b.most

unfoldable pub same_message : Message → Message → Bool
same_message (SenderAdd a r) (SenderAdd b q) = bytes_eq a b && same_role r q
same_message (OwnerAdd a) (OwnerAdd b) = bytes_eq a b
same_message (GatewayAdd a) (GatewayAdd b) = bytes_eq a b
same_message (DeviceAdd d j a) (DeviceAdd e k b) = d == e && j == k && bytes_eq a b
same_message (DeviceMove d a) (DeviceMove e b) = d == e && bytes_eq a b
same_message (JoinHeard a v) (JoinHeard b w) = same_report a b && same_verdict v w
same_message (FrameHeard a v) (FrameHeard b w) = same_report a b && same_counter v w
same_message (DownBook n a v o) (DownBook m b w p) = n == m && bytes_eq a b && same_window v w && bytes_eq o p
same_message (DownDone n a) (DownDone m b) = n == m && same_sent a b
same_message (LimitSet a l) (LimitSet b m) = bytes_eq a b && same_limit l m
same_message _ _ = false

-- the comparison is true if and only if the messages are equal
abbrev pub SameMessageTells : Type 0
SameMessageTells = (a b : Message) → IsTrue (same_message a b) ↔ (a ≡ b)
