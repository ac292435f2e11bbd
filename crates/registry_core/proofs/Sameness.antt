-- Equal messages are those that the test finds the same.
use Rattle.std.proofs.Common.{◌≡◌, ℕ, List, Option, Some, None, Bool, true, false, refl, sym, ◌∙◌, ap, subst}
use Rattle.std.specs.Prelude.{◌&&◌, ◌==◌, bytes_eq, if◌then◌else◌}
use Rattle.std.proofs.lemmas.Bool.{and_parts, eq-eqb, eqb-true}
use Rattle.std.proofs.lemmas.Slice.Eq.{bytes_eq-Decides}
use Rattle.radio_core.specs.declared.data_rates.DataRate.{DataRate}
use Rattle.radio_core.specs.declared.data_rates.DataRate.TheVariants.{Dr0, Dr1, Dr2, Dr3, Dr4, Dr5, Dr6, Dr7}
use Rattle.radio_core.specs.Bands.{band_number}
use Rattle.radio_core.specs.DataRates.{dr_number}
use Rattle.registry_core.specs.declared.messages.JoinVerdict.{JoinVerdict}
use Rattle.registry_core.specs.declared.messages.JoinVerdict.TheVariants.{Good, Bad}
use Rattle.registry_core.specs.declared.messages.Message.{Message}
use Rattle.registry_core.specs.declared.messages.Message.TheVariants.{SenderAdd, OwnerAdd, GatewayAdd, DeviceAdd, DeviceMove, JoinHeard, FrameHeard, DownBook, DownDone, LimitSet}
use Rattle.registry_core.specs.declared.messages.Report.{Report}
use Rattle.registry_core.specs.declared.messages.Role.{Role}
use Rattle.registry_core.specs.declared.messages.Role.TheVariants.{Operator, Radio}
use Rattle.registry_core.specs.declared.windows.Window.{Window}
use Rattle.registry_core.specs.declared.windows.Window.TheVariants.{First, Second}
use Rattle.registry_core.specs.Limits.{Limit}
use Rattle.registry_core.specs.Same.{same_role, same_verdict, same_counter, same_window, same_sent, same_report, same_limit, same_message, SameMessageTells}
use Rattle.registry_core.proofs.BandNumbers.{same_band}

equal_bytes : (a b : List ℕ) → bytes_eq a b ≡ true → a ≡ b
equal_bytes a b h = (bytes_eq-Decides a b).0 h

bytes_self : (a : List ℕ) → bytes_eq a a ≡ true
bytes_self a = (bytes_eq-Decides a a).1 refl

number_self : (n : ℕ) → (n == n) ≡ true
number_self n = eq-eqb n n refl

equal_roles : (a b : Role) → same_role a b ≡ true → a ≡ b
equal_roles Operator Operator h = refl
equal_roles Radio Radio h = refl
equal_roles Operator Radio h = cc
equal_roles Radio Operator h = cc

role_self : (a : Role) → same_role a a ≡ true
role_self Operator = refl
role_self Radio = refl

equal_verdicts : (a b : JoinVerdict) → same_verdict a b ≡ true → a ≡ b
equal_verdicts Good Good h = refl
equal_verdicts Bad Bad h = refl
equal_verdicts Good Bad h = cc
equal_verdicts Bad Good h = cc

verdict_self : (a : JoinVerdict) → same_verdict a a ≡ true
verdict_self Good = refl
verdict_self Bad = refl

equal_counters : (a b : Option ℕ) → same_counter a b ≡ true → a ≡ b
equal_counters None None h = refl
equal_counters (Some n) (Some m) h = ap Some (eqb-true n m h)
equal_counters None (Some m) h = cc
equal_counters (Some n) None h = cc

counter_self : (a : Option ℕ) → same_counter a a ≡ true
counter_self None = refl
counter_self (Some n) = number_self n

equal_windows : (a b : Window) → same_window a b ≡ true → a ≡ b
equal_windows First First h = refl
equal_windows Second Second h = refl
equal_windows First Second h = cc
equal_windows Second First h = cc

window_self : (a : Window) → same_window a a ≡ true
window_self First = refl
window_self Second = refl

equal_sent : (a b : Bool) → same_sent a b ≡ true → a ≡ b
equal_sent true true h = refl
equal_sent false false h = refl
equal_sent true false h = cc
equal_sent false true h = cc

sent_self : (a : Bool) → same_sent a a ≡ true
sent_self true = refl
sent_self false = refl

-- a data rate with its number given back
rate_with : ℕ → DataRate
rate_with n = if n == 0 then Dr0 else (if n == 1 then Dr1 else (if n == 2 then Dr2 else (if n == 3 then Dr3 else (if n == 4 then Dr4 else (if n == 5 then Dr5 else (if n == 6 then Dr6 else Dr7))))))

rate_back : (a : DataRate) → rate_with (dr_number a) ≡ a
unfolding rate_with
rate_back Dr0 = refl
rate_back Dr1 = refl
rate_back Dr2 = refl
rate_back Dr3 = refl
rate_back Dr4 = refl
rate_back Dr5 = refl
rate_back Dr6 = refl
rate_back Dr7 = refl

equal_rates : (a b : DataRate) → dr_number a ≡ dr_number b → a ≡ b
equal_rates a b h = sym (rate_back a) ∙ ap rate_with h ∙ rate_back b

equal_reports : (a b : Report) → same_report a b ≡ true → a ≡ b
equal_reports a b h =
    let all : ((bytes_eq a.gateway b.gateway && a.time == b.time && a.rate.freq == b.rate.freq && dr_number a.rate.dr == dr_number b.rate.dr) ≡ true) × (bytes_eq a.octets b.octets ≡ true) = and_parts _ _ h in
    let rates : ((bytes_eq a.gateway b.gateway && a.time == b.time && a.rate.freq == b.rate.freq) ≡ true) × ((dr_number a.rate.dr == dr_number b.rate.dr) ≡ true) = and_parts _ _ all.0 in
    let freqs : ((bytes_eq a.gateway b.gateway && a.time == b.time) ≡ true) × ((a.rate.freq == b.rate.freq) ≡ true) = and_parts _ _ rates.0 in
    let times : (bytes_eq a.gateway b.gateway ≡ true) × ((a.time == b.time) ≡ true) = and_parts _ _ freqs.0 in
    report_with a b (equal_bytes _ _ times.0) (eqb-true _ _ times.1) (eqb-true _ _ freqs.1) (equal_rates _ _ (eqb-true _ _ rates.1)) (equal_bytes _ _ all.1)
  where
    report_with : (a b : Report) → a.gateway ≡ b.gateway → a.time ≡ b.time → a.rate.freq ≡ b.rate.freq → a.rate.dr ≡ b.rate.dr → a.octets ≡ b.octets → a ≡ b
    report_with a b g t f d o = λ i. record { gateway = g i; time = t i; rate = record { freq = f i; dr = d i }; octets = o i }

report_self : (a : Report) → same_report a a ≡ true
report_self a = rw (bytes_self a.gateway, number_self a.time, number_self a.rate.freq, number_self (dr_number a.rate.dr)) (bytes_self a.octets)

equal_limits : (a b : Limit) → same_limit a b ≡ true → a ≡ b
equal_limits a b h =
    let both : ((band_number a.band == band_number b.band) ≡ true) × ((a.most == b.most) ≡ true) = and_parts _ _ h in
    let band : a.band ≡ b.band = same_band a.band b.band (eqb-true _ _ both.0) in
    let most : a.most ≡ b.most = eqb-true _ _ both.1 in
    λ i. record { band = band i; most = most i }

limit_self : (a : Limit) → same_limit a a ≡ true
limit_self a = rw (number_self (band_number a.band)) (number_self a.most)

equal_messages : (a b : Message) → same_message a b ≡ true → a ≡ b
unfolding same_message
equal_messages (SenderAdd a r) (SenderAdd b q) h =
    let both : (bytes_eq a b ≡ true) × (same_role r q ≡ true) = and_parts _ _ h in
    rw (equal_bytes a b both.0, equal_roles r q both.1) refl
equal_messages (OwnerAdd a) (OwnerAdd b) h = ap OwnerAdd (equal_bytes a b h)
equal_messages (GatewayAdd a) (GatewayAdd b) h = ap GatewayAdd (equal_bytes a b h)
equal_messages (DeviceAdd d j a) (DeviceAdd e k b) h =
    let both : ((d == e && j == k) ≡ true) × (bytes_eq a b ≡ true) = and_parts _ _ h in
    let euis : ((d == e) ≡ true) × ((j == k) ≡ true) = and_parts _ _ both.0 in
    rw (eqb-true d e euis.0, eqb-true j k euis.1, equal_bytes a b both.1) refl
equal_messages (DeviceMove d a) (DeviceMove e b) h =
    let both : ((d == e) ≡ true) × (bytes_eq a b ≡ true) = and_parts _ _ h in
    rw (eqb-true d e both.0, equal_bytes a b both.1) refl
equal_messages (JoinHeard a v) (JoinHeard b w) h =
    let both : (same_report a b ≡ true) × (same_verdict v w ≡ true) = and_parts _ _ h in
    rw (equal_reports a b both.0, equal_verdicts v w both.1) refl
equal_messages (FrameHeard a v) (FrameHeard b w) h =
    let both : (same_report a b ≡ true) × (same_counter v w ≡ true) = and_parts _ _ h in
    rw (equal_reports a b both.0, equal_counters v w both.1) refl
equal_messages (DownBook n a v o) (DownBook m b w p) h =
    let all : ((n == m && bytes_eq a b && same_window v w) ≡ true) × (bytes_eq o p ≡ true) = and_parts _ _ h in
    let windows : ((n == m && bytes_eq a b) ≡ true) × (same_window v w ≡ true) = and_parts _ _ all.0 in
    let names : ((n == m) ≡ true) × (bytes_eq a b ≡ true) = and_parts _ _ windows.0 in
    rw (eqb-true n m names.0, equal_bytes a b names.1, equal_windows v w windows.1, equal_bytes o p all.1) refl
equal_messages (DownDone n a) (DownDone m b) h =
    let both : ((n == m) ≡ true) × (same_sent a b ≡ true) = and_parts _ _ h in
    rw (eqb-true n m both.0, equal_sent a b both.1) refl
equal_messages (LimitSet a l) (LimitSet b m) h =
    let both : (bytes_eq a b ≡ true) × (same_limit l m ≡ true) = and_parts _ _ h in
    rw (equal_bytes a b both.0, equal_limits l m both.1) refl
equal_messages _ _ h = cc

same_self : (a : Message) → same_message a a ≡ true
unfolding same_message
same_self (SenderAdd a r) = rw (bytes_self a) (role_self r)
same_self (OwnerAdd a) = bytes_self a
same_self (GatewayAdd a) = bytes_self a
same_self (DeviceAdd d j a) = rw (number_self d, number_self j) (bytes_self a)
same_self (DeviceMove d a) = rw (number_self d) (bytes_self a)
same_self (JoinHeard a v) = rw (report_self a) (verdict_self v)
same_self (FrameHeard a v) = rw (report_self a) (counter_self v)
same_self (DownBook n a v o) = rw (number_self n, bytes_self a, window_self v) (bytes_self o)
same_self (DownDone n a) = rw (number_self n) (sent_self a)
same_self (LimitSet a l) = rw (bytes_self a) (limit_self l)

pub same_message_tells : SameMessageTells
same_message_tells a b = (equal_messages a b, λ same. subst (λ m. same_message a m ≡ true) same (same_self a))
