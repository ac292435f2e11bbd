-- No two rows have one key with each effect.
use Rattle.std.proofs.Common.{◌≡◌, ℕ, ◌<◌, ◌==◌, ◌&&◌, Bool, true, false, List, [], ◌∷◌, ◌++◌, map, find, None, option_map, refl, sym, ap, subst, arith}
use Rattle.std.specs.Prelude.{bytes_eq, nat_eq, IsTrue}
use Rattle.std.specs.List.{AllByRecursion, IsDistinct, list_any}
use Rattle.std.proofs.lemmas.Bool.{and_right, ne_eqb}
use Rattle.std.proofs.lemmas.List.{map-append}
use Rattle.registry_core.specs.declared.facts.Session.{Session}
use Rattle.registry_core.specs.Derived.{is_above, is_session_of, last_nonce}
use Rattle.desk_rows.specs.Rows.{DeviceRow, ReceptionRow, SenderRow, is_device, is_reception, is_sender_named}
use Rattle.desk_rows.specs.order.Facts.{is_name_row}
use Rattle.desk_rows.specs.order.RowsOf.{reception_key, same_join, same_reception}
use Rattle.desk_rows.proofs.OrderLemmas.Counting.{above_each}
use Rattle.desk_rows.proofs.OrderLemmas.Each.{all_map, all_so, distinct_with, none_found, none_of}
use Rattle.desk_rows.proofs.OrderLemmas.Finding.{none_shown}
use Rattle.desk_rows.proofs.OrderLemmas.Telling.{device_found, role_found}

abbrev pub sender_names : List SenderRow → List (List ℕ)
sender_names senders = map (λ (s : SenderRow). s.name) senders

pub named_once_with : (names : List (List ℕ)) (name : List ℕ) → list_any (is_name_row name) names ≡ false → IsDistinct bytes_eq names
    → IsDistinct bytes_eq (names ++ name ∷ [])
named_once_with names name free apart = distinct_with bytes_eq names name apart (none_of (is_name_row name) names free)

pub senders_with : (senders : List SenderRow) (new : SenderRow) → role_found senders new.name ≡ None → IsDistinct bytes_eq (sender_names senders)
    → IsDistinct bytes_eq (sender_names (senders ++ new ∷ []))
senders_with senders new free apart =
    subst (IsDistinct bytes_eq) (sym (map-append (λ (s : SenderRow). s.name) senders (new ∷ [])))
    (distinct_with bytes_eq (sender_names senders) new.name apart
    (all_map (λ s. is_sender_named new.name s ≡ false) (λ name. bytes_eq name new.name ≡ false) (λ (s : SenderRow). s.name) (λ s no. no) senders
    (none_found (is_sender_named new.name) senders (none_shown (λ (s : SenderRow). s.role) _ free))))

abbrev pub euis : List DeviceRow → List ℕ
euis devices = map (λ (d : DeviceRow). d.dev_eui) devices

pub devices_with : (devices : List DeviceRow) (new : DeviceRow) → device_found devices new.dev_eui ≡ None → IsDistinct nat_eq (euis devices)
    → IsDistinct nat_eq (euis (devices ++ new ∷ []))
devices_with devices new free apart =
    subst (IsDistinct nat_eq) (sym (map-append (λ (d : DeviceRow). d.dev_eui) devices (new ∷ [])))
    (distinct_with nat_eq (euis devices) new.dev_eui apart
    (all_map (λ d. is_device new.dev_eui d ≡ false) (λ n. nat_eq n new.dev_eui ≡ false) (λ (d : DeviceRow). d.dev_eui) (λ d no. no) devices
    (none_found (is_device new.dev_eui) devices (none_shown (λ (d : DeviceRow). d.device) _ free))))

pub receptions_keyed : (receptions : List ReceptionRow) (new : ReceptionRow) → option_map (λ (c : ReceptionRow). c.reception) (find (is_reception new.uplink new.gateway) receptions) ≡ None
    → IsDistinct same_reception (map reception_key receptions) → IsDistinct same_reception (map reception_key (receptions ++ new ∷ []))
receptions_keyed receptions new free apart =
    subst (IsDistinct same_reception) (sym (map-append reception_key receptions (new ∷ [])))
    (distinct_with same_reception (map reception_key receptions) (reception_key new) apart
    (all_map (λ c. is_reception new.uplink new.gateway c ≡ false) (λ key. same_reception key (reception_key new) ≡ false) reception_key (λ c no. no) receptions
    (none_found (is_reception new.uplink new.gateway) receptions (none_shown (λ (c : ReceptionRow). c.reception) _ free))))

-- a session of the device with the nonce isn't there, where the nonce is above the last
module _ (sessions : List Session) (new : Session) (above : IsTrue (is_above new.nonce (last_nonce sessions new.device))) where
  other_by : (s : Session) (b : Bool) → (s.device == new.device) ≡ b → (is_session_of new.device s ≡ true → s.nonce < new.nonce) → same_join s new ≡ false
  other_by s true own below =
      let less : s.nonce < new.nonce = below own in
      and_right (s.device == new.device) _ (ne_eqb s.nonce new.nonce (λ same. omega arith))
  other_by s false apart below = ap (λ b. b && s.nonce == new.nonce) apart

  pub no_such_join : AllByRecursion (λ s. same_join s new ≡ false) sessions
  no_such_join = all_so (λ s. is_session_of new.device s ≡ true
      → s.nonce < new.nonce) (λ s. same_join s new ≡ false) (λ s below. other_by s (s.device == new.device) refl below) sessions
      (above_each (λ (s : Session). s.nonce) (is_session_of new.device) new.nonce sessions above)

  pub sessions_with : IsDistinct same_join sessions → IsDistinct same_join (sessions ++ new ∷ [])
  sessions_with apart = distinct_with same_join sessions new apart no_such_join
