-- A table of senders, owners, gateways, devices or limits has as many rows as the registry has of them.
use Rattle.std.proofs.Common.{◌≡◌, ℕ, ◌||◌, Bool, true, false, cond, List, [], ◌∷◌, map, find, length, Option, Some, is_some, option_map, refl, ap, ◌∙◌, sym, arith}
use Rattle.std.specs.Prelude.{bytes_eq, nat_eq, unwrap_or}
use Rattle.std.specs.List.{list_any}
use Rattle.std.proofs.lemmas.List.{length-map}
use Rattle.registry_core.specs.Settings.{Settings}
use Rattle.registry_core.specs.State.{State}
use Rattle.desk_store.specs.Kept.{Kept}
use Rattle.desk_rows.specs.Rows.{DeviceRow, LimitRow, Rows, SenderRow, last_number}
use Rattle.desk_rows.specs.order.RowsOf.{limit_key, same_band}
use Rattle.desk_tables.specs.Totals.{HaveIt, is_limit_set}
use Rattle.desk_tables.specs.steps.LookUps.{RowsTell}

-- the last number is how many there are
many_rows : {X : Type 0} (xs : List X) → unwrap_or (last_number xs) 0 ≡ length xs
many_rows [] = refl
many_rows (x ∷ xs) = omega arith

pub many_are : {X : Type 0} (xs : List X) {last : Option ℕ} {n : ℕ} → last ≡ last_number xs → n ≡ unwrap_or last 0 → n ≡ length xs
many_are xs is shown = shown ∙ ap (λ o. unwrap_or o 0) is ∙ many_rows xs

-- a row with the key is there
module _ {X Y V : Type 0} (key : X → Y) (show : X → V) (is : Y → Bool) where
  found_any : (xs : List X) → is_some (option_map show (find (λ x. is (key x)) xs)) ≡ list_any is (map key xs)
  found_any [] = refl
  found_any (x ∷ xs) = go (is (key x)) (found_any xs)
    where
      go : (b : Bool) → is_some (option_map show (find (λ y. is (key y)) xs)) ≡ list_any is (map key xs)
          → is_some (option_map show (cond b (Some x) (find (λ y. is (key y)) xs))) ≡ (b || list_any is (map key xs))
      go true later = refl
      go false later = later

pub senders_many : (r : Rows) (c : Settings) (kept : Kept) (last : Option ℕ) (n : ℕ) → RowsTell c kept r → last ≡ last_number r.senders → n ≡ unwrap_or last 0
    → HaveIt bytes_eq (λ name. is_some (kept.facts.senders name)) n
senders_many r c kept last n tell is shown = record {
  all = map (λ (s : SenderRow). s.name) r.senders;
  each_once = tell.are.keyed.senders;
  are_all = λ name. ap (λ (s : State). is_some (s.senders name)) tell.are.is
      ∙ found_any (λ (s : SenderRow). s.name) (λ (s : SenderRow). s.role) (λ other. bytes_eq other name) r.senders;
  many = many_are r.senders is shown ∙ sym (length-map r.senders (λ (s : SenderRow). s.name));
}

pub owners_many : (r : Rows) (c : Settings) (kept : Kept) (last : Option ℕ) (n : ℕ) → RowsTell c kept r → last ≡ last_number r.owners → n ≡ unwrap_or last 0
    → HaveIt bytes_eq kept.facts.owners n
owners_many r c kept last n tell is shown = record {
  all = r.owners;
  each_once = tell.are.keyed.owners;
  are_all = λ name. ap (λ (s : State). s.owners name) tell.are.is;
  many = many_are r.owners is shown;
}

pub gateways_many : (r : Rows) (c : Settings) (kept : Kept) (last : Option ℕ) (n : ℕ) → RowsTell c kept r → last ≡ last_number r.gateways → n ≡ unwrap_or last 0
    → HaveIt bytes_eq kept.facts.gateways n
gateways_many r c kept last n tell is shown = record {
  all = r.gateways;
  each_once = tell.are.keyed.gateways;
  are_all = λ name. ap (λ (s : State). s.gateways name) tell.are.is;
  many = many_are r.gateways is shown;
}

pub devices_many : (r : Rows) (c : Settings) (kept : Kept) (last : Option ℕ) (n : ℕ) → RowsTell c kept r → last ≡ last_number r.devices → n ≡ unwrap_or last 0
    → HaveIt nat_eq (λ dev_eui. is_some (kept.facts.devices dev_eui)) n
devices_many r c kept last n tell is shown = record {
  all = map (λ (d : DeviceRow). d.dev_eui) r.devices;
  each_once = tell.are.keyed.devices;
  are_all = λ dev_eui. ap (λ (s : State). is_some (s.devices dev_eui)) tell.are.is
      ∙ found_any (λ (d : DeviceRow). d.dev_eui) (λ (d : DeviceRow). d.device) (λ other. nat_eq other dev_eui) r.devices;
  many = many_are r.devices is shown ∙ sym (length-map r.devices (λ (d : DeviceRow). d.dev_eui));
}

pub limits_many : (r : Rows) (c : Settings) (kept : Kept) (last : Option ℕ) (n : ℕ) → RowsTell c kept r → last ≡ last_number r.limits → n ≡ unwrap_or last 0
    → HaveIt same_band (is_limit_set kept) n
limits_many r c kept last n tell is shown = record {
  all = map limit_key r.limits;
  each_once = tell.are.keyed.limits;
  are_all = λ band. ap (λ (s : State). is_some (s.limits band.0 band.1)) tell.are.is
      ∙ found_any limit_key (λ (l : LimitRow). l.limit.most) (λ other. same_band other band) r.limits;
  many = many_are r.limits is shown ∙ sym (length-map r.limits limit_key);
}
