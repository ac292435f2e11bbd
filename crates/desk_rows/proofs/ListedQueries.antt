-- Queries of one column of rows, in its order: all names and DevEUIs, and the gateways of an uplink's receptions.
use Rattle.std.proofs.Common.{◌≡◌, ◌<◌, length, ℕ, pos, List, [], ◌∷◌, Vec, Bool, true, Ok, Err, Result, refl, sym, ap, ap₂, subst, ◌∙◌, arith, Ordering, Less, Equal, int_cmp, map-id}
use Rattle.std.specs.declared.alloc.Global.{Global}
use Rattle.std.specs.Int.{to_be_bytes, w64}
use Rattle.std.specs.List.{AllByRecursion, list_all}
use Rattle.std.specs.Ordering.{nat_cmp, ordering_then}
use Rattle.std.specs.Cmp.Lexicographic.{slice_cmp}
use Rattle.sqlite_value.specs.declared.value.Value.{Value}
use Rattle.sqlite_value.specs.declared.value.Value.TheVariants.{Text}
use Rattle.sqlite_value.specs.Order.{Row, column, value_cmp}
use Rattle.sqlite_value.proofs.OrderLemmas.{value_cmp-Blob, value_cmp-Int, value_cmp-Text}
use Rattle.sqlite_sql.specs.Term.{Term, holds}
use Rattle.sqlite_trees.proofs.ListLemmas.{map-map}
use Rattle.sqlite_typed.proofs.AnswerLemmas.{IsNoTie, no_tie, no_tie_after}
use Rattle.sqlite_typing.specs.Types.{accepts_program}
use Rattle.sqlite.specs.Program.{overlay}
use Rattle.sqlite.specs.State.{State}
use Rattle.registry_core.specs.Ranges.{IsEui, IsName}
use Rattle.desk_rows.specs.Calls.{ReadsRows}
use Rattle.desk_rows.specs.Rows.{Rows, Holds, ReceptionRow, DeviceRow, IsReceptionRow, IsDevice, SenderRow, reception_cells, device_cells, eui, name_cells, number, sender_cells, table_of}
use Rattle.desk_rows.specs.Schema.{desk_schema}
use Rattle.desk_rows.specs.order.Listed.{by_key, devices_listed, gateways_listed, is_reception_of, listed, names_listed, senders_listed}
use Rattle.desk_rows.specs.order.LookUps.{rows_by}
use Rattle.desk_rows.specs.steps.Errors.{Decodes, ReadsAt}
use Rattle.desk_rows.specs.steps.Queries.{FindsAll}
use Rattle.desk_rows.specs.steps.Texts.{AsksFor, all_asked, column_asked, gateways_asked, query_of}
use Rattle.desk_rows.specs.declared.faults.RowFault.{RowFault}
use Rattle.desk_rows.proofs.Lookups.{IsLookup, says_so}
use Rattle.desk_rows.proofs.OrderLemmas.Each.{all_map, all_so}
use Rattle.desk_rows.proofs.Ordered.{encode, rows_sorted}
use Rattle.desk_rows.proofs.Ranges.{reads_all, rows_all}
use Rattle.desk_rows.proofs.StatementTexts.{lookup_is}
use Rattle.desk_rows.proofs.Terms.{and_true, number_equal}

pub name_read : (row : Row) (result : Result (List ℕ) RowFault) → ReadsAt Text IsName row 0 result → Decodes (λ n. n) (λ n. Text n ∷ []) IsName row result
name_read row (Ok x) read = λ y fits shown. let same : ◌≡◌ {A = Result (List ℕ) RowFault} (Ok x) (Ok y) =
    read y fits (ap (λ row. column row 0) shown) (subst (λ row. 0 < length row) (sym shown) (omega arith)) in cc
name_read row (Err f) read = λ y fits shown. let same : ◌≡◌ {A = Result (List ℕ) RowFault} (Err f) (Ok y) =
    read y fits (ap (λ row. column row 0) shown) (subst (λ row. 0 < length row) (sym shown) (omega arith)) in absurd cc

-- rows of a table that show a key, and keys that SQLite orders as `cmp` does
module _ {X K : Type 0} (key : X → K) (put : K → Value) (cells : X → Row) (cmp : K → K → Ordering) (compares : (a b : K) → value_cmp (put a) (put b) ≡ cmp a b)
    (Fits : K → Type 0) where
  untied : (b c : ℕ × X) → int_cmp (pos b.0) (pos c.0) ≡ Less → IsNoTie (by_key cmp key b c)
  untied b c less = no_tie_after (cmp (key b.1) (key c.1)) (no_tie (ap (λ o. ordering_then o Equal) less))

  module _ {sql : List ℕ} {names : List (List ℕ)} {many tree place : ℕ} {terms : List Term} (means : AsksFor sql many (column_asked tree terms place) names)
      (params : Row) (many_is : many ≡ length params) (typed : accepts_program desk_schema [] (query_of (column_asked tree terms place)) params ≡ true)
      (has_key : (x : X) (n : ℕ) → column (encode cells (n, x)) place ≡ put (key x))
      (test : X → Bool) (tests : (b : ℕ × X) → list_all (holds (params ∷ encode cells b ∷ [])) terms ≡ test b.1) {old new : State}
      (xs : Rows → List X) (stored : (r : Rows) → Holds old.now r → overlay old.now.trees [] tree ≡ table_of cells (xs r))
      (ranges : (r : Rows) → Holds old.now r → AllByRecursion (λ x. Fits (key x)) (xs r)) where
    reads_listed : {result : Result (Vec K Global) RowFault} → FindsAll sql params old new (λ k. k) (λ k. put k ∷ []) Fits result
        → ReadsRows old new result (λ r all. all.items ≡ listed key (by_key cmp key) test (xs r))
    reads_listed found =
        let text : IsLookup sql many (column_asked tree terms place) = lookup_is means in
        says_so (reads_all text params many_is typed found (λ r. listed key (by_key cmp key) test (xs r))
        (λ r has. (
          all_map (λ (b : ℕ × X). Fits (key b.1)) Fits (λ b. key b.1) (λ b fits. fits) _
              (rows_all (λ x. Fits (key x)) (λ x. Fits (key x)) (by_key cmp key) test (λ x fits passes. fits) (xs r) (ranges r has)),
          λ rows answer. rows_sorted (column_asked tree terms place) (overlay old.now.trees []) cells (xs r) (stored r has) params (λ b. test b.1) tests
              (λ b. put (key b.1) ∷ []) (λ b. ap (λ v. v ∷ []) (has_key b.1 b.0)) (by_key cmp key) untied
              (λ b c. ap₂ (λ u v. ordering_then u (ordering_then v Equal))
              (ap₂ value_cmp (has_key b.1 b.0) (has_key c.1 c.0) ∙ compares (key b.1) (key c.1)) (value_cmp-Int (pos b.0) (pos c.0))) rows answer
              ∙ sym (map-map (λ k. put k ∷ []) (λ (b : ℕ × X). key b.1) (rows_by (by_key cmp key) test (xs r))),
        )))
        (λ r has all is. sym (map-id all.items) ∙ is)

module _ {sql : List ℕ} {names : List (List ℕ)} {old new : State} {result : Result (Vec (List ℕ) Global) RowFault}
    (found : FindsAll sql [] old new (λ name. name) (λ name. Text name ∷ []) IsName result) where
  pub reads_senders : AsksFor sql 0 (all_asked 1) names → ReadsRows old new result (λ r all. all.items ≡ senders_listed r.senders)
  reads_senders means = reads_listed (λ (s : SenderRow). s.name) Text sender_cells (slice_cmp nat_cmp) value_cmp-Text IsName means [] refl refl
      (λ s n. refl) (λ s. true) (λ b. refl) (λ r. r.senders) (λ r has. has.ten.sender) (λ r has. has.ten.in_range.senders) found

  pub reads_owners : AsksFor sql 0 (all_asked 5) names → ReadsRows old new result (λ r all. all.items ≡ names_listed r.owners)
  reads_owners means = reads_listed (λ name. name) Text name_cells (slice_cmp nat_cmp) value_cmp-Text IsName means [] refl refl
      (λ name n. refl) (λ name. true) (λ b. refl) (λ r. r.owners) (λ r has. has.ten.owner) (λ r has. has.ten.in_range.owners) found

  pub reads_gateways : AsksFor sql 0 (all_asked 7) names → ReadsRows old new result (λ r all. all.items ≡ names_listed r.gateways)
  reads_gateways means = reads_listed (λ name. name) Text name_cells (slice_cmp nat_cmp) value_cmp-Text IsName means [] refl refl
      (λ name n. refl) (λ name. true) (λ b. refl) (λ r. r.gateways) (λ r has. has.ten.gateway) (λ r has. has.ten.in_range.gateways) found

euis_in : (devices : List DeviceRow) → AllByRecursion IsDevice devices → AllByRecursion (λ (d : DeviceRow). IsEui d.dev_eui) devices
euis_in [] each = tt
euis_in (d ∷ devices) each = (each.0.dev_eui, euis_in devices each.1)

pub reads_devices : {sql : List ℕ} {names : List (List ℕ)} {old new : State} {result : Result (Vec ℕ Global) RowFault}
    → FindsAll sql [] old new (λ n. n) (λ n. eui n ∷ []) IsEui result → AsksFor sql 0 (all_asked 9) names
    → ReadsRows old new result (λ r all. all.items ≡ devices_listed r.devices)
reads_devices found means = reads_listed (λ (d : DeviceRow). d.dev_eui) eui device_cells
    (λ m n. slice_cmp nat_cmp (to_be_bytes w64 m) (to_be_bytes w64 n)) (λ m n. value_cmp-Blob (to_be_bytes w64 m) (to_be_bytes w64 n)) IsEui means [] refl refl
    (λ d n. refl) (λ d. true) (λ b. refl) (λ r. r.devices) (λ r has. has.ten.device) (λ r has. euis_in r.devices has.ten.in_range.devices) found

-- the gateways of an uplink's receptions
pub reads_receptions : {sql : List ℕ} {names : List (List ℕ)} {old new : State} (uplink : ℕ) {result : Result (Vec (List ℕ) Global) RowFault}
    → FindsAll sql (number uplink ∷ []) old new (λ name. name) (λ name. Text name ∷ []) IsName result → AsksFor sql 1 gateways_asked names
    → ReadsRows old new result (λ r all. all.items ≡ gateways_listed uplink r.receptions)
reads_receptions uplink found means = reads_listed (λ (c : ReceptionRow). c.gateway) Text reception_cells (slice_cmp nat_cmp) value_cmp-Text IsName means (number uplink ∷ []) refl refl
    (λ c n. refl) (is_reception_of uplink) (λ b. and_true _ ∙ number_equal b.1.uplink uplink) (λ r. r.receptions) (λ r has. has.ten.copy)
    (λ r has. all_so IsReceptionRow (λ (c : ReceptionRow). IsName c.gateway) (λ c fits. fits.gateway) r.receptions has.ten.in_range.receptions) found
