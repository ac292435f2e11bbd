-- The query of an owner's next device.
use Rattle.std.proofs.Common.{◌≡◌, ◌&&◌, ◌<◌, length, ℕ, pos, List, [], ◌∷◌, codes, Bool, true, false, cond, Option, Some, None, Ok, Err, Result, IfOk, IfErr}
use Rattle.std.proofs.Common.{IsTrue, option_map, slice_get, bytes_eq, refl, sym, ap, ap₂, subst, ◌∙◌, arith, Less, Equal, int_cmp}
use Rattle.std.specs.Cmp.Lexicographic.{slice_cmp}
use Rattle.std.specs.Int.{to_be_bytes, w64}
use Rattle.std.specs.List.{AllByRecursion}
use Rattle.std.specs.Ordering.{is_gt, nat_cmp, ordering_then}
use Rattle.std.specs.Prelude.{IfSome, nat_lt}
use Rattle.std.specs.Result.{is_ok}
use Rattle.std.proofs.lemmas.Bool.{and_parts}
use Rattle.sqlite_value.specs.declared.keys.Collation.TheVariants.{Binary}
use Rattle.sqlite_value.specs.declared.value.Value.TheVariants.{Text}
use Rattle.sqlite_value.proofs.OrderLemmas.{value_cmp-Blob, value_cmp-Int}
use Rattle.sqlite_value.specs.Order.{Row, column}
use Rattle.sqlite_sql.specs.declared.ops.BinaryOp.TheVariants.{Compare}
use Rattle.sqlite_sql.specs.declared.ops.CompareOp.TheVariants.{Gt}
use Rattle.sqlite_sql.specs.Ops.{is_true, binary}
use Rattle.sqlite_sql.specs.Term.{col}
use Rattle.sqlite_typed.proofs.AnswerLemmas.{IsNoTie, no_tie, no_tie_after}
use Rattle.sqlite.specs.Listing.{understood}
use Rattle.sqlite.specs.State.{State}
use Rattle.sqlite_tied.specs.Compute.{everything}
use Rattle.registry_core.specs.Ranges.{IsEui}
use Rattle.registry_core.specs.Reports.{is_after}
use Rattle.desk_rows.specs.Calls.{ReadsRows}
use Rattle.desk_rows.specs.Faults.{IsEven}
use Rattle.desk_rows.specs.Rows.{Rows, Holds, DeviceRow, IsDevice, device_cells, eui}
use Rattle.desk_rows.specs.Schema.{device_tree}
use Rattle.desk_rows.specs.order.Arranged.{by_eui, is_next_of}
use Rattle.desk_rows.specs.order.LookUps.{first_by, rows_by}
use Rattle.desk_rows.specs.steps.Errors.{Decodes, ReadsAt}
use Rattle.desk_rows.specs.steps.Queries.{Finds, above_only}
use Rattle.desk_rows.specs.declared.faults.RowFault.{RowFault}
use Rattle.desk_rows.specs.declared.faults.RowFault.TheVariants.{Row as OutOfRange}
use Rattle.desk_rows.specs.CallLaws.{read_weaker}
use Rattle.desk_rows.proofs.Latest.{latest}
use Rattle.desk_rows.proofs.Lookups.{IsLookup, finds, says_so}
use Rattle.desk_rows.proofs.OrderLemmas.Euis.{octets_above}
use Rattle.desk_rows.proofs.Ordered.{Asked, rising, head, first_sorted, map_same, map_twice}
use Rattle.desk_rows.proofs.Ranges.{rows_all, rows_alike}
use Rattle.desk_rows.proofs.ReadLemmas.{truth_again}
use Rattle.desk_rows.proofs.StatementTexts.{lookup_is}
use Rattle.desk_rows.specs.steps.Texts.{AsksFor, device_after_asked}
use Rattle.desk_rows.proofs.Terms.{is, and_true, text_equal}

abbrev first_text : List ℕ
first_text = codes "SELECT eui FROM device WHERE owner = ?1 ORDER BY eui, rowid LIMIT 1"

abbrev first_asked : Asked (device_tree ∷ [])
first_asked = latest device_tree (is 3 0 ∷ []) (col 1 1 ∷ []) ((col 1 1, rising) ∷ (col 1 0, rising) ∷ [])

first_lookup : IsLookup first_text 1 first_asked
unfolding understood everything
first_lookup = record { names = _; compiled = _; means = refl; command = refl; plain = (refl, refl); whole = omega arith; given = refl; unlisted = refl }

-- one DevEUI above another, to SQL
abbrev is_above : ℕ → ℕ → Bool
is_above a b = is_true (binary (Compare Gt Binary) (eui a) (eui b))

above_is : (a b : ℕ) → IsEui a → IsEui b → is_above a b ≡ nat_lt b a
unfolding binary
above_is a b low small = truth_again _ ∙ ap is_gt (value_cmp-Blob (to_be_bytes w64 a) (to_be_bytes w64 b)) ∙ octets_above a b low small

untied : (b c : ℕ × DeviceRow) → int_cmp (pos b.0) (pos c.0) ≡ Less → IsNoTie (by_eui b c)
untied b c less = no_tie_after (slice_cmp nat_cmp (to_be_bytes w64 b.1.dev_eui) (to_be_bytes w64 c.1.dev_eui)) (no_tie (ap (λ o. ordering_then o Equal) less))

head_first : {A : Type 0} (xs : List A) → head xs ≡ slice_get xs 0
head_first [] = refl
head_first (x ∷ xs) = refl

first_holds : {A Y : Type 0} (P : A → Type 0) (Q : Y → Type 0) (f : A → Y) → ((x : A) → P x → Q (f x)) → (xs : List A) → AllByRecursion P xs → IfSome
    (option_map f (slice_get xs 0)) Q
first_holds P Q f so [] all = tt
first_holds P Q f so (x ∷ xs) all = so x all.0

-- of the devices that pass a test, the first by DevEUI
abbrev first_of : (DeviceRow → Bool) → Rows → Option ℕ
first_of p r = first_by (λ d. d.dev_eui) by_eui p r.devices

in_range : (p : DeviceRow → Bool) (r : Rows) → AllByRecursion IsDevice r.devices → IfSome (first_of p r) IsEui
in_range p r all = first_holds (λ (b : ℕ × DeviceRow). IsDevice b.1) IsEui (λ b. b.1.dev_eui) (λ b fits. fits.dev_eui) (rows_by by_eui p r.devices)
    (rows_all IsDevice IsDevice by_eui p (λ x fits passes. fits) r.devices all)

-- a number that was found, if it is the next
abbrev if_next : ℕ → Bool → Result (Option ℕ) RowFault
if_next n b = cond b (Ok (Some n)) (Err OutOfRange)

pub eui_read : (row : Row) (result : Result ℕ RowFault) → ReadsAt eui IsEui row 0 result → Decodes (λ n. n) (λ n. eui n ∷ []) IsEui row result
eui_read row (Ok x) read = λ y fits shown. let same : ◌≡◌ {A = Result ℕ RowFault} (Ok x) (Ok y) =
    read y fits (ap (λ row. column row 0) shown) (subst (λ row. 0 < length row) (sym shown) (omega arith)) in cc
eui_read row (Err f) read = λ y fits shown. let same : ◌≡◌ {A = Result ℕ RowFault} (Err f) (Ok y) =
    read y fits (ap (λ row. column row 0) shown) (subst (λ row. 0 < length row) (sym shown) (omega arith)) in absurd cc

abbrev passes : List ℕ → ℕ → DeviceRow → Bool
passes owner after d = bytes_eq d.device.owner owner && is_above d.dev_eui after

same_pass : (owner : List ℕ) (after : ℕ) → IsEui after → (d : DeviceRow) → IsDevice d → passes owner after d ≡ is_next_of owner (Some after) d
same_pass owner after low d fits = ap (λ t. bytes_eq d.device.owner owner && t) (above_is d.dev_eui after fits.dev_eui low)

-- what is found is above the one that is given
rising_first : (owner : List ℕ) (after : Option ℕ) (r : Rows) → AllByRecursion IsDevice r.devices → IfSome (first_of (is_next_of owner after) r)
    (λ n. is_after after n ≡ true)
rising_first owner after r all = first_holds (λ (b : ℕ × DeviceRow). is_after after b.1.dev_eui ≡ true) (λ n. is_after after n ≡ true) (λ b. b.1.dev_eui)
    (λ b h. h) (rows_by by_eui (is_next_of owner after) r.devices)
    (rows_all IsDevice (λ d. is_after after d.dev_eui ≡ true) by_eui (is_next_of owner after)
    (λ d fits done. (and_parts (bytes_eq d.device.owner owner) (is_after after d.dev_eui) done).1) r.devices all)

module _ {old new : State} (owner : List ℕ) where
  pub reads_first : {result : Result (Option ℕ) RowFault} → Finds first_text (Text owner ∷ []) old new (λ n. n) (λ n. eui n ∷ []) IsEui result
      → ReadsRows old new result (λ r next. next ≡ first_by (λ d. d.dev_eui) by_eui (is_next_of owner None) r.devices)
  reads_first {result} found = says_so (finds first_lookup (Text owner ∷ []) old new found.answer found.run refl refl result found.is_read
      (first_of (is_next_of owner None))
      (λ r has. (
        in_range (is_next_of owner None) r has.ten.in_range.devices,
        λ rows answer. first_sorted first_asked _ device_cells r.devices has.ten.device (Text owner ∷ []) (λ b. is_next_of owner None b.1)
            (λ b. ap (λ t. t && true) (text_equal b.1.device.owner owner)) (λ b. eui b.1.dev_eui ∷ []) (λ b. refl) by_eui untied
            (λ b c. ap₂ (λ u v. ordering_then u (ordering_then v Equal)) (value_cmp-Blob (to_be_bytes w64 b.1.dev_eui) (to_be_bytes w64 c.1.dev_eui))
            (value_cmp-Int (pos b.0) (pos c.0))) rows answer
            ∙ ap (option_map (λ (b : ℕ × DeviceRow). eui b.1.dev_eui ∷ [])) (head_first (rows_by by_eui (is_next_of owner None) r.devices))
            ∙ sym (map_twice (λ n. eui n ∷ []) (λ (b : ℕ × DeviceRow). b.1.dev_eui) (slice_get (rows_by by_eui (is_next_of owner None) r.devices) 0)),
      )))
      (λ r has next is. sym (map_same next) ∙ is)

  module _ (after : ℕ) (low : IsEui after) {sql : List ℕ} {names : List (List ℕ)} (means : AsksFor sql 2 device_after_asked names) where
    pub reads_after : {result : Result (Option ℕ) RowFault} → Finds sql (Text owner ∷ eui after ∷ []) old new (λ n. n) (λ n. eui n ∷ []) IsEui result
        → ReadsRows old new result (λ r next. next ≡ first_by (λ d. d.dev_eui) by_eui (is_next_of owner (Some after)) r.devices)
    reads_after {result} found = let lookup : IsLookup sql 2 device_after_asked = lookup_is means in
        says_so (finds lookup (Text owner ∷ eui after ∷ []) old new found.answer found.run refl refl result found.is_read
        (first_of (passes owner after))
        (λ r has. (
          in_range (passes owner after) r has.ten.in_range.devices,
          λ rows answer. first_sorted device_after_asked _ device_cells r.devices has.ten.device (Text owner ∷ eui after ∷ []) (λ b. passes owner after b.1)
              (λ b. ap₂ (λ s t. s && t) (text_equal b.1.device.owner owner) (and_true (is_above b.1.dev_eui after))) (λ b. eui b.1.dev_eui ∷ [])
              (λ b. refl) by_eui untied
              (λ b c. ap₂ (λ u v. ordering_then u (ordering_then v Equal)) (value_cmp-Blob (to_be_bytes w64 b.1.dev_eui) (to_be_bytes w64 c.1.dev_eui))
              (value_cmp-Int (pos b.0) (pos c.0))) rows answer
              ∙ ap (option_map (λ (b : ℕ × DeviceRow). eui b.1.dev_eui ∷ [])) (head_first (rows_by by_eui (passes owner after) r.devices))
              ∙ sym (map_twice (λ n. eui n ∷ []) (λ (b : ℕ × DeviceRow). b.1.dev_eui) (slice_get (rows_by by_eui (passes owner after) r.devices) 0)),
        )))
        (λ r has next is. sym (map_same next) ∙ is ∙ ap (λ l. option_map (λ (b : ℕ × DeviceRow). b.1.dev_eui) (slice_get l 0))
        (rows_alike by_eui IsDevice (passes owner after) (is_next_of owner (Some after)) (same_pass owner after low) r.devices has.ten.in_range.devices))

  pub reads_above : (after : Option ℕ) {found result : Result (Option ℕ) RowFault} → result ≡ above_only after found
      → ReadsRows old new found (λ r next. next ≡ first_by (λ d. d.dev_eui) by_eui (is_next_of owner after) r.devices)
      → ReadsRows old new result (λ r next. next ≡ first_by (λ d. d.dev_eui) by_eui (is_next_of owner after) r.devices)
  reads_above after {found} is reads = rw is (record {
    read = read_weaker old new (is_ok found) (is_ok (above_only after found)) (stays found) reads.read;
    told = λ sure r has. still r has found (reads.told sure r has);
    in_order = λ sure unlimited r has. even r has found (reads.told sure r has) (reads.in_order sure unlimited r has);
  })
    where
      stays : (found : Result (Option ℕ) RowFault) → IsTrue (is_ok (above_only after found)) → IsTrue (is_ok found)
      stays (Ok None) h = h
      stays (Ok (Some n)) h = refl
      stays (Err f) h = h

      still : (r : Rows) → Holds old.now r → (found : Result (Option ℕ) RowFault) → IfOk found (λ next. next ≡ first_of (is_next_of owner after) r)
          → IfOk (above_only after found) (λ next. next ≡ first_of (is_next_of owner after) r)
      still r has (Ok None) h = h
      still r has (Ok (Some n)) h = by (is_after after n)
        where
          by : (b : Bool) → IfOk (if_next n b) (λ next. next ≡ first_of (is_next_of owner after) r)
          by true = h
          by false = tt
      still r has (Err f) h = tt

      even : (r : Rows) → Holds old.now r → (found : Result (Option ℕ) RowFault) → IfOk found (λ next. next ≡ first_of (is_next_of owner after) r)
          → IfErr found IsEven → IfErr (above_only after found) IsEven
      even r has (Ok None) h e = tt
      even r has (Ok (Some n)) h e =
          let passes : is_after after n ≡ true = subst (λ o. IfSome o (λ m. is_after after m ≡ true)) (sym h)
          (rising_first owner after r has.ten.in_range.devices) in
          rw passes tt
      even r has (Err f) h e = e
