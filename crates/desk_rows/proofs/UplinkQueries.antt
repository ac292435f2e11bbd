-- Queries of a device's uplinks in a range of time: those of a band, and all of them.
use Rattle.std.proofs.Common.{◌≡◌, ◌&&◌, ℕ, pos, List, [], ◌∷◌, map, codes, length, Vec, Bool, true, false, Option, Some, None, Result, refl, sym, ap, ap₂, ◌∙◌}
use Rattle.std.proofs.Common.{arith, Ordering, Equal, map-id}
use Rattle.std.specs.declared.alloc.Global.{Global}
use Rattle.std.specs.List.{AllByRecursion, list_all}
use Rattle.std.specs.Option.{option_map_or}
use Rattle.std.specs.Ordering.{ordering_then}
use Rattle.std.specs.Prelude.{ℤ, int_le, int_lt}
use Rattle.std.proofs.Math.Bool.{and_assoc}
use Rattle.std.proofs.lemmas.Int.{ints}
use Rattle.sqlite_value.specs.declared.value.Value.TheVariants.{Int}
use Rattle.sqlite_value.specs.Order.{Row}
use Rattle.sqlite_value.proofs.OrderLemmas.{value_cmp-Int}
use Rattle.sqlite_sql.specs.Query.{Output}
use Rattle.sqlite_sql.specs.Term.{Env, Term, col, eval_all, holds}
use Rattle.sqlite_trees.proofs.ListLemmas.{map-map}
use Rattle.sqlite_typing.specs.Types.{accepts_program}
use Rattle.sqlite_keyed.specs.Lists.{sort_by}
use Rattle.sqlite_keyed.proofs.ListLemmas.{filter_same}
use Rattle.sqlite.specs.Listing.{understood}
use Rattle.sqlite.specs.State.{State}
use Rattle.sqlite_tied.specs.Compute.{everything}
use Rattle.duty_core.specs.Range.{IsStart}
use Rattle.duty_core.specs.Use.{Interval}
use Rattle.radio_core.specs.declared.bands.Band.{Band}
use Rattle.radio_core.specs.Bands.{band_number}
use Rattle.registry_core.specs.declared.facts.Uplink.{Uplink}
use Rattle.registry_core.specs.Listing.{uplink_start}
use Rattle.registry_core.specs.Numbered.{item_at}
use Rattle.registry_core.specs.Ranges.{IsEui}
use Rattle.registry_core.specs.Reports.{interval_of, is_in_band}
use Rattle.registry_core.specs.JsonIntegers.{IsJsonInteger}
use Rattle.desk_rows.specs.Calls.{ReadsRows}
use Rattle.desk_rows.specs.Rows.{IsSession, IsUplink, SessionRow, eui, number, session_cells, uplink_cells}
use Rattle.desk_rows.specs.Schema.{desk_schema}
use Rattle.desk_rows.specs.order.Arranged.{by_start, is_uplink_between, is_uplink_of, spans_by}
use Rattle.desk_rows.specs.order.Listed.{uplinks_listed}
use Rattle.desk_rows.specs.order.LookUps.{is_row_of_device, rows_by}
use Rattle.desk_rows.specs.steps.Queries.{FindsAll}
use Rattle.desk_rows.specs.steps.Shown.{span_shown}
use Rattle.desk_rows.specs.steps.Texts.{AsksFor, equal, uplinks_asked, uplinks_between_asked}
use Rattle.desk_rows.specs.declared.faults.RowFault.{RowFault}
use Rattle.desk_rows.proofs.Joined.{joined_sorted}
use Rattle.desk_rows.proofs.Lookups.{IsLookup, says_so}
use Rattle.desk_rows.proofs.OrderLemmas.Each.{all_at, all_map}
use Rattle.desk_rows.proofs.Ordered.{encode, query_of, zip_from}
use Rattle.desk_rows.proofs.Ranges.{IsSpan, reads_all, rows_all, untied}
use Rattle.desk_rows.proofs.SpanQueries.{int_below, int_from}
use Rattle.desk_rows.proofs.StatementTexts.{lookup_is}
use Rattle.desk_rows.proofs.Terms.{and_true, eui_equal, number_equal, same}

json_integer_start : (n : ℕ) → IsJsonInteger n → IsStart (pos n)
json_integer_start n whole = record { least = omega (arith, ints, whole); below = omega (arith, ints, whole) }

module _ (dev_eui : ℕ) (low : IsEui dev_eui) (from to : ℤ) where
  -- the session is the device's, to SQL
  abbrev is_own : SessionRow → Bool
  is_own s = same (eui s.session.device) (eui dev_eui)

  own_of : (sessions : List SessionRow) → AllByRecursion IsSession sessions → (n : ℕ) (found : Option SessionRow) → item_at sessions n ≡ found
      → option_map_or is_own found false ≡ option_map_or (is_row_of_device dev_eui) found false
  own_of sessions all n None is = refl
  own_of sessions all n (Some s) is = eui_equal s.session.device dev_eui (all_at IsSession sessions n s is all).device low

  abbrev order : ℕ × Uplink → ℕ × Uplink → Ordering
  order = by_start uplink_start

  -- with these parameters after the device and the range, and this test of the uplink
  module _ (given : Row) (more project : List Term) (test : Uplink → Bool) (passes : List SessionRow → Uplink → Bool)
      (are : (sessions : List SessionRow) (u : Uplink) → (is_uplink_between sessions dev_eui from to u && test u) ≡ passes sessions u) where
    abbrev params : Row
    params = eui dev_eui ∷ Int from ∷ Int to ∷ given

    abbrev env : (ℕ × SessionRow) × (ℕ × Uplink) → Env
    env b = params ∷ encode session_cells b.0 ∷ encode uplink_cells b.1 ∷ []

    abbrev is_within : Uplink → Bool
    is_within u = int_le from (pos u.start) && (int_lt (pos u.start) to && test u)

    same_pass : (sessions : List SessionRow) → AllByRecursion IsSession sessions → (u : Uplink)
        → (option_map_or is_own (item_at sessions u.session) false && is_within u) ≡ passes sessions u
    same_pass sessions all u =
        let own = option_map_or (is_row_of_device dev_eui) (item_at sessions u.session) false in
        ap (λ own. own && is_within u) (own_of sessions all u.session (item_at sessions u.session) refl)
        ∙ sym (and_assoc own (int_le from (pos u.start)) (int_lt (pos u.start) to && test u))
        ∙ sym (and_assoc (own && int_le from (pos u.start)) (int_lt (pos u.start) to) (test u))
        ∙ are sessions u

    module _ {sql : List ℕ} {many : ℕ} (lookup : IsLookup sql many (uplinks_asked more project)) (many_is : many ≡ length params)
        (typed : accepts_program desk_schema [] (query_of (uplinks_asked more project)) params ≡ true)
        (tests : (b : (ℕ × SessionRow) × (ℕ × Uplink)) → list_all (holds (env b)) more ≡ test b.1.1)
        {Y : Type 0} (shows : Y → Row) (Fits : Y → Type 0) (shown : ℕ × Uplink → Y)
        (shows_it : (b : (ℕ × SessionRow) × (ℕ × Uplink)) → eval_all project (env b) ≡ shows (shown b.1))
        (fits : (b : ℕ × Uplink) → IsUplink b.1 → Fits (shown b)) where
      abbrev out : ℕ × Uplink → Output
      out b = (Int (pos b.1.start) ∷ Int (pos b.0) ∷ [], shows (shown b))

      reads_range : {old new : State} {result : Result (Vec Y Global) RowFault} → FindsAll sql params old new (λ y. y) shows Fits result
          → ReadsRows old new result (λ r all. all.items ≡ map shown (rows_by order (passes r.sessions) r.uplinks))
      reads_range {old} {new} found = says_so (reads_all lookup params many_is typed found (λ r. map shown (rows_by order (passes r.sessions) r.uplinks))
          (λ r has. (
            all_map (λ (b : ℕ × Uplink). IsUplink b.1) Fits shown fits _
                (rows_all IsUplink IsUplink order (passes r.sessions) (λ u fits passes. fits) r.uplinks has.ten.in_range.uplinks),
            λ rows answer. joined_sorted (uplinks_asked more project) _ params
                session_cells r.sessions has.ten.session uplink_cells r.uplinks has.ten.uplink (λ (u : Uplink). u.session) is_own is_within
                (λ b. ap₂ (λ s t. s && t) (number_equal b.1.1.session b.0.0) (ap₂ (λ s t. s && t) refl
                (ap₂ (λ s t. s && t) (int_from (pos b.1.1.start) from) (ap₂ (λ s t. s && t) (int_below (pos b.1.1.start) to) (tests b)))))
                out (λ b. ap (λ (row : Row). (Int (pos b.1.1.start) ∷ Int (pos b.1.0) ∷ [], row)) (shows_it b)) order (untied uplink_start)
                (λ b c. ap₂ (λ u v. ordering_then u (ordering_then v Equal)) (value_cmp-Int (pos b.1.start) (pos c.1.start)) (value_cmp-Int (pos b.0) (pos c.0)))
                rows answer
                ∙ ap (λ l. map (λ (b : ℕ × Uplink). shows (shown b)) (sort_by order l))
                (filter_same _ _ (λ (b : ℕ × Uplink). same_pass r.sessions has.ten.in_range.sessions b.1) (zip_from 1 r.uplinks))
                ∙ sym (map-map shows shown _),
          )))
          (λ r has all is. sym (map-id all.items) ∙ is)

-- ---- those of a band

abbrev band_text : List ℕ
band_text = codes "SELECT uplink.start, uplink.airtime FROM session JOIN uplink ON uplink.session = session.number WHERE session.device = ?1 AND uplink.start >= ?2 AND uplink.start < ?3 AND uplink.band = ?4 ORDER BY uplink.start, uplink.number"

band_lookup : IsLookup band_text 4 (uplinks_asked (equal (col 2 8) (col 0 3) ∷ []) (col 2 6 ∷ col 2 7 ∷ []))
unfolding understood everything
band_lookup = record { names = _; compiled = _; means = refl; command = refl; plain = (refl, refl); whole = omega arith; given = refl; unlisted = refl }

pub reads_uplinks : (dev_eui : ℕ) → IsEui dev_eui → (band : Band) (from to : ℤ) {old new : State} {result : Result (Vec Interval Global) RowFault}
    → FindsAll band_text (eui dev_eui ∷ Int from ∷ Int to ∷ number (band_number band) ∷ []) old new (λ s. s) span_shown IsSpan result
    → ReadsRows old new result (λ r spans. spans.items ≡ spans_by interval_of (by_start (λ (u : Uplink). (interval_of u).start)) (is_uplink_of r.sessions dev_eui band from to) r.uplinks)
reads_uplinks dev_eui low band from to found = reads_range dev_eui low from to (number (band_number band) ∷ []) _ _
    (is_in_band band) (λ sessions. is_uplink_of sessions dev_eui band from to) (λ sessions u. refl) band_lookup refl refl
    (λ b. and_true _ ∙ number_equal (band_number b.1.1.band) (band_number band)) span_shown IsSpan (λ b. interval_of b.1) (λ b. refl)
    (λ b fits. (json_integer_start b.1.start fits.start, fits.airtime)) found

-- ---- all of them

pub reads_uplink_numbers : {sql : List ℕ} {names : List (List ℕ)} → AsksFor sql 3 uplinks_between_asked names → (dev_eui : ℕ) → IsEui dev_eui → (from to : ℤ)
    → {old new : State} {result : Result (Vec ℕ Global) RowFault}
    → FindsAll sql (eui dev_eui ∷ Int from ∷ Int to ∷ []) old new (λ n. n) (λ n. number n ∷ []) (λ n. Unit {0}) result
    → ReadsRows old new result (λ r numbers. numbers.items ≡ uplinks_listed dev_eui from to r)
reads_uplink_numbers means dev_eui low from to found = reads_range dev_eui low from to [] _ _
    (λ u. true) (λ sessions. is_uplink_between sessions dev_eui from to) (λ sessions u. and_true _) (lookup_is means) refl refl
    (λ b. refl) (λ n. number n ∷ []) (λ n. Unit {0}) (λ b. b.0) (λ b. refl) (λ b fits. tt) found
