-- The look-up of the numbers of a device's sessions.
use Rattle.std.proofs.Common.{◌≡◌, ℕ, ◌+◌, Bool, true, false, cond, List, [], ◌∷◌, map, filter, Vec, Result, refl, sym, ap, ◌∙◌, map-id}
use Rattle.std.specs.declared.alloc.Global.{Global}
use Rattle.std.specs.List.{AllByRecursion}
use Rattle.sqlite.specs.Program.{overlay}
use Rattle.sqlite.specs.State.{State}
use Rattle.sqlite_trees.proofs.ListLemmas.{map-map}
use Rattle.registry_core.specs.Derived.{is_session_of}
use Rattle.registry_core.specs.Listing.{numbers_from, sessions_of}
use Rattle.registry_core.specs.Ranges.{IsEui}
use Rattle.desk_rows.specs.Calls.{ReadsRows}
use Rattle.desk_rows.specs.Rows.{IsSession, SessionRow, eui, number, session_cells}
use Rattle.desk_rows.specs.order.Facts.{sessions_in}
use Rattle.desk_rows.specs.steps.Latest.{sessions_asked}
use Rattle.desk_rows.specs.steps.Queries.{FindsAll}
use Rattle.desk_rows.specs.steps.Texts.{AsksFor}
use Rattle.desk_rows.specs.declared.faults.RowFault.{RowFault}
use Rattle.desk_rows.proofs.Lookups.{says_so}
use Rattle.desk_rows.proofs.Ordered.{every, rows_by_rowid, zip_from}
use Rattle.desk_rows.proofs.Ranges.{reads_all}
use Rattle.desk_rows.proofs.StatementTexts.{lookup_is}
use Rattle.desk_rows.proofs.Terms.{and_true, eui_equal, same}

-- the numbers of rows that pass a test are those of the items that they show, if these pass alike
numbers_alike : {X Y : Type 0} (f : X → Y) (P : X → Type 0) (p : X → Bool) (q : Y → Bool) → ((x : X) → P x → p x ≡ q (f x)) → (n : ℕ) (xs : List X) → AllByRecursion P xs
    → map (λ (b : ℕ × X). b.0) (filter (λ b. p b.1) (zip_from n xs)) ≡ numbers_from n q (map f xs)
numbers_alike f P p q alike n [] all = refl
numbers_alike {X} f P p q alike n (x ∷ xs) all = ap (λ t. numbers t) (alike x all.0) ∙ go (q (f x)) (numbers_alike f P p q alike (n + 1) xs all.1)
  where
    numbers : Bool → List ℕ
    numbers t = map (λ (b : ℕ × X). b.0) (cond t ((n, x) ∷ filter (λ b. p b.1) (zip_from (n + 1) xs)) (filter (λ b. p b.1) (zip_from (n + 1) xs)))

    go : (t : Bool) → map (λ (b : ℕ × X). b.0) (filter (λ b. p b.1) (zip_from (n + 1) xs)) ≡ numbers_from (n + 1) q (map f xs)
        → numbers t ≡ cond t (n ∷ numbers_from (n + 1) q (map f xs)) (numbers_from (n + 1) q (map f xs))
    go true later = ap (λ ns. n ∷ ns) later
    go false later = later

abbrev of_device : ℕ → SessionRow → Bool
of_device device s = same (eui s.session.device) (eui device)

pub reads_sessions : {sql : List ℕ} {names : List (List ℕ)} → AsksFor sql 1 sessions_asked names → {old new : State} (device : ℕ) → IsEui device
    → {result : Result (Vec ℕ Global) RowFault} → FindsAll sql (eui device ∷ []) old new (λ n. n) (λ n. number n ∷ []) (λ n. Unit {0}) result
    → ReadsRows old new result (λ r numbers. numbers.items ≡ sessions_of (sessions_in r.sessions) device)
reads_sessions {sql} {names} means {old} device in_range found = says_so
    (reads_all {a = sessions_asked} (lookup_is {names = names} means) (eui device ∷ []) refl refl found (λ r. map (λ (b : ℕ × SessionRow). b.0) (filter (λ b. of_device device b.1) (zip_from 1 r.sessions)))
    (λ r has. (
      every _,
      λ rows answer. rows_by_rowid sessions_asked (overlay old.now.trees []) session_cells r.sessions has.ten.session (eui device ∷ [])
          (λ b. of_device device b.1) (λ b. and_true (of_device device b.1)) (λ b. number b.0 ∷ []) (λ b. refl) refl rows answer
          ∙ sym (map-map (λ n. number n ∷ []) (λ (b : ℕ × SessionRow). b.0) (filter (λ b. of_device device b.1) (zip_from 1 r.sessions))),
    )))
    (λ r has numbers is. sym (map-id numbers.items) ∙ is ∙ numbers_alike (λ (s : SessionRow). s.session) IsSession (of_device device) (is_session_of device)
    (λ s fits. eui_equal s.session.device device fits.device in_range) 1 r.sessions has.ten.in_range.sessions)
