-- One more session is linked to its device's session before it.
use Rattle.std.proofs.Common.{◌≡◌, ℕ, zero, suc, ◌+◌, ◌<◌, ◌≤◌, Bool, true, false, cond, List, [], ◌∷◌, ◌++◌, length, map, slice_get, Option, Some, None, refl, sym, ◌∙◌, ap, subst, arith, inl, inr, length-append}
use Rattle.std.specs.Prelude.{max, nat_eq, ◌==◌}
use Rattle.std.specs.Option.{option_map_or, unwrap_or}
use Rattle.std.proofs.lemmas.Bool.{cases_lt, eqb-true}
use Rattle.std.proofs.lemmas.List.{length-map, map-append}
use Rattle.std.proofs.lemmas.Option.{slice_get_past}
use Rattle.registry_core.specs.declared.facts.Session.{Session}
use Rattle.registry_core.specs.Derived.{is_of_device, is_session_of, last_nonce}
use Rattle.registry_core.specs.Numbered.{item_at}
use Rattle.desk_store.specs.declared.sessions.Link.{Link}
use Rattle.desk_store.specs.steps.Sessions.{sessions_of}
use Rattle.desk_store.specs.steps.Sessions.{greatest_below, latest_before, latest_of, same_before, AreLinked}
use Rattle.desk_store.proofs.Greatest.{greatest-append}

-- ---- items of a list with one item more

slice_get-append : {X : Type 0} (xs : List X) (x : X) (place : ℕ) → place < length xs → slice_get (xs ++ x ∷ []) place ≡ slice_get xs place
slice_get-append [] x place within = absurd (omega arith)
slice_get-append (y ∷ ys) x zero within = refl
slice_get-append (y ∷ ys) x (suc place) within = slice_get-append ys x place (omega arith)

pub item_at-append : {X : Type 0} (xs : List X) (x : X) (n : ℕ) → n ≤ length xs → item_at (xs ++ x ∷ []) n ≡ item_at xs n
item_at-append xs x zero within = refl
item_at-append xs x (suc n) within = slice_get-append xs x n (omega arith)

pub item_at_last : {X : Type 0} (xs : List X) (x : X) → slice_get (xs ++ x ∷ []) (length xs) ≡ Some x
item_at_last [] x = refl
item_at_last (y ∷ ys) x = item_at_last ys x

pub item_at_past : {X : Type 0} (xs : List X) (n : ℕ) → length xs < n → item_at xs n ≡ None
item_at_past xs zero past = refl
item_at_past xs (suc n) past = slice_get_past xs n (omega arith)

pub item_at-map : {X Y : Type 0} (f : X → Y) (xs : List X) (n : ℕ) (x : X) → item_at xs n ≡ Some x → item_at (map f xs) n ≡ Some (f x)
item_at-map f xs zero x is = let no : ⊥ = cc in absurd no
item_at-map f xs (suc n) x is = by xs n is
  where
    by : (ys : List _) (m : ℕ) → slice_get ys m ≡ Some x → slice_get (map f ys) m ≡ Some (f x)
    by [] m at_m = let no : ⊥ = cc in absurd no
    by (y ∷ ys) zero at_m = let same : y ≡ x = cc in ap (λ z. Some (f z)) same
    by (y ∷ ys) (suc m) at_m = by ys m at_m

-- ---- a device's latest session

greatest_below_same : (p q : ℕ → Bool) (n : ℕ) → ((k : ℕ) → k < n → p k ≡ q k) → greatest_below p n ≡ greatest_below q n
greatest_below_same p q zero same = refl
greatest_below_same p q (suc n) same =
    let here : p n ≡ q n = same n (omega arith) in
    let below : greatest_below p n ≡ greatest_below q n = greatest_below_same p q n (λ k less. same k (omega arith)) in
    ap (λ b. cond b n (greatest_below p n)) here ∙ ap (λ m. cond (q n) n m) below

module _ (sessions : List Session) (session : Session) where
  is_of_device-append : (dev_eui n : ℕ) → n ≤ length sessions → is_of_device (sessions ++ session ∷ []) dev_eui n ≡ is_of_device sessions dev_eui n
  is_of_device-append dev_eui n within = ap (λ found. option_map_or (is_session_of dev_eui) found false) (item_at-append sessions session n within)

  latest_before-append : (dev_eui n : ℕ) → n ≤ length sessions + 1 → latest_before (sessions ++ session ∷ []) dev_eui n ≡ latest_before sessions dev_eui n
  latest_before-append dev_eui n within = greatest_below_same _ _ n (λ k less. is_of_device-append dev_eui k (omega arith))

  is_of_device_last : (dev_eui : ℕ) → is_of_device (sessions ++ session ∷ []) dev_eui (suc (length sessions)) ≡ (session.device == dev_eui)
  is_of_device_last dev_eui = ap (λ found. option_map_or (is_session_of dev_eui) found false) (item_at_last sessions session)

  latest_of-append : (dev_eui : ℕ) → latest_of (sessions ++ session ∷ []) dev_eui ≡ cond (session.device == dev_eui) (length sessions + 1) (latest_of sessions dev_eui)
  latest_of-append dev_eui =
      let more : length (sessions ++ session ∷ []) + 1 ≡ suc (suc (length sessions)) = omega (arith, length-append sessions (session ∷ [])) in
      let one : length sessions + 1 ≡ suc (length sessions) = omega arith in
      ap (greatest_below (is_of_device (sessions ++ session ∷ []) dev_eui)) more
      ∙ ap (λ b. cond b (suc (length sessions)) (latest_before (sessions ++ session ∷ []) dev_eui (suc (length sessions)))) (is_of_device_last dev_eui)
      ∙ ap (λ n. cond (session.device == dev_eui) n (latest_before (sessions ++ session ∷ []) dev_eui n)) (sym one)
      ∙ ap (cond (session.device == dev_eui) (length sessions + 1)) (latest_before-append dev_eui (length sessions + 1) (omega arith))

  same_before_by : (n : ℕ) (found : Option Session) → n ≤ length sessions
      → option_map_or (λ (s : Session). latest_before (sessions ++ session ∷ []) s.device n) found 0 ≡ option_map_or (λ (s : Session). latest_before sessions s.device n) found 0
  same_before_by n None within = refl
  same_before_by n (Some s) within = latest_before-append s.device n (omega arith)

  same_before-append : (n : ℕ) → n ≤ length sessions → same_before (sessions ++ session ∷ []) n ≡ same_before sessions n
  same_before-append n within =
      ap (λ found. option_map_or (λ (s : Session). latest_before (sessions ++ session ∷ []) s.device n) found 0) (item_at-append sessions session n within)
      ∙ same_before_by n (item_at sessions n) within

  same_before_last : same_before (sessions ++ session ∷ []) (suc (length sessions)) ≡ latest_of sessions session.device
  same_before_last =
      let one : suc (length sessions) ≡ length sessions + 1 = omega arith in
      ap (λ found. option_map_or (λ (s : Session). latest_before (sessions ++ session ∷ []) s.device (suc (length sessions))) found 0) (item_at_last sessions session)
      ∙ ap (latest_before (sessions ++ session ∷ []) session.device) one
      ∙ latest_before-append session.device (length sessions + 1) (omega arith)

  same_before_past : (n : ℕ) → suc (length sessions) < n → same_before (sessions ++ session ∷ []) n ≡ 0
  same_before_past n past =
      let far : length (sessions ++ session ∷ []) < n = omega (arith, length-append sessions (session ∷ [])) in
      ap (λ found. option_map_or (λ (s : Session). latest_before (sessions ++ session ∷ []) s.device n) found 0) (item_at_past (sessions ++ session ∷ []) n far)

-- ---- links with one link more

module _ (links : List Link) (link : Link) where
  sessions_of-append : sessions_of (links ++ link ∷ []) ≡ sessions_of links ++ link.session ∷ []
  sessions_of-append = map-append (λ (l : Link). l.session) links (link ∷ [])

  as_many : length (sessions_of links) ≡ length links
  as_many = length-map links (λ (l : Link). l.session)

  module _ (latest nonces : ℕ → Option ℕ) (was : AreLinked links latest nonces) (before : link.before ≡ unwrap_or (latest link.session.device) 0) where
    links_before : ℕ → Type 0
    links_before n = option_map_or (λ (l : Link). l.before) (item_at (links ++ link ∷ []) n) 0 ≡ same_before (sessions_of links ++ link.session ∷ []) n

    before_within : (n : ℕ) → n ≤ length links → links_before n
    unfolding links_before
    before_within n within =
        let fewer : n ≤ length (sessions_of links) = omega (arith, as_many) in
        ap (λ found. option_map_or (λ (l : Link). l.before) found 0) (item_at-append links link n within)
        ∙ was.before n ∙ sym (same_before-append (sessions_of links) link.session n fewer)

    before_last : links_before (suc (length links))
    unfolding links_before
    before_last =
        let many : suc (length (sessions_of links)) ≡ suc (length links) = omega (arith, as_many) in
        ap (λ found. option_map_or (λ (l : Link). l.before) found 0) (item_at_last links link)
        ∙ before ∙ was.last link.session.device ∙ sym (same_before_last (sessions_of links) link.session)
        ∙ ap (same_before (sessions_of links ++ link.session ∷ [])) many

    before_past : (n : ℕ) → suc (length links) < n → links_before n
    unfolding links_before
    before_past n past =
        let far : length (links ++ link ∷ []) < n = omega (arith, length-append links (link ∷ [])) in
        let many : suc (length (sessions_of links)) < n = omega (arith, as_many) in
        ap (λ found. option_map_or (λ (l : Link). l.before) found 0) (item_at_past (links ++ link ∷ []) n far)
        ∙ sym (same_before_past (sessions_of links) link.session n many)

    before_each : (n : ℕ) → links_before n
    before_each n = elim (cases_lt (length links) n) [
      | inl more ↦ elim (cases_lt (suc (length links)) n) [
        | inl past ↦ before_past n past
        | inr last ↦ let same : suc (length links) ≡ n = omega arith in let P : ℕ → Type 0 = links_before in subst P same before_last
      ]
      | inr within ↦ before_within n within
    ]

    last_by : (dev_eui : ℕ) (b : Bool) → unwrap_or (cond b (Some (length links + 1)) (latest dev_eui)) 0 ≡ cond b (length links + 1) (unwrap_or (latest dev_eui) 0)
    last_by dev_eui true = refl
    last_by dev_eui false = refl

    nonce_by : (dev_eui : ℕ) (b : Bool) → (link.session.device == dev_eui) ≡ b
        → cond b (Some (option_map_or (max link.session.nonce) (nonces link.session.device) link.session.nonce)) (nonces dev_eui)
        ≡ cond b (Some (option_map_or (max link.session.nonce) (nonces dev_eui) link.session.nonce)) (nonces dev_eui)
    nonce_by dev_eui true is = ap (λ d. Some (option_map_or (max link.session.nonce) (nonces d) link.session.nonce)) (eqb-true link.session.device dev_eui is)
    nonce_by dev_eui false is = refl

    pub linked_more : (latest' nonces' : ℕ → Option ℕ)
        → ((dev_eui : ℕ) → latest' dev_eui ≡ cond (nat_eq link.session.device dev_eui) (Some (length links + 1)) (latest dev_eui))
        → ((dev_eui : ℕ) → nonces' dev_eui ≡ cond (nat_eq link.session.device dev_eui) (Some (option_map_or (max link.session.nonce) (nonces link.session.device) link.session.nonce)) (nonces dev_eui))
        → AreLinked (links ++ link ∷ []) latest' nonces'
    unfolding links_before
    linked_more latest' nonces' last nonce = record {
      before = λ n. before_each n ∙ ap (λ sessions. same_before sessions n) (sym sessions_of-append);
      last = λ dev_eui. ap (λ found. unwrap_or found 0) (last dev_eui) ∙ last_by dev_eui (link.session.device == dev_eui)
          ∙ ap (cond (link.session.device == dev_eui) (length links + 1)) (was.last dev_eui)
          ∙ ap (λ n. cond (link.session.device == dev_eui) (n + 1) (latest_of (sessions_of links) dev_eui)) (sym as_many)
          ∙ sym (latest_of-append (sessions_of links) link.session dev_eui)
          ∙ ap (λ sessions. latest_of sessions dev_eui) (sym sessions_of-append);
      nonce = λ dev_eui. nonce dev_eui ∙ nonce_by dev_eui (link.session.device == dev_eui) refl
          ∙ ap (λ found. cond (link.session.device == dev_eui) (Some (option_map_or (max link.session.nonce) found link.session.nonce)) found) (was.nonce dev_eui)
          ∙ sym (greatest-append (λ (s : Session). s.nonce) (is_session_of dev_eui) (sessions_of links) link.session)
          ∙ ap (λ sessions. last_nonce sessions dev_eui) (sym sessions_of-append);
    }
