-- The router's walk over the rows of forms finds the first form that the path has, where the forms are distinct.
use Rattle.std.proofs.Common.{◌≡◌, ℕ, zero, suc, ◌+◌, ◌-◌, Bool, true, false, cond, ◌&&◌, ◌||◌, not, ◌==◌, List, [], ◌∷◌, ◌++◌, length, take, drop, get_or, Option, Some, None, refl, sym, ap, ◌∙◌, inl, inr, arith, true≢false, length-append, subst, Fits, w8}
use Rattle.std.proofs.lemmas.Bool.{and_parts, eqb-true, lt-ltb, not-true}
use Rattle.std.specs.List.{list_any}
use Rattle.std.specs.Prelude.{◌⊎◌, ltb, nat_eq, nat_lt}
use Rattle.std.specs.Cmp.Lexicographic.{pointwise}
use Rattle.matchit.specs.Rows.{RowsOf, param_token, catch_all_token}
use Rattle.matchit.proofs.RenameLemmas.{first-rename}
use Rattle.matchit.specs.Router.{map_key, rename}
use Rattle.matchit.specs.Seek.{first, seek, param_step, step, own, or_else, segment, has_slash, cuts, with_suffix}
use Rattle.desk_http.specs.Targets.{is_part, is_slash}
use Rattle.desk_http.specs.steps.Targets.{Form, Tail, nothing, one_part, two_parts, after_slash, before_slash, follows, is_tail, led}

-- no octet is a token of a parameter
abbrev pub AreOctets : List ℕ → Type 0
AreOctets [] = Unit {0}
AreOctets (c ∷ text) = ((param_token == c) ≡ false) × AreOctets text

cond-or : (a b : Bool) → cond a true b ≡ (a || b)
cond-or true b = refl
cond-or false b = refl

and-false : (a : Bool) → (a && false) ≡ false
and-false true = refl
and-false false = refl

pub or_false_parts : (a b : Bool) → (a || b) ≡ false → (a ≡ false) × (b ≡ false)
or_false_parts true b e = cc
or_false_parts false b e = (refl, e)

not_so : (b : Bool) → (b ≡ true → ⊥) → b ≡ false
not_so true f = absurd (f refl)
not_so false f = refl

pub take-one-more : (n c : ℕ) (text : List ℕ) → take (1 + n) (c ∷ text) ≡ c ∷ take n text
take-one-more n c text = let more : 1 + n ≡ suc n = omega arith in ap (λ m. take m (c ∷ text)) more

pub drop-one-more : (n c : ℕ) (text : List ℕ) → drop (1 + n + 1) (c ∷ text) ≡ drop (n + 1) text
drop-one-more n c text = let more : 1 + n + 1 ≡ suc (n + 1) = omega arith in ap (λ m. drop m (c ∷ text)) more

abbrev slash_if : Bool → List ℕ
slash_if t = cond t (47 ∷ []) []

both-none : {K : Type 0} (b : Bool) → let none : Option K = None in cond b none none ≡ none
both-none true = refl
both-none false = refl

sub-one-suc : (n : ℕ) → suc n - 1 ≡ n
sub-one-suc n = omega arith

pub AreOctets-from : (text : List ℕ) → ((i : ℕ) → Fits w8 (get_or text i 0)) → AreOctets text
AreOctets-from [] h = tt
AreOctets-from (c ∷ text) h =
    let small : Fits w8 c = h 0 in
    (not_so _ (λ t. let same : param_token ≡ c = eqb-true param_token c t in absurd (omega arith)), AreOctets-from text (λ i. h (suc i)))

AreOctets-back : (front back : List ℕ) → AreOctets (front ++ back) → AreOctets back
AreOctets-back [] back h = h
AreOctets-back (c ∷ front) back h = AreOctets-back front back h.1

-- ---- the walk

module _ {K : Type 0} where
  or_else-none : (o : Option K) → or_else o None ≡ o
  or_else-none None = refl
  or_else-none (Some k) = refl

  -- where a walk continues after a parameter: this many octets are skipped, with these rows
  abbrev after : ℕ × RowsOf K → List ℕ → Option K
  after r path = seek (r.0 - 1) r.1 path

  abbrev unless_slash : Bool → ℕ → RowsOf K → ℕ × RowsOf K
  unless_slash b n rs = cond b (0, []) (n, rs)

  -- one step of the walk
  seek-zero : (rs : RowsOf K) (c : ℕ) (path : List ℕ)
      → seek 0 rs (c ∷ path) ≡ or_else (seek 0 (step c rs) path) (or_else (after (param_step (step param_token rs) (c ∷ path)) path) (own (step catch_all_token rs)))
  unfolding seek
  seek-zero rs c path = refl

  seek-suc : (skip : ℕ) (rs : RowsOf K) (c : ℕ) (path : List ℕ) → seek (suc skip) rs (c ∷ path) ≡ seek skip rs path
  unfolding seek
  seek-suc skip rs c path = refl

  seek-nil : (skip : ℕ) (rs : RowsOf K) → seek skip rs [] ≡ own rs
  unfolding seek
  seek-nil skip rs = refl

  param-none : (path : List ℕ) → param_step [] path ≡ unless_slash (has_slash path) (length path) []
  unfolding param_step
  param-none path = refl

  after-none : (b : Bool) (n : ℕ) (path : List ℕ) → ((skip : ℕ) → seek {K = K} skip [] path ≡ None) → after (unless_slash b n []) path ≡ None
  after-none true n path none = none (0 - 1)
  after-none false n path none = none (n - 1)

  -- no rows have no route
  seek-none : (path : List ℕ) (skip : ℕ) → seek {K = K} skip [] path ≡ None
  seek-none [] skip = seek-nil skip []
  seek-none (c ∷ path) (suc skip) = seek-suc skip [] c path ∙ seek-none path skip
  seek-none (c ∷ path) zero =
      seek-zero [] c path
      ∙ rw (seek-none path 0, param-none (c ∷ path), after-none (has_slash (c ∷ path)) (length (c ∷ path)) path (seek-none path)) refl

  -- one octet more, where no row begins with a parameter
  seek-step : (rs : RowsOf K) (c : ℕ) (path : List ℕ) → step param_token rs ≡ [] → step catch_all_token rs ≡ [] → seek 0 rs (c ∷ path) ≡ seek 0 (step c rs) path
  seek-step rs c path p a =
      seek-zero rs c path
      ∙ rw (p, a, param-none (c ∷ path), after-none (has_slash (c ∷ path)) (length (c ∷ path)) path (seek-none path)) (or_else-none (seek 0 (step c rs) path))

  -- past octets that are skipped
  seek-skip : (rs : RowsOf K) (front path : List ℕ) → seek (length front) rs (front ++ path) ≡ seek 0 rs path
  seek-skip rs [] path = refl
  seek-skip rs (c ∷ front) path = seek-suc (length front) rs c (front ++ path) ∙ seek-skip rs front path

  seek-end : (rs : RowsOf K) (path : List ℕ) → seek (length path) rs path ≡ own rs
  seek-end rs [] = seek-nil 0 rs
  seek-end rs (c ∷ path) = seek-suc (length path) rs c path ∙ seek-end rs path

-- ---- parts of a path

-- the text is a front without a slash, a slash, and a back
pub record HasSlash (text front back : List ℕ) : Type 0 where
  pub text_is : text ≡ front ++ 47 ∷ back
  front_any : list_any is_slash front ≡ false
  segment_is : segment text ≡ front ++ 47 ∷ []
  pub before_is : before_slash text ≡ front
  pub after_is : after_slash text ≡ back

pub record NoSlash (text : List ℕ) : Type 0 where
  text_any : list_any is_slash text ≡ false
  segment_is : segment text ≡ text
  pub after_is : after_slash text ≡ []

abbrev pub Split : List ℕ → Type 0
Split text = NoSlash text ⊎ ((front back : List ℕ) × HasSlash text front back)

split-more : (c : ℕ) (text : List ℕ) (b : Bool) → (c == 47) ≡ b → Split text → Split (c ∷ text)
split-more c text true e rest =
    let same : c ≡ 47 = eqb-true c 47 e in
    inr (
      [],
      text,
      record {
        text_is = ap (λ x. x ∷ text) same;
        front_any = refl;
        segment_is = rw e (ap (λ x. x ∷ []) same);
        before_is = rw e refl;
        after_is = rw e refl;
      },
    )
split-more c text false e (inl none) = inl (record {
  text_any = rw e none.text_any;
  segment_is = rw e (ap (λ t. c ∷ t) none.segment_is);
  after_is = rw e (drop-one-more _ c text ∙ none.after_is);
})
split-more c text false e (inr some) = inr (
  c ∷ some.0,
  some.1,
  record {
    text_is = ap (λ t. c ∷ t) some.2.text_is;
    front_any = rw e some.2.front_any;
    segment_is = rw e (ap (λ t. c ∷ t) some.2.segment_is);
    before_is = rw e (take-one-more _ c text ∙ ap (λ t. c ∷ t) some.2.before_is);
    after_is = rw e (drop-one-more _ c text ∙ some.2.after_is);
  },
)

pub split : (text : List ℕ) → Split text
split [] = inl (record { text_any = refl; segment_is = refl; after_is = refl })
split (c ∷ text) = split-more c text (c == 47) refl (split text)

has_slash-any : (text : List ℕ) → has_slash text ≡ list_any is_slash text
has_slash-any [] = refl
has_slash-any (c ∷ text) = ap (λ b. cond (c == 47) true b) (has_slash-any text) ∙ cond-or (c == 47) (list_any is_slash text)

-- the last octet of a text without a slash is none
last-any : (text : List ℕ) → list_any is_slash text ≡ false → pointwise nat_eq (47 ∷ []) (drop (length text - 1) text) ≡ false
last-any [] none = refl
last-any (x ∷ []) none = not_so _ (λ t.
    let same : 47 ≡ x = eqb-true 47 x (and_parts _ _ t).0 in
    let bad : true ≡ false = rw (← same) at none in
    true≢false bad)
last-any (x ∷ y ∷ text) none =
    let less : length (x ∷ y ∷ text) - 1 ≡ suc (length (y ∷ text) - 1) = omega arith in
    rw less (last-any (y ∷ text) (or_false_parts (x == 47) _ none).1)

no-cuts : (text : List ℕ) → list_any is_slash text ≡ false → cuts text (47 ∷ []) ≡ false
no-cuts text none = rw (last-any text none) (and-false _)

last-front : (f : ℕ) (fs : List ℕ) → drop (length (f ∷ fs ++ 47 ∷ []) - 1) (f ∷ fs ++ 47 ∷ []) ≡ 47 ∷ []
last-front f [] = refl
last-front f (g ∷ fs) =
    let less : length (f ∷ g ∷ fs ++ 47 ∷ []) - 1 ≡ suc (length (g ∷ fs ++ 47 ∷ []) - 1) = omega arith in
    rw less (last-front g fs)

cuts-front : (f : ℕ) (fs : List ℕ) → cuts (f ∷ fs ++ 47 ∷ []) (47 ∷ []) ≡ true
cuts-front f fs =
    let long : nat_lt 1 (length (f ∷ fs ++ 47 ∷ [])) ≡ true = lt-ltb 1 _ (omega (arith, length-append fs (47 ∷ []))) in
    rw (long, last-front f fs) refl

-- ---- what comes after a front

abbrev tokens : Tail → List ℕ
tokens nothing = []
tokens one_part = param_token ∷ []
tokens two_parts = param_token ∷ 47 ∷ param_token ∷ []

module _ {K : Type 0} where
  param-end : (k : K) (path : List ℕ) → param_step (([], k) ∷ []) path ≡ unless_slash (has_slash path) (length path) (([], k) ∷ [])
  unfolding param_step
  param-end k path = refl

  after-slashes : (b : Bool) (n : ℕ) (rs : RowsOf K) (path : List ℕ) → after (unless_slash b n rs) path ≡ cond b None (after (n, rs) path)
  after-slashes true n rs path = seek-none path (0 - 1)
  after-slashes false n rs path = refl

  part-found : (b : Bool) (k : K) → cond b None (Some k) ≡ cond (not b) (Some k) None
  part-found true k = refl
  part-found false k = refl

  -- one part
  part-row : (k : K) (names : List ℕ) → AreOctets names → seek 0 ((param_token ∷ [], k) ∷ []) names ≡ cond (is_part names) (Some k) None
  part-row k [] octets = seek-nil 0 ((param_token ∷ [], k) ∷ [])
  part-row k (c ∷ names) octets =
      let rest : after (length (c ∷ names), ([], k) ∷ []) names ≡ Some k = ap (λ n. seek n (([], k) ∷ []) names) (sub-one-suc (length names)) ∙ seek-end (([], k) ∷ []) names in
      seek-zero ((param_token ∷ [], k) ∷ []) c names
      ∙ rw (octets.0, seek-none names 0, param-end k (c ∷ names), after-slashes (has_slash (c ∷ names)) (length (c ∷ names)) (([], k) ∷ []) names, rest) (or_else-none _)
      ∙ part-found (has_slash (c ∷ names)) k ∙ ap (λ b. cond (not b) (Some k) None) (has_slash-any (c ∷ names))

  -- what separates two parts, and the second of them
  abbrev slash_part : K → RowsOf K
  slash_part k = (47 ∷ param_token ∷ [], k) ∷ []

  param-parts : (k : K) (path : List ℕ) → param_step (slash_part k) path
      ≡ cond (cuts (segment path) (47 ∷ [])) (length (segment path) - 1, slash_part k) (unless_slash (has_slash path) (length path) (slash_part k))
  unfolding param_step
  param-parts k path = elim (cuts (segment path) (47 ∷ [])) as (λ t.
      cond {A = ℕ × RowsOf K} (ltb 0 (length (slash_if t))) (length (segment path) - length (slash_if t), with_suffix (slash_if t) (slash_part k)) (unless_slash (has_slash path) (length path) (slash_part k))
      ≡ cond t (length (segment path) - 1, slash_part k) (unless_slash (has_slash path) (length path) (slash_part k))) [ true ↦ refl | false ↦ refl ]

  -- no part ends before a slash
  parts-uncut : (k : K) (c : ℕ) (names : List ℕ) → cuts (segment (c ∷ names)) (47 ∷ []) ≡ false → after (param_step (slash_part k) (c ∷ names)) names ≡ None
  parts-uncut k c names uncut =
      let rest : after (length (c ∷ names), slash_part k) names ≡ None = ap (λ n. seek n (slash_part k) names) (sub-one-suc (length names)) ∙ seek-end (slash_part k) names in
      rw (param-parts k (c ∷ names), uncut, after-slashes (has_slash (c ∷ names)) (length (c ∷ names)) (slash_part k) names, rest) (both-none (has_slash (c ∷ names)))

  -- the first part ends before a slash
  parts-cut : (k : K) (c : ℕ) (names : List ℕ) (f : ℕ) (fs back : List ℕ) → HasSlash (c ∷ names) (f ∷ fs) back
      → after (param_step (slash_part k) (c ∷ names)) names ≡ seek 0 ((param_token ∷ [], k) ∷ []) back
  parts-cut k c names f fs back s =
      let tail : names ≡ fs ++ 47 ∷ back = cc (s.text_is) in
      let past_first : length (f ∷ fs ++ 47 ∷ []) - 1 - 1 ≡ length fs = omega (arith, length-append fs (47 ∷ [])) in
      rw (param-parts k (c ∷ names), s.segment_is, cuts-front f fs, past_first, tail)
      (seek-skip (slash_part k) fs (47 ∷ back) ∙ seek-step (slash_part k) 47 back refl refl)

  parts-split : (k : K) (c : ℕ) (names : List ℕ) → AreOctets (c ∷ names) → Split (c ∷ names)
      → after (param_step (slash_part k) (c ∷ names)) names ≡ cond (is_tail two_parts (c ∷ names)) (Some k) None
  parts-split k c names octets (inl none) =
      let uncut : cuts (segment (c ∷ names)) (47 ∷ []) ≡ false = rw none.segment_is (no-cuts (c ∷ names) none.text_any) in
      parts-uncut k c names uncut ∙ rw (none.after_is, and-false (is_part (before_slash (c ∷ names)))) refl
  parts-split k c names octets (inr ([], back, s)) =
      let uncut : cuts (segment (c ∷ names)) (47 ∷ []) ≡ false = rw s.segment_is refl in
      parts-uncut k c names uncut ∙ rw s.before_is refl
  parts-split k c names octets (inr (f ∷ fs, back, s)) =
      let all : AreOctets ((f ∷ fs) ++ 47 ∷ back) = subst AreOctets s.text_is octets in
      let first : is_part (f ∷ fs) ≡ true = ap not s.front_any in
      parts-cut k c names f fs back s ∙ part-row k back (AreOctets-back (f ∷ fs) (47 ∷ back) all).1
      ∙ rw (s.before_is, s.after_is, first) refl

  -- two parts, and a slash between them
  parts-row : (k : K) (names : List ℕ) → AreOctets names → seek 0 ((tokens two_parts, k) ∷ []) names ≡ cond (is_tail two_parts names) (Some k) None
  parts-row k [] octets = seek-nil 0 ((tokens two_parts, k) ∷ [])
  parts-row k (c ∷ names) octets =
      seek-zero ((tokens two_parts, k) ∷ []) c names ∙ rw (octets.0, seek-none names 0) (or_else-none _)
      ∙ parts-split k c names octets (split (c ∷ names))

-- ---- forms

abbrev is_literal : List ℕ → Bool
is_literal [] = true
is_literal (x ∷ front) = not (x == param_token) && (not (x == catch_all_token) && is_literal front)

-- neither begins the other
abbrev are_apart : List ℕ → List ℕ → Bool
are_apart [] other = false
are_apart (x ∷ key) [] = false
are_apart (x ∷ key) (y ∷ other) = cond (y == x) (are_apart key other) true

-- By what forms differ: the front, and where nothing comes then, that it ends there.
abbrev key_of : List ℕ → Tail → List ℕ
key_of [] nothing = catch_all_token ∷ []
key_of [] one_part = []
key_of [] two_parts = []
key_of (x ∷ front) tail = x ∷ key_of front tail

module _ {K : Type 0} where
  abbrev all_apart : List ℕ → List (Form K) → Bool
  all_apart key [] = true
  all_apart key ((front, tail, k) ∷ forms) = are_apart key (key_of front tail) && all_apart key forms

  -- The fronts are literal, and no path has two of the forms. A front may begin another's if nothing comes after it.
  abbrev pub are_distinct : List (Form K) → Bool
  are_distinct [] = true
  are_distinct ((front, tail, k) ∷ forms) = is_literal front && (all_apart (key_of front tail) forms && are_distinct forms)

  abbrev pub rows : List (Form K) → RowsOf K
  rows [] = []
  rows ((front, tail, k) ∷ forms) = (front ++ tokens tail, k) ∷ rows forms

  -- the forms whose fronts go on with this octet, with the octet gone
  abbrev stepped : ℕ → List (Form K) → List (Form K)
  stepped c [] = []
  stepped c (([], tail, k) ∷ forms) = stepped c forms
  stepped c ((x ∷ front, tail, k) ∷ forms) = cond (x == c) ((front, tail, k) ∷ stepped c forms) (stepped c forms)

  step-rows : (c : ℕ) → (param_token == c) ≡ false → (forms : List (Form K)) → step c (rows forms) ≡ rows (stepped c forms)
  step-rows c octet [] = refl
  step-rows c octet (([], nothing, k) ∷ forms) = step-rows c octet forms
  step-rows c octet (([], one_part, k) ∷ forms) = rw octet (step-rows c octet forms)
  step-rows c octet (([], two_parts, k) ∷ forms) = rw octet (step-rows c octet forms)
  step-rows c octet ((x ∷ front, tail, k) ∷ forms) = elim (x == c) as (λ b.
      cond b ((front ++ tokens tail, k) ∷ step c (rows forms)) (step c (rows forms)) ≡ rows (cond b ((front, tail, k) ∷ stepped c forms) (stepped c forms)))
      [ true ↦ ap (λ r. (front ++ tokens tail, k) ∷ r) (step-rows c octet forms) | false ↦ step-rows c octet forms ]

  -- no part of a path begins here: each front goes on with an octet, or the path ends
  abbrev NoPart : List (Form K) → Type 0
  NoPart [] = Unit {0}
  NoPart (([], nothing, k) ∷ forms) = NoPart forms
  NoPart (([], one_part, k) ∷ forms) = ⊥
  NoPart (([], two_parts, k) ∷ forms) = ⊥
  NoPart ((x ∷ front, tail, k) ∷ forms) = ((x == param_token) ≡ false) × ((x == catch_all_token) ≡ false) × NoPart forms

  no-part : (x : ℕ) (key : List ℕ) (forms : List (Form K)) → all_apart (x ∷ key) forms ≡ true → are_distinct forms ≡ true → NoPart forms
  no-part x key [] apart distinct = tt
  no-part x key (([], nothing, k) ∷ forms) apart distinct = no-part x key forms (and_parts _ _ apart).1 (and_parts _ _ distinct).1
  no-part x key (([], one_part, k) ∷ forms) apart distinct = absurd (true≢false (sym apart))
  no-part x key (([], two_parts, k) ∷ forms) apart distinct = absurd (true≢false (sym apart))
  no-part x key ((y ∷ front, tail, k) ∷ forms) apart distinct =
      let parts = and_parts _ _ distinct in
      let literal = and_parts _ _ parts.0 in
      (not-true _ literal.0, not-true _ (and_parts _ _ literal.1).0, no-part x key forms (and_parts _ _ apart).1 (and_parts _ _ parts.1).1)

  step-tokens : (forms : List (Form K)) → NoPart forms → (step param_token (rows forms) ≡ []) × (step catch_all_token (rows forms) ≡ [])
  step-tokens [] none = (refl, refl)
  step-tokens (([], nothing, k) ∷ forms) none = step-tokens forms none
  step-tokens (([], one_part, k) ∷ forms) none = absurd none
  step-tokens (([], two_parts, k) ∷ forms) none = absurd none
  step-tokens ((x ∷ front, tail, k) ∷ forms) none = let rest = step-tokens forms none.2 in (rw none.0 rest.0, rw none.1 rest.1)

  led-stepped : (c : ℕ) (path : List ℕ) (forms : List (Form K)) → NoPart forms → led forms (c ∷ path) ≡ led (stepped c forms) path
  led-stepped c path [] none = refl
  led-stepped c path (([], nothing, k) ∷ forms) none = led-stepped c path forms none
  led-stepped c path (([], one_part, k) ∷ forms) none = absurd none
  led-stepped c path (([], two_parts, k) ∷ forms) none = absurd none
  led-stepped c path ((x ∷ front, tail, k) ∷ forms) none = elim (x == c) as (λ b.
      cond (b && follows front (is_tail tail) path) (Some k) (led forms (c ∷ path)) ≡ led (cond b ((front, tail, k) ∷ stepped c forms) (stepped c forms)) path)
      [ true ↦ ap (λ r. cond (follows front (is_tail tail) path) (Some k) r) (led-stepped c path forms none.2) | false ↦ led-stepped c path forms none.2 ]

  own-rows : (forms : List (Form K)) → own (rows forms) ≡ led forms []
  own-rows [] = refl
  own-rows (([], nothing, k) ∷ forms) = refl
  own-rows (([], one_part, k) ∷ forms) = own-rows forms
  own-rows (([], two_parts, k) ∷ forms) = own-rows forms
  own-rows ((x ∷ front, tail, k) ∷ forms) = own-rows forms

  apart-stepped : (x : ℕ) (key : List ℕ) (forms : List (Form K)) → all_apart (x ∷ key) forms ≡ true → all_apart key (stepped x forms) ≡ true
  apart-stepped x key [] apart = refl
  apart-stepped x key (([], tail, k) ∷ forms) apart = apart-stepped x key forms (and_parts (are_apart (x ∷ key) (key_of [] tail)) (all_apart (x ∷ key) forms) apart).1
  apart-stepped x key ((y ∷ front, tail, k) ∷ forms) apart = (elim (y == x) as (λ b.
      (cond b (are_apart key (key_of front tail)) true && all_apart (x ∷ key) forms) ≡ true → all_apart key (cond b ((front, tail, k) ∷ stepped x forms) (stepped x forms)) ≡ true) [
        | true ↦ λ both. let parts = and_parts (are_apart key (key_of front tail)) (all_apart (x ∷ key) forms) both in rw parts.0 (apart-stepped x key forms parts.1)
        | false ↦ λ rest. apart-stepped x key forms rest
      ]) apart

  distinct-stepped : (c : ℕ) (forms : List (Form K)) → are_distinct forms ≡ true → are_distinct (stepped c forms) ≡ true
  distinct-stepped c [] distinct = refl
  distinct-stepped c (([], tail, k) ∷ forms) distinct = distinct-stepped c forms (and_parts (all_apart (key_of [] tail) forms) (are_distinct forms) distinct).1
  distinct-stepped c ((x ∷ front, tail, k) ∷ forms) distinct =
      let parts = and_parts (is_literal (x ∷ front)) (all_apart (x ∷ key_of front tail) forms && are_distinct forms) distinct in
      let rest = and_parts (all_apart (x ∷ key_of front tail) forms) (are_distinct forms) parts.1 in
      let literal = and_parts _ _ (and_parts _ _ parts.0).1 in
      by (x == c) refl literal.1 (apart-stepped x (key_of front tail) forms rest.0) (distinct-stepped c forms rest.1)
    where
      by : (b : Bool) → (x == c) ≡ b → is_literal front ≡ true → all_apart (key_of front tail) (stepped x forms) ≡ true → are_distinct (stepped c forms) ≡ true
          → are_distinct (cond b ((front, tail, k) ∷ stepped c forms) (stepped c forms)) ≡ true
      by false e literal apart rest = rest
      by true e literal apart rest = rw (literal, subst (λ o. all_apart (key_of front tail) (stepped o forms) ≡ true) (eqb-true x c e) apart) rest

  -- one octet more, where no part begins
  onward : (c : ℕ) (path : List ℕ) (forms : List (Form K)) → (param_token == c) ≡ false → NoPart forms
      → seek 0 (rows (stepped c forms)) path ≡ led (stepped c forms) path → seek 0 (rows forms) (c ∷ path) ≡ led forms (c ∷ path)
  onward c path forms octet none rest =
      let tokens = step-tokens forms none in
      seek-step (rows forms) c path tokens.0 tokens.1 ∙ ap (λ r. seek 0 r path) (step-rows c octet forms) ∙ rest ∙ sym (led-stepped c path forms none)

  -- the walk over the rows of forms finds the first form that the path has
  pub walk : (path : List ℕ) (forms : List (Form K)) → are_distinct forms ≡ true → AreOctets path → seek 0 (rows forms) path ≡ led forms path
  walk [] forms distinct octets = seek-nil 0 (rows forms) ∙ own-rows forms
  walk (c ∷ path) [] distinct octets = seek-none (c ∷ path) 0
  walk (c ∷ path) (([], one_part, k) ∷ []) distinct octets = part-row k (c ∷ path) octets
  walk (c ∷ path) (([], one_part, k) ∷ other ∷ forms) distinct octets = absurd (true≢false (sym distinct))
  walk (c ∷ path) (([], two_parts, k) ∷ []) distinct octets = parts-row k (c ∷ path) octets
  walk (c ∷ path) (([], two_parts, k) ∷ other ∷ forms) distinct octets = absurd (true≢false (sym distinct))
  walk (c ∷ path) (([], nothing, k) ∷ forms) distinct octets =
      let all : List (Form K) = ([], nothing, k) ∷ forms in
      let rest = and_parts (all_apart (catch_all_token ∷ []) forms) (are_distinct forms) distinct in
      onward c path all octets.0 (no-part catch_all_token [] forms rest.0 rest.1) (walk path (stepped c all) (distinct-stepped c all distinct) octets.1)
  walk (c ∷ path) ((x ∷ front, tail, k) ∷ forms) distinct octets =
      let all : List (Form K) = (x ∷ front, tail, k) ∷ forms in
      let parts = and_parts (is_literal (x ∷ front)) (all_apart (x ∷ key_of front tail) forms && are_distinct forms) distinct in
      let literal = and_parts _ _ parts.0 in
      let rest = and_parts (all_apart (x ∷ key_of front tail) forms) (are_distinct forms) parts.1 in
      let none : NoPart all = (not-true _ literal.0, not-true _ (and_parts _ _ literal.1).0, no-part x (key_of front tail) forms rest.0 rest.1) in
      onward c path all octets.0 none (walk path (stepped c all) (distinct-stepped c all distinct) octets.1)

-- what the router finds under other keys is what the path leads to by the forms of its rows
pub routed : {K V : Type 0} (f : K → V) (rs : RowsOf K) (forms : List (Form V)) → rename f rs ≡ rows forms → are_distinct forms ≡ true
    → (path : List ℕ) → AreOctets path → (found : Option K) → first rs path ≡ found → map_key f found ≡ led forms path
routed f rs forms are distinct path octets found is =
    ap (map_key f) (sym is) ∙ sym (first-rename f rs path) ∙ ap (λ r. first r path) are ∙ walk path forms distinct octets
