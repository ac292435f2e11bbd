-- The greater of two numbers that may be missing.
use Rattle.std.proofs.Common.{◌≡◌, ℕ, Bool, true, false, cond, List, [], ◌∷◌, ◌++◌, map, filter, Option, Some, None, refl, ◌∙◌, ap, arith}
use Rattle.std.specs.Prelude.{max}
use Rattle.std.proofs.lemmas.List.{append-nil, map-append}
use Rattle.std.proofs.lemmas.List.Elements.{filter-append}
use Rattle.registry_core.specs.Numbered.{greatest}
use Rattle.std.specs.Option.{option_map_or}

abbrev pub greater_of : Option ℕ → Option ℕ → Option ℕ
greater_of None rest = rest
greater_of (Some n) rest = Some (option_map_or (max n) rest n)

-- it makes no difference with which one goes the one between
pub greater_of_between : (last : Option ℕ) (n : ℕ) (rest : Option ℕ)
    → greater_of last (Some (option_map_or (max n) rest n)) ≡ greater_of (Some (option_map_or (max n) last n)) rest
greater_of_between None n rest = refl
greater_of_between (Some l) n None = ap Some (grind arith)
greater_of_between (Some l) n (Some m) = ap Some (grind arith)

pub greater_of_none : (last : Option ℕ) → greater_of last None ≡ last
greater_of_none None = refl
greater_of_none (Some l) = refl

-- ---- of one item more

max_of_three : (m n : ℕ) (rest : Option ℕ) → max m (option_map_or (max n) rest n) ≡ max n (option_map_or (max m) rest m)
max_of_three m n None = grind arith
max_of_three m n (Some r) = grind arith

greatest_more : (ns : List ℕ) (n : ℕ) → greatest (ns ++ n ∷ []) ≡ Some (option_map_or (max n) (greatest ns) n)
greatest_more [] n = refl
greatest_more (m ∷ ns) n = ap (λ rest. Some (option_map_or (max m) rest m)) (greatest_more ns n) ∙ ap Some (max_of_three m n (greatest ns))

-- the greatest of those that pass a test, with one item more that passes or not
greatest_by : {X : Type 0} (f : X → ℕ) (kept : List X) (x : X) (b : Bool)
    → greatest (map f (kept ++ cond b (x ∷ []) [])) ≡ cond b (Some (option_map_or (max (f x)) (greatest (map f kept)) (f x))) (greatest (map f kept))
greatest_by f kept x true = ap greatest (map-append f kept (x ∷ [])) ∙ greatest_more (map f kept) (f x)
greatest_by f kept x false = ap (λ items. greatest (map f items)) (append-nil kept)

pub greatest-append : {X : Type 0} (f : X → ℕ) (p : X → Bool) (xs : List X) (x : X)
    → greatest (map f (filter p (xs ++ x ∷ []))) ≡ cond (p x) (Some (option_map_or (max (f x)) (greatest (map f (filter p xs))) (f x))) (greatest (map f (filter p xs)))
greatest-append f p xs x = ap (λ kept. greatest (map f kept)) (filter-append p xs (x ∷ [])) ∙ greatest_by f (filter p xs) x (p x)
