-- What is found in a list with one row more, or with its rows changed.
use Rattle.std.proofs.Common.{◌≡◌, Bool, true, false, cond, List, [], ◌∷◌, ◌++◌, map, find, Option, Some, None, option_map, is_some, refl, sym, ◌∙◌, ap, ap₂}
use Rattle.std.specs.Option.{option_or}
use Rattle.std.proofs.lemmas.List.Folds.{find-append}
use Rattle.sqlite_keyed.specs.Lists.{update_where}

-- ---- one row more

shown_by : {X V : Type 0} (show : X → V) (x : X) (b : Bool) (before : Option X) → (b ≡ true → before ≡ None)
    → option_map show (option_or before (cond b (Some x) None)) ≡ cond b (Some (show x)) (option_map show before)
shown_by show x true None free = refl
shown_by show x true (Some y) free = let no : Some y ≡ None = free refl in cc
shown_by show x false None free = refl
shown_by show x false (Some y) free = refl

-- what the row shows that is found, where the new row's key is free
pub shown_with : {X V : Type 0} (show : X → V) (p : X → Bool) (xs : List X) (x : X) → (p x ≡ true → find p xs ≡ None)
    → option_map show (find p (xs ++ x ∷ [])) ≡ cond (p x) (Some (show x)) (option_map show (find p xs))
shown_with show p xs x free = ap (option_map show) (find-append p xs (x ∷ [])) ∙ shown_by show x (p x) (find p xs) free

still_by : {X V : Type 0} (show : X → V) (before after : Option X) → is_some (option_map show before) ≡ true
    → is_some (option_map show (option_or before after)) ≡ true
still_by show None after is = let no : false ≡ true = is in cc
still_by show (Some y) after is = refl

-- what was found is found again
pub still_shown : {X V : Type 0} (show : X → V) (p : X → Bool) (xs ys : List X) → is_some (option_map show (find p xs)) ≡ true
    → is_some (option_map show (find p (xs ++ ys))) ≡ true
still_shown show p xs ys is = ap (λ found. is_some (option_map show found)) (find-append p xs ys) ∙ still_by show (find p xs) (find p ys) is

-- what shows nothing isn't there
pub none_shown : {X V : Type 0} (show : X → V) (found : Option X) → option_map show found ≡ None → found ≡ None
none_shown show None is = refl
none_shown show (Some x) is = cc

-- ---- rows changed

mapped_by : {X : Type 0} (g : X → X) (x : X) (b c : Bool) (found before : Option X) → b ≡ c → found ≡ option_map g before
    → cond b (Some (g x)) found ≡ option_map g (cond c (Some x) before)
mapped_by g x b true found before same rest = ap (λ d. cond d (Some (g x)) found) same
mapped_by g x b false found before same rest = ap (λ d. cond d (Some (g x)) found) same ∙ rest

-- a change that leaves the key
pub find-map : {X : Type 0} (p : X → Bool) (g : X → X) → ((x : X) → p (g x) ≡ p x) → (xs : List X) → find p (map g xs) ≡ option_map g (find p xs)
find-map p g same [] = refl
find-map p g same (x ∷ xs) = mapped_by g x (p (g x)) (p x) _ _ (same x) (find-map p g same xs)

passes_by : {X : Type 0} (p : X → Bool) (y x : X) (b : Bool) (rest : Option X) → p y ≡ b → (rest ≡ Some x → p x ≡ true) → cond b (Some y) rest ≡ Some x
    → p x ≡ true
passes_by p y x true rest here later is = let same : y ≡ x = cc in ap p (sym same) ∙ here
passes_by p y x false rest here later is = later is

-- what is found passes the test
pub found_passes : {X : Type 0} (p : X → Bool) (xs : List X) (x : X) → find p xs ≡ Some x → p x ≡ true
found_passes p [] x is = let no : None ≡ Some x = is in cc
found_passes p (y ∷ ys) x is = passes_by p y x (p y) (find p ys) refl (found_passes p ys x) is

-- a change of those that pass a test, which leaves their keys
module _ {X K : Type 0} (key : X → K) (test : X → Bool) (change : X → X) (stays : (x : X) → key (change x) ≡ key x) where
  pub key_by : (x : X) (b : Bool) → key (cond b (change x) x) ≡ key x
  key_by x true = stays x
  key_by x false = refl

  pub keys_changed : (xs : List X) → map key xs ≡ map key (update_where test change xs)
  keys_changed [] = refl
  keys_changed (x ∷ xs) = ap₂ (λ k ks. k ∷ ks) (sym (key_by x (test x))) (keys_changed xs)
