-- Lists that are compared item by item.
use Rattle.std.proofs.Common.{List, [], ◌∷◌, map, Option, ap}
use Rattle.std.specs.Iterator.{AlwaysYields}
use Rattle.std.proofs.lemmas.Iterator.{YieldsList}

module _ {S A B C : Type 0} (steps : S → Option A → S → Type 0) (v : A → B) (f : B → C) where
  always_shaped : (ys : List B) (s : S) → AlwaysYields steps v s ys → AlwaysYields steps (λ a. f (v a)) s (map f ys)
  always_shaped [] s e = e
  always_shaped (y ∷ ys) s e = (e.0, λ x j p. let m = e.1 x j p in (ap f m.0, always_shaped ys j m.1))

-- items that are each seen as what they represent
pub shaped_list : {S A B C : Type 0} {steps : S → Option A → S → Type 0} {v : A → B} {s : S} {ys : List B} (f : B → C)
    → YieldsList steps v s ys → YieldsList steps (λ a. f (v a)) s (map f ys)
shaped_list {steps = steps} {v = v} {s} {ys} f e = record { runs = always_shaped steps v f ys s e.runs }
