-- The sweep's invariant, in naturals: heights of marks give the use of an hour.
use Rattle.std.proofs.Common.{◌≡◌, ℕ, zero, suc, ◌+◌, ◌-◌, ◌*◌, ◌^◌, ◌≤◌, ◌<◌, refl, arith, ap, subst, ◌∙◌, List, [], ◌∷◌, length, get_or, take, sym, add-one, add-zero, add_assoc, below_more}
use Rattle.std.specs.Prelude.{ℤ, pos, ◌+ℤ◌, ◌≤ℤ◌, ◌<ℤ◌, sum_by}
use Rattle.std.proofs.lemmas.List.{take_all, get_or_read}
use Rattle.std.proofs.Math.Nat.{mul-le-mul_left}
use Rattle.std.proofs.lemmas.List.Sums.{sum_by-cons, sum_by_more}
use Rattle.std.proofs.lemmas.Int.{ints}
use borrow.Author.Differences.{up, down}
use Rattle.duty_core.specs.Use.{Interval, end_of, count_between, shared_count, hour, hour_from, use_of}
use Rattle.duty_core.specs.declared.marks.Edge.{Edge}
use Rattle.duty_core.specs.declared.marks.Edge.TheVariants.{Start, End}
use Rattle.duty_core.specs.steps.Marks.{edge_of, IsRising, first_place, distance_to, height_of, IsMark, HasPassedAll}
use Rattle.duty_core.proofs.Counting.{lap_is, between_is}
use Rattle.duty_core.proofs.Edges.{use_cons}

-- ---- heights give uses

used_one : (a : Interval) (t : ℤ) → shared_count a (hour_from t) + count_between (end_of a) (t +ℤ pos hour) + count_between a.start t ≡ count_between a.start (t +ℤ pos hour) + count_between (end_of a) t
used_one a t =
    omega (arith, ints, lap_is a t hour (up a.start + down t) (up t + down a.start) (omega arith), between_is (end_of a) (t +ℤ pos hour), between_is a.start t, between_is a.start (t +ℤ pos hour), between_is (end_of a) t)

height_cons : (edge : Edge) (a : Interval) (l : List Interval) (x : ℤ) → height_of edge (a ∷ l) x ≡ count_between (edge_of edge a) x + height_of edge l x
height_cons edge a l x = sum_by-cons (λ a. count_between (edge_of edge a) x) a l

pub use_from_heights : (l : List Interval) (t : ℤ) → use_of l t + height_of End l (t +ℤ pos hour) + height_of Start l t ≡ height_of Start l (t +ℤ pos hour) + height_of End l t
use_from_heights [] t = refl
use_from_heights (a ∷ l) t =
    omega (arith, use_cons a l t, height_cons End a l (t +ℤ pos hour), height_cons Start a l t, height_cons Start a l (t +ℤ pos hour), height_cons End a l t, used_one a t, use_from_heights l t)

-- ---- a mark gives a height

placed : (z x : ℤ) → first_place ≤ℤ z → z ≤ℤ x → count_between z x + distance_to z ≡ distance_to x
placed z x h k = omega (arith, ints, between_is z x, between_is first_place z, between_is first_place x)

-- over the first k edges
pub height_of_passed : (edge : Edge) (l : List Interval) (x : ℤ) (d : Interval) (p k : ℕ) → k ≤ p → p ≤ length l
    → ((k : ℕ) (d : Interval) → k < p → first_place ≤ℤ edge_of edge (get_or l k d))
    → ((k : ℕ) (d : Interval) → k < p → edge_of edge (get_or l k d) ≤ℤ x)
    → height_of edge (take k l) x + sum_by (λ a. distance_to (edge_of edge a)) (take k l) ≡ k * distance_to x
height_of_passed edge l x d p zero h w least most = omega arith
height_of_passed edge l x d p (suc k) h w least most =
    omega (
      arith,
      ap (λ n. height_of edge (take n l) x) (add-one k),
      ap (λ n. sum_by (λ a. distance_to (edge_of edge a)) (take n l)) (add-one k),
      sum_by_more (λ a. count_between (edge_of edge a) x) l k d (omega (arith, h, w)),
      sum_by_more (λ a. distance_to (edge_of edge a)) l k d (omega (arith, h, w)),
      placed (edge_of edge (get_or l k d)) x (least k d (omega (arith, h))) (most k d (omega (arith, h))),
      height_of_passed edge l x d p k (omega (arith, h)) w least most,
    )

after : (edge : Edge) (l : List Interval) (x : ℤ) (d : Interval) (p n : ℕ) → p + n < length l
    → HasPassedAll edge l p x → IsRising edge l
    → x <ℤ edge_of edge (get_or l (p + n) d)
after edge l x d p zero h stop rising = rw add-zero (stop d (omega (arith, h)))
after edge l x d p (suc n) h stop rising =
    subst (λ k. x <ℤ edge_of edge (get_or l k d)) (add_assoc p n 1 ∙ ap (λ k. p + k) (add-one n))
    (omega (arith, ints, after edge l x d p n (omega (arith, h)) stop rising, rising (p + n) d (omega (arith, h))))

none_before : (z x : ℤ) → x <ℤ z → count_between z x ≡ 0
none_before z x h = omega (arith, ints, between_is z x)

-- the others have none
pub height_of_others : (edge : Edge) (l : List Interval) (x : ℤ) (d : Interval) (p n : ℕ) → p + n ≤ length l
    → HasPassedAll edge l p x → IsRising edge l
    → height_of edge (take (p + n) l) x ≡ height_of edge (take p l) x
height_of_others edge l x d p zero h stop rising = ap (λ n. height_of edge (take n l) x) (add-zero p)
height_of_others edge l x d p (suc n) h stop rising =
    ap (λ n. height_of edge (take n l) x) (sym (add_assoc p n 1 ∙ ap (λ k. p + k) (add-one n)))
    ∙ omega (
      arith,
      sum_by_more (λ a. count_between (edge_of edge a) x) l (p + n) d (omega (arith, h)),
      none_before (edge_of edge (get_or l (p + n) d)) x (after edge l x d p n (omega (arith, h)) stop rising),
      height_of_others edge l x d p n (omega (arith, h)) stop rising,
    )

some : Interval
some = record { start = pos 0; len = 0 }

-- a mark that stops there gives the height
pub height_from_mark : (edge : Edge) (l : List Interval) (passed sum : ℕ) (x : ℤ) → IsMark edge l passed sum x
    → HasPassedAll edge l passed x → IsRising edge l
    → height_of edge l x + sum ≡ passed * distance_to x
height_from_mark edge l passed sum x mark stop rising =
    omega (
      arith,
      mark.total,
      height_of_passed edge l x some passed passed (omega arith) mark.within mark.least mark.most,
      height_of_others edge l x some passed (length l - passed) (omega (arith, mark.within)) stop rising,
      ap (λ k. height_of edge k x) (take_all (passed + (length l - passed)) l (omega (arith, mark.within))),
    )

pub sum_of_mark-le : (edge : Edge) (l : List Interval) (passed sum : ℕ) (x : ℤ) → IsMark edge l passed sum x → sum ≤ passed * distance_to x
sum_of_mark-le edge l passed sum x mark =
    omega (arith, mark.total, height_of_passed edge l x some passed passed (omega arith) mark.within mark.least mark.most)

-- ---- the mark moves on

pub mark_more : (edge : Edge) (l : List Interval) (passed sum : ℕ) (x : ℤ) (a : Interval) (z : ℤ) (s : ℕ)
    → IsMark edge l passed sum x → passed < length l → a ≡ get_or l passed a → z ≡ edge_of edge a → first_place ≤ℤ z → z ≤ℤ x → s ≡ distance_to z
    → IsMark edge l (passed + 1) (sum + s) x
mark_more edge l passed sum x a z s mark within read same least most place = record {
  within = omega (arith, within);
  total = omega (arith, mark.total, place, ap distance_to (same ∙ ap (edge_of edge) read), sum_by_more (λ a. distance_to (edge_of edge a)) l passed a within);
  least = λ k d h. below_more (λ k. (d : Interval) → first_place ≤ℤ edge_of edge (get_or l k d)) passed (λ k h d. mark.least k d h) (λ d. subst (λ z. first_place ≤ℤ z) (here d) least) k h d;
  most = λ k d h. below_more (λ k. (d : Interval) → edge_of edge (get_or l k d) ≤ℤ x) passed (λ k h d. mark.most k d h) (λ d. subst (λ z. z ≤ℤ x) (here d) most) k h d;
}
  where
    here : (d : Interval) → z ≡ edge_of edge (get_or l passed d)
    here d = same ∙ ap (edge_of edge) (get_or_read l passed a within read d)

pub mark_later : (edge : Edge) (l : List Interval) (passed sum : ℕ) (x y : ℤ) → IsMark edge l passed sum x → x ≤ℤ y → IsMark edge l passed sum y
mark_later edge l passed sum x y mark h = record {
  within = mark.within;
  total = mark.total;
  least = mark.least;
  most = λ k d b. omega (arith, ints, mark.most k d b, h);
}

pub place_lt : (x : ℤ) → x <ℤ pos (2 ^ 63) → distance_to x < 2 ^ 64
place_lt x h = omega (arith, ints, between_is first_place x)

-- sums and heights fit
pub mark_room : (edge : Edge) (l : List Interval) (passed sum : ℕ) (x : ℤ) → IsMark edge l passed sum x → x <ℤ pos (2 ^ 63) → sum ≤ passed * 2 ^ 64
mark_room edge l passed sum x mark h =
    omega (arith, sum_of_mark-le edge l passed sum x mark, mul-le-mul_left passed (le_from_lt (place_lt x h)))
  where
    le_from_lt : {m n : ℕ} → m < n → m ≤ n
    le_from_lt h = omega arith
