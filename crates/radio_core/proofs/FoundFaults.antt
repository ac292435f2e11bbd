-- If no frame is found, the error that is found is right, and each error is found.
use Rattle.std.proofs.Common.{◌≡◌, ℕ, zero, suc, ◌/◌, ◌%◌, ◌≤◌, ◌<◌, List, [], ◌∷◌, Option, Some, None, Bool, true, false, cond, not, Ok, Err, refl, subst, arith}
use Rattle.std.specs.Prelude.{◌==◌, ◌↔◌, nat_le, ok_or}
use Rattle.std.proofs.lemmas.Bool.{eqb-true, eqb-false, eq-eqb, ne_eqb, leb-true, leb-false, le-leb, lt-leb}
use Rattle.radio_core.specs.declared.frames.FrameFault.{FrameFault}
use Rattle.radio_core.specs.declared.frames.FrameFault.TheVariants.{Empty, Major, Kind, Length}
use Rattle.radio_core.specs.declared.frames.Phy.{Phy}
use Rattle.radio_core.specs.Frames.{IsFault, IsFrame, body_of, frame_of, frame_fault, read_of, FaultIsFound}
use Rattle.radio_core.proofs.FoundFrames.{frame_is_found}

-- what is read is a frame if one is found, and else an error
read_ok : (o : Option Phy) (fault : FrameFault) (phy : Phy) → (ok_or o fault ≡ Ok phy) ↔ (o ≡ Some phy)
read_ok None fault phy = (λ e. absurd (let k : Err fault ≡ Ok phy = e in cc), λ e. absurd (let k : None ≡ Some phy = e in cc))
read_ok (Some x) fault phy = (λ e. let k : Ok x ≡ Ok phy = e in cc, λ e. let k : Some x ≡ Some phy = e in cc)

read_err : (o : Option Phy) (first fault : FrameFault) → ok_or o first ≡ Err fault → (o ≡ None) × (first ≡ fault)
read_err None first fault e = (refl, let k : Err first ≡ Err fault = e in cc)
read_err (Some x) first fault e = absurd (let k : Ok x ≡ Err fault = e in cc)

none_there : (o : Option Phy) → ((phy : Phy) → ¬ (o ≡ Some phy)) → o ≡ None
none_there None h = refl
none_there (Some x) h = absurd (h x refl)

-- a frame is read exactly where there is one
pub frame_is_read : (text : List ℕ) (phy : Phy) → (read_of text ≡ Ok phy) ↔ IsFrame text phy
frame_is_read text phy =
    let r : (ok_or (frame_of text) (frame_fault text) ≡ Ok phy) ↔ (frame_of text ≡ Some phy) = read_ok (frame_of text) (frame_fault text) phy in
    let f : (frame_of text ≡ Some phy) ↔ IsFrame text phy = frame_is_found text phy in
    (λ e. f.0 (r.0 e), λ i. r.1 (f.1 i))

-- the first error is right, if no frame is found
first_is : (text : List ℕ) → ((phy : Phy) → ¬ IsFrame text phy) → IsFault text (frame_fault text)
first_is [] none = refl
first_is (mhdr ∷ body) none = by_major (mhdr % 4 == 0) refl
  where
    by_kind : (b : Bool) → mhdr % 4 ≡ 0 → nat_le 6 (mhdr / 32) ≡ b → IsFault (mhdr ∷ body) (cond b Kind Length)
    by_kind true major e = (major, leb-true 6 (mhdr / 32) e)
    by_kind false major e =
        let low : mhdr / 32 < 6 = leb-false 6 (mhdr / 32) e in
        ((major, omega (arith, low)), none)

    by_major : (b : Bool) → (mhdr % 4 == 0) ≡ b → IsFault (mhdr ∷ body) (cond (not b) Major (cond (nat_le 6 (mhdr / 32)) Kind Length))
    by_major true e = by_kind (nat_le 6 (mhdr / 32)) (eqb-true (mhdr % 4) 0 e) refl
    by_major false e = eqb-false (mhdr % 4) 0 e

found_is : (text : List ℕ) (fault : FrameFault) → read_of text ≡ Err fault → IsFault text fault
found_is text fault e =
    let r : (frame_of text ≡ None) × (frame_fault text ≡ fault) = read_err (frame_of text) (frame_fault text) fault e in
    subst (IsFault text) r.1 (first_is text (λ phy i. let f : frame_of text ≡ Some phy = (frame_is_found text phy).1 i in let n : frame_of text ≡ None = r.0 in cc))

-- no frame is of a type above 5
no_type : (kind : ℕ) (body : List ℕ) → 6 ≤ kind → body_of kind body ≡ None
no_type zero body h = absurd (omega (arith, h))
no_type (suc zero) body h = absurd (omega (arith, h))
no_type (suc (suc zero)) body h = absurd (omega (arith, h))
no_type (suc (suc (suc zero))) body h = absurd (omega (arith, h))
no_type (suc (suc (suc (suc zero)))) body h = absurd (omega (arith, h))
no_type (suc (suc (suc (suc (suc zero))))) body h = absurd (omega (arith, h))
no_type (suc (suc (suc (suc (suc (suc kind)))))) body h = refl

is_found : (text : List ℕ) (fault : FrameFault) → IsFault text fault → read_of text ≡ Err fault
unfolding frame_of
is_found [] Empty i = refl
is_found [] Major i = absurd i
is_found [] Kind i = absurd i
is_found [] Length i = absurd i.0
is_found (mhdr ∷ body) Empty i = absurd (let k : mhdr ∷ body ≡ [] = i in cc)
is_found (mhdr ∷ body) Major i = rw (ne_eqb (mhdr % 4) 0 i)
is_found (mhdr ∷ body) Kind i = rw (eq-eqb (mhdr % 4) 0 i.0, le-leb 6 (mhdr / 32) i.1, no_type (mhdr / 32) body i.1)
is_found (mhdr ∷ body) Length i =
    let low : mhdr / 32 < 6 = omega (arith, i.0.1) in
    rw (none_there (frame_of (mhdr ∷ body)) (λ phy f. i.1 phy ((frame_is_found (mhdr ∷ body) phy).0 f)), eq-eqb (mhdr % 4) 0 i.0.0, lt-leb 6 (mhdr / 32) low)

pub fault_is_found : FaultIsFound
fault_is_found text fault = (found_is text fault, is_found text fault)
