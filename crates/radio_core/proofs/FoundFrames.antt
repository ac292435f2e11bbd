-- What is found is a frame, and each frame is found.
use Rattle.std.proofs.Common.{◌≡◌, ℕ, zero, suc, ◌+◌, ◌-◌, ◌/◌, ◌%◌, ◌≤◌, ◌⊎◌, inl, inr, List, [], ◌∷◌, ◌++◌, length, take, drop, Option, Some, None, Bool, true, false, cond, refl, sym, ◌∙◌, ap, subst, arith}
use Rattle.std.specs.Prelude.{◌==◌, ◌&&◌, ◌||◌, nat_le, option_map}
use Rattle.std.proofs.Math.Seq.{take-append_seam, drop-append_seam, drop-drop}
use Rattle.std.proofs.lemmas.Bool.{eqb-true, eq-eqb, leb-true, le-leb, and_parts, and_from, or_cases, or_left, or_right, cond-true}
use Rattle.std.proofs.lemmas.List.{append_assoc, length-append, length-take, length-drop, take-append-drop}
use Rattle.std.proofs.lemmas.Option.{cond_some, same_Some}
use Rattle.radio_core.specs.declared.frames.Phy.{Phy}
use Rattle.radio_core.specs.declared.frames.Phy.TheVariants.{Join, Accept, Up, Down}
use Rattle.radio_core.specs.Frames.{little_endian, IsHeader, IsJoin, IsData, IsFrame, join_frame, accept_of, fields_of, data_of, body_of, frame_of, FrameIsFound, NoTextIsTwoFrames}

-- what a test let through
guard : {X : Type 0} (b : Bool) (x : Option X) (y : X) → cond b x None ≡ Some y → (b ≡ true) × (x ≡ Some y)
guard true x y e = (refl, e)
guard false x y e = absurd (let k : None ≡ Some y = e in cc)

-- what was there before the map
mapped : {X Y : Type 0} (f : X → Y) (o : Option X) (y : Y) → option_map f o ≡ Some y → (x : X) × (o ≡ Some x) × (f x ≡ y)
mapped f None y e = absurd (let k : None ≡ Some y = e in cc)
mapped f (Some x) y e = (x, refl, same_Some (f x) y e)

take_front : (n : ℕ) (xs ys : List ℕ) → length xs ≡ n → take n (xs ++ ys) ≡ xs
take_front n xs ys e = subst (λ n. take n (xs ++ ys) ≡ xs) e (take-append_seam xs ys)

drop_front : (n : ℕ) (xs ys : List ℕ) → length xs ≡ n → drop n (xs ++ ys) ≡ ys
drop_front n xs ys e = subst (λ n. drop n (xs ++ ys) ≡ ys) e (drop-append_seam xs ys)

-- ---- join requests

join_found : (a b c d : List ℕ) → length a ≡ 8 → length b ≡ 8 → length c ≡ 2 → length d ≡ 4
    → join_frame (a ++ b ++ c ++ d) ≡ Some (Join (little_endian a) (little_endian b) (little_endian c))
join_found a b c d la lb lc ld = rw (eq-eqb (length (a ++ b ++ c ++ d)) 22 size, first, second, third)
  where
    size : length (a ++ b ++ c ++ d) ≡ 22
    size = simp length-append (omega (arith, la, lb, lc, ld))

    by_first : a ++ b ++ c ++ d ≡ a ++ (b ++ (c ++ d))
    by_first = append_assoc (a ++ b) c d ∙ append_assoc a b (c ++ d)

    first : take 8 (a ++ b ++ c ++ d) ≡ a
    first = ap (take 8) by_first ∙ take_front 8 a (b ++ (c ++ d)) la

    second : take 8 (drop 8 (a ++ b ++ c ++ d)) ≡ b
    second = ap (λ l. take 8 (drop 8 l)) by_first ∙ ap (take 8) (drop_front 8 a (b ++ (c ++ d)) la) ∙ take_front 8 b (c ++ d) lb

    two : length (a ++ b) ≡ 16
    two = length-append a b ∙ omega (arith, la, lb)

    third : take 2 (drop 16 (a ++ b ++ c ++ d)) ≡ c
    third = ap (λ l. take 2 (drop 16 l)) (append_assoc (a ++ b) c d) ∙ ap (take 2) (drop_front 16 (a ++ b) (c ++ d) two) ∙ take_front 2 c d lc

join_is : (mhdr : ℕ) (body : List ℕ) (phy : Phy) → IsHeader 0 mhdr → join_frame body ≡ Some phy → IsFrame (mhdr ∷ body) phy
join_is mhdr body phy h e =
    let g : ((length body == 22) ≡ true) × (Join (little_endian (take 8 body)) (little_endian (take 8 (drop 8 body))) (little_endian (take 2 (drop 16 body))) ≡ phy) = cond_some _ _ phy e in
    subst (IsFrame (mhdr ∷ body)) g.1 (parted (eqb-true (length body) 22 g.0))
  where
    from_drop : drop 8 (drop 8 body) ≡ drop 16 body
    from_drop = drop-drop 8 8 body

    whole : body ≡ take 8 body ++ take 8 (drop 8 body) ++ take 2 (drop 16 body) ++ drop 2 (drop 16 body)
    whole = sym (append_assoc (take 8 body ++ take 8 (drop 8 body)) (take 2 (drop 16 body)) (drop 2 (drop 16 body))
        ∙ ap (λ l. (take 8 body ++ take 8 (drop 8 body)) ++ l) (take-append-drop 2 (drop 16 body) ∙ sym from_drop)
        ∙ append_assoc (take 8 body) (take 8 (drop 8 body)) (drop 8 (drop 8 body))
        ∙ ap (λ l. take 8 body ++ l) (take-append-drop 8 (drop 8 body)) ∙ take-append-drop 8 body)

    parted : length body ≡ 22 → IsJoin (mhdr ∷ body) (little_endian (take 8 body)) (little_endian (take 8 (drop 8 body))) (little_endian (take 2 (drop 16 body)))
    parted size = record {
      mhdr = mhdr;
      join = take 8 body;
      device = take 8 (drop 8 body);
      number = take 2 (drop 16 body);
      mic = drop 2 (drop 16 body);
      header = h;
      join_field = record { width = length-take 8 body ∙ omega (arith, size); stands_for = refl };
      device_field = record { width = length-take 8 (drop 8 body) ∙ omega (arith, size, length-drop 8 body); stands_for = refl };
      nonce_field = record { width = length-take 2 (drop 16 body) ∙ omega (arith, size, length-drop 16 body); stands_for = refl };
      mic_width = length-drop 2 (drop 16 body) ∙ omega (arith, size, length-drop 16 body);
      joined = ap (λ l. mhdr ∷ l) whole;
    }

-- ---- join accepts

accept_found : (rest : List ℕ) → (length rest ≡ 16) ⊎ (length rest ≡ 32) → accept_of rest ≡ Some Accept
accept_found rest width = cond-true _ _ _ (told width)
  where
    told : (length rest ≡ 16) ⊎ (length rest ≡ 32) → (length rest == 16 || length rest == 32) ≡ true
    told (inl e) = or_left _ _ (eq-eqb (length rest) 16 e)
    told (inr e) = or_right _ _ (eq-eqb (length rest) 32 e)

accept_is : (mhdr : ℕ) (body : List ℕ) (phy : Phy) → IsHeader 1 mhdr → accept_of body ≡ Some phy → IsFrame (mhdr ∷ body) phy
accept_is mhdr body phy h e =
    let g : ((length body == 16 || length body == 32) ≡ true) × (Accept ≡ phy) = cond_some _ _ phy e in
    subst (IsFrame (mhdr ∷ body)) g.1 (record { mhdr = mhdr; rest = body; header = h; width = sized (or_cases _ _ g.0); joined = refl })
  where
    sized : ((length body == 16) ≡ true) ⊎ ((length body == 32) ≡ true) → (length body ≡ 16) ⊎ (length body ≡ 32)
    sized (inl k) = inl (eqb-true _ _ k)
    sized (inr k) = inr (eqb-true _ _ k)

-- ---- data frames

uncons : (n : ℕ) (xs : List ℕ) → length xs ≡ suc n → (x : ℕ) × (ys : List ℕ) × (xs ≡ x ∷ ys) × (length ys ≡ n)
uncons n [] e = absurd (omega (arith, e))
uncons n (x ∷ xs) e = (x, xs, refl, omega (arith, e))

empty : (xs : List ℕ) → length xs ≡ 0 → xs ≡ []
empty [] e = refl
empty (x ∷ xs) e = absurd (omega (arith, e))

two : (xs : List ℕ) → length xs ≡ 2 → (m : ℕ) × (n : ℕ) × (xs ≡ m ∷ n ∷ [])
two xs e =
    let p : (x : ℕ) × (ys : List ℕ) × (xs ≡ x ∷ ys) × (length ys ≡ 1) = uncons 1 xs e in
    let q : (x : ℕ) × (ys : List ℕ) × (p.1 ≡ x ∷ ys) × (length ys ≡ 0) = uncons 0 p.1 p.3 in
    (p.0, q.0, p.2 ∙ ap (λ l. p.0 ∷ l) (q.2 ∙ ap (λ l. q.0 ∷ l) (empty q.1 q.3)))

four : (xs : List ℕ) → length xs ≡ 4 → (a : ℕ) × (b : ℕ) × (c : ℕ) × (d : ℕ) × (xs ≡ a ∷ b ∷ c ∷ d ∷ [])
four xs e =
    let p : (x : ℕ) × (ys : List ℕ) × (xs ≡ x ∷ ys) × (length ys ≡ 3) = uncons 3 xs e in
    let q : (x : ℕ) × (ys : List ℕ) × (p.1 ≡ x ∷ ys) × (length ys ≡ 2) = uncons 2 p.1 p.3 in
    let r : (m : ℕ) × (n : ℕ) × (q.1 ≡ m ∷ n ∷ []) = two q.1 q.3 in
    (p.0, q.0, r.0, r.1, p.2 ∙ ap (λ l. p.0 ∷ l) (q.2 ∙ ap (λ l. q.0 ∷ l) r.2))

-- with the octets of the address and of the counter written out
fields_found_at : (a b c d fctrl m n : ℕ) (fopts payload mic : List ℕ) → length fopts ≡ fctrl % 16 → length mic ≡ 4 → length (fopts ++ payload ++ mic) ≤ 247
    → fields_of (a ∷ b ∷ c ∷ d ∷ fctrl ∷ m ∷ n ∷ (fopts ++ payload ++ mic)) ≡ Some (little_endian (a ∷ b ∷ c ∷ d ∷ []), little_endian (m ∷ n ∷ []))
fields_found_at a b c d fctrl m n fopts payload mic lf lm size =
    rw (and_from _ _ (le-leb (fctrl % 16 + 4) (length (fopts ++ payload ++ mic)) room) (le-leb (length (fopts ++ payload ++ mic)) 247 size))
  where
    room : fctrl % 16 + 4 ≤ length (fopts ++ payload ++ mic)
    room = simp length-append (omega (arith, lf, lm))

fields_found : (address : List ℕ) (fctrl : ℕ) (counter fopts payload mic : List ℕ) → length address ≡ 4 → length counter ≡ 2 → length fopts ≡ fctrl % 16 → length mic ≡ 4
    → length (address ++ fctrl ∷ [] ++ counter ++ fopts ++ payload ++ mic) ≤ 254
    → fields_of (address ++ fctrl ∷ [] ++ counter ++ fopts ++ payload ++ mic) ≡ Some (little_endian address, little_endian counter)
fields_found address fctrl counter fopts payload mic la lc lf lm size =
    let x : (a : ℕ) × (b : ℕ) × (c : ℕ) × (d : ℕ) × (address ≡ a ∷ b ∷ c ∷ d ∷ []) = four address la in
    let y : (m : ℕ) × (n : ℕ) × (counter ≡ m ∷ n ∷ []) = two counter lc in
    let small : length (fopts ++ payload ++ mic) ≤ 247 = sized in
    ap (λ l. fields_of (l ++ fctrl ∷ [] ++ counter ++ fopts ++ payload ++ mic)) x.4
    ∙ ap (λ l. fields_of ((x.0 ∷ x.1 ∷ x.2 ∷ x.3 ∷ []) ++ fctrl ∷ [] ++ l ++ fopts ++ payload ++ mic)) y.2
    ∙ fields_found_at x.0 x.1 x.2 x.3 fctrl y.0 y.1 fopts payload mic lf lm small
    ∙ ap (λ l. Some (little_endian l, little_endian (y.0 ∷ y.1 ∷ []))) (sym x.4)
    ∙ ap (λ l. Some (little_endian address, little_endian l)) (sym y.2)
  where
    sized : length (fopts ++ payload ++ mic) ≤ 247
    sized = simp length-append (omega (arith, la, lc, lf, lm, whole))
      where
        whole : length address + 1 + length counter + length fopts + length payload + length mic ≤ 254
        whole = simp length-append at size

-- a data frame of whatever type the MHDR has
fields_are : (mhdr : ℕ) (body : List ℕ) (fields : ℕ × ℕ) → fields_of body ≡ Some fields → (frame_type : ℕ) → IsHeader frame_type mhdr → IsData frame_type (mhdr ∷ body) fields.0 fields.1
fields_are mhdr (a ∷ b ∷ c ∷ d ∷ fctrl ∷ m ∷ n ∷ rest) fields e frame_type h =
    subst (λ (f : ℕ × ℕ). IsData frame_type (mhdr ∷ a ∷ b ∷ c ∷ d ∷ fctrl ∷ m ∷ n ∷ rest) f.0 f.1) told.1 parted
  where
    told : ((nat_le (fctrl % 16 + 4) (length rest) && nat_le (length rest) 247) ≡ true) × ((little_endian (a ∷ b ∷ c ∷ d ∷ []), little_endian (m ∷ n ∷ [])) ≡ fields)
    told = cond_some _ _ fields e

    room : fctrl % 16 + 4 ≤ length rest
    room = leb-true (fctrl % 16 + 4) (length rest) (and_parts (nat_le (fctrl % 16 + 4) (length rest)) (nat_le (length rest) 247) told.0).0

    small : length rest ≤ 247
    small = leb-true (length rest) 247 (and_parts (nat_le (fctrl % 16 + 4) (length rest)) (nat_le (length rest) 247) told.0).1

    after : List ℕ
    after = drop (fctrl % 16) rest

    after_is : length after ≡ length rest - fctrl % 16
    after_is = length-drop (fctrl % 16) rest

    whole : rest ≡ take (fctrl % 16) rest ++ take (length after - 4) after ++ drop (length after - 4) after
    whole = sym (append_assoc (take (fctrl % 16) rest) (take (length after - 4) after) (drop (length after - 4) after)
        ∙ ap (λ l. take (fctrl % 16) rest ++ l) (take-append-drop (length after - 4) after) ∙ take-append-drop (fctrl % 16) rest)

    parted : IsData frame_type (mhdr ∷ a ∷ b ∷ c ∷ d ∷ fctrl ∷ m ∷ n ∷ rest) (little_endian (a ∷ b ∷ c ∷ d ∷ [])) (little_endian (m ∷ n ∷ []))
    parted = record {
      mhdr = mhdr;
      address = a ∷ b ∷ c ∷ d ∷ [];
      fctrl = fctrl;
      counter = m ∷ n ∷ [];
      fopts = take (fctrl % 16) rest;
      payload = take (length after - 4) after;
      mic = drop (length after - 4) after;
      header = h;
      address_field = record { width = refl; stands_for = refl };
      counter_field = record { width = refl; stands_for = refl };
      fopts_width = length-take (fctrl % 16) rest ∙ omega (arith, room);
      mic_width = length-drop (length after - 4) after ∙ omega (arith, after_is, room);
      size = omega (arith, small);
      joined = ap (λ l. mhdr ∷ a ∷ b ∷ c ∷ d ∷ fctrl ∷ m ∷ n ∷ l) whole;
    }
fields_are mhdr _ fields e frame_type h = absurd (let k : None ≡ Some fields = e in cc)

data_is : (frame : ℕ → ℕ → Phy) (frame_type mhdr : ℕ) (body : List ℕ) (phy : Phy) → IsHeader frame_type mhdr
    → ((addr fcnt : ℕ) → IsData frame_type (mhdr ∷ body) addr fcnt → IsFrame (mhdr ∷ body) (frame addr fcnt)) → data_of frame body ≡ Some phy → IsFrame (mhdr ∷ body) phy
data_is frame frame_type mhdr body phy h of_type e =
    let found : (fields : ℕ × ℕ) × (fields_of body ≡ Some fields) × (frame fields.0 fields.1 ≡ phy) = mapped _ _ phy e in
    subst (IsFrame (mhdr ∷ body)) found.2 (of_type _ _ (fields_are mhdr body found.0 found.1 frame_type h))

-- ---- all of them

body_is : (mhdr : ℕ) (body : List ℕ) (phy : Phy) (kind : ℕ) → mhdr / 32 ≡ kind → mhdr % 4 ≡ 0 → body_of kind body ≡ Some phy → IsFrame (mhdr ∷ body) phy
body_is mhdr body phy zero k major e = join_is mhdr body phy (record { kind = k; major = major }) e
body_is mhdr body phy (suc zero) k major e = accept_is mhdr body phy (record { kind = k; major = major }) e
body_is mhdr body phy (suc (suc zero)) k major e = data_is (Up false) 2 mhdr body phy (record { kind = k; major = major }) (λ _ _ r. r) e
body_is mhdr body phy (suc (suc (suc zero))) k major e = data_is (Down false) 3 mhdr body phy (record { kind = k; major = major }) (λ _ _ r. r) e
body_is mhdr body phy (suc (suc (suc (suc zero)))) k major e = data_is (Up true) 4 mhdr body phy (record { kind = k; major = major }) (λ _ _ r. r) e
body_is mhdr body phy (suc (suc (suc (suc (suc zero))))) k major e = data_is (Down true) 5 mhdr body phy (record { kind = k; major = major }) (λ _ _ r. r) e
body_is mhdr body phy (suc (suc (suc (suc (suc (suc kind)))))) k major e = absurd (let n : None ≡ Some phy = e in cc)

found_is : (text : List ℕ) (phy : Phy) → frame_of text ≡ Some phy → IsFrame text phy
unfolding frame_of
found_is [] phy e = absurd (let k : None ≡ Some phy = e in cc)
found_is (mhdr ∷ body) phy e =
    let g : ((mhdr % 4 == 0) ≡ true) × (body_of (mhdr / 32) body ≡ Some phy) = guard _ _ phy e in
    body_is mhdr body phy (mhdr / 32) refl (eqb-true (mhdr % 4) 0 g.0) g.1

-- behind an MHDR of the type
behind : (mhdr kind : ℕ) (body : List ℕ) → IsHeader kind mhdr → frame_of (mhdr ∷ body) ≡ body_of kind body
unfolding frame_of
behind mhdr kind body h = rw (eq-eqb (mhdr % 4) 0 h.major) (ap (λ k. body_of k body) h.kind)

data_is_found : (frame : ℕ → ℕ → Phy) (kind : ℕ) (text : List ℕ) (addr fcnt : ℕ) → ((body : List ℕ) → body_of kind body ≡ data_of frame body) → IsData kind text addr fcnt → frame_of text ≡ Some (frame addr fcnt)
data_is_found frame kind text addr fcnt by_kind r =
    let body : List ℕ = r.address ++ r.fctrl ∷ [] ++ r.counter ++ r.fopts ++ r.payload ++ r.mic in
    let small : length body ≤ 254 = omega (arith, r.size, ap length r.joined) in
    ap frame_of r.joined ∙ behind r.mhdr kind body r.header ∙ by_kind body
    ∙ ap (option_map (λ fields. frame fields.0 fields.1)) (fields_found r.address r.fctrl r.counter r.fopts r.payload r.mic r.address_field.width r.counter_field.width r.fopts_width r.mic_width small)
    ∙ ap (λ n. Some (frame n (little_endian r.counter))) r.address_field.stands_for ∙ ap (λ n. Some (frame addr n)) r.counter_field.stands_for

is_found : (text : List ℕ) (phy : Phy) → IsFrame text phy → frame_of text ≡ Some phy
is_found text (Join join_eui dev_eui nonce) r =
    ap frame_of r.joined ∙ behind r.mhdr 0 (r.join ++ r.device ++ r.number ++ r.mic) r.header
    ∙ join_found r.join r.device r.number r.mic r.join_field.width r.device_field.width r.nonce_field.width r.mic_width
    ∙ ap (λ n. Some (Join n (little_endian r.device) (little_endian r.number))) r.join_field.stands_for
    ∙ ap (λ n. Some (Join join_eui n (little_endian r.number))) r.device_field.stands_for
    ∙ ap (λ n. Some (Join join_eui dev_eui n)) r.nonce_field.stands_for
is_found text Accept r = ap frame_of r.joined ∙ behind r.mhdr 1 r.rest r.header ∙ accept_found r.rest r.width
is_found text (Up true addr fcnt) r = data_is_found (Up true) 4 text addr fcnt (λ _. refl) r
is_found text (Up false addr fcnt) r = data_is_found (Up false) 2 text addr fcnt (λ _. refl) r
is_found text (Down true addr fcnt) r = data_is_found (Down true) 5 text addr fcnt (λ _. refl) r
is_found text (Down false addr fcnt) r = data_is_found (Down false) 3 text addr fcnt (λ _. refl) r

pub frame_is_found : FrameIsFound
frame_is_found text phy = (found_is text phy, is_found text phy)

pub no_text_is_two_frames : NoTextIsTwoFrames
no_text_is_two_frames text one other r s = same_Some one other (sym (is_found text one r) ∙ is_found text other s)
