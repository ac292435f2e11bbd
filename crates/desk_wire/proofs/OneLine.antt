-- The text of a message is one line: it is not empty and has no LF.
use Rattle.std.proofs.Common.{◌≡◌, ℕ, ◌/◌, ◌%◌, ◌+◌, ◌<◌, List, [], ◌∷◌, ◌++◌, Bool, true, false, true≢false, cond, nat_lt, ◌||◌, ◌==◌, length, refl, sym, ap, subst, arith}
use Rattle.std.specs.List.{list_any}
use Rattle.std.specs.Char.{digit_char}
use Rattle.std.specs.Str.Parse.{AllDigits}
use Rattle.std.proofs.lemmas.Bool.{ne_eqb}
use Rattle.std.proofs.lemmas.Fmt.{decimal_is_IsNumeral}
use Rattle.std.proofs.lemmas.List.Folds.{list_any-append}
use Rattle.std.proofs.lemmas.Str.Parse.{digit_from_value}
use Rattle.json.specs.Print.{escape, escape_byte, escape_letter, quoted}
use Rattle.serde_json.specs.Data.{Num, unsigned, negative, float, Data, null, boolean, number, string, array, object, Items, no_items, item, Members, no_members, member}
use Rattle.serde_json.specs.Written.{comma_if, compact_text, items_text, members_text}
use Rattle.registry_core.specs.declared.messages.Message.{Message}
use Rattle.registry_core.specs.declared.messages.Message.TheVariants.{SenderAdd, OwnerAdd, GatewayAdd, DeviceAdd, DeviceMove, JoinHeard, FrameHeard, DownBook, DownDone, LimitSet}
use Rattle.desk_wire.specs.Laws.{MessagesAreLines}
use Rattle.desk_wire.specs.Writing.{message_text, message_value}
use Rattle.desk_wire.proofs.PlainValues.{IsPlain, ItemsArePlain, MembersArePlain}
use Rattle.desk_wire.proofs.ReadBack.{plain}

abbrev HasNoLf : List ℕ → Type 0
HasNoLf s = list_any (λ x. x == 10) s ≡ false

no_lf-append : (xs ys : List ℕ) → HasNoLf xs → HasNoLf ys → HasNoLf (xs ++ ys)
no_lf-append xs ys a b = rw (list_any-append (λ x. x == 10) xs ys, a, b) refl

-- ---- a string

letter_by : (a b c d e f : Bool) (x : ℕ) → (a ≡ true → (x == 10) ≡ false)
    → (cond a x (cond b 98 (cond c 102 (cond d 110 (cond e 114 (cond f 116 0))))) == 10) ≡ false
letter_by true b c d e f x h = h refl
letter_by false true c d e f x h = refl
letter_by false false true d e f x h = refl
letter_by false false false true e f x h = refl
letter_by false false false false true f x h = refl
letter_by false false false false false true x h = refl
letter_by false false false false false false x h = refl

letter : (x : ℕ) → (escape_letter x == 10) ≡ false
letter x = letter_by _ _ _ _ _ _ x (λ h. ne_eqb x 10 (λ e. true≢false (sym (subst (λ y. ((y == 34) || (y == 92)) ≡ true) e h))))

digit_by : (b : Bool) (d : ℕ) → (cond b (48 + d) (87 + d) == 10) ≡ false
digit_by true d = ne_eqb (48 + d) 10 (λ e. omega (arith, e))
digit_by false d = ne_eqb (87 + d) 10 (λ e. omega (arith, e))

digit : (d : ℕ) → (digit_char d == 10) ≡ false
digit d = digit_by (nat_lt d 10) d

byte_by : (p q : Bool) (l a b x : ℕ) → (l == 10) ≡ false → (a == 10) ≡ false → (b == 10) ≡ false → (q ≡ false → (x == 10) ≡ false)
    → HasNoLf (cond p (92 ∷ l ∷ []) (cond q (92 ∷ 117 ∷ 48 ∷ 48 ∷ a ∷ b ∷ []) (x ∷ [])))
byte_by true q l a b x hl ha hb hx = rw hl refl
byte_by false true l a b x hl ha hb hx = rw (ha, hb) refl
byte_by false false l a b x hl ha hb hx = rw (hx refl) refl

no_lf-byte : (x : ℕ) → HasNoLf (escape_byte x)
unfolding escape_byte
no_lf-byte x =
    byte_by _ _ _ _ _ x (letter x) (digit (x / 16)) (digit (x % 16))
    (λ h. ne_eqb x 10 (λ e. true≢false (subst (λ y. nat_lt y 32 ≡ false) e h)))

no_lf-escape : (s : List ℕ) → HasNoLf (escape s)
no_lf-escape [] = refl
no_lf-escape (x ∷ s) = no_lf-append (escape_byte x) (escape s) (no_lf-byte x) (no_lf-escape s)

no_lf-quoted : (s : List ℕ) → HasNoLf (quoted s)
no_lf-quoted s = no_lf-append (escape s) (34 ∷ []) (no_lf-escape s) refl

-- ---- a value

no_lf-digits : (ds : List ℕ) → AllDigits 10 ds → HasNoLf ds
no_lf-digits [] h = refl
no_lf-digits (c ∷ cs) h = rw (ne_eqb c 10 (λ e. omega (arith, digit_from_value c h.0, e)), no_lf-digits cs h.1) refl

no_lf-number : (n : Num) → IsPlain (number n) → HasNoLf (compact_text (number n))
no_lf-number (unsigned n) h = no_lf-digits _ (decimal_is_IsNumeral n h).0.1
no_lf-number (negative z) h = absurd h
no_lf-number (float x) h = absurd h

no_lf-boolean : (b : Bool) → HasNoLf (compact_text (boolean b))
no_lf-boolean true = refl
no_lf-boolean false = refl

no_lf-comma_if : (later : Bool) → HasNoLf (comma_if later)
no_lf-comma_if true = refl
no_lf-comma_if false = refl

mutual
  no_lf-compact_text : (d : Data) → IsPlain d → HasNoLf (compact_text d)
  no_lf-compact_text null h = refl
  no_lf-compact_text (boolean b) h = no_lf-boolean b
  no_lf-compact_text (number n) h = no_lf-number n h
  no_lf-compact_text (string s) h = no_lf-quoted s
  no_lf-compact_text (array ds) h = no_lf-items_text false ds h
  no_lf-compact_text (object ms) h = no_lf-members_text false ms h

  no_lf-items_text : (later : Bool) (ds : Items) → ItemsArePlain ds → HasNoLf (items_text later ds)
  no_lf-items_text later no_items h = refl
  no_lf-items_text later (item d ds) h =
      no_lf-append (comma_if later) _ (no_lf-comma_if later) (no_lf-append (compact_text d) _ (no_lf-compact_text d h.0) (no_lf-items_text true ds h.1))

  no_lf-members_text : (later : Bool) (ms : Members) → MembersArePlain ms → HasNoLf (members_text later ms)
  no_lf-members_text later no_members h = refl
  no_lf-members_text later (member k d ms) h =
      no_lf-append (comma_if later) _ (no_lf-comma_if later)
      (no_lf-append (quoted k) _ (no_lf-quoted k)
      (no_lf-append (compact_text d) _ (no_lf-compact_text d h.1.0) (no_lf-members_text true ms h.1.1)))

-- ---- a message

not_empty : (receiver sender : List ℕ) (n : ℕ) (m : Message) → 0 < length (compact_text (message_value receiver sender n m))
not_empty receiver sender n (SenderAdd added role) = omega arith
not_empty receiver sender n (OwnerAdd owner) = omega arith
not_empty receiver sender n (GatewayAdd gateway) = omega arith
not_empty receiver sender n (DeviceAdd dev_eui join_eui owner) = omega arith
not_empty receiver sender n (DeviceMove dev_eui owner) = omega arith
not_empty receiver sender n (JoinHeard report verdict) = omega arith
not_empty receiver sender n (FrameHeard report verdict) = omega arith
not_empty receiver sender n (DownBook uplink gateway window octets) = omega arith
not_empty receiver sender n (DownDone booking sent) = omega arith
not_empty receiver sender n (LimitSet gateway limit) = omega arith

pub messages_are_lines : MessagesAreLines
unfolding message_text
messages_are_lines receiver e name is = (
  λ empty. omega (arith, not_empty receiver e.sender e.transaction e.message, ap length empty),
  no_lf-compact_text _ (plain receiver e.sender e.transaction name is.sender (omega (arith, is.transaction)) e.message is.message),
)
