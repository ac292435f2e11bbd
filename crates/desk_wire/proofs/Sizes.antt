-- Bounds on the length of a quoted text, and of an object whose members are short.
use Rattle.std.proofs.Common.{◌≡◌, ℕ, ◌+◌, ◌*◌, ◌≤◌, Bool, true, false, cond, List, [], ◌∷◌, ◌++◌, length, arith}
use Rattle.std.proofs.lemmas.List.{length-append}
use Rattle.json.specs.Print.{escape, escape_byte, quoted}
use Rattle.serde_json.specs.Data.{Data, Members, no_members, member}
use Rattle.serde_json.specs.Written.{comma_if, compact_text, members_text}

six : (p q : Bool) (a b c d : ℕ) → length (cond p (92 ∷ a ∷ []) (cond q (92 ∷ 117 ∷ 48 ∷ 48 ∷ b ∷ c ∷ []) (d ∷ []))) ≤ 6
six true q a b c d = omega arith
six false true a b c d = omega arith
six false false a b c d = omega arith

escaped_one : (x : ℕ) → length (escape_byte x) ≤ 6
unfolding escape_byte
escaped_one x = six _ _ _ _ _ x

escaped : (s : List ℕ) → length (escape s) ≤ 6 * length s
escaped [] = omega arith
escaped (x ∷ s) = omega (arith, escaped_one x, length-append (escape_byte x) (escape s), escaped s)

pub quoted_size : (s : List ℕ) → length (quoted s) ≤ 6 * length s + 2
quoted_size s = omega (arith, escaped s, length-append (escape s) (34 ∷ []))

comma_size : (later : Bool) → length (comma_if later) ≤ 1
comma_size true = omega arith
comma_size false = omega arith

-- each member has a short name and a value of at most 3,100 octets
abbrev pub AreSmall : Members → Type 0
AreSmall no_members = Unit {0}
AreSmall (member k d ms) = (length k ≤ 20) × (length (compact_text d) ≤ 3100) × AreSmall ms

abbrev pub count_of : Members → ℕ
count_of no_members = 0
count_of (member k d ms) = 1 + count_of ms

pub small_members : (later : Bool) (ms : Members) → AreSmall ms → length (members_text later ms) ≤ 1 + 3250 * count_of ms
small_members later no_members h = omega arith
small_members later (member k d ms) h =
    omega (
      arith,
      comma_size later,
      length-append (comma_if later) (quoted k ++ 58 ∷ (compact_text d ++ members_text true ms)),
      length-append (quoted k) (58 ∷ (compact_text d ++ members_text true ms)),
      length-append (compact_text d) (members_text true ms),
      quoted_size k,
      h.0,
      h.1,
      small_members true ms h.2,
    )
