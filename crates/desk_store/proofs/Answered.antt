-- The counts of an uplink's bookings that aren't dropped, after one of the bookings is marked as sent or dropped.
use Rattle.std.proofs.Common.{◌≡◌, ℕ, ◌+◌, ◌-◌, ◌^◌, ◌<◌, ◌≤◌, Bool, true, false, cond, List, length, Some, refl, sym, ◌∙◌, ap, arith}
use Rattle.std.specs.Prelude.{◌==◌, ◌&&◌, not, count_by, min}
use Rattle.std.proofs.lemmas.Bool.{eq-eqb}
use Rattle.std.proofs.lemmas.List.Sums.{count_by-le-length}
use mir.Val.{bool_byte}
use Rattle.registry_core.specs.declared.facts.Booking.{Booking}
use Rattle.registry_core.specs.declared.facts.Standing.TheVariants.{Sent, Dropped}
use Rattle.registry_core.specs.Bookings.{is_answer_to, is_dropped}
use Rattle.registry_core.specs.Numbered.{item_at, item_changed}
use Rattle.registry_core.specs.State.{ended}
use Rattle.desk_store.specs.declared.answers.Answers.{Answers}
use Rattle.desk_store.specs.steps.Answers.{is_naming, AreCounted}
use Rattle.desk_store.specs.steps.Tally.{tallied}
use Rattle.desk_store.proofs.Counted.{count_changed, count_has, set_is}

byte_is : (b : Bool) → bool_byte b ≡ cond b 1 0
byte_is true = refl
byte_is false = refl

sent_is : (sent : Bool) → not (is_dropped (cond sent Sent Dropped)) ≡ sent
sent_is true = refl
sent_is false = refl

module _ (bookings : List Booking) (number : ℕ) (booking : Booking) (sent : Bool) (there : item_at bookings number ≡ Some booking) where
  named_same : (uplink : ℕ) → count_by (is_naming uplink) bookings ≡ count_by (is_naming uplink) (item_changed (ended sent) bookings number)
  named_same uplink = omega (arith, count_changed (is_naming uplink) (ended sent) bookings number booking there)

  standing_other : (uplink : ℕ) → (booking.uplink == uplink) ≡ false
      → count_by (is_answer_to uplink) bookings ≡ count_by (is_answer_to uplink) (item_changed (ended sent) bookings number)
  standing_other uplink apart =
      let was : cond {A = ℕ} (is_answer_to uplink booking) 1 0 ≡ 0 = ap (λ b. cond (b && not (is_dropped booking.standing)) 1 0) apart in
      let now : cond {A = ℕ} (is_answer_to uplink (ended sent booking)) 1 0 ≡ 0 = ap (λ b. cond (b && not (is_dropped (cond sent Sent Dropped))) 1 0) apart in
      omega (arith, count_changed (is_answer_to uplink) (ended sent) bookings number booking there, was, now)

  standing_here : (one another others count : ℕ) → length bookings < 2 ^ 63 → one ≡ bool_byte (not (is_dropped booking.standing)) → another ≡ bool_byte sent
      → others ≡ count_by (is_answer_to booking.uplink) bookings - one → count ≡ min (others + another) 18446744073709551615
      → count ≡ count_by (is_answer_to booking.uplink) (item_changed (ended sent) bookings number)
  standing_here one another others count few one_is another_is others_are is =
      let test = is_answer_to booking.uplink in
      let self : (booking.uplink == booking.uplink) ≡ true = eq-eqb booking.uplink booking.uplink refl in
      let was : cond {A = ℕ} (test booking) 1 0 ≡ one = ap (λ b. cond (b && not (is_dropped booking.standing)) 1 0) self ∙ sym (byte_is (not (is_dropped booking.standing))) ∙ sym one_is in
      let now : cond {A = ℕ} (test (ended sent booking)) 1 0 ≡ another =
      ap (λ b. cond (b && not (is_dropped (cond sent Sent Dropped))) 1 0) self ∙ ap (λ b. cond b 1 0) (sent_is sent) ∙ sym (byte_is sent) ∙ sym another_is in
      let small : another ≤ 1 = at_most sent another another_is in
      omega (arith, count_changed test (ended sent) bookings number booking there, count_has test bookings number booking there, count_by-le-length test bookings, was, now, small)
    where
      at_most : (b : Bool) (n : ℕ) → n ≡ bool_byte b → n ≤ 1
      at_most true n h = omega arith
      at_most false n h = omega arith

  pub ended_counted : (old new : Answers) → AreCounted bookings old → new.named ≡ old.named
      → (one another others count : ℕ) → length bookings < 2 ^ 63 → one ≡ bool_byte (not (is_dropped booking.standing)) → another ≡ bool_byte sent
      → others ≡ tallied old.standing booking.uplink - one → count ≡ min (others + another) 18446744073709551615
      → ((uplink : ℕ) → tallied new.standing uplink ≡ cond (booking.uplink == uplink) count (tallied old.standing uplink))
      → AreCounted (item_changed (ended sent) bookings number) new
  ended_counted old new was named one another others count few one_is another_is others_are is set = record {
    named = λ uplink. ap (λ tally. tallied tally uplink) named ∙ was.named uplink ∙ named_same uplink;
    standing = set_is (tallied old.standing) (tallied new.standing) (λ uplink. count_by (is_answer_to uplink) (item_changed (ended sent) bookings number)) booking.uplink count set
        (standing_here one another others count few one_is another_is (others_are ∙ ap (λ n. n - one) (was.standing booking.uplink)) is)
        (λ uplink apart. was.standing uplink ∙ standing_other uplink apart);
  }
