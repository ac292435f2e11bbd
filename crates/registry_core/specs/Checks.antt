-- Checks in a row: the first that fails decides the answer.
use Rattle.std.specs.Prelude.{Bool, true, false, Option, Some, None, Result, Ok, Err}
use Rattle.registry_core.specs.declared.answers.Refusal.{Refusal}

-- a value, or the refusal of the first check that failed
abbrev pub Checked : Type 0 → Type 0
Checked X = Result X Refusal

infixl 10 ◌>>=◌
abbrev pub ◌>>=◌ : {X Y : Type 0} → Checked X → (X → Checked Y) → Checked Y
(Ok x) >>= next = next x
(Err refusal) >>= next = Err refusal

infixl 10 ◌>>◌
abbrev pub ◌>>◌ : {X Y : Type 0} → Checked X → Checked Y → Checked Y
(Ok x) >> next = next
(Err refusal) >> next = Err refusal

-- the refusal if the condition is false
abbrev pub wants : Bool → Refusal → Checked (Unit {0})
wants true refusal = Ok tt
wants false refusal = Err refusal

-- the value, or the refusal if there is none
abbrev pub needs : {X : Type 0} → Option X → Refusal → Checked X
needs (Some x) refusal = Ok x
needs None refusal = Err refusal

-- what follows from the value, if there is one, and else what is next
abbrev pub unless : {X Y : Type 0} → Option X → (X → Checked Y) → Checked Y → Checked Y
unless (Some x) found next = found x
unless None found next = next
