-- What was read and written, by what a reader has left (`remaining`) and what a writer has (`contents`) before and after.
use Rattle.std.specs.Prelude.{ℕ, List, Option, take}
use Rattle.std.specs.Io.KnownBytes.{Appends, Consumes}

-- exactly these octets were read
abbrev pub HasRead : {R : Type 0} → (R → Option (List ℕ)) → R → R → List ℕ → Type 0
HasRead remaining old new octets = Consumes (remaining old) (remaining new) octets

-- exactly these octets were written
abbrev pub HasAppended : {W : Type 0} → (W → Option (List ℕ)) → W → W → List ℕ → Type 0
HasAppended contents old new octets = Appends (contents old) (contents new) octets

-- some first octets of these were written
abbrev pub HasAppendedPart : {W : Type 0} → (W → Option (List ℕ)) → W → W → List ℕ → Type 0
HasAppendedPart contents old new octets = (count : ℕ) × HasAppended contents old new (take count octets)
