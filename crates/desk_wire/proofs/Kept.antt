-- If every value that a step can find satisfies a property, then so does each that later steps find from it.
use Rattle.std.proofs.Common.{◌≡◌, Bool, true, false, Option, Some, None, Result, Ok, Err, option_map, ok_or, refl, subst, if◌then◌else◌}
use Rattle.std.specs.Prelude.{⊤}
use Rattle.desk_wire.specs.Optional.{◌>>=◌, only_if}
use Rattle.desk_wire.specs.declared.faults.WireFault.{WireFault}

-- ---- of an option

pub record Keeps {X : Type 0} (P : X → Type 0) (found : Option X) : Type 0 where
  pub holds : (x : X) → found ≡ Some x → P x

pub made : {X : Type 0} {P : X → Type 0} {x : X} → P x → Keeps P (Some x)
made {X} {P} {x} p = record { holds = λ y same. let e : x ≡ y = cc in subst P e p }

pub missing : {X : Type 0} {P : X → Type 0} → Keeps P None
missing = record { holds = λ y same. cc }

-- nothing is stated of it
pub any : {X : Type 0} (found : Option X) → Keeps (λ x. ⊤) found
any found = record { holds = λ x same. tt }

pub after : {X Y : Type 0} {P : X → Type 0} {Q : Y → Type 0} {found : Option X} (next : X → Option Y)
    → Keeps P found → ((x : X) → P x → Keeps Q (next x)) → Keeps Q (found >>= next)
after {found = Some x} next p q = q x (p.holds x refl)
after {found = None} next p q = missing

pub mapped : {X Y : Type 0} {P : X → Type 0} {Q : Y → Type 0} {found : Option X} (f : X → Y)
    → Keeps P found → ((x : X) → P x → Q (f x)) → Keeps Q (option_map f found)
mapped {found = Some x} f p q = made (q x (p.holds x refl))
mapped {found = None} f p q = missing

tested_once : {X : Type 0} (test : X → Bool) (x : X) (b : Bool) → test x ≡ b → Keeps (λ y. test y ≡ true) (if b then Some x else None)
tested_once test x true is = made is
tested_once test x false is = missing

pub tested : {X : Type 0} (test : X → Bool) (found : Option X) → Keeps (λ x. test x ≡ true) (found >>= only_if test)
tested test (Some x) = tested_once test x (test x) refl
tested test None = missing

passed_once : {X : Type 0} {P : X → Type 0} (x : X) (b : Bool) → P x → Keeps P (if b then Some x else None)
passed_once x true p = made p
passed_once x false p = missing

-- a test leaves a statement true
pub passed : {X : Type 0} {P : X → Type 0} (test : X → Bool) (found : Option X) → Keeps P found → Keeps P (found >>= only_if test)
passed test (Some x) p = passed_once x (test x) (p.holds x refl)
passed test None p = missing

-- ---- of a result

pub record KeepsOk {X : Type 0} (P : X → Type 0) (result : Result X WireFault) : Type 0 where
  pub holds : (x : X) → result ≡ Ok x → P x

pub done : {X : Type 0} {P : X → Type 0} {x : X} → P x → KeepsOk P (Ok x)
done {X} {P} {x} p = record { holds = λ y same. let e : x ≡ y = cc in subst P e p }

pub refused : {X : Type 0} {P : X → Type 0} {fault : WireFault} → KeepsOk P (Err fault)
refused = record { holds = λ y same. cc }

pub ok_if_found : {X : Type 0} {P : X → Type 0} {found : Option X} (fault : WireFault) → Keeps P found → KeepsOk P (ok_or found fault)
ok_if_found {found = Some x} fault p = done (p.holds x refl)
ok_if_found {found = None} fault p = refused

pub either : {X : Type 0} {P : X → Type 0} {first second : Result X WireFault} (b : Bool)
    → KeepsOk P first → KeepsOk P second → KeepsOk P (if b then first else second)
either true p q = p
either false p q = q
