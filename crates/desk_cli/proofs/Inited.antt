-- The command's error for the store's error, where no desk is made: `Exists`, or `NotADesk`.
use Rattle.std.proofs.Common.{◌≡◌, ◌↔◌, Err, refl, ap, ◌∙◌}
use Rattle.desk_store.specs.declared.faults.StoreFault.{StoreFault}
use Rattle.desk_store.specs.declared.faults.StoreFault.TheVariants as store
use Rattle.desk_cli.proofs.Opened.{err}
use Rattle.desk_cli.specs.Faults.{fault_of_store}
use Rattle.desk_cli.specs.declared.faults.Fault.{Fault}
use Rattle.desk_cli.specs.declared.faults.Fault.TheVariants as told

-- `Exists` comes only if there is something already
pub says_exists : {T P : Type 0} (fault : StoreFault) (f : Fault) → f ≡ fault_of_store fault → (fault ≡ store.Exists) ↔ P → (err {T = T} f ≡ Err told.Exists) ↔ P
says_exists store.Exists f is h = (λ e. h.0 refl, λ p. ap Err is)
says_exists store.Memory f is h = (λ e. cc, λ p. let e = h.1 p in cc)
says_exists store.Disk f is h = (λ e. cc, λ p. let e = h.1 p in cc)
says_exists store.Size f is h = (λ e. cc, λ p. let e = h.1 p in cc)
says_exists store.NotADesk f is h = (λ e. cc, λ p. let e = h.1 p in cc)
says_exists store.SchemaVersion f is h = (λ e. cc, λ p. let e = h.1 p in cc)

pub says_not_a_desk : {T : Type 0} (fault : StoreFault) (f : Fault) → f ≡ fault_of_store fault → fault ≡ store.NotADesk → err {T = T} f ≡ Err told.NotADesk
says_not_a_desk fault f is same = ap Err (is ∙ ap fault_of_store same)
