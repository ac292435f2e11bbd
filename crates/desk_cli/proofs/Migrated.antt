-- The command's error for the store's error, where no desk is moved to schema 2: one of four.
use Rattle.std.proofs.Common.{◌≡◌, Err, inl, inr, refl, ap, ◌∙◌}
use Rattle.std.specs.Prelude.{◌⊎◌}
use Rattle.desk_store.specs.Calls.{IsUnavailability}
use Rattle.desk_store.specs.declared.faults.StoreFault.{StoreFault}
use Rattle.desk_store.specs.declared.faults.StoreFault.TheVariants as store
use Rattle.desk_cli.proofs.Opened.{err, is_unavailable}
use Rattle.desk_cli.specs.Faults.{fault_of_store}
use Rattle.desk_cli.specs.declared.faults.Fault.{Fault}
use Rattle.desk_cli.specs.declared.faults.Fault.TheVariants.{Exists, NotADesk, Schema, Unavailable}

pub told_or_unavailable : {T : Type 0} (fault wanted : StoreFault) (f : Fault) → f ≡ fault_of_store fault → (fault ≡ wanted) ⊎ IsUnavailability fault
    → (err {T = T} f ≡ Err (fault_of_store wanted)) ⊎ (err {T = T} f ≡ Err Unavailable)
told_or_unavailable fault wanted f is (inl same) = inl (ap Err (is ∙ ap fault_of_store same))
told_or_unavailable fault wanted f is (inr failed) = inr (ap Err (is ∙ is_unavailable fault failed))

-- the command's error for a store's error is one of four
pub says_fault : {T : Type 0} (fault : StoreFault) (f : Fault) → f ≡ fault_of_store fault
    → (err {T = T} f ≡ Err NotADesk) ⊎ ((err {T = T} f ≡ Err Schema) ⊎ ((err {T = T} f ≡ Err Exists) ⊎ (err {T = T} f ≡ Err Unavailable)))
says_fault store.NotADesk f is = inl (ap Err is)
says_fault store.SchemaVersion f is = inr (inl (ap Err is))
says_fault store.Exists f is = inr (inr (inl (ap Err is)))
says_fault store.Memory f is = inr (inr (inr (ap Err is)))
says_fault store.Disk f is = inr (inr (inr (ap Err is)))
says_fault store.Size f is = inr (inr (inr (ap Err is)))

pub exists_of : (fault : StoreFault) (f : Fault) → f ≡ fault_of_store fault → f ≡ Exists → fault ≡ store.Exists
exists_of store.Exists f is same = refl
exists_of store.Memory f is same = cc
exists_of store.Disk f is same = cc
exists_of store.Size f is same = cc
exists_of store.NotADesk f is same = cc
exists_of store.SchemaVersion f is same = cc
