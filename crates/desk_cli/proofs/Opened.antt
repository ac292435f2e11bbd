-- The command's error for the store's error, where no desk opens: one of three, and the file is as it was.
use Rattle.std.proofs.Common.{◌≡◌, ◌≢◌, List, None, Result, Err, inl, inr, refl}
use Rattle.std.specs.Prelude.{◌⊎◌}
use Rattle.sqlite.specs.Held.{Held, state}
use Rattle.sqlite.specs.State.{HasCleanDisk}
use Rattle.sqlite_trees.specs.declared.store.Store.{Ghosts}
use Rattle.registry_core.specs.declared.messages.Envelope.{Envelope}
use Rattle.registry_core.specs.Settings.{Settings}
use Rattle.desk_tables.specs.Adopting.{IsGivenBack}
use Rattle.desk_cli.specs.OnTables.{IsLeft, KeepsHeard}
use Rattle.desk_store.specs.declared.faults.StoreFault.{StoreFault}
use Rattle.desk_store.specs.declared.faults.StoreFault.TheVariants.{Memory, Disk, Size, NotADesk, SchemaVersion, Exists}
use Rattle.desk_store.specs.Calls.{IsUnavailability}
use Rattle.desk_cli.specs.Faults.{fault_of_store}
use Rattle.desk_cli.specs.declared.faults.Fault.{Fault}
use Rattle.desk_cli.specs.declared.faults.Fault.TheVariants.{Unavailable}
use Rattle.desk_cli.specs.declared.faults.Fault.TheVariants as told

-- an error of a result of this type
abbrev pub err : {T : Type 0} → Fault → Result T Fault
err fault = Err fault

pub is_unavailable : (fault : StoreFault) → IsUnavailability fault → fault_of_store fault ≡ Unavailable
is_unavailable Memory is = refl
is_unavailable Disk is = refl
is_unavailable Size is = refl
is_unavailable NotADesk is = absurd is
is_unavailable SchemaVersion is = absurd is
is_unavailable Exists is = absurd is

-- the error for which there is no desk is one of three
pub says_opening : (fault : StoreFault) (f : Fault) → f ≡ fault_of_store fault → fault ≢ Exists → (f ≡ told.NotADesk) ⊎ ((f ≡ told.Schema) ⊎ (f ≡ told.Unavailable))
says_opening Memory f is other = inr (inr is)
says_opening Disk f is other = inr (inr is)
says_opening Size f is other = inr (inr is)
says_opening NotADesk f is other = inl is
says_opening SchemaVersion f is other = inr (inl is)
says_opening Exists f is other = absurd (other refl)

pub says_schema : (fault : StoreFault) (f : Fault) → f ≡ fault_of_store fault → f ≡ told.Schema → fault ≡ SchemaVersion
says_schema SchemaVersion f is same = refl
says_schema Memory f is same = cc
says_schema Disk f is same = cc
says_schema Size f is same = cc
says_schema NotADesk f is same = cc
says_schema Exists f is same = cc

pub not_a_desk_of : (fault : StoreFault) (f : Fault) → f ≡ fault_of_store fault → f ≡ told.NotADesk → fault ≡ NotADesk
not_a_desk_of NotADesk f is same = refl
not_a_desk_of Memory f is same = cc
not_a_desk_of Disk f is same = cc
not_a_desk_of Size f is same = cc
not_a_desk_of SchemaVersion f is same = cc
not_a_desk_of Exists f is same = cc

-- the connection that is given back leaves what it left before
pub left_as_it_was : {S : Type 0} (g : Ghosts S) (conn back : Held S) (c : Settings) (heard : List Envelope)
    → IsGivenBack (state g conn) (state g back) (λ _. ⊥) → HasCleanDisk (state g back) → KeepsHeard g conn c heard → IsLeft g back c heard None
left_as_it_was g conn back c heard given clean keeps = λ trees may. elim (given.crash clean trees may) [ inl was ↦ keeps.left trees was | inr none ↦ absurd none ]
