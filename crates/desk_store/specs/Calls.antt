-- What each call of a store satisfies, whatever it returns.
use Rattle.std.specs.Prelude.{◌≡◌, ◌||◌, Bool, true, false, List, Option, Some, None, Result, Ok, Err, IfOk, IfSome}
use Rattle.desk_store.specs.declared.faults.StoreFault.{StoreFault}
use Rattle.desk_store.specs.declared.faults.StoreFault.TheVariants.{Memory, Disk, Size, NotADesk, SchemaVersion, Exists}
use Rattle.desk_store.specs.Kept.{Kept}
use Rattle.desk_store.specs.Meaning.{Meaning}

-- ---- errors

-- the error that a call returned, if it returned one
abbrev pub fault_in : {T : Type 0} → Result T StoreFault → Option StoreFault
fault_in (Ok x) = None
fault_in (Err fault) = Some fault

abbrev pub is_disk : Option StoreFault → Bool
is_disk (Some Disk) = true
is_disk _ = false

-- the error is `NotADesk`
abbrev pub is_not_a_desk : Option StoreFault → Bool
is_not_a_desk (Some NotADesk) = true
is_not_a_desk _ = false

-- out of memory, a disk error or out of space: the delivery is answered Unavailable
abbrev pub IsUnavailability : StoreFault → Type 0
IsUnavailability Memory = Unit {0}
IsUnavailability Disk = Unit {0}
IsUnavailability Size = Unit {0}
IsUnavailability NotADesk = ⊥
IsUnavailability SchemaVersion = ⊥
IsUnavailability Exists = ⊥

-- an error that a call of an open store returns: not `SchemaVersion` or `Exists`, which only making and opening a store return
abbrev pub IsOfCalls : Option StoreFault → Type 0
IsOfCalls (Some SchemaVersion) = ⊥
IsOfCalls (Some Exists) = ⊥
IsOfCalls _ = Unit {0}

-- an error that a reading call of an open store returns: `Size` neither
abbrev pub IsOfReading : Option StoreFault → Type 0
IsOfReading (Some Size) = ⊥
IsOfReading (Some SchemaVersion) = ⊥
IsOfReading (Some Exists) = ⊥
IsOfReading _ = Unit {0}

-- ---- calls

module _ {K : Type 0} where
  -- One or more calls in a row, or none. `disk`: one of them returned `Disk`. `not_a_desk`: one of them returned `NotADesk`. The configuration
  -- is the same. If the store is sound now, it was sound before. The store is failed now if it was before or if `disk`, and not otherwise.
  pub record IsCall (m : Meaning K) (old new : K) (disk not_a_desk : Bool) : Type 0 where
    pub same : m.configuration new ≡ m.configuration old
    pub was_sound : m.sound new → m.sound old
    pub shut : m.failed new ≡ disk || m.failed old
    pub not_a_desk_now : m.not_a_desk new ≡ not_a_desk || m.not_a_desk old

  -- One or more reading calls in a row, or none, which ended with this error or with none. What the store represents, what a crash leaves
  -- and what the medium stores, a desk or not, are the same.
  pub record IsRead (m : Meaning K) (old new : K) (fault : Option StoreFault) : Type 0 where
    pub same : m.configuration new ≡ m.configuration old
    pub was_sound : m.sound new → m.sound old
    pub shut : m.failed new ≡ is_disk fault || m.failed old
    pub not_a_desk_now : m.not_a_desk new ≡ is_not_a_desk fault || m.not_a_desk old
    pub reading : IsOfReading fault
    pub held : (kept : Kept) → m.sound new → m.holds old kept → m.holds new kept
    pub left : (kept : Kept) (all : List Kept) → m.sound new → m.holds old kept → m.leaves old all → m.leaves new all
    pub unavailable : (kept : Kept) → m.sound new → m.holds old kept → IfSome fault IsUnavailability
    pub rests : (stored : m.Stored) → m.sound new → m.rests old stored → m.rests new stored

  -- `P` is true of whatever the store represented before the call, if the store is sound after it
  abbrev pub ForHeld : Meaning K → K → K → (Kept → Type 0) → Type 0
  ForHeld m old new P = (kept : Kept) → m.sound new → m.holds old kept → P kept

  -- if the call succeeded, its value satisfies `P` for whatever the store represented before
  abbrev pub Tells : {T : Type 0} → Meaning K → K → K → Result T StoreFault → (Kept → T → Type 0) → Type 0
  Tells m old new result P = ForHeld m old new (λ kept. IfOk result (P kept))

  -- a failed store returns `Disk`
  abbrev pub TellsFailed : {T : Type 0} → Meaning K → K → Result T StoreFault → Type 0
  TellsFailed m old result = m.failed old ≡ true → result ≡ Err Disk
