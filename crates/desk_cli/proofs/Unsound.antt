-- A look-up of a store that is never sound, by how it ended.
use Rattle.std.proofs.Common.{◌≡◌, Bool, Option}
use Rattle.std.specs.Prelude.{◌||◌}
use Rattle.registry_core.specs.Settings.{Settings}
use Rattle.desk_store.specs.declared.faults.StoreFault.{StoreFault}
use Rattle.desk_store.specs.Calls.{IsOfReading, IsRead, is_disk, is_not_a_desk}
use Rattle.desk_cli.specs.steps.Unsound.{unsound}

pub read_by : {K : Type 0} → (configuration : K → Settings) → (failed not_a_desk : K → Bool) → (old new : K) → (fault : Option StoreFault)
    → configuration new ≡ configuration old → failed new ≡ (is_disk fault || failed old) → not_a_desk new ≡ (is_not_a_desk fault || not_a_desk old)
    → IsOfReading fault → IsRead (unsound configuration failed not_a_desk) old new fault
read_by configuration failed not_a_desk old new fault same shut not_a_desk_now reading = record {
  same = same;
  was_sound = λ sound. sound;
  shut = shut;
  not_a_desk_now = not_a_desk_now;
  reading = reading;
  held = λ kept sound held. held;
  left = λ kept all sound held left. left;
  unavailable = λ kept sound held. absurd sound;
  rests = λ stored sound at_rest. at_rest;
}
