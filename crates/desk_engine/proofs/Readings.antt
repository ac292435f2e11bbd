-- Two calls in a row that only read are together one that only reads.
use Rattle.std.proofs.Common.{◌∙◌, Option, None, ap}
use Rattle.std.specs.Prelude.{◌||◌}
use Rattle.desk_store.specs.declared.faults.StoreFault.{StoreFault}
use Rattle.desk_store.specs.Calls.{IsRead, is_disk, is_not_a_desk}
use Rattle.desk_store.specs.Meaning.{Meaning}

module _ {K : Type 0} (m : Meaning K) where
  pub read_then : (old mid new : K) (fault : Option StoreFault) → IsRead m old mid None → IsRead m mid new fault → IsRead m old new fault
  read_then old mid new fault first second = record {
    same = second.same ∙ first.same;
    was_sound = λ sound. first.was_sound (second.was_sound sound);
    shut = second.shut ∙ ap (λ b. is_disk fault || b) first.shut;
    not_a_desk_now = second.not_a_desk_now ∙ ap (λ b. is_not_a_desk fault || b) first.not_a_desk_now;
    reading = second.reading;
    held = λ kept sound held. second.held kept sound (first.held kept (second.was_sound sound) held);
    left = λ kept all sound held left. second.left kept all sound (first.held kept (second.was_sound sound) held) (first.left kept all (second.was_sound sound) held left);
    unavailable = λ kept sound held. second.unavailable kept sound (first.held kept (second.was_sound sound) held);
    rests = λ stored sound rests. second.rests stored sound (first.rests stored (second.was_sound sound) rests);
  }
