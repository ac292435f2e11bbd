-- Two look-ups in a row only read, and the error of the second is returned.
use Rattle.std.proofs.Common.{◌≡◌, ◌∙◌, Option, None, Some, Result, Ok, Err, sym, ap, subst}
use Rattle.std.specs.Prelude.{◌||◌, IfOk}
use Rattle.std.specs.Result.{IsErrAnd}
use Rattle.desk_store.specs.declared.faults.StoreFault.{StoreFault}
use Rattle.desk_store.specs.Calls.{IsRead, fault_in, is_disk, is_not_a_desk}
use Rattle.desk_store.specs.Meaning.{Meaning}

pub read_then : {K : Type 0} (m : Meaning K) (a b c : K) (fault : Option StoreFault) → IsRead m a b None → IsRead m b c fault → IsRead m a c fault
read_then m a b c fault one two = record {
  same = two.same ∙ one.same;
  was_sound = λ sound. one.was_sound (two.was_sound sound);
  shut = two.shut ∙ ap (λ failed. is_disk fault || failed) one.shut;
  not_a_desk_now = two.not_a_desk_now ∙ ap (λ not_a_desk. is_not_a_desk fault || not_a_desk) one.not_a_desk_now;
  reading = two.reading;
  held = λ kept sound holds. two.held kept sound (one.held kept (two.was_sound sound) holds);
  left = λ kept all sound holds left. two.left kept all sound (one.held kept (two.was_sound sound) holds) (one.left kept all (two.was_sound sound) holds left);
  unavailable = λ kept sound holds. two.unavailable kept sound (one.held kept (two.was_sound sound) holds);
  rests = λ stored sound rests. two.rests stored sound (one.rests stored (two.was_sound sound) rests);
}

-- the error of the last is returned
pub read_fails : {K T : Type 0} (m : Meaning K) (a b : K) (fault : StoreFault) (result : Result T StoreFault) → IsErrAnd result (λ told. told ≡ fault)
    → IsRead m a b (Some fault) → IsRead m a b (fault_in result)
read_fails m a b fault (Ok x) failed read = absurd failed
read_fails m a b fault (Err told) failed read = subst (λ f. IsRead m a b (Some f)) (sym failed) read

-- and then nothing is stated of a value
pub no_value : {T : Type 0} (P : T → Type 0) (fault : StoreFault) (result : Result T StoreFault) → IsErrAnd result (λ told. told ≡ fault) → IfOk result P
no_value P fault (Ok x) failed = absurd failed
no_value P fault (Err told) failed = tt
