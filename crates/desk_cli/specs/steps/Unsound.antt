-- A store for tests that is never sound: it reports its configuration, that it has failed, and that it isn't a desk, and nothing of its rows.
use Rattle.std.specs.Prelude.{Bool}
use Rattle.registry_core.specs.Settings.{Settings}
use Rattle.desk_store.specs.Meaning.{Meaning}

abbrev pub unsound : {K : Type 0} → (K → Settings) → (K → Bool) → (K → Bool) → Meaning K
unsound configuration failed not_a_desk = record {
  configuration = configuration;
  sound = λ k. ⊥;
  failed = failed;
  not_a_desk = not_a_desk;
  out_of_space = λ k. ⊥;
  holds = λ k kept. ⊥;
  leaves = λ k all. ⊥;
  Stored = Unit {0};
  rests = λ k stored. ⊥;
}
