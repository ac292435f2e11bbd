-- New lists represent the empty log.
use Rattle.std.proofs.Common.{[], ap, sym, ◌≡◌, ◌∙◌}
use Rattle.registry_core.specs.Heard.{IsHeard}
use Rattle.registry_core.specs.Settings.{Settings}
use Rattle.registry_core.specs.State.{opening}
use Rattle.desk_store.specs.Lists.{kept_of, lists_meaning, settings_of}
use Rattle.desk_store.specs.declared.lists.Lists.{Lists}
use Rattle.desk_engine.specs.InOrder.{WasInOrder, kept_after}

-- they are in order for nothing, whatever comes of them
pub was_made : (c : Settings) (made begun after : Lists) → IsHeard c [] → begun ≡ made
    → kept_of made ≡ record { facts = opening c; entries = [] } → settings_of made ≡ c → WasInOrder lists_meaning c [] begun after
unfolding kept_after
was_made c made begun after list same opens settings = record {
  its = sym (ap settings_of same ∙ settings);
  sound = tt;
  order = record { list = list; kept = sym (ap kept_of same ∙ opens) };
}
