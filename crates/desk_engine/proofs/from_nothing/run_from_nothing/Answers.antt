-- A new store represents the empty log, so what `run` promises of a log is true of the empty one.
use Rattle.std.proofs.Common.{[], sym, ap, ◌∙◌, subst, map, take}
use Rattle.registry_core.specs.Rules.{GoesByRules}
use Rattle.desk_store.specs.Lists.{kept_of, lists_meaning}
use Rattle.desk_store.specs.declared.lists.Lists.{Lists}
use Rattle.desk_engine.specs.Deliveries.{heard_all}
use Rattle.desk_engine.specs.Outcomes.{deliveries_of}
use Rattle.desk_engine.proofs.KeptAfter.{rules_of}
use Rattle.desk_engine.proofs.NewLists.{was_made}
use Rattle.desk_engine.proofs.Runs.{most_heard_at_sizes}
use Rattle.desk_engine.proofs.from_nothing.run_from_nothing.Goals as goal

pub returns-in-Ok-clause-outcomes : goal.returns-in-Ok-clause-outcomes
returns-in-Ok-clause-outcomes c =
    c.in-Ok.ensures.outcomes c.args.config [] (was_made c.args.config _ _ _ (c.nothing_is_heard.ensures c.args.config) c.deref_mut.ensures.value c.in_ok-lists.ensures.opens c.in_ok-lists.ensures.config)

pub returns-in-Ok-clause-kept : goal.returns-in-Ok-clause-kept
returns-in-Ok-clause-kept c =
    ap kept_of c.into_inner.ensures ∙ sym (c.in-Ok.ensures.store.order c.args.config [] (was_made c.args.config _ _ _ (c.nothing_is_heard.ensures c.args.config) c.deref_mut.ensures.value c.in_ok-lists.ensures.opens c.in_ok-lists.ensures.config)).kept

pub returns-in-Ok-clause-rules : goal.returns-in-Ok-clause-rules
returns-in-Ok-clause-rules c =
    let after = c.in-Ok.ensures.store.order c.args.config [] (was_made c.args.config _ _ _ (c.nothing_is_heard.ensures c.args.config) c.deref_mut.ensures.value c.in_ok-lists.ensures.opens c.in_ok-lists.ensures.config) in
    subst (λ (l : Lists). GoesByRules (kept_of l).facts) (sym c.into_inner.ensures) (rules_of c.rules_are_kept.ensures c.args.config _ _ after.kept)

pub returns-in-Ok-clause-sizes : goal.returns-in-Ok-clause-sizes
returns-in-Ok-clause-sizes c =
    most_heard_at_sizes lists_meaning (λ k out_of_space. out_of_space) c.args.config [] _ _ _ _
    (c.in-Ok.ensures.sizes c.args.config [] (was_made c.args.config _ _ _ (c.nothing_is_heard.ensures c.args.config) c.deref_mut.ensures.value c.in_ok-lists.ensures.opens c.in_ok-lists.ensures.config))

pub returns-in-Ok-clause-repeats : goal.returns-in-Ok-clause-repeats
returns-in-Ok-clause-repeats c =
    c.in-Ok.ensures.repeats c.args.config [] (was_made c.args.config _ _ _ (c.nothing_is_heard.ensures c.args.config) c.deref_mut.ensures.value c.in_ok-lists.ensures.opens c.in_ok-lists.ensures.config)

pub returns-in-Ok-clause-uplinks : goal.returns-in-Ok-clause-uplinks
returns-in-Ok-clause-uplinks c =
    c.in-Ok.ensures.uplinks c.args.config [] (was_made c.args.config _ _ _ (c.nothing_is_heard.ensures c.args.config) c.deref_mut.ensures.value c.in_ok-lists.ensures.opens c.in_ok-lists.ensures.config)

pub returns-in-Ok-clause-rules_before : goal.returns-in-Ok-clause-rules_before
returns-in-Ok-clause-rules_before c = λ n.
    c.rules_are_kept.ensures c.args.config (heard_all c.args.config [] (take n (deliveries_of (map (λ t. t.now) c.args.texts.now) c.in-Ok.outcomes.items)))
