-- The uplink's bookings that aren't dropped, counted without this one and with it again if it was sent, are those after the change.
use Rattle.std.proofs.Common.{◌≡◌, ◌∙◌, ℕ, cond, refl, ap}
use Rattle.std.specs.Prelude.{◌==◌, ◌-◌}
use Rattle.std.proofs.lemmas.Result.{on_ok_weaker}
use mir.Val.{bool_byte}
use Rattle.registry_core.specs.Numbered.{item_changed}
use Rattle.registry_core.specs.State.{ended}
use Rattle.desk_store.specs.declared.answers.Answers.{Answers}
use Rattle.desk_store.specs.steps.Answers.{AreCounted}
use Rattle.desk_store.specs.steps.Tally.{tallied}
use Rattle.desk_store.proofs.Answered.{ended_counted}
use Rattle.desk_store.proofs.answers.Answers.end.Goals as goal

pub returns-clause-ended : goal.returns-clause-ended
returns-clause-ended c = λ bookings number few there was.
    let old = c.args.self.now in
    let new : Answers = record { named = c.args.self.now.named; standing = c.set.new.self } in
    let uplink = c.args.booking.now.uplink in
    let counted : ((other : ℕ) → tallied c.set.new.self other ≡ cond (uplink == other) c.saturating_add.result (tallied old.standing other))
    → AreCounted (item_changed (ended c.args.sent) bookings number) new =
    λ set. ended_counted bookings number c.args.booking.now c.args.sent there old new was refl c.from.result c.from-2.result c.saturating_sub-others.result c.saturating_add.result few
    (c.from.ensures ∙ ap bool_byte c.stands.ensures) c.from-2.ensures (c.saturating_sub-others.ensures ∙ ap (λ n. n - c.from.result) c.at.ensures) c.saturating_add.ensures set in
    on_ok_weaker _ counted c.set.ensures.ok
