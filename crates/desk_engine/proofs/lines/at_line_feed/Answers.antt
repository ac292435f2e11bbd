-- The octets are split at the place of the first LF; if there is no such place, they have no LF.
use Rattle.std.proofs.Common.{◌+◌, ◌-◌, ◌++◌, ◌∷◌, length, take, drop, sym, ap, ◌∙◌, arith}
use Rattle.std.proofs.lemmas.List.{length-drop, take_all}
use Rattle.desk_engine.specs.Lines.{line_feed}
use Rattle.desk_engine.proofs.InputCuts.{parted_at, unparted}
use Rattle.desk_engine.proofs.lines.at_line_feed.Goals as goal

pub returns-in_default-clause-none : goal.returns-in_default-clause-none
returns-in_default-clause-none c = unparted c.args.octets.now (sym c.first_line_feed.ensures ∙ c.in_default.is)

pub returns-clause-some : goal.returns-clause-some
returns-clause-some c =
    let octets = c.args.octets.now in
    let place = c.in-Some.at in
    let parts = parted_at octets place (sym c.first_line_feed.ensures ∙ c.in-Some.is) in
    let left = take_all (length octets - (place + 1)) (drop (place + 1) octets) (omega (arith, length-drop (place + 1) octets)) in
    (parts.0 ∙ ap (λ l. take place octets ++ line_feed ∷ l) (sym left), parts.1)
