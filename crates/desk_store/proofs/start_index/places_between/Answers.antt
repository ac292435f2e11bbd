-- Two cuts, from `from` on and before `to`, leave what one test for the period leaves.
use Rattle.std.proofs.Common.{◌≡◌, ◌∙◌, ap, subst, sym, List, rules, FitsSigned}
use Rattle.std.specs.Prelude.{int_le, int_lt, filter}
use Rattle.std.specs.Int.{w128}
use Rattle.std.proofs.lemmas.Int.{to_z-of_z}
use Rattle.desk_store.specs.declared.start_index.Place.{Place}
use Rattle.desk_store.specs.steps.ByKey.{Rises}
use Rattle.desk_store.proofs.Parted.{filter_twice, rises_filter}
use Rattle.desk_store.proofs.start_index.places_between.Goals as goal

pub returns : goal.returns
returns c = λ rises.
    let places = c.args.places.now in
    let from = λ (p : Place). int_le c.args.from p.start in
    let before = λ (p : Place). int_lt p.start c.args.to in
    let R : List Place → Type 0 = Rises (λ place. place.start) in
    let from_is : FitsSigned w128 c.args.from = search rules in
    let to_is : FitsSigned w128 c.args.to = search rules in
    let after : c.places_from.result.now ≡ filter from places = simp to_z-of_z at (c.places_from.ensures rises) in
    let both : c.places_before.result.now ≡ filter before c.places_from.result.now =
    simp to_z-of_z at (c.places_before.ensures (subst R (sym after) (rises_filter (λ (p : Place). p.start) from places rises))) in
    both
    ∙ ap (filter before) after
    ∙ filter_twice from before places
