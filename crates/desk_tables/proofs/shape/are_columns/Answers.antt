-- `zip` pairs each column with its shape, so if the lengths agree and all pairs match, the lists are equal.
use Rattle.std.proofs.Common.{rules, tests, sym, ◌∙◌}
use Rattle.std.proofs.lemmas.List.{length-map}
use Rattle.std.proofs.lemmas.Iterator.{YieldsList-from_slice, YieldsList-from_zip, same_from_all}
use Rattle.desk_tables.specs.steps.Shape.{column_shaped}
use Rattle.desk_tables.proofs.ShapeLemmas.{shaped_list}
use Rattle.desk_tables.proofs.shape.are_columns.Goals as goal

pub returns-then-columns-shapes : goal.returns-then-columns-shapes
returns-then-columns-shapes c =
    same_from_all c.all.new.self _ _ _ _ c.all.ensures.ran
    (YieldsList-from_zip (YieldsList-from_slice c.args.columns.now cc) (shaped_list column_shaped (YieldsList-from_slice c.args.shapes.now cc)))
    (c.if-columns-shapes.true ∙ sym (length-map _ _)) (λ x q k. search (rules, tests)) (λ x q k. search (rules, tests))
