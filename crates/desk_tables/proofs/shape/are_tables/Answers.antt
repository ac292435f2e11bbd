-- `zip` pairs each table with its shape, so if the lengths agree and all pairs match, the lists are equal.
use Rattle.std.proofs.Common.{rules, tests, sym, ◌∙◌}
use Rattle.std.proofs.lemmas.List.{length-map}
use Rattle.std.proofs.lemmas.Iterator.{YieldsList-from_slice, YieldsList-from_zip, same_from_all}
use Rattle.desk_tables.specs.steps.Shape.{table_shaped}
use Rattle.desk_tables.proofs.ShapeLemmas.{shaped_list}
use Rattle.desk_tables.proofs.shape.are_tables.Goals as goal

pub returns-then-tables-shapes : goal.returns-then-tables-shapes
returns-then-tables-shapes c =
    same_from_all c.all.new.self _ _ _ _ c.all.ensures.ran
    (YieldsList-from_zip (YieldsList-from_slice c.args.tables.now cc) (shaped_list table_shaped (YieldsList-from_slice c.args.shapes.now cc)))
    (c.if-tables-shapes.true ∙ sym (length-map _ _)) (λ x q k. search (rules, tests)) (λ x q k. search (rules, tests))
