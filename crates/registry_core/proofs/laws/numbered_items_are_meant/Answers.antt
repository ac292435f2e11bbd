-- Three laws by induction over a list: the greatest of its numbers, its first item that passes a test, and a changed item.
use Rattle.registry_core.proofs.NumberedLaws.{first_is_first, greatest_is_most, one_is_changed}
use Rattle.registry_core.proofs.laws.numbered_items_are_meant.Goals as goal

pub returns-clause-greatest : goal.returns-clause-greatest
returns-clause-greatest c = greatest_is_most

pub returns-clause-first : goal.returns-clause-first
returns-clause-first c = first_is_first

pub returns-clause-changed : goal.returns-clause-changed
returns-clause-changed c = one_is_changed
