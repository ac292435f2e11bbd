-- `find` returns the first band of the table in which the transmission lies, and no other band has it.
use Rattle.std.proofs.Common.{◌≡◌, Option, Some, ◌∙◌, subst, sym, rules, tests}
use Rattle.std.proofs.lemmas.Iterator.{YieldsList-from_slice}
use Rattle.std.proofs.lemmas.Iterator.Search.{find_from_yields_List}
use Rattle.std.specs.Prelude.{◌↔◌, IsTrue}
use Rattle.radio_core.specs.declared.bands.Band.{Band}
use Rattle.radio_core.specs.Bands.{band_at, bands, lies_in}
use Rattle.radio_core.proofs.FoundBands.{band_is_found}
use Rattle.radio_core.proofs.bands.band_of.Goals as goal

pub returns-clause-exact : goal.returns-clause-exact
unfolding band_at
returns-clause-exact c =
    c.copied.ensures ∙ find_from_yields_List (lies_in c.args.freq c.args.dr) _ _ _ c.find.ensures.ran (YieldsList-from_slice bands cc) (λ x b q k. search (rules, tests))

pub returns-clause-found : goal.returns-clause-found
returns-clause-found c =
    subst (λ (r : Option Band). (band : Band) → (r ≡ Some band) ↔ IsTrue (lies_in c.args.freq c.args.dr band)) (sym (returns-clause-exact c)) (band_is_found c.args.freq c.args.dr)
