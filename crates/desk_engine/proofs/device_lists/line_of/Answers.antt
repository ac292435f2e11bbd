-- A device's line, by its columns.
use Rattle.std.proofs.Common.{◌∙◌}
use Rattle.registry_core.specs.Listing.{sessions_of}
use Rattle.desk_engine.proofs.Listings.{line_is}
use Rattle.desk_engine.proofs.device_lists.line_of.Goals as goal

pub returns-clause-told : goal.returns-clause-told
returns-clause-told g c = λ kept sound held.
    line_is (g.K.Looks.meaning.configuration c.args.keeper.now) kept.facts c.args.dev_eui c.args.device.now (sessions_of kept.facts.sessions c.args.dev_eui) _ _
    (c.as_str.ensures.value ∙ c.in_ok-rest.ensures.told kept sound held) c.in_ok-device_list_columns.ensures
