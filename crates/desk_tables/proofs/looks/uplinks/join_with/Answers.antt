-- The session with the nonce and then that session's join uplink are the registry's first join of the device with the nonce.
use Rattle.std.proofs.Common.{◌∙◌, sym, ap}
use Rattle.std.specs.Prelude.{option_and_then}
use Rattle.registry_core.specs.declared.facts.Kind.TheVariants.{Join}
use Rattle.registry_core.specs.Numbered.{first_that}
use Rattle.desk_rows.specs.Rows.{is_uplink}
use Rattle.desk_tables.proofs.CallLemmas.{asks_one, asks_then}
use Rattle.desk_tables.proofs.looks.uplinks.join_with.Goals as goal

pub returns-in-Some : goal.returns-in-Some
returns-in-Some g c = asks_then (asks_one c.in_ok-session.ensures) (asks_one c.join_of.ensures) (λ r of. of) (λ r of said. of) (λ r of may said. may)
    (λ r of said found told config kept tell. told config kept tell
    ∙ sym (said config kept tell ∙ ap (option_and_then (λ n. first_that (is_uplink n Join c.args.nonce) kept.facts.uplinks)) c.in-Some.is))
