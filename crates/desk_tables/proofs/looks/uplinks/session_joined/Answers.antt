-- The one session of the device with the nonce is where the registry finds the join uplink.
use Rattle.std.proofs.Common.{◌∙◌, sym, ap, option_map}
use Rattle.std.specs.Prelude.{option_and_then}
use Rattle.registry_core.specs.declared.facts.Kind.TheVariants.{Join}
use Rattle.registry_core.specs.Numbered.{first_that}
use Rattle.registry_core.specs.State.{State}
use Rattle.desk_rows.specs.Rows.{is_session, is_uplink}
use Rattle.desk_tables.proofs.Reading.{says_also}
use Rattle.desk_tables.proofs.looks.uplinks.session_joined.Goals as goal

pub returns : goal.returns
returns g c = says_also _ _ _ _ _ (λ r number is config kept tell.
    let laws = c.look_ups_tell.ensures config kept.facts r tell.are in
    sym (laws.5.join c.args.device c.args.nonce)
    ∙ (λ i. option_and_then (λ n. laws.0.uplink_with (is_uplink n Join c.args.nonce) i)
    (option_map (λ found. found.0) (laws.0.session_that (is_session c.args.device c.args.nonce) i)))
    ∙ ap (option_and_then (λ n. first_that (is_uplink n Join c.args.nonce) r.uplinks)) (sym is)
    ∙ ap (λ (s : State). option_and_then (λ n. first_that (is_uplink n Join c.args.nonce) s.uplinks) number) (sym tell.are.is)) c.session_with_nonce.ensures
