-- A limit is found exactly if the gateway's band has a row, so `is_set` decides whether the effect changes a row or adds one.
use Rattle.std.proofs.Common.{◌∙◌, Ok, ap, is_some}
use Rattle.radio_core.specs.Bands.{band_number}
use Rattle.desk_rows.specs.order.Changes.{has_limit}
use Rattle.desk_tables.specs.declared.effects.input.EffectInput.TheVariants.{Limit}
use Rattle.desk_tables.proofs.CallLemmas.{asks_as, asks_one}
use Rattle.desk_tables.proofs.LimitLemmas.{found_there}
use Rattle.desk_tables.proofs.effects.input.input_of_limit.Goals as goal

pub returns : goal.returns
returns g c = asks_as (Ok (Limit c.is_some.result)) (asks_one c.in_ok-set.ensures) (λ r _. tt)
    (λ r _ told. c.is_some.ensures ∙ ap is_some told ∙ found_there r.limits c.args.gateway.now (band_number c.band.result)
    ∙ ap (λ band. has_limit c.args.gateway.now (band_number band) r.limits) c.band.ensures) (λ r of may said. tt)
