-- Joined with the sessions of the device, the uplinks in the band and the period come ordered by start and then by number.
use Rattle.std.proofs.Common.{◌≡◌, rules}
use Rattle.sqlite_value.specs.Value.{owned}
use Rattle.sqlite_value.specs.declared.value.Value.TheVariants.{Int}
use Rattle.desk_rows.proofs.UplinkQueries.{reads_uplinks}
use Rattle.desk_rows.proofs.spans.uplinks_of.Goals as goal

pub returns : goal.returns
returns g c =
    let from : owned c.integer.result ≡ Int c.args.from = search rules in
    let to : owned c.integer-2.result ≡ Int c.args.to = search rules in
    reads_uplinks c.args.device c.octets_of-eui.ensures.range c.args.of c.args.from c.args.to
    (rw (c.blob.ensures, c.octets_of-eui.ensures.same, from, to, c.band.ensures) at c.find_all.ensures)
