-- Joined with the sessions of the device, the uplinks in the period, of every band, give their numbers by start.
use Rattle.std.proofs.Common.{◌≡◌, rules}
use Rattle.sqlite_value.specs.Value.{owned}
use Rattle.sqlite_value.specs.declared.value.Value.TheVariants.{Int}
use Rattle.desk_rows.proofs.UplinkQueries.{reads_uplink_numbers}
use Rattle.desk_rows.proofs.uplinks.uplinks_between.Goals as goal

pub returns : goal.returns
returns g c =
    let from : owned c.integer.result ≡ Int c.args.from = search rules in
    let to : owned c.integer-2.result ≡ Int c.args.to = search rules in
    reads_uplink_numbers c.between_text.ensures c.args.device c.octets_of-eui.ensures.range c.args.from c.args.to
    (rw (c.blob.ensures, c.octets_of-eui.ensures.same, from, to) at c.find_all.ensures)
