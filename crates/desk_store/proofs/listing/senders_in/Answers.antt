-- The names are the keys of the map, sorted, and the role that is stored with a name doesn't matter.
use Rattle.std.proofs.Common.{rules}
use Rattle.std.specs.Prelude.{bytes_eq}
use Rattle.std.specs.List.{list_any}
use Rattle.std.specs.Map.{keys_of}
use Rattle.registry_core.specs.Listing.{AreNames}
use Rattle.desk_store.proofs.Listed.{senders_listed}
use Rattle.desk_store.proofs.listing.senders_in.Goals as goal

pub returns : goal.returns
returns c =
    let are : AreNames (λ name. list_any (bytes_eq name) (keys_of c.args.senders.now.entries)) c.sort_names.new.names.items = search rules in
    senders_listed c.args.senders.now.entries c.sort_names.new.names.items are
