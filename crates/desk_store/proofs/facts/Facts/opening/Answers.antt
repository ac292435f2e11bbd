-- Each empty collection is an empty member of the opening state, and the senders are the operator alone.
use Rattle.std.specs.Prelude.{bytes_eq}
use Rattle.std.specs.List.{list_any}
use Rattle.std.specs.Map.{lookup}
use Rattle.desk_store.specs.Devices.{devices_of}
use Rattle.desk_store.specs.Facts.{same_key}
use Rattle.desk_store.proofs.facts.Facts.opening.Goals as goal

pub returns : goal.returns
returns c =
    λ i. record {
      senders = c.in_ok-operator_alone.ensures i;
      owners = λ name. list_any (bytes_eq name) (c.new.ensures.empty i);
      gateways = λ name. list_any (bytes_eq name) (c.new-2.ensures.empty i);
      devices = λ dev_eui. devices_of (c.new-3.ensures i) dev_eui;
      sessions = c.new-4.ensures i;
      uplinks = c.new-5.ensures.uplinks i;
      receptions = λ number gateway. lookup (same_key (number, gateway)) (c.new-6.ensures.empty i);
      bookings = c.new-5.ensures.bookings i;
      limits = λ gateway band. lookup (same_key (band, gateway)) (c.new-7.ensures.empty i);
    }
