-- The rows in the order of each list are the registry's list: senders, owners, gateways, devices, receptions, uplinks, bookings.
use Rattle.desk_rows.proofs.OrderLemmas.Listing.{listed_rows_tell}
use Rattle.desk_rows.proofs.order.listed.listed_rows_tell.Goals as goal

pub returns : goal.returns
returns c = listed_rows_tell
