-- Each list is the one that is asked for.
use Rattle.desk_engine.proofs.lists.text_of.Goals as goal

pub returns-in-Senders-clause-told : goal.returns-in-Senders-clause-told
returns-in-Senders-clause-told g c = λ kept sound held. rw c.in-Senders.is (c.senders_text.ensures.told kept sound held)

pub returns-in-Owners-clause-told : goal.returns-in-Owners-clause-told
returns-in-Owners-clause-told g c = λ kept sound held. rw c.in-Owners.is (c.owners_text.ensures.told kept sound held)

pub returns-in-Gateways-clause-told : goal.returns-in-Gateways-clause-told
returns-in-Gateways-clause-told g c = λ kept sound held. rw c.in-Gateways.is (c.gateways_text.ensures.told kept sound held)

pub returns-in-Devices-clause-told : goal.returns-in-Devices-clause-told
returns-in-Devices-clause-told g c = λ kept sound held. rw c.in-Devices.is (c.devices_text.ensures.told kept sound held)
