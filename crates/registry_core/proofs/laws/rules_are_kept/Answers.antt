-- Nonces rise from session to session, a counter is used once in a session, and a booking is made only if every hour has room.
use Rattle.std.proofs.lemmas.Bool.{cases_order}
use Rattle.registry_core.specs.Heard.{state_of}
use Rattle.registry_core.proofs.BookedHours.{kept_of}
use Rattle.registry_core.proofs.ReceptionLaws.{session_once}
use Rattle.registry_core.proofs.Decisions.{sound_of}
use Rattle.registry_core.proofs.UplinkLaws.{uplink_once}
use Rattle.registry_core.proofs.laws.rules_are_kept.Goals as goal

pub returns : goal.returns
returns c = λ config heard.
    record {
      joins = λ m n a b at_m at_n device nonce. session_once (state_of config heard).sessions m n a b (sound_of config heard).nonces at_m at_n device nonce (cases_order m n);
      frames = λ m n u v. uplink_once config (state_of config heard) m n u v (sound_of config heard);
      hours = (kept_of c.airtime_is_bounded.ensures c.computed_forms_tell.ensures.within config heard).hours;
    }
