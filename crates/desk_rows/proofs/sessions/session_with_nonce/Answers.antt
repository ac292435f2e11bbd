-- The DevEUI and the nonce are a unique key, so the number that is found is that of the only such session.
use Rattle.std.proofs.Common.{[], ◌∷◌}
use Rattle.desk_rows.proofs.DeskTables.{everything, finds_first, refl, session_key, sessions, understood}
use Rattle.desk_rows.proofs.sessions.session_with_nonce.Goals as goal

pub returns : goal.returns
unfolding understood everything
returns g c = finds_first sessions session_key (c.args.device, c.args.nonce) c.octets_of-octets.ensures.range (0 ∷ []) (refl, refl) refl refl (λ b. b.0) (λ b. refl) (λ b fits. tt) (rw (c.blob.ensures, c.octets_of-octets.ensures.same, c.short.ensures.same) at c.find.ensures)
