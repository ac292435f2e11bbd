-- The row with this number has the session's DevEUI and nonce.
use Rattle.std.proofs.Common.{[], ◌∷◌}
use Rattle.desk_rows.proofs.DeskTables.{everything, finds_number, refl, sessions, understood}
use Rattle.desk_rows.proofs.sessions.session.Goals as goal

pub returns : goal.returns
unfolding understood everything
returns g c = finds_number sessions c.args.number (2 ∷ 3 ∷ []) (refl, refl) refl (λ b. b.1.session) (λ b. refl) (λ b fits. (fits.device, fits.nonce)) (rw (c.json_integer.ensures.same) at c.find.ensures)
