-- The session's row comes last, with the literal 0 for the next downlink, if the device has no session with this nonce.
use Rattle.std.proofs.Common.{codes, arith, pos, [], ◌∷◌}
use Rattle.sqlite_value.specs.declared.value.Value.TheVariants.{Int, Null}
use Rattle.sqlite_sql.specs.Term.{lit, col}
use Rattle.desk_rows.proofs.Insertions.{IsInsert}
use Rattle.desk_rows.proofs.DeskTables.{adds, everything, refl, session_key, sessions, understood}
use Rattle.desk_rows.proofs.sessions.insert_session.Goals as goal

-- the number of the next downlink isn't given
text : IsInsert (codes "INSERT INTO session (device, nonce, next_down) VALUES (?1, ?2, 0)") 2 6 (lit Null ∷ lit Null ∷ col 0 0 ∷ col 0 1 ∷ lit (Int (pos 0)) ∷ []) 5
unfolding understood everything
text = record { compiled = _; means = refl; command = refl; plain = (refl, refl); whole = omega arith; given = refl }

pub returns-clause-changes : goal.returns-clause-changes
returns-clause-changes g c = adds sessions session_key text (record { session = c.args.session; next_down = 0 }) (record { device = c.octets_of-device.ensures.range; nonce = c.short.ensures.range }) _ refl refl refl
    (rw (c.blob.ensures, c.octets_of-device.ensures.same, c.short.ensures.same) at c.write.ensures.written)
