-- The loop of `rooms_text`: the lines of the bands so far are written, and the near bookings are still those of the store.
use Rattle.std.proofs.Common.{◌≡◌, None, take}
use Rattle.radio_core.specs.Bands.{bands}
use Rattle.desk_store.specs.Calls.{ForHeld, IsRead}
use Rattle.desk_engine.specs.steps.Rooms.{AreNear, HasRooms, KeepsAir}
use Rattle.desk_engine.proofs.room_reports.rooms_text.Given as goal

-- the lines of the bands so far are written
abbrev pub invariant-loop-band : goal.invariant-loop-band
invariant-loop-band g l = record {
  items : l.band-items ≡ bands;
  read : IsRead g.K.Looks.meaning l.fn.keeper l.keeper None;
  near : ForHeld g.K.Looks.meaning l.fn.keeper l.keeper (λ kept. AreNear kept.facts l.gateway l.time l.near.items);
  told : ForHeld g.K.Looks.meaning l.fn.keeper l.keeper (λ kept. KeepsAir kept.facts → HasRooms kept.facts l.gateway l.time (take l.band-index l.band-items) l.text.items);
}
