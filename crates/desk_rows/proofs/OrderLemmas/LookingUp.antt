-- What look-ups in the rows of facts return, by the facts.
use Rattle.std.proofs.Common.{◌≡◌, ℕ, map, find, Option, Some, None, option_map, option_and_then, refl, sym, ap, subst, ◌∙◌}
use Rattle.std.specs.Option.{option_map_or}
use Rattle.std.proofs.lemmas.Bool.{eqb-true}
use Rattle.std.proofs.lemmas.List.{length-map}
use Rattle.registry_core.specs.declared.facts.Uplink.{Uplink}
use Rattle.registry_core.specs.Bookings.{is_answer_to, next_down}
use Rattle.registry_core.specs.Derived.{is_below, is_below_floor, is_data_of}
use Rattle.registry_core.specs.Numbered.{greatest, item_at}
use Rattle.registry_core.specs.Settings.{Settings}
use Rattle.registry_core.specs.State.{State}
use Rattle.desk_rows.specs.Rows.{Rows, BookingRow, DeviceRow, SessionRow, is_device}
use Rattle.desk_rows.specs.order.Facts.{bookings_in, sessions_in}
use Rattle.desk_rows.specs.order.LookUps.{CountersTell, CountsTell, FramesTell, LastOnesTell, LimitsTell, LookUpsTell, NumbersTell, RowsAreItems, floor_in, is_data_row, is_row_of_device}
use Rattle.desk_rows.specs.order.RowsOf.{AreRowsOf, floor_of}
use Rattle.desk_rows.proofs.OrderLemmas.Counters.{HasFloor, next_down_none}
use Rattle.desk_rows.proofs.OrderLemmas.Counting.{filter_alike}
use Rattle.desk_rows.proofs.OrderLemmas.Each.{all_found}
use Rattle.desk_rows.proofs.OrderLemmas.Finding.{found_passes}
use Rattle.desk_rows.proofs.OrderLemmas.Following.{no_floor}
use Rattle.desk_rows.proofs.OrderLemmas.Framing.{data_found, data_row_alike, join_found}
use Rattle.desk_rows.proofs.OrderLemmas.Limits.{limit_stands}
use Rattle.desk_rows.proofs.OrderLemmas.Looking.{any_shown, below_floor, first_falling, first_zipped, last_number, nonces_shown, row_numbered}
use Rattle.desk_rows.proofs.Ordered.{every}
use Rattle.desk_rows.proofs.OrderLemmas.Numbering.{item_at-map}

rows_are_items : (r : Rows) → RowsAreItems r
rows_are_items r = record {
  session_numbered = λ n. row_numbered n r.sessions;
  uplink_at = λ n. row_numbered n r.uplinks;
  booking_at = λ n. row_numbered n r.bookings;
  session_that = λ test. first_zipped test 1 r.sessions;
  uplink_with = λ test. first_zipped test 1 r.uplinks;
}

module _ (c : Settings) (facts : State) (r : Rows) (are : AreRowsOf c facts r) where
  -- ---- of the rows' own facts

  floor_by : (dev_eui : ℕ) (found : Option DeviceRow) → find (is_device dev_eui) r.devices ≡ found
      → option_and_then (λ (d : DeviceRow). d.floor) found ≡ floor_of r.uplinks (sessions_in r.sessions) dev_eui
  floor_by dev_eui None is = no_floor r are.names dev_eui (ap (option_map (λ (d : DeviceRow). d.device)) is)
  floor_by dev_eui (Some d) is =
      all_found (HasFloor r.uplinks (sessions_in r.sessions)) (is_device dev_eui) r.devices d is are.counted.floors
      ∙ ap (floor_of r.uplinks (sessions_in r.sessions)) (eqb-true d.dev_eui dev_eui (found_passes (is_device dev_eui) r.devices d is))

  floor_tells : (dev_eui n : ℕ) → is_below n (floor_in r.devices dev_eui) ≡ is_below_floor r.uplinks (sessions_in r.sessions) dev_eui n
  floor_tells dev_eui n = ap (is_below n) (floor_by dev_eui (find (is_device dev_eui) r.devices) refl)
      ∙ below_floor r.uplinks (sessions_in r.sessions) dev_eui n

  next_down_by : (n : ℕ) (found : Option SessionRow) → item_at r.sessions n ≡ found
      → option_map_or (λ (s : SessionRow). s.next_down) found 0 ≡ next_down (bookings_in r.bookings) r.uplinks n
  next_down_by n None is =
      let absent = item_at-map (λ (s : SessionRow). s.session) r.sessions n ∙ ap (option_map (λ (s : SessionRow). s.session)) is in
      sym (next_down_none r.uplinks (sessions_in r.sessions) are.names.uplinks n absent r.bookings are.counted.bookings)
  next_down_by n (Some s) is = are.counted.next_downs n s is

  -- ---- of the facts

  counters_tell : CountersTell facts r
  counters_tell = subst (λ s. CountersTell s r) (sym are.is)
      (record {
        floor = floor_tells;
        next_down = λ n. ap (λ found. option_map_or (λ (s : SessionRow). s.next_down) found 0) (row_numbered n r.sessions)
            ∙ next_down_by n (item_at r.sessions n) refl;
      })

  last_ones_tell : LastOnesTell facts r
  last_ones_tell = subst (λ s. LastOnesTell s r) (sym are.is) (record {
    nonce = λ dev_eui order falls. first_falling (λ (s : SessionRow). s.session.nonce) order falls (is_row_of_device dev_eui) r.sessions
        ∙ nonces_shown r.sessions dev_eui;
    counter = λ n order falls. first_falling (λ (u : Uplink). u.counter) order falls (is_data_row n) r.uplinks
        ∙ ap (λ us. greatest (map (λ (u : Uplink). u.counter) us))
        (filter_alike (λ u. Unit {0}) (is_data_row n) (is_data_of n) (λ u done. data_row_alike n u u.kind refl) r.uplinks (every r.uplinks));
  })

  numbers_tell : NumbersTell facts r
  numbers_tell = subst (λ s. NumbersTell s r) (sym are.is) (record {
    session = λ n. ap (option_map (λ (s : SessionRow). s.session)) (row_numbered n r.sessions)
        ∙ sym (item_at-map (λ (s : SessionRow). s.session) r.sessions n);
    uplink = λ n. row_numbered n r.uplinks;
    booking = λ n. ap (option_map (λ (b : BookingRow). b.booking)) (row_numbered n r.bookings)
        ∙ sym (item_at-map (λ (b : BookingRow). b.booking) r.bookings n);
    answered = λ n. any_shown (λ (b : BookingRow). b.booking) (is_answer_to n) r.bookings;
  })

  counts_tell : CountsTell facts r
  counts_tell = subst (λ s. CountsTell s r) (sym are.is) (record {
    sessions = λ order falls. last_number order falls r.sessions ∙ sym (length-map r.sessions (λ (s : SessionRow). s.session));
    uplinks = λ order falls. last_number order falls r.uplinks;
    bookings = λ order falls. last_number order falls r.bookings ∙ sym (length-map r.bookings (λ (b : BookingRow). b.booking));
  })

  frames_tell : FramesTell facts r
  frames_tell = subst (λ s. FramesTell s r) (sym are.is) (record { join = join_found r are.names are.keyed; data_up = data_found r.uplinks })

  limits_tell : LimitsTell facts r
  limits_tell = subst (λ s. LimitsTell s r) (sym are.is) (record { standing = λ gateway band. refl; set = λ gateway limit. limit_stands r.limits gateway limit })

pub look_ups_tell : LookUpsTell
look_ups_tell c facts r are = (
  rows_are_items r,
  counters_tell c facts r are,
  last_ones_tell c facts r are,
  numbers_tell c facts r are,
  counts_tell c facts r are,
  frames_tell c facts r are,
  limits_tell c facts r are,
)
