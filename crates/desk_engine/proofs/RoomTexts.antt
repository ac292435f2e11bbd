-- Every band has a room, and the lines have it.
use Rattle.std.proofs.Common.{◌≡◌, ◌⊎◌, ◌∙◌, inl, inr, ℕ, zero, suc, ◌≤◌, Bool, true, false, List, [], ◌∷◌, ◌++◌, ap, refl, subst, arith}
use Rattle.std.specs.Prelude.{ℤ, pos, ◌-ℤ◌, ◌&&◌}
use Rattle.std.proofs.lemmas.Bool.{and_parts}
use native.Mathlib.Decide.{dec_le}
use Rattle.radio_core.specs.declared.bands.Band.{Band}
use Rattle.radio_core.specs.Bands.{bands}
use Rattle.duty_core.specs.Computed.{hours_within, is_clear}
use Rattle.duty_core.specs.Laws.{ClearIgnoresOrder, HoursWithinTells, IsClearTells, NearOnesTellClear, NearOnesTellHours}
use Rattle.duty_core.specs.Near.{greatest_length}
use Rattle.duty_core.specs.Room.{HasRoom, IsRoom, RoomIsUnique, ShorterHasRoom}
use Rattle.duty_core.specs.Use.{Interval, hour, use_of}
use Rattle.registry_core.specs.declared.messages.Envelope.{Envelope}
use Rattle.registry_core.specs.declared.views.NearBooking.{NearBooking}
use Rattle.registry_core.specs.Bookings.{downlinks, downlinks_in, limit_standing}
use Rattle.registry_core.specs.DownlinkLaws.{DownlinksAreShort}
use Rattle.registry_core.specs.Heard.{state_of}
use Rattle.registry_core.specs.Rules.{RulesAreKept}
use Rattle.registry_core.specs.Settings.{Settings}
use Rattle.registry_core.specs.State.{State}
use Rattle.desk_engine.specs.InOrder.{kept_after}
use Rattle.desk_engine.specs.Rooms.{IsBandRoom, IsRoomReport, room_line, used_before}
use Rattle.desk_engine.specs.steps.Rooms.{AreNear, HasRooms, IsBandLine, KeepsAir, all_spans, spans_in}
use Rattle.desk_engine.proofs.NearRooms.{room_by_near, used_by_near}

module _ (clear : IsClearTells) (hours : HoursWithinTells) (all of_band : List Interval) (start : ℤ) (limit : ℕ) where
  abbrev new : ℕ → Interval
  new n = record { start = start; len = n }

  abbrev passes : ℕ → Bool
  passes n = is_clear all (new n) && hours_within (of_band ++ new n ∷ []) limit

  passed : (n : ℕ) → passes n ≡ true → HasRoom all of_band start limit n
  passed n e = let both = and_parts (is_clear all (new n)) (hours_within (of_band ++ new n ∷ []) limit) e in
      record { clear = (clear all (new n)).0 both.0; hours = (hours (of_band ++ new n ∷ []) limit).0 both.1 }

  has_passed : (n : ℕ) → HasRoom all of_band start limit n → passes n ≡ true
  has_passed n has = rw ((clear all (new n)).1 has.clear, (hours (of_band ++ new n ∷ []) limit).1 has.hours) refl

  one_or_more : (n most : ℕ) → n ≤ suc most → (n ≤ most) ⊎ (n ≡ suc most)
  one_or_more n most few = by (dec_le n most)
    where
      by : Dec (n ≤ most) → (n ≤ most) ⊎ (n ≡ suc most)
      by (yes fewer) = inl fewer
      by (no more) = inr (omega (arith, few, more))

  pub a_room : ShorterHasRoom → (most : ℕ) → (room : ℕ) × IsRoom all of_band start limit most room
  a_room shorter zero = (0, record { within = omega arith; exact = λ n some few. absurd (omega arith) })
  a_room shorter (suc most) = by (passes (suc most)) refl (a_room shorter most)
    where
      by : (b : Bool) → passes (suc most) ≡ b → (room : ℕ) × IsRoom all of_band start limit most room → (room : ℕ) × IsRoom all of_band start limit (suc most) room
      by true e less = (
        suc most,
        record {
          within = omega arith;
          exact = λ n some few. (λ _. shorter all of_band start limit n (suc most) few (passed (suc most) e), λ _. few);
        },
      )
      by false e less = (
        less.0,
        record {
          within = omega (arith, less.1.within);
          exact = λ n some few. elim (one_or_more n most few) [
            | inl fewer ↦ less.1.exact n some fewer
            | inr last ↦ (λ fits. absurd (omega (arith, less.1.within, fits, last)), λ has. let wrong : passes n ≡ true = has_passed n has in let e_n : passes n ≡ false = rw last e in cc)
          ];
        },
      )

-- ---- lines

-- the line of a band, by what the near downlinks give
pub band_line_is : NearOnesTellClear → NearOnesTellHours → ClearIgnoresOrder → RoomIsUnique → (time : ℕ) (near : List NearBooking) (band : Band) (limit : ℕ) (all of_band spans : List Interval) (start from : ℤ) (used room : ℕ) (line : List ℕ)
    → all ≡ all_spans near → of_band ≡ spans_in band near → spans ≡ spans_in band near → start ≡ pos time → from ≡ start -ℤ pos hour → used ≡ use_of spans from
    → IsRoom all of_band start limit greatest_length room → line ≡ room_line band limit used room
    → (s : State) (gateway : List ℕ) → KeepsAir s → AreNear s gateway time near → limit ≡ limit_standing s gateway band → IsBandLine s gateway time band line
band_line_is clear hours order unique time near band limit all of_band spans start from used room line all_are of_are spans_are starts begins use_is is written s gateway keeps are stands other other_is =
    let moved : IsRoom (all_spans near) (spans_in band near) (pos time) limit greatest_length room = rw (← all_are, ← of_are, ← starts) is in
    let same : room ≡ other = unique _ _ _ _ _ room other (room_by_near clear hours order s gateway time near keeps are band limit room stands moved) other_is in
    let shown : used ≡ used_before s gateway band time =
    use_is ∙ ap (λ l. use_of l from) spans_are ∙ ap (use_of (spans_in band near)) (begins ∙ ap (λ t. t -ℤ pos hour) starts)
    ∙ used_by_near clear hours order s gateway time near keeps are band in
    written ∙ ap (λ n. room_line band n used room) stands ∙ ap (λ n. room_line band (limit_standing s gateway band) n room) shown
    ∙ ap (room_line band (limit_standing s gateway band) (used_before s gateway band time)) same

-- ---- the report

-- the state after a log satisfies what makes the near downlinks suffice
pub keeps_air : DownlinksAreShort → RulesAreKept → (c : Settings) (heard : List Envelope) → KeepsAir (kept_after c heard).facts
unfolding kept_after
keeps_air short rules c heard = record { short = short c heard; hours = (rules c heard).hours }

-- each state has rooms, so the lines of all bands are the report
pub report_is : IsClearTells → HoursWithinTells → ShorterHasRoom → (s : State) (gateway : List ℕ) (time : ℕ) (text : List ℕ) → HasRooms s gateway time bands text → IsRoomReport s gateway time text
report_is clear hours shorter s gateway time text has =
    let found : (band : Band) → (room : ℕ) × IsBandRoom s gateway band time room =
    λ band. a_room clear hours (downlinks s.bookings gateway) (downlinks_in s.bookings gateway band) (pos time) (limit_standing s gateway band) shorter greatest_length in
    record {
      room = λ band. (found band).0;
      room_is = λ band. (found band).1;
      text_is = has (λ band. (found band).0) (λ band. (found band).1);
    }

pub same_report : (c : Settings) (heard : List Envelope) (a b : List ℕ) (time t : ℕ) (text : List ℕ) → a ≡ b → time ≡ t
    → IsRoomReport (kept_after c heard).facts a time text → IsRoomReport (state_of c heard) b t text
unfolding kept_after
same_report c heard a b time t text names times report =
    subst (λ x. IsRoomReport (state_of c heard) x t text) names (subst (λ n. IsRoomReport (state_of c heard) a n text) times report)
