-- The first rows are those of the opening state.
use Rattle.std.proofs.Common.{◌≡◌, ℕ, Bool, true, false, cond, List, Some, None, option_map, refl, ap, ◌∙◌, arith}
use Rattle.std.specs.Prelude.{bytes_eq}
use Rattle.std.specs.List.{IsDistinct}
use Rattle.std.specs.Cmp.Lexicographic.{nat_list_eq_equiv}
use Rattle.registry_core.specs.declared.messages.Role.TheVariants.{Operator}
use Rattle.registry_core.specs.Numbered.{item_at}
use Rattle.desk_rows.specs.Rows.{SenderRow, SessionRow}
use Rattle.desk_rows.specs.order.Changes.{OpeningRowsTell, opening_rows, sender_row}
use Rattle.desk_rows.specs.order.Facts.{facts_in}
use Rattle.desk_rows.proofs.OrderLemmas.Numbering.{item_within}

one_sender : (operator name : List ℕ) (b : Bool)
    → cond b (Some Operator) None ≡ option_map (λ (s : SenderRow). s.role) (cond b (Some (sender_row operator Operator)) None)
one_sender operator name true = refl
one_sender operator name false = refl

pub opening_tells : OpeningRowsTell
unfolding IsDistinct
opening_tells c = record {
  settings = refl;
  is = λ i. record (facts_in (opening_rows c)) {
    senders = λ name. (ap (λ b. cond b (Some Operator) None) (nat_list_eq_equiv.symm name c.operator)
        ∙ one_sender c.operator name (bytes_eq c.operator name)) i;
  };
  counted = record { floors = tt; next_downs = λ n s at. absurd (none_at n s at); bookings = tt };
  names = record { sessions = tt; uplinks = tt; receptions = tt };
  keyed = record { senders = (tt, tt); owners = tt; gateways = tt; devices = tt; sessions = tt; receptions = tt; limits = tt };
  few = record { senders = omega arith; owners = omega arith; gateways = omega arith; devices = omega arith; sessions = omega arith; uplinks = omega arith; receptions = omega arith; bookings = omega arith; limits = omega arith };
}
  where
    none_at : (n : ℕ) (s : SessionRow) → item_at (opening_rows c).sessions n ≡ Some s → ⊥
    none_at n s at = let within = item_within (opening_rows c).sessions n s at in omega (arith, within.0, within.1)
