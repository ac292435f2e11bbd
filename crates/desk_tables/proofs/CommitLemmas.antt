-- What a commit asks of rows that are those of facts, and what it leaves of them.
use Rattle.std.proofs.Common.{◌≡◌, ◌<◌, ℕ, Bool, true, false, cond, List, [], ◌∷◌, ◌++◌, map, find, length, Some, None, option_map, refl, sym, ap, ◌∙◌, arith}
use Rattle.std.specs.Prelude.{◌||◌}
use Rattle.std.specs.List.{list_any}
use Rattle.std.proofs.lemmas.List.{map-append}
use Rattle.registry_core.specs.declared.effects.Effect.{Effect}
use Rattle.registry_core.specs.declared.messages.Envelope.{Envelope}
use Rattle.registry_core.specs.Fits.{Fits}
use Rattle.registry_core.specs.Heard.{most_heard}
use Rattle.registry_core.specs.Settings.{Settings}
use Rattle.registry_core.specs.State.{State}
use Rattle.sqlite.specs.Effect.{Database}
use Rattle.desk_store.specs.Kept.{CanAdd, Kept, entry_of, entry_with, with_entry}
use Rattle.desk_rows.specs.Rows.{Holds, ReplyRow, Rows, is_reply}
use Rattle.desk_rows.specs.order.Changes.{RowsFollowFacts, rows_with}
use Rattle.desk_rows.specs.order.Keys.{ChangedRowsAreThere, KeysAreFree}
use Rattle.desk_rows.specs.order.RowsOf.{AreRowsOf}
use Rattle.desk_tables.specs.InOrder.{AreInOrder, entry_in}
use Rattle.desk_tables.specs.steps.Effects.{IsOpenToBoth, reply_row}
use Rattle.desk_tables.proofs.CountLemmas.{as_many}
use Rattle.desk_tables.proofs.Entries.{entry_found}
use Rattle.desk_tables.proofs.JsonIntegerLemmas.{numbers_are_json_integers}

-- of an effect that fits, and a message that wasn't heard, while there is room for a message more
are_open : KeysAreFree → ChangedRowsAreThere → (c : Settings) (facts : State) (r : Rows) (effect : Effect) (e : Envelope) → AreRowsOf c facts r
    → Fits effect facts → length r.replies < most_heard → list_any (is_reply e.sender e.transaction) r.replies ≡ false → IsOpenToBoth effect e r
are_open keys changed c facts r effect e rows fits room new =
    let free = keys c facts r effect rows fits room in
    record {
      change = record { free = free.0; there = changed c facts r effect rows fits; json_integers = numbers_are_json_integers c facts r effect rows fits room };
      reply = record { key = new; room = free.1 };
    }

none_heard : (p : ReplyRow → Bool) (ys : List ReplyRow) → option_map entry_in (find p ys) ≡ None → list_any p ys ≡ false
none_heard p [] none = refl
none_heard p (y ∷ ys) none = go (p y) none (none_heard p ys)
  where
    go : (b : Bool) → option_map entry_in (cond b (Some y) (find p ys)) ≡ None → (option_map entry_in (find p ys) ≡ None → list_any p ys ≡ false)
        → (b || list_any p ys) ≡ false
    go true none rest = let no : Some (entry_in y) ≡ None = none in cc
    go false none rest = rest none

module _ (e : Envelope) (message : List ℕ) (effect : Effect) (answer : List ℕ) (c : Settings) (kept : Kept) (r : Rows)
    (are : AreRowsOf c kept.facts r) (entries : kept.entries ≡ map entry_in r.replies) where
  -- rows with the effect and the message are those of the facts with the effect and the entry
  pub rows_in_order : RowsFollowFacts → Fits effect kept.facts → (db : Database) → Holds db (rows_with effect (reply_row e message answer) r)
      → AreInOrder c db (with_entry kept e message effect answer)
  rows_in_order follow fits db held = record {
    rows = rows_with effect (reply_row e message answer) r;
    held = held;
    are = follow c kept.facts r effect (reply_row e message answer) are fits;
    entries = ap (λ es. es ++ entry_with e message answer ∷ []) entries ∙ sym (map-append entry_in r.replies (reply_row e message answer ∷ []));
  }

  -- such rows are open to an effect and an entry that can be added
  pub rows_open : KeysAreFree → ChangedRowsAreThere → length kept.entries < most_heard → CanAdd kept e effect → IsOpenToBoth effect e r
  rows_open keys changed room can =
      let all = as_many kept r entries in
      let new = none_heard (is_reply e.sender e.transaction) r.replies (sym (entry_found e r.replies) ∙ ap (entry_of e) (sym entries) ∙ can.new) in
      are_open keys changed c kept.facts r effect e are can.effect_fits (omega (arith, all, room)) new
