-- The entries that rows of messages represent.
use Rattle.std.proofs.Common.{◌≡◌, ℕ, zero, suc, ◌&&◌, ◌==◌, Bool, true, false, cond, List, [], ◌∷◌, map, filter, find, Option, Some, None, option_map, refl, ap, ap₂, ◌∙◌}
use Rattle.std.specs.Prelude.{bytes_eq}
use Rattle.std.proofs.lemmas.Option.{slice_get-map}
use Rattle.std.specs.Cmp.{nat_eq_equiv}
use Rattle.std.specs.Cmp.Lexicographic.{nat_list_eq_equiv}
use Rattle.registry_core.specs.declared.messages.Envelope.{Envelope}
use Rattle.registry_core.specs.Numbered.{greatest, item_at}
use Rattle.desk_store.specs.Kept.{Entry, entry_of, is_entry_of, texts_of}
use Rattle.desk_store.specs.Looks.{is_from, last_transaction}
use Rattle.desk_rows.specs.Replies.{reply_texts}
use Rattle.desk_rows.specs.Rows.{ReplyRow, is_reply}
use Rattle.desk_tables.specs.InOrder.{entry_in}

swapped : (a b : Bool) → (a && b) ≡ (b && a)
swapped true true = refl
swapped true false = refl
swapped false true = refl
swapped false false = refl

same_entry : (e : Envelope) (y : ReplyRow) → is_entry_of e (entry_in y) ≡ is_reply e.sender e.transaction y
same_entry e y = ap₂ (λ a b. a && b) (nat_eq_equiv.symm e.transaction y.number) (nat_list_eq_equiv.symm e.sender y.sender)
    ∙ swapped (y.number == e.transaction) (bytes_eq y.sender e.sender)

-- the entry of an envelope is that of the row with its pair
pub entry_found : (e : Envelope) (ys : List ReplyRow) → entry_of e (map entry_in ys) ≡ option_map entry_in (find (is_reply e.sender e.transaction) ys)
entry_found e [] = refl
entry_found e (y ∷ ys) =
    ap (λ b. cond b (Some (entry_in y)) (entry_of e (map entry_in ys))) (same_entry e y) ∙ go (is_reply e.sender e.transaction y) (entry_found e ys)
  where
    go : (b : Bool) → entry_of e (map entry_in ys) ≡ option_map entry_in (find (is_reply e.sender e.transaction) ys)
        → cond b (Some (entry_in y)) (entry_of e (map entry_in ys)) ≡ option_map entry_in (cond b (Some y) (find (is_reply e.sender e.transaction) ys))
    go true later = refl
    go false later = later

twice : (o : Option ReplyRow) → option_map texts_of (option_map entry_in o) ≡ option_map reply_texts o
twice None = refl
twice (Some y) = refl

pub heard_texts : (e : Envelope) (ys : List ReplyRow)
    → option_map texts_of (entry_of e (map entry_in ys)) ≡ option_map reply_texts (find (is_reply e.sender e.transaction) ys)
heard_texts e ys = ap (option_map texts_of) (entry_found e ys) ∙ twice (find (is_reply e.sender e.transaction) ys)

-- the entry with a number is that of the row with it
numbered : (ys : List ReplyRow) (n : ℕ) → item_at (map entry_in ys) n ≡ option_map entry_in (item_at ys n)
numbered ys zero = refl
numbered ys (suc n) = slice_get-map entry_in ys n

pub numbered_texts : (ys : List ReplyRow) (n : ℕ) → option_map texts_of (item_at (map entry_in ys) n) ≡ option_map reply_texts (item_at ys n)
numbered_texts ys n = ap (option_map texts_of) (numbered ys n) ∙ twice (item_at ys n)

-- the transaction numbers of a sender's entries are those of its rows
transactions : (sender : List ℕ) (ys : List ReplyRow) → map (λ (entry : Entry). entry.transaction) (filter (is_from sender) (map entry_in ys))
    ≡ map (λ (y : ReplyRow). y.number) (filter (λ (y : ReplyRow). bytes_eq y.sender sender) ys)
transactions sender [] = refl
transactions sender (y ∷ ys) = go (bytes_eq y.sender sender) (transactions sender ys)
  where
    go : (b : Bool) → map (λ (entry : Entry). entry.transaction) (filter (is_from sender) (map entry_in ys)) ≡ map (λ (z : ReplyRow). z.number) (filter (λ (z : ReplyRow). bytes_eq z.sender sender) ys)
        → map (λ (entry : Entry). entry.transaction) (cond b (entry_in y ∷ filter (is_from sender) (map entry_in ys)) (filter (is_from sender) (map entry_in ys)))
        ≡ map (λ (z : ReplyRow). z.number) (cond b (y ∷ filter (λ (z : ReplyRow). bytes_eq z.sender sender) ys) (filter (λ (z : ReplyRow). bytes_eq z.sender sender) ys))
    go true later = ap (λ ns. y.number ∷ ns) later
    go false later = later

pub last_entry : (sender : List ℕ) (ys : List ReplyRow) → last_transaction (map entry_in ys) sender ≡ greatest (map (λ (y : ReplyRow). y.number) (filter (λ (y : ReplyRow). bytes_eq y.sender sender) ys))
last_entry sender ys = ap greatest (transactions sender ys)
