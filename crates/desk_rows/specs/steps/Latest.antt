-- What the texts of the look-ups of a device's sessions, of a session's last start and of a sender's last transaction number ask for.
use Rattle.std.specs.Prelude.{ℕ, true, List, [], ◌∷◌}
use Rattle.sqlite_value.specs.declared.keys.Key.{Key}
use Rattle.sqlite_sql.specs.Term.{Term, col}
use Rattle.desk_rows.specs.Schema.{reply_tree, session_tree, uplink_tree}
use Rattle.desk_rows.specs.steps.Texts.{Asked, by_rowid, falling, is}

-- the first of those that pass, by falling keys
abbrev pub latest : (tree : ℕ) → List Term → List Term → List (Term × Key) → Asked (tree ∷ [])
latest tree terms project order = record { terms = terms; project = project; order = order; one = true }

-- the numbers of a device's sessions, in order
abbrev pub sessions_asked : Asked (session_tree ∷ [])
sessions_asked = by_rowid session_tree (is 2 0 ∷ []) (col 1 0 ∷ [])

-- the greatest start of a session's uplinks
abbrev pub last_start_asked : Asked (uplink_tree ∷ [])
last_start_asked = latest uplink_tree (is 2 0 ∷ []) (col 1 6 ∷ []) ((col 1 6, falling) ∷ (col 1 0, falling) ∷ [])

-- the greatest transaction number of a sender's messages
abbrev pub last_transaction_asked : Asked (reply_tree ∷ [])
last_transaction_asked = latest reply_tree (is 2 0 ∷ []) (col 1 3 ∷ []) ((col 1 3, falling) ∷ (col 1 0, falling) ∷ [])
