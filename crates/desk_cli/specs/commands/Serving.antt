-- `desk serve`: its arguments, and what it has done, by how it ended.
use Rattle.std.specs.Prelude.{◌≡◌, ◌⊎◌, ℕ, List, [], ◌∷◌, ◌++◌, false, Option, None, Result, Ok, Err, codes}
use Rattle.std.specs.Fmt.{decimal}
use Rattle.std.specs.Io.KnownBytes.{Appends, Keeps}
use Rattle.std.specs.declared.io.Write as write
use Rattle.clap.specs.Simple.{App, new_app, with_rule}
use Rattle.clap.specs.Walk.{Row}
use Rattle.desk_cli.specs.Named.{Named, named_as, serve}
use Rattle.desk_cli.specs.Numbers.{connections_of, port_of}
use Rattle.desk_cli.specs.Options.{◌>>=◌, flag_rule, is_set, required_rule, or_bad, place_rule, placed, value_at}
use Rattle.sqlite.specs.Held.{Held}
use Rattle.sqlite_trees.specs.declared.store.Store.{Ghosts}
use Rattle.registry_core.specs.declared.messages.Envelope.{Envelope}
use Rattle.registry_core.specs.Settings.{Settings}
use Rattle.desk_engine.specs.Deliveries.{heard_all}
use Rattle.desk_engine.specs.Lines.{line_feed}
use Rattle.desk_http.specs.Answered.{Delivered}
use Rattle.desk_cli.specs.OnDesk.{OnDesk}
use Rattle.desk_cli.specs.OnTables.{IsLeft, KeepsHeard}
use Rattle.desk_cli.specs.Ports.{AtPorts}
use Rattle.desk_cli.specs.declared.faults.Fault.{Fault}
use Rattle.desk_cli.specs.declared.faults.Fault.TheVariants.{File, Network, Unavailable}
use Rattle.desk_cli.specs.declared.usage.BadValue.TheVariants.{Connections, Port}

-- its arguments
abbrev pub serve_app : App
serve_app =
    with_rule (with_rule (with_rule (with_rule (new_app (codes "serve"))
    (place_rule (codes "file")))
    (required_rule (codes "port")))
    (required_rule (codes "count")))
    (flag_rule (codes "log"))

-- what they name
abbrev pub serve_named : List Row → Named
serve_named rows = named_as do
  file ← placed (codes "file") rows
  port ← or_bad (value_at port_of (codes "port") rows) Port
  connections ← or_bad (value_at connections_of (codes "count") rows) Connections
  Ok (serve file port connections (is_set (codes "log") rows))

-- ---- what it does

-- what is written before the first connection
abbrev pub listening_line : ℕ → List ℕ
listening_line port = codes "listening 127.0.0.1:" ++ (decimal port ++ line_feed ∷ [])

-- `heard` is the log before. `Kept` states that a log is represented, and `Left` that a crash leaves a log, or it with the in-flight
-- message. `ports`, `port` and `n` are the ports, which of them, and how many connections. `before` and `after` are what the writer has
-- before and after.
module _ (c : Settings) (heard : List Envelope) (Kept : List Envelope → Type 0) (Left : List Envelope → Option Envelope → Type 0) (ports : AtPorts) (port n : ℕ) (before after : Option (List ℕ)) where
  -- Connections were answered so, and what they delivered was heard, in this order. A disk error leaves one message in flight.
  pub record HearsServed (Answered : Delivered → Type 0) : Type 0 where
    pub delivered : Delivered
    pub answered : Answered delivered
    pub undoubted : delivered.disk ≡ false → delivered.doubt ≡ None
    pub kept : delivered.disk ≡ false → Kept (heard_all c heard delivered.deliveries)
    pub left_is : Left (heard_all c heard delivered.deliveries) delivered.doubt

  -- By how it ended. With `Network` the port couldn't be bound, or fewer connections came and were answered. With another error none was
  -- served.
  abbrev pub ServesBy : {T : Type 0} → Result T Fault → Type 0
  ServesBy (Ok x) = HearsServed (ports.answered port c heard n) × Appends before after (listening_line port)
  ServesBy (Err Network) =
      (ports.refused port × Kept heard × Keeps before after)
      ⊎ (HearsServed (ports.given_up port c heard n) × Appends before after (listening_line port))
  ServesBy (Err File) = Kept heard
  ServesBy (Err Unavailable) = Left heard None × Keeps before after
  ServesBy (Err _) = ⊥

-- the same of the desk's file, which was given back
abbrev pub ServesDesk : {S T : Type 0} → Ghosts S → Held S → Settings → List Envelope → AtPorts → (port n : ℕ) → (before after : Option (List ℕ)) → Result T Fault → Type 0
ServesDesk g back c heard ports port n before after result = ServesBy c heard (KeepsHeard g back c) (IsLeft g back c) ports port n before after result

-- Over a connection. `w` are the ghost members of the writer, `old` and `new` the writer before and after, and `back` is the connection that
-- is returned.
abbrev pub ServesOver : {S W T : Type 0} → Ghosts S → AtPorts → (port n : ℕ) → (conn : Held S) (w : write.Ghosts W) (old new : W) (back : Held S) → Result T Fault → Type 0
ServesOver g ports port n conn w old new back result =
    OnDesk g conn back result (Keeps (w.contents old) (w.contents new))
    (λ c heard. ServesDesk g back c heard ports port n (w.contents old) (w.contents new) result)
