-- `desk check`: its arguments, and what it prints.
use Rattle.std.specs.Prelude.{◌≡◌, ◌++◌, ◌∷◌, ℕ, List, [], Result, Ok, Err, codes}
use Rattle.std.specs.Fmt.{decimal}
use Rattle.clap.specs.Simple.{App, new_app, with_rule}
use Rattle.clap.specs.Walk.{Row}
use Rattle.registry_core.specs.declared.messages.Envelope.{Envelope}
use Rattle.registry_core.specs.Settings.{Settings}
use Rattle.desk_store.specs.Calls.{IsUnavailability}
use Rattle.desk_engine.specs.declared.report_faults.ReportFault.{ReportFault}
use Rattle.desk_engine.specs.declared.report_faults.ReportFault.TheVariants.{Unavailable}
use Rattle.desk_engine.specs.InOrder.{kept_after}
use Rattle.desk_engine.specs.Lines.{line_feed}
use Rattle.desk_wire.specs.Hexadecimal.{addr_digits}
use Rattle.desk_tables.specs.Totals.{AreTotals}
use Rattle.desk_tables.specs.declared.totals.Totals.{Totals}
use Rattle.desk_cli.specs.Named.{Named, check, named_as}
use Rattle.desk_cli.specs.Options.{◌>>=◌, place_rule, placed}

-- its arguments
abbrev pub check_app : App
check_app = with_rule (new_app (codes "check")) (place_rule (codes "file"))

-- what they name
abbrev pub check_named : List Row → Named
check_named rows = named_as do
  file ← placed (codes "file") rows
  Ok (check file)

-- ---- what it prints

-- a line with a name and a value, before further lines
abbrev pub value_line : List ℕ → List ℕ → List ℕ → List ℕ
value_line name value lines = name ++ (codes ": " ++ (value ++ line_feed ∷ lines))

-- the desk's configuration
abbrev pub settings_lines : Settings → List ℕ → List ℕ
settings_lines c lines =
    value_line (codes "schema") (codes "2")
    (value_line (codes "receiver") c.receiver
    (value_line (codes "operator") c.operator
    (value_line (codes "base") (addr_digits c.base)
    (value_line (codes "addresses") (decimal c.addresses) lines))))

-- the number of things of each kind that has a name or a DevEUI, and of limits that were set
abbrev pub named_lines : Totals → List ℕ → List ℕ
named_lines t lines =
    value_line (codes "senders") (decimal t.senders)
    (value_line (codes "owners") (decimal t.owners)
    (value_line (codes "gateways") (decimal t.gateways)
    (value_line (codes "devices") (decimal t.devices)
    (value_line (codes "limits") (decimal t.limits) lines))))

-- the number of things of each kind that is numbered
abbrev pub numbered_lines : Totals → List ℕ
numbered_lines t =
    value_line (codes "sessions") (decimal t.numbered.sessions)
    (value_line (codes "uplinks") (decimal t.numbered.uplinks)
    (value_line (codes "bookings") (decimal t.numbered.bookings)
    (value_line (codes "replies") (decimal t.replies) [])))

abbrev pub check_text : Settings → Totals → List ℕ
check_text c t = settings_lines c (named_lines t (numbered_lines t))

-- what is printed of a desk that represents this log, or why it isn't: memory or the disk failed
abbrev pub IsCheck : Settings → List Envelope → Result (List ℕ) ReportFault → Type 0
IsCheck c heard (Ok text) = (t : Totals) × AreTotals (kept_after c heard) t × (text ≡ check_text c t)
IsCheck c heard (Err (Unavailable fault)) = IsUnavailability fault
IsCheck c heard (Err _) = ⊥
