-- The loop of `put_octets`: the octets so far are appended, each as the definition writes it.
use Rattle.std.proofs.Common.{◌≡◌, ◌++◌, take}
use Rattle.std.specs.List.{flat_map}
use Rattle.desk_cli.specs.ConnectionLog.{octet_field}
use Rattle.desk_cli.proofs.connection_log.lines.put_octets.Given as goal

-- the octets so far are put
abbrev pub invariant-loop-octet : goal.invariant-loop-octet
invariant-loop-octet l = l.line.items ≡ l.fn.line.items ++ flat_map octet_field (take l.octet-index l.text)
