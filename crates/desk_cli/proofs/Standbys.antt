-- A desk that hears the printed log of another one has the same tables and gives the same answers.
use Rattle.std.proofs.Common.{◌≡◌, ◌+◌, ◌-◌, ◌≤◌, List, max, min, length, take, ap, subst, ◌∙◌, arith}
use Rattle.std.proofs.Math.Seq.{take-length}
use Rattle.sqlite_trees.specs.declared.store.Store.{Ghosts}
use Rattle.registry_core.specs.declared.messages.Envelope.{Envelope}
use Rattle.registry_core.specs.Heard.{most_heard}
use Rattle.registry_core.specs.JsonIntegers.{greatest_json_integer}
use Rattle.desk_engine.specs.Log.{LogLinesAreTheDesk}
use Rattle.desk_cli.specs.OnTables.{KeepsHeard}
use Rattle.desk_cli.specs.Standby.{LogsMakeDesks}

all_of : (heard : List Envelope) → length heard ≤ most_heard → take (max 0 (min (1 + greatest_json_integer - 1) (length heard))) heard ≡ heard
all_of heard few =
    let all : max 0 (min (1 + greatest_json_integer - 1) (length heard)) ≡ length heard = omega (arith, few) in
    ap (λ n. take n heard) all ∙ take-length heard

pub logs_make_desks : {S T : Type 0} (g : Ghosts S) (h : Ghosts T) → LogLinesAreTheDesk → LogsMakeDesks g h
logs_make_desks g h law conn other c heard kept =
    let config = kept.now.tables.config in
    let told = law c heard 1 greatest_json_integer 0 (record { receiver = config.receiver; operator = config.operator; block = config.block }) kept.now.list (omega arith) (omega arith) (omega arith) in
    (told.0, λ it. subst (KeepsHeard h other c) (told.1 ∙ all_of heard kept.now.list.few) it)
