-- How `serve` ends, by how the serving of its connections ended.
use Rattle.std.specs.Prelude.{Result, Ok, Err}
use Rattle.desk_http.specs.declared.network_faults.NetworkFault.{NetworkFault}
use Rattle.desk_cli.specs.declared.faults.Fault.{Fault}
use Rattle.desk_cli.specs.declared.faults.Fault.TheVariants.{Network}

abbrev pub ended : {T : Type 0} → Result T NetworkFault → Result T Fault
ended (Ok x) = Ok x
ended (Err fault) = Err Network
