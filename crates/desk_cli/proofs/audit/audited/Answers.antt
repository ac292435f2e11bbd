-- A scratch database in memory has no disk that fails, as `audited_over` requires.
use Rattle.std.proofs.Common.{refl}
use Rattle.desk_cli.proofs.FoundAgain.{is_clean}
use Rattle.desk_cli.proofs.audit.audited.Goals as goal

pub audited_over-requires-clause-sure : goal.audited_over-requires-clause-sure
audited_over-requires-clause-sure g c = is_clean (λ disk. refl)
