-- The names of the verdicts on a join request's integrity code (this project's names).
use Rattle.std.specs.Prelude.{ℕ, List, Option, Some, None, codes, if◌then◌else◌}
use Rattle.std.specs.Str.{bytes_eq}
use Rattle.registry_core.specs.declared.messages.JoinVerdict.{JoinVerdict}
use Rattle.registry_core.specs.declared.messages.JoinVerdict.TheVariants.{Good, Bad}

abbrev pub join_verdict_name : JoinVerdict → List ℕ
join_verdict_name Good = codes "Good"
join_verdict_name Bad = codes "Bad"

-- the verdict with exactly this name
abbrev pub join_verdict_named : List ℕ → Option JoinVerdict
join_verdict_named text =
    if bytes_eq text (codes "Good") then Some Good
    else if bytes_eq text (codes "Bad") then Some Bad
    else None
