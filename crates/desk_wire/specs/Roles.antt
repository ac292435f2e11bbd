-- The names of roles (this project's names).
use Rattle.std.specs.Prelude.{ℕ, List, Option, Some, None, codes, if◌then◌else◌}
use Rattle.std.specs.Str.{bytes_eq}
use Rattle.registry_core.specs.declared.messages.Role.{Role}
use Rattle.registry_core.specs.declared.messages.Role.TheVariants.{Operator, Radio}

abbrev pub role_name : Role → List ℕ
role_name Operator = codes "operator"
role_name Radio = codes "radio"

-- the role with exactly this name
abbrev pub role_named : List ℕ → Option Role
role_named text =
    if bytes_eq text (codes "operator") then Some Operator
    else if bytes_eq text (codes "radio") then Some Radio
    else None
