-- The numbers of receive windows.
use Rattle.std.specs.Prelude.{ℕ, Option, Some, None, ◌==◌, if◌then◌else◌}
use Rattle.registry_core.specs.declared.windows.Window.{Window}
use Rattle.registry_core.specs.declared.windows.Window.TheVariants.{First, Second}

abbrev pub window_number : Window → ℕ
window_number First = 1
window_number Second = 2

-- the window with this number
abbrev pub window_numbered : ℕ → Option Window
window_numbered n = if n == 1 then Some First else if n == 2 then Some Second else None
