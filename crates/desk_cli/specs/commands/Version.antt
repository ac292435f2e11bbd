-- `desk --version`: what it prints.
use Rattle.std.specs.Prelude.{◌≡◌, ℕ, List, Option, Result, Ok, Err, codes}
use Rattle.std.specs.Io.KnownBytes.{Appends}
use Rattle.std.specs.declared.io.Write.{Ghosts}
use Rattle.desk_cli.specs.declared.faults.Fault.{Fault}
use Rattle.desk_cli.specs.declared.faults.Fault.TheVariants.{File}

-- the newest heading of the changelog, the schema of a desk's file, and the kit that the program is proved by
abbrev pub version_text : List ℕ
version_text = codes "desk 2026-11-29\nschema 2\nRattle kit, logic dac8208d650f15bf\n"

-- Exactly this text was written, or the writer failed. `before` and `after` are what the writer has before and after.
abbrev pub PrintsVersion : (before after : Option (List ℕ)) → {T : Type 0} → Result T Fault → Type 0
PrintsVersion before after (Ok x) = Appends before after version_text
PrintsVersion before after (Err fault) = fault ≡ File

-- the same, by the writer: `w` are the ghost members of its type, `old` and `new` the writer before and after
abbrev pub WritesVersion : {W T : Type 0} → (w : Ghosts W) (old new : W) → Result T Fault → Type 0
WritesVersion w old new result = PrintsVersion (w.contents old) (w.contents new) result
