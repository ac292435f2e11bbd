-- The streams of a command: its standard input and its standard output, each before and after the command.
use Rattle.std.specs.Prelude.{ℕ, List, Option}
use Rattle.std.specs.Io.KnownBytes.{Keeps}
use Rattle.std.specs.declared.io.Read as read
use Rattle.std.specs.declared.io.Write as write

-- What is left to read, and what was written by then; `None` where the type of a stream reports nothing.
pub record Streams : Type 0 where
  -- what standard input has left before the command
  pub left : Option (List ℕ)
  -- what it has left after the command
  pub rest : Option (List ℕ)
  -- what standard output has before the command
  pub before : Option (List ℕ)
  -- what it has after the command
  pub after : Option (List ℕ)

-- the streams of a reader and a writer. `r` and `w` are the ghost members of their types, `old` and `new` the reader before and after,
-- `blank` and `written` the writer.
abbrev pub streams : {R W : Type 0} → (r : read.Ghosts R) (old new : R) (w : write.Ghosts W) (blank written : W) → Streams
streams r old new w blank written = record { left = r.remaining old; rest = r.remaining new; before = w.contents blank; after = w.contents written }

-- nothing was read
abbrev pub KeepsInput : Streams → Type 0
KeepsInput io = Keeps io.left io.rest

-- nothing was written
abbrev pub KeepsOutput : Streams → Type 0
KeepsOutput io = Keeps io.before io.after

-- nothing was read or written
abbrev pub KeepsBoth : Streams → Type 0
KeepsBoth io = KeepsInput io × KeepsOutput io
