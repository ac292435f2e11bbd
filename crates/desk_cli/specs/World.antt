-- A run of the program: its files, its ports, its streams, and what it returns.
use Rattle.std.specs.Prelude.{Bool, Option, IfSome}
use Rattle.clap.specs.Walk.{Text}
use Rattle.sqlite.specs.Held.{Held}
use Rattle.sqlite_trees.specs.View.{IsClean}
use Rattle.sqlite_trees.specs.declared.store.Store.{Ghosts}
use Rattle.desk_cli.specs.Ports.{AtPorts}
use Rattle.desk_cli.specs.Streams.{Streams}
use Rattle.desk_cli.specs.declared.endings.Ending.{Ending}
use Rattle.desk_cli.specs.declared.faults.Fault.{Fault}

-- What is known of files by their paths: of a connection to a file that was opened or made, and of files that can't be opened or made.
pub record AtPaths (S : Type 0) : Type 1 where
  pub opens : Text → Held S → Type 0
  pub makes : Text → Held S → Type 0
  pub unopened : Text → Type 0
  pub unmade : Text → Type 0
  -- of a path at which a scratch file is made, and of one at which none is, by the error
  pub free : Text → Type 0
  pub unfree : Text → Fault → Type 0

-- The same is known of each connection, whatever its file. Nothing is known of files that can't be opened or made, and of scratch files.
abbrev pub known_alike : {S : Type 0} → (Held S → Type 0) → AtPaths S
known_alike Known = record { opens = λ path conn. Known conn; makes = λ path conn. Known conn; unopened = λ path. Unit {0}; unmade = λ path. Unit {0}; free = λ path. Unit {0}; unfree = λ path fault. Unit {0} }

-- the disk of a scratch file whose store was returned has returned what was written to it
abbrev pub IsCleanScratch : {R : Type 0} → Ghosts R → Option R → Type 0
IsCleanScratch scratch store = IfSome store (λ store. IsClean (scratch.view store))

-- A run: what is known of what it was given, and what it gave back.
pub record World (S : Type 0) : Type 1 where
  -- the ghost members of the store in which a desk's file is opened
  pub store : Ghosts S
  -- what is known of files by their paths
  pub paths : AtPaths S
  -- what is answered at the ports, with a log of their connections or without
  pub ports : Bool → AtPorts
  -- standard input and output, before and after the run
  pub streams : Streams
  -- how the program ended
  pub ending : Ending
  -- the connection that the run returned
  pub back : Option (Held S)
  -- the disk of the scratch file whose store the run returned has returned what was written to it
  pub Sure : Type 0

-- The same record. `scratch` are the ghost members of the store of a scratch file; `result` is what the run returned.
abbrev pub world_of : {S R : Type 0} → Ghosts S → AtPaths S → (Bool → AtPorts) → Streams → (scratch : Ghosts R) → (result : Ending × Option (Held S) × Option R) → World S
world_of store paths ports io scratch result = record {
  store = store;
  paths = paths;
  ports = ports;
  streams = io;
  ending = result.0;
  back = result.1;
  Sure = IsCleanScratch scratch result.2;
}
