-- `desk audit`: its arguments, what it prints, and what it has found, by its result.
use Rattle.std.specs.Prelude.{◌≡◌, ◌≢◌, ◌⊎◌, ◌++◌, ◌∷◌, ℕ, List, [], Option, Some, None, IfSome, Result, Ok, Err, IfErr, OnOk, OnErr, codes}
use Rattle.std.specs.Fmt.{decimal}
use Rattle.std.specs.Io.KnownBytes.{Appends, Keeps}
use Rattle.std.specs.declared.io.Write as write
use Rattle.clap.specs.Simple.{App, new_app, with_rule}
use Rattle.clap.specs.Walk.{Row, first_of}
use Rattle.sqlite.specs.Held.{Held, state}
use Rattle.sqlite.specs.State.{HasCleanDisk}
use Rattle.sqlite_trees.specs.declared.store.Store.{Ghosts}
use Rattle.registry_core.specs.declared.messages.Envelope.{Envelope}
use Rattle.registry_core.specs.Settings.{Settings}
use Rattle.desk_engine.specs.Lines.{line_feed}
use Rattle.desk_tables.specs.Adopting.{IsGivenBack}
use Rattle.desk_cli.specs.Audit.{PassesAudit}
use Rattle.desk_cli.specs.Named.{Named, audit, named_as}
use Rattle.desk_cli.specs.RefusedFiles.{IsNotADesk, RefusesFile}
use Rattle.desk_cli.specs.OnTables.{KeepsHeard}
use Rattle.desk_cli.specs.Options.{◌>>=◌, optional_rule, place_rule, placed}
use Rattle.desk_cli.specs.commands.Checking.{value_line}
use Rattle.desk_cli.specs.declared.faults.Fault.{Fault}
use Rattle.desk_cli.specs.declared.faults.Fault.TheVariants.{NotADesk, Schema, Differs, Unavailable, File}

-- its arguments
abbrev pub audit_app : App
audit_app = with_rule (with_rule (new_app (codes "audit")) (place_rule (codes "file"))) (optional_rule (codes "scratch"))

-- what they name; without `--scratch` there is no scratch file
abbrev pub audit_named : List Row → Named
audit_named rows = named_as do
  file ← placed (codes "file") rows
  Ok (audit file (first_of (codes "scratch") rows))

-- ---- what it prints

-- how many messages the desk of the file has heard, and that the file is in order
abbrev pub audit_text : ℕ → List ℕ
audit_text count = value_line (codes "heard") (decimal count) (codes "in order" ++ line_feed ∷ [])

-- ---- what it has found

-- why a file doesn't pass, or wasn't audited
abbrev pub IsAuditFault : Fault → Type 0
IsAuditFault NotADesk = Unit {0}
IsAuditFault Schema = Unit {0}
IsAuditFault (Differs place) = Unit {0}
IsAuditFault Unavailable = Unit {0}
IsAuditFault File = Unit {0}
IsAuditFault _ = ⊥

-- `conn` is the connection to the file. `given_back` is the returned one, if there is one. `before` and `after` are
-- what was written by then. `Sure` states that the disk of a scratch file has returned what was written to it.
module _ {S : Type 0} (g : Ghosts S) (conn : Held S) (given_back : Option (Held S)) (before after : Option (List ℕ)) (Sure : Type 0) where
  -- this is true of the returned connection, if its disk has returned what was written to it
  abbrev pub OfBack : (Held S → Type 0) → Type 0
  OfBack Says = IfSome given_back (λ back. HasCleanDisk (state g back) → Says back)

  -- The file passes: the command printed how many messages its desk has heard, and the database is that of such a desk.
  pub record IsPassed : Type 0 where
    pub back : Held S
    pub is_back : given_back ≡ Some back
    pub count : ℕ
    pub printed : Appends before after (audit_text count)
    pub passes : HasCleanDisk (state g back) → Sure → PassesAudit g back count

  -- With status 0 the file passes. Otherwise nothing is printed, unless the writer failed. The database stays as it is, and a crash
  -- leaves what it left before. If no connection is returned, the error is `Unavailable`.
  pub record AuditsBy {T : Type 0} (result : Result T Fault) : Type 0 where
    pub passed : OnOk result IsPassed
    pub quiet : OnErr result ((result ≡ Err File) ⊎ Keeps before after)
    pub told : OfBack (λ back. IfErr result IsAuditFault)
    -- the file of a desk isn't refused by `NotADesk` or `Schema`
    pub desk : OfBack (λ back. (c : Settings) (heard : List Envelope) → KeepsHeard g conn c heard → IfErr result (λ fault. (fault ≢ NotADesk) × (fault ≢ Schema)))
    pub not_a_desk : OfBack (λ back. IsNotADesk g conn → RefusesFile g conn back (Keeps before after) result)
    pub kept : IfSome given_back (λ back. IsGivenBack (state g conn) (state g back) (λ _. ⊥))
    pub gone : given_back ≡ None → result ≡ Err Unavailable

-- the same, by the writer: `w` are the ghost members of its type, `old` and `new` the writer before and after
abbrev pub AuditsOver : {S W T : Type 0} → Ghosts S → (conn : Held S) (w : write.Ghosts W) (old new : W) → (Sure : Type 0) → (given_back : Option (Held S)) → Result T Fault → Type 0
AuditsOver g conn w old new Sure given_back result = AuditsBy g conn given_back (w.contents old) (w.contents new) Sure result
