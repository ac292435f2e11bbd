-- What deliveries to a new desk leave of its database, by their outcomes.
use Rattle.std.specs.Prelude.{◌≡◌, ℕ, false, List, [], Option, Result, IfOk, Vec}
use Rattle.std.specs.Borrow.{Bor}
use Rattle.sqlite.specs.Effect.{Database}
use Rattle.sqlite.specs.Held.{Held, state}
use Rattle.sqlite.specs.State.{HasCleanDisk}
use Rattle.sqlite_trees.specs.declared.store.Store.{Ghosts}
use Rattle.registry_core.specs.declared.messages.Envelope.{Envelope}
use Rattle.registry_core.specs.Settings.{Settings}
use Rattle.desk_engine.specs.declared.outcomes.Outcome.{Outcome}
use Rattle.desk_engine.specs.Deliveries.{Delivery, heard_all}
use Rattle.desk_engine.specs.Outcomes.{AreOutcomes, deliveries_of, first_doubt, has_disk}
use Rattle.desk_engine.specs.Repeats.{RepeatsGetFirstAnswers}
use Rattle.desk_engine.specs.Runs.{AlwaysGoesByRules, octets_of}
use Rattle.desk_engine.specs.Uplinks.{UplinksStayBooked}
use Rattle.desk_cli.specs.OnTables.{HasHeard, IsFound, IsLeft, LeftHeard}

-- ---- what is delivered

-- The desk has this configuration. These texts were delivered to it, with these outcomes.
module _ (c : Settings) (texts : List (Bor (List ℕ))) (outcomes : List Outcome) where
  -- the deliveries
  abbrev pub all_deliveries : List Delivery
  all_deliveries = deliveries_of (octets_of texts) outcomes

  -- the log after the deliveries
  abbrev pub all_heard : List Envelope
  all_heard = heard_all c [] all_deliveries

  -- the in-flight message, if one of them had a disk error
  abbrev pub all_doubt : Option Envelope
  all_doubt = first_doubt c (octets_of texts) outcomes

  -- each outcome is the answer of its text after the ones before it
  abbrev pub AnswersAll : Type 0
  AnswersAll = AreOutcomes c [] (octets_of texts) outcomes

  -- each repeat of a message gets its first answer
  abbrev pub RepeatsAreSame : Type 0
  RepeatsAreSame = RepeatsGetFirstAnswers c (octets_of texts) outcomes

  -- the state after any first of the deliveries satisfies the registry's rules
  abbrev pub KeepRulesThroughout : Type 0
  KeepRulesThroughout = AlwaysGoesByRules c [] all_deliveries

  -- an uplink that is booked after some of them stays as it is after the others
  abbrev pub KeepUplinks : Type 0
  KeepUplinks = UplinksStayBooked c [] all_deliveries

  -- this database, which is found after a crash, represents that log, or that log with the in-flight message
  abbrev pub FindsHeard : Database → Type 0
  FindsHeard db = IsFound c all_heard all_doubt db

-- the same, of the database of a connection
module _ {S : Type 0} (g : Ghosts S) (conn : Held S) (c : Settings) (texts : List (Bor (List ℕ))) (outcomes : List Outcome) where
  -- it represents the log
  abbrev pub HasAll : Type 0
  HasAll = HasHeard c (all_heard c texts outcomes) (state g conn).now

  -- it represents the log, and all of it is committed
  abbrev pub StoresAll : Type 0
  StoresAll = HasAll × ((state g conn).now ≡ (state g conn).committed)

  -- what is committed represents the log, or the log with the in-flight message
  abbrev pub CommitsAll : Type 0
  CommitsAll = LeftHeard c (all_heard c texts outcomes) (all_doubt c texts outcomes) (state g conn).committed.trees

  -- whatever a crash leaves of it represents the log, or the log with the in-flight message
  abbrev pub LeavesAll : Type 0
  LeavesAll = IsLeft g conn c (all_heard c texts outcomes) (all_doubt c texts outcomes)

-- ---- what is returned

-- if the deliveries were made, this is true of the connection and the outcomes
abbrev pub IfRan : {S F Z : Type 0} → Result (Vec Outcome Z × Held S) F → (Held S → List Outcome → Type 0) → Type 0
IfRan result Says = IfOk result (λ ran. Says ran.1 ran.0.items)

-- the same, if none of the outcomes is `Disk`
abbrev pub UnlessDisk : {S F Z : Type 0} → Result (Vec Outcome Z × Held S) F → (Held S → List Outcome → Type 0) → Type 0
UnlessDisk result Says = IfRan result (λ conn outcomes. has_disk outcomes ≡ false → Says conn outcomes)

-- if the deliveries were made, on a disk that has returned what was written to it, this is true of the connection and the outcomes
abbrev pub IfRanOver : {S F Z : Type 0} → Ghosts S → Result (Vec Outcome Z) F × Held S → (Held S → List Outcome → Type 0) → Type 0
IfRanOver g result Says = HasCleanDisk (state g result.1) → IfOk result.0 (λ ran. Says result.1 ran.items)

-- the same, if none of the outcomes is `Disk`
abbrev pub UnlessDiskOver : {S F Z : Type 0} → Ghosts S → Result (Vec Outcome Z) F × Held S → (Held S → List Outcome → Type 0) → Type 0
UnlessDiskOver g result Says = IfRanOver g result (λ conn outcomes. has_disk outcomes ≡ false → Says conn outcomes)
