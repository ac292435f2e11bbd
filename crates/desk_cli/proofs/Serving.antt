-- What connections leave of a store, and the same stated of the file that the store is in.
use Rattle.std.proofs.Common.{◌≡◌, ℕ, Bool, List, Option, None, Result, Ok, Err, inl, inr, sym, subst}
use Rattle.std.proofs.KnownBytes.{Keeps-refl}
use Rattle.std.specs.Io.KnownBytes.{Appends}
use Rattle.registry_core.specs.declared.messages.Envelope.{Envelope}
use Rattle.registry_core.specs.Settings.{Settings}
use Rattle.desk_store.specs.Meaning.{Meaning}
use Rattle.desk_engine.specs.InOrder.{WasInOrder}
use Rattle.desk_cli.proofs.OnTables.{unshut_by}
use Rattle.desk_cli.proofs.Opened.{err}
use Rattle.desk_engine.specs.Hearing.{StoreKeeps, StoreLeaves}
use Rattle.desk_http.specs.Answered.{Answers, Delivered, none_delivered}
use Rattle.desk_http.specs.Served.{Connections, HearsEach, ServesAll, delivered_by}
use Rattle.desk_http.specs.declared.network_faults.NetworkFault.{NetworkFault}
use Rattle.desk_cli.specs.Ports.{AtPorts, Ports, at_ports}
use Rattle.desk_cli.specs.commands.Serving.{HearsServed, ServesBy, listening_line}
use Rattle.desk_cli.specs.steps.Serving.{ended}
use Rattle.desk_cli.specs.declared.faults.Fault.{Fault}
use Rattle.desk_cli.specs.declared.faults.Fault.TheVariants.{Exists, NotADesk, Schema, Owner, Gateway, Device, Month, Time, CsvSize, CsvEnd, CsvHeader, CsvRecord, Differs, Unavailable, File, Network}

hears_served : {L R W K T : Type 0} (m : Meaning K) (ports : AtPorts) (l : Connections L R W) (remaining : R → Option (List ℕ)) (contents : W → Option (List ℕ)) (n : ℕ)
    (c : Settings) (heard : List Envelope) (old new : K) (first last : L) (port : ℕ) (before after : Option (List ℕ)) (end : Result T NetworkFault) (Answered : Delivered → Type 0)
    → ((delivered : Delivered) → ServesAll l remaining contents (Answers c heard) n none_delivered delivered first last end → Answered delivered)
    → WasInOrder m c heard old new → HearsEach m l remaining contents n old new first last end
    → HearsServed c heard (StoreKeeps m c heard old new) (StoreLeaves m c heard old new) ports port n before after Answered
hears_served m ports l remaining contents n c heard old new first last port before after end Answered answers was each =
    let by = each.hears in
    let leaves : StoreLeaves m c heard old new _ (by.doubtful c) = record { order = by.hears.order c heard was; crash = λ doubt. by.hears.crash c heard doubt was } in
    record {
      delivered = delivered_by by c;
      answered = answers (delivered_by by c) (each.answers c heard was);
      undoubted = λ is. by.undoubted is c;
      kept = λ is. record { leaves = subst (StoreLeaves m c heard old new _) (by.undoubted is c) leaves; still = unshut_by m old new by.hears.call is };
      left_is = leaves;
    }

-- the command, once the port was had and its line was written
pub served_by : {N L R W K T : Type 0} (m : Meaning K) (ports : Ports N L) (network : N) (l : Connections L R W) (remaining : R → Option (List ℕ)) (contents : W → Option (List ℕ)) (n : ℕ)
    (c : Settings) (heard : List Envelope) (old new : K) (first last : L) (log : Bool) (port : ℕ) (before after : Option (List ℕ)) (end : Result T NetworkFault)
    → ports.listens network port log first → WasInOrder m c heard old new → HearsEach m l remaining contents n old new first last end
    → Appends before after (listening_line port)
    → ServesBy c heard (StoreKeeps m c heard old new) (StoreLeaves m c heard old new) (at_ports ports network l remaining contents log) port n before after (ended end)
served_by m ports network l remaining contents n c heard old new first last log port before after (Ok x) listens was each line =
    (hears_served m _ l remaining contents n c heard old new first last port before after (Ok x) _ (λ delivered served. (first, last, listens, served)) was each, line)
served_by m ports network l remaining contents n c heard old new first last log port before after (Err fault) listens was each line =
    inr (hears_served m _ l remaining contents n c heard old new first last port before after (Err fault) _ (λ delivered served. (first, last, listens, served)) was each, line)

module _ (c : Settings) (heard : List Envelope) (Kept Stands : List Envelope → Type 0) (Left Stays : List Envelope → Option Envelope → Type 0)
    (kept : (all : List Envelope) → Kept all → Stands all) (left : (all : List Envelope) (doubt : Option Envelope) → Left all doubt → Stays all doubt)
    (ports : AtPorts) (port n : ℕ) (before after : Option (List ℕ)) where
  carried_served : (Answered : Delivered → Type 0) → HearsServed c heard Kept Left ports port n before after Answered → HearsServed c heard Stands Stays ports port n before after Answered
  carried_served Answered by =
      record { delivered = by.delivered; answered = by.answered; undoubted = by.undoubted; kept = λ is. kept _ (by.kept is); left_is = left _ _ by.left_is }

  pub carried : {T : Type 0} (r : Result T Fault) → ServesBy c heard Kept Left ports port n before after r → ServesBy c heard Stands Stays ports port n before after r
  carried (Ok x) by = (carried_served _ by.0, by.1)
  carried (Err Network) (inl by) = inl (by.0, kept _ by.1, by.2)
  carried (Err Network) (inr by) = inr (carried_served _ by.0, by.1)
  carried (Err File) by = kept _ by
  carried (Err Unavailable) by = (left _ _ by.0, by.1)
  carried (Err Exists) by = absurd by
  carried (Err NotADesk) by = absurd by
  carried (Err Schema) by = absurd by
  carried (Err Owner) by = absurd by
  carried (Err Gateway) by = absurd by
  carried (Err Device) by = absurd by
  carried (Err Month) by = absurd by
  carried (Err Time) by = absurd by
  carried (Err CsvSize) by = absurd by
  carried (Err CsvEnd) by = absurd by
  carried (Err CsvHeader) by = absurd by
  carried (Err (CsvRecord n)) by = absurd by
  carried (Err (Differs place)) by = absurd by

-- where nothing was opened no connection was served
pub serves_unopened : (c : Settings) (heard : List Envelope) (Kept : List Envelope → Type 0) (Left : List Envelope → Option Envelope → Type 0) (ports : AtPorts)
    (port n : ℕ) (before : Option (List ℕ)) (T : Type 0) (fault : Fault)
    → fault ≡ Unavailable → Left heard None → ServesBy c heard Kept Left ports port n before before (err {T = T} fault)
serves_unopened c heard Kept Left ports port n before T fault is left =
    subst (λ f. ServesBy c heard Kept Left ports port n before before (err {T = T} f)) (sym is) (left, Keeps-refl before)
