-- Connections that are served one after another, and what they do to a store.
use Rattle.std.specs.Prelude.{◌≡◌, ◌<◌, ℕ, zero, suc, Bool, false, List, [], Option, None, Result, Ok, Err}
use Rattle.std.specs.Io.KnownBytes.{Consumes, IsAtEnd}
use Rattle.registry_core.specs.declared.messages.Envelope.{Envelope}
use Rattle.registry_core.specs.Settings.{Settings}
use Rattle.desk_store.specs.Meaning.{Meaning}
use Rattle.desk_engine.specs.Deliveries.{Delivery, heard_all}
use Rattle.desk_engine.specs.Hearing.{Hears}
use Rattle.desk_engine.specs.InOrder.{WasInOrder}
use Rattle.desk_http.specs.declared.network_faults.NetworkFault.{NetworkFault}
use Rattle.desk_http.specs.declared.serving.ServeEnd.{ServeEnd}
use Rattle.desk_http.specs.Requests.{IsReadAs, Request}
use Rattle.desk_http.specs.Responses.{Response}
use Rattle.desk_http.specs.Serving.{ServesRequest, ServingEndsBy}
use Rattle.desk_http.specs.Answered.{Answers, Delivered, none_delivered}

-- ---- what a source of connections means

-- In one record: the ghost member of the trait. Each field relates a source of connections before and after.
pub record Connections (L R W : Type 0) : Type 1 where
  -- this connection was accepted, with its reader and its writer
  pub comes : L → L → R → W → Type 0
  -- an accept failed, and no connection came
  pub fails : L → L → Type 0
  -- this connection was finished, with what is left to read and what was written, after it was served with this end
  pub finishes : L → L → R → W → ServeEnd → Type 0

-- of sockets, for example, nothing is known
abbrev pub unknown : {L R W : Type 0} → Connections L R W
unknown = record {
  comes = λ before after reader writer. Unit {0};
  fails = λ before after. Unit {0};
  finishes = λ before after reader writer end. Unit {0};
}

-- ---- accepts

-- after this many failed accepts in a row no more connections are served
abbrev pub most_failed_accepts : ℕ
most_failed_accepts = 64

module _ {L R W : Type 0} (l : Connections L R W) where
  -- this many accepts failed, one after another
  abbrev pub FailsEach : ℕ → L → L → Type 0
  FailsEach zero before after = after ≡ before
  FailsEach (suc n) before after = (between : L) × FailsEach n before between × l.fails between after

  -- after fewer failures than that, this connection was accepted
  abbrev pub ComesNext : L → L → R → W → Type 0
  ComesNext before after reader writer =
      (failures : ℕ) × (failures < most_failed_accepts) × (between : L) × FailsEach failures before between × l.comes between after reader writer

  -- no connection came: that many accepts failed in a row
  abbrev pub NoneComes : L → L → Type 0
  NoneComes before after = FailsEach most_failed_accepts before after

-- ---- one after another

-- `Does` relates the state before and after a request, its body and its response. The state is a store, or what was delivered so far.
module _ {L R W K : Type 0} (l : Connections L R W) (remaining : R → Option (List ℕ)) (contents : W → Option (List ℕ)) (Does : K → K → Request → List ℕ → Response → Type 0) where
  -- One serving, from what the reader gives to what the writer takes, which ended so.
  abbrev pub ServesOnce : K → K → R → R → W → W → ServeEnd → Type 0
  ServesOnce old new reader left writer written end = ServingEndsBy old new
      (λ response. (input : List ℕ) × Consumes (remaining reader) (remaining left) input
      × (request : Request) × (body : List ℕ) × IsReadAs input (remaining left) request body × Does old new request body response)
      (Consumes (remaining reader) (remaining left) [] × IsAtEnd (remaining left))
      (contents writer) (contents written) end

  -- The next connection was accepted, served once, and finished with what the serving left of it, by how that ended.
  pub record ServesConnection (old new : K) (before after : L) : Type 0 where
    pub meanwhile : L
    pub reader : R
    pub left : R
    pub writer : W
    pub written : W
    pub end : ServeEnd
    pub comes : ComesNext l before meanwhile reader writer
    pub served : ServesOnce old new reader left writer written end
    pub finishes : l.finishes meanwhile after left written end

  -- n connections were served, one after another
  abbrev pub ServesEach : ℕ → K → K → L → L → Type 0
  ServesEach zero old new before after = (new ≡ old) × (after ≡ before)
  ServesEach (suc n) old new before after = (mid : K) × (between : L) × ServesEach n old mid before between × ServesConnection mid new between after

  -- Fewer than n connections were served, and after the last of them no other came.
  abbrev pub ServesFewer : ℕ → K → K → L → L → Type 0
  ServesFewer n old new before after = (count : ℕ) × (count < n) × (between : L) × ServesEach count old new before between × NoneComes l between after

  -- What was served of n connections, by how the serving ended.
  abbrev pub ServesAll : {T : Type 0} → ℕ → K → K → L → L → Result T NetworkFault → Type 0
  ServesAll n old new before after (Ok x) = ServesEach n old new before after
  ServesAll n old new before after (Err fault) = ServesFewer n old new before after

-- The same of a store: n connections were served, at most one request each, or fewer if no other came.
abbrev pub ServesConnections : {L R W K : Type 0} → Meaning K → Connections L R W → (R → Option (List ℕ)) → (W → Option (List ℕ)) → {T : Type 0} → ℕ → K → K → L → L → Result T NetworkFault → Type 0
ServesConnections m l remaining contents n old new before after result = ServesAll l remaining contents (ServesRequest m) n old new before after result

-- ---- what they do to a store

-- Messages were delivered, in this order, and reports may have been asked for. If the store represented a log, it represents the log with
-- the deliveries. A crash then leaves that log, or after a disk error possibly that log with the in-flight message. What the store
-- represents satisfies the registry's rules.
pub record HearsDeliveries {K : Type 0} (m : Meaning K) (old new : K) : Type 0 where
  pub deliveries : List Delivery
  -- a call returned `Disk`
  pub disk : Bool
  -- a call returned `NotADesk`
  pub not_a_desk : Bool
  -- the in-flight message
  pub doubtful : Settings → Option Envelope
  pub undoubted : disk ≡ false → (c : Settings) → doubtful c ≡ None
  pub hears : Hears m old new disk not_a_desk (λ c heard. heard_all c heard deliveries) doubtful

-- what these deliveries are at a desk of this configuration
abbrev pub delivered_by : {K : Type 0} {m : Meaning K} {old new : K} → HearsDeliveries m old new → Settings → Delivered
delivered_by by c = record { deliveries = by.deliveries; disk = by.disk; doubt = by.doubtful c }

-- n connections were served, or fewer if no other came: what they did to the store, and what each was answered if the store represented a
-- log.
pub record HearsEach {L R W K : Type 0} (m : Meaning K) (l : Connections L R W) (remaining : R → Option (List ℕ)) (contents : W → Option (List ℕ)) {T : Type 0} (n : ℕ) (old new : K) (before after : L) (result : Result T NetworkFault) : Type 0 where
  pub hears : HearsDeliveries m old new
  pub answers : (c : Settings) (heard : List Envelope) → WasInOrder m c heard old new
      → ServesAll l remaining contents (Answers c heard) n none_delivered (delivered_by hears c) before after result
