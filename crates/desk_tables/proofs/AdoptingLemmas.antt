-- A connection whose rows are counted becomes a store, or comes back with an error: what is true of it in each case.
use Rattle.std.proofs.Common.{◌≡◌, ◌∙◌, false, true, None, Result, Ok, Err, IfErr, IfOk, ap, length, refl, subst, sym}
use Rattle.std.proofs.lemmas.List.{length-map}
use Rattle.registry_core.specs.Settings.{Settings}
use Rattle.registry_core.specs.State.{State as Registry}
use Rattle.sqlite_trees.specs.declared.store.Store.{Ghosts}
use Rattle.sqlite.specs.Effect.{Database}
use Rattle.sqlite.specs.Held.{Held, state}
use Rattle.sqlite.specs.State.{State, HasCleanDisk, IsUnchanged}
use Rattle.desk_store.specs.declared.faults.StoreFault.{StoreFault}
use Rattle.desk_store.specs.Kept.{Kept}
use Rattle.desk_rows.specs.Calls.{IsReadingCall}
use Rattle.desk_rows.specs.Rows.{BookingRow, SessionRow}
use Rattle.desk_rows.specs.Schema.{desk_schema}
use Rattle.desk_tables.specs.InOrder.{IsOfDesk, entry_in}
use Rattle.desk_tables.specs.Seen.{IsSeen, nothing}
use Rattle.desk_tables.specs.Store.{IsSettled, IsSettledOver, Stands}
use Rattle.desk_tables.specs.declared.tables.Tables.{Tables}
use Rattle.desk_tables.specs.steps.Adopting.{IsAdopted, IsNotAdopted, IsStoreOver}
use Rattle.desk_tables.specs.steps.Calls.{IsReady}
use Rattle.desk_tables.specs.steps.Counting.{AreRowsCounted}
use Rattle.desk_tables.proofs.SeenLemmas.{nothing_seen}

module _ {S : Type 0} (g : Ghosts S) (conn : Held S) (config : Settings) where
  pub if_adopted : (P : Tables S → Type 0) (result : Result (Tables S) (StoreFault × Held S)) → IsAdopted g conn config result
      → ((t : Tables S) → IsStoreOver g conn config t → P t) → IfOk result P
  if_adopted P (Ok t) is so = so t is
  if_adopted P (Err back) is so = tt

  pub if_not_adopted : (P : StoreFault × Held S → Type 0) (result : Result (Tables S) (StoreFault × Held S)) → IsAdopted g conn config result
      → ((back : StoreFault × Held S) → IsNotAdopted g conn back.0 back.1 → P back) → IfErr result P
  if_not_adopted P (Ok t) is so = tt
  if_not_adopted P (Err back) is so = so back is

-- a connection that was only read, to tables of a desk
pub ready_again : (old new : State) → IsUnchanged old new → old.now.schema ≡ desk_schema → new.now ≡ new.committed → IsReady new
ready_again old new same schema settled = record {
  is_open = same.0.is_open;
  schema = ap (λ (d : Database). d.schema) same.0.now_is ∙ schema;
  committed = settled;
}

-- a connection that was ready, and was only read, is settled
pub settled_read : (old new : State) → IsReadingCall old new true → old.in_transaction ≡ false → old.step_limit ≡ None → HasCleanDisk new → IsReady old
    → IsSettled new
settled_read old new read idle unlimited clean ready =
    let same = read.leaves ready.schema ready.is_open clean in
    record {
      open_still = same.0.is_open;
      autocommit = read.mode idle;
      committed = same.0.now_is ∙ ready.committed ∙ sym same.0.committed_is;
      unlimited = (read.survives ready.schema ready.is_open clean).limit ∙ unlimited;
    }

-- a settled connection with the desk's schema is at rest
pub at_rest : (s : State) → IsSettled s → s.now.schema ≡ desk_schema → IsSettledOver s s.now
at_rest s settled schema = record { settled = settled; stored = refl; schema = schema }

-- a store over settled tables of a desk, with their rows counted
pub stands : {S : Type 0} (g : Ghosts S) (t : Tables S) (c : Settings) (kept : Kept) (db : Database) → IsSettled (state g t.conn) → t.config ≡ c → t.seen ≡ nothing → (state g t.conn).now ≡ db
    → (is : IsOfDesk c kept db) → AreRowsCounted is.in_order.rows (t.heard, t.counts) → Stands g t kept
stands g t c kept db settled config unseen same is told =
    let r = is.in_order.rows in
    record {
      settled = settled;
      desk = subst (λ s. IsOfDesk s kept (state g t.conn).now) (sym config) (subst (IsOfDesk c kept) (sym same) is);
      heard = told.0 ∙ sym (ap length is.in_order.entries ∙ length-map r.replies entry_in);
      counts = record {
        sessions = told.1.0 ∙ sym (ap (λ (s : Registry). length s.sessions) is.in_order.are.is ∙ length-map r.sessions (λ (s : SessionRow). s.session));
        uplinks = told.1.1 ∙ sym (ap (λ (s : Registry). length s.uplinks) is.in_order.are.is);
        bookings = told.1.2 ∙ sym (ap (λ (s : Registry). length s.bookings) is.in_order.are.is ∙ length-map r.bookings (λ (b : BookingRow). b.booking));
      };
      seen = λ r holds. subst (IsSeen r) (sym unseen) (nothing_seen r);
    }
