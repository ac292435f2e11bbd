-- Messages that the audit's new desk hears one after another: what its store represents after none, one more, and all of them.
use Rattle.std.proofs.Common.{◌≡◌, ◌∙◌, true, false, List, [], refl, sym, subst, arith, inl}
use Rattle.sqlite_trees.specs.declared.store.Store.{Ghosts}
use Rattle.sqlite.specs.Held.{Held, state}
use Rattle.sqlite.specs.State.{State}
use Rattle.desk_rows.specs.Calls.{IsReadingCall}
use Rattle.registry_core.specs.declared.messages.Envelope.{Envelope}
use Rattle.registry_core.specs.Heard.{IsHeard}
use Rattle.registry_core.specs.Settings.{Settings}
use Rattle.desk_store.specs.Kept.{Kept}
use Rattle.desk_store.specs.Meaning.{Meaning}
use Rattle.desk_tables.specs.Adopting.{IsStore, opening_kept}
use Rattle.desk_tables.specs.InOrder.{IsOfDesk}
use Rattle.desk_tables.specs.Store.{meaning_of}
use Rattle.desk_tables.specs.declared.tables.Tables.{Tables}
use Rattle.desk_engine.specs.InOrder.{IsInOrder, WasInOrder, kept_after}
use Rattle.desk_engine.specs.Laws.{CallsHearInOrder, NoCallHearsNothing}
use Rattle.desk_cli.specs.steps.Audit.{HearsSome}

module _ {K : Type 0} (m : Meaning K) where
  pub hears_none : NoCallHearsNothing m → (k : K) → HearsSome m k k
  hears_none law k = record { after = _; doubtful = _; hears = law k }

  pub hears_then : CallsHearInOrder m → (old mid new : K) → HearsSome m old mid → HearsSome m mid new → HearsSome m old new
  hears_then law old mid new first second = record {
    after = _;
    doubtful = _;
    hears = law old mid new false false false false first.after second.after first.doubtful second.doubtful first.hears second.hears;
  }

-- ---- a new desk over tables

kept_nothing : (c : Settings) → kept_after c [] ≡ opening_kept c
unfolding kept_after
kept_nothing c = refl

module _ {R : Type 0} (h : Ghosts R) (c : Settings) (old new : Tables R) (closed : Held R) where
  -- what the database of a desk holds that was new, and heard some messages
  pub log_was_heard : HearsSome (meaning_of h) old new → ((meaning_of h).sound old → IsStore (meaning_of h) old c (opening_kept c)) → IsHeard c [] → (meaning_of h).sound new
      → ((kept : Kept) → (meaning_of h).sound new → (meaning_of h).failed new ≡ false → (meaning_of h).holds new kept
      → IsOfDesk ((meaning_of h).configuration new) kept (state h closed).now × ((state h closed).now ≡ (state h closed).committed))
      → (heard : List Envelope) × IsHeard c heard × IsOfDesk c (kept_after c heard) (state h closed).now
  log_was_heard heard made nothing sound ends =
      let m = meaning_of h in
      let store : IsStore m old c (opening_kept c) = made (heard.hears.call.was_sound sound) in
      let start : WasInOrder m c [] old new = record {
        its = sym store.configuration;
        sound = sound;
        order = record { list = nothing; kept = subst (m.holds old) (sym (kept_nothing c)) store.holds };
      } in
      let after : IsInOrder m c new (heard.after c []) = heard.hears.order c [] start in
      let up : m.failed new ≡ false = heard.hears.call.shut ∙ store.up in (
        heard.after c [],
        after.list,
        subst (λ s. IsOfDesk s (kept_after c (heard.after c [])) (state h closed).now) (heard.hears.call.same ∙ store.configuration) (ends (kept_after c (heard.after c [])) sound up after.kept).0,
      )

-- ---- nothing is read

pub reads_none : (s : State) → IsReadingCall s s true
reads_none s = record {
  clean = omega arith;
  mode = λ idle. idle;
  survives = λ has up sure. record { clean = omega arith; shield = λ h. h; counts = omega arith; limit = refl; closes = λ clean is_open. inl is_open; crash = λ clean db may. inl may };
  leaves = λ has up sure. (record { was_open = up; is_open = up; now_is = refl; committed_is = refl; mode = refl }, record { changes = refl; last_rowid = refl }, refl);
}
