-- A connection that was audited, and opened again.
use Rattle.std.proofs.Common.{◌≡◌, ◌≤◌, refl, sym, ap, ap₂, subst, ◌∙◌, arith, false, inl, IsTrue, Option, Some, None}
use Rattle.std.specs.Prelude.{IfSome}
use Rattle.registry_core.specs.Settings.{Settings}
use Rattle.sqlite_trees.specs.Tree.{Trees}
use Rattle.sqlite_trees.specs.View.{IsClean, doubt}
use Rattle.sqlite_trees.specs.declared.store.Store.{Ghosts}
use Rattle.sqlite.specs.Effect.{Database, IsDatabase}
use Rattle.sqlite.specs.Held.{Held, state}
use Rattle.sqlite.specs.State.{HasCleanDisk, IsLive, IsUnchanged, Opens}
use Rattle.desk_engine.specs.InOrder.{kept_after}
use Rattle.desk_rows.specs.Schema.{desk_schema}
use Rattle.desk_tables.specs.Adopting.{IsGivenBack}
use Rattle.desk_tables.specs.InOrder.{IsOfDesk}
use Rattle.desk_cli.proofs.OneSchema.{one_schema}
use Rattle.desk_cli.proofs.Compared.{became_store_too}
use Rattle.desk_cli.specs.Audit.{IsFinding}
use Rattle.desk_cli.specs.declared.audit.Finding.{Finding}
use Rattle.desk_cli.specs.declared.audit.Finding.TheVariants.{InOrder, Differs}
use Rattle.desk_cli.specs.steps.Audit.{BecameStore, IsDeskIf}

-- the store of a connection to a desk's database, opened again
module _ {S : Type 0} (g : Ghosts S) (old back : Held S) (store : S) (became : BecameStore g old store) (schema : old.schema ≡ desk_schema)
    (opens : Opens (state g back) × IsLive (state g back)) (rows : (state g back).now.trees ≡ (g.view store).trees) where
  same_trees : (state g back).now.trees ≡ (state g old).now.trees
  same_trees = rows ∙ became.rows

  same_schema : back.schema ≡ desk_schema
  same_schema =
      let listed : IsDatabase (record { schema = desk_schema; trees = (state g back).now.trees }) =
      subst IsDatabase (ap₂ (λ s t. let d : Database = record { schema = s; trees = t } in d) schema (sym same_trees)) became.sound in
      one_schema (state g back).now.trees desk_schema back.schema refl listed (opens.1 opens.0.is_open).0

  same_database : (state g back).now ≡ (state g old).now
  same_database = ap₂ (λ s t. let d : Database = record { schema = s; trees = t } in d) (same_schema ∙ sym schema) same_trees

  -- a crash leaves what is committed
  left_is : ((s : S) (db : Trees) → IsTrue (g.view s).is_open → g.recovers s db → db ≡ (g.view s).committed) → (db : Trees) → (state g back).may_leave db → db ≡ (state g back).now.trees
  left_is settled db may = settled back.store db opens.0.is_open may ∙ sym (ap (λ (d : Database). d.trees) opens.0.clean)

  pub passes : ((s : S) (db : Trees) → IsTrue (g.view s).is_open → g.recovers s db → db ≡ (g.view s).committed) → (c : Settings) (finding : Finding)
      → IsDeskIf c (state g old).now finding → IsFinding g back finding
  passes settled c (InOrder count) found = record {
    config = c;
    heard = found.0;
    many = found.1;
    keeps = record {
      now = record { list = found.2; tables = subst (IsOfDesk c (kept_after c found.0)) (sym same_database) found.3 };
      committed = opens.0.clean;
      left = λ db may.
          inl (subst (IsOfDesk c (kept_after c found.0))
          (ap₂ (λ s t. let d : Database = record { schema = s; trees = t } in d) schema (sym (same_trees) ∙ sym (left_is settled db may))) found.3);
    };
  }
  passes settled c (Differs place) found = tt

  pub same_again : ((s : S) (db : Trees) → IsTrue (g.view s).is_open → g.recovers s db → db ≡ (g.view s).committed) → ((s : S) → IsTrue (g.view s).is_open → g.recovers s (g.view s).committed)
      → ((state g back).now ≡ (state g old).now) × ((state g back).committed ≡ (state g old).committed) × ((db : Trees) → (state g back).may_leave db → (state g old).may_leave db)
  same_again settled stays = (
    same_database,
    sym opens.0.clean ∙ same_database ∙ became.committed,
    λ db may. subst (g.recovers old.store) (sym (left_is settled db may ∙ same_trees ∙ ap (λ (d : Database). d.trees) became.committed)) (stays old.store became.is_open),
  )

-- the connection as it was given, after the desk was found in it, and opened again over the store that it became
module _ {S : Type 0} (g : Ghosts S) (first conn back : Held S) (store : S)
    (settled : (s : S) (db : Trees) → IsTrue (g.view s).is_open → g.recovers s db → db ≡ (g.view s).committed) (stays : (s : S) → IsTrue (g.view s).is_open → g.recovers s (g.view s).committed)
    (desk : HasCleanDisk (state g conn) → (first.schema ≡ desk_schema) × IsUnchanged (state g first) (state g conn)) (clean : doubt (g.view conn.store).is_clean ≤ doubt (g.view store).is_clean)
    (became : IsClean (g.view store) → IsTrue (state g conn).is_open → conn.schema ≡ desk_schema → BecameStore g conn store)
    (over_clean : doubt (g.view store).is_clean ≤ doubt (state g back).is_clean) (opens : HasCleanDisk (state g back) → Opens (state g back) × IsLive (state g back))
    (rows : HasCleanDisk (state g back) → (state g back).now.trees ≡ (g.view store).trees) where
  sure_store : HasCleanDisk (state g back) → IsClean (g.view store)
  sure_store sure = omega (arith, over_clean, sure)

  sure_conn : HasCleanDisk (state g back) → HasCleanDisk (state g conn)
  sure_conn sure = omega (arith, clean, over_clean, sure)

  its_schema : HasCleanDisk (state g back) → conn.schema ≡ desk_schema
  its_schema sure = ap (λ (d : Database). d.schema) (desk (sure_conn sure)).1.0.now_is ∙ (desk (sure_conn sure)).0

  became_first : HasCleanDisk (state g back) → BecameStore g first store
  became_first sure = became_store_too g conn first store (became (sure_store sure) (desk (sure_conn sure)).1.0.is_open (its_schema sure)) (desk (sure_conn sure)).1

  pub found_is : (sure : HasCleanDisk (state g back)) (c : Settings) (finding : Finding)
      → (IsTrue (state g conn).is_open → conn.schema ≡ desk_schema → IsDeskIf c (state g conn).now finding) → IsFinding g back finding
  found_is sure c finding found =
      passes g first back store (became_first sure) (desk (sure_conn sure)).0 (opens sure) (rows sure) settled c finding
      (subst (λ d. IsDeskIf c d finding) (desk (sure_conn sure)).1.0.now_is (found (desk (sure_conn sure)).1.0.is_open (its_schema sure)))

  pub given_back_again : doubt (g.view first.store).is_clean ≤ doubt (g.view conn.store).is_clean → back.in_transaction ≡ false → IsGivenBack (state g first) (state g back) (λ _. ⊥)
  given_back_again first_clean idle = record {
    clean = omega (arith, first_clean, clean, over_clean);
    undone = λ sure up. let it = same_again g first back store (became_first sure) (desk (sure_conn sure)).0 (opens sure) (rows sure) settled stays in (it.0, it.1);
    idle = idle;
    crash = λ sure db may. inl ((same_again g first back store (became_first sure) (desk (sure_conn sure)).0 (opens sure) (rows sure) settled stays).2 db may);
  }

-- ---- a connection that may have come back

pub if_some : {X : Type 0} {P Q : X → Type 0} (o : Option X) → ((x : X) → P x → Q x) → IfSome o P → IfSome o Q
if_some (Some x) f h = f x h
if_some None f h = tt
