-- What is read of a desk's tables when they are opened.
use Rattle.std.proofs.Common.{◌≡◌, ◌≢◌, ◌⊎◌, inl, inr, ℕ, ℤ, true, pos, [], ◌∷◌, Result, Ok, Err, IfErr, refl, sym, ap, subst, ◌∙◌}
use Rattle.std.specs.Result.{IsErrAnd}
use Rattle.registry_core.specs.Settings.{Settings}
use Rattle.sqlite_schema.specs.declared.schema.Schema.{Schema}
use Rattle.sqlite_value.specs.declared.value.Value.TheVariants.{Int, Text}
use Rattle.sqlite_value.specs.Order.{column}
use Rattle.sqlite_trees.specs.Tree.{Trees}
use Rattle.sqlite.specs.Effect.{Database}
use Rattle.desk_store.specs.Calls.{IsUnavailability}
use Rattle.desk_store.specs.declared.faults.StoreFault.{StoreFault}
use Rattle.desk_store.specs.declared.faults.StoreFault.TheVariants.{Exists, NotADesk, SchemaVersion}
use Rattle.desk_store.specs.declared.faults.StoreFault.TheVariants as told_as
use Rattle.desk_rows.specs.declared.faults.RowFault.{RowFault}
use Rattle.desk_rows.specs.declared.faults.RowFault.TheVariants.{Memory, Disk, Size, Row, Refused}
use Rattle.desk_rows.specs.Faults.{is_odd}
use Rattle.desk_rows.specs.Meta.{HasMeta, IsConfig, TellsMeta}
use Rattle.desk_rows.specs.Rows.{HoldsTen, Rows}
use Rattle.desk_rows.specs.Schema.{desk_schema}
use Rattle.desk_tables.specs.steps.Faults.{store_fault}

-- ---- errors

pub odd_from_not_a_desk : (fault : RowFault) → store_fault fault ≡ NotADesk → is_odd fault ≡ true
odd_from_not_a_desk Memory told = cc
odd_from_not_a_desk Disk told = cc
odd_from_not_a_desk Size told = cc
odd_from_not_a_desk Row told = refl
odd_from_not_a_desk Refused told = refl

pub unavailable_from_even : (fault : RowFault) → is_odd fault ≢ true → IsUnavailability (store_fault fault)
unavailable_from_even Memory even = tt
unavailable_from_even Disk even = tt
unavailable_from_even Size even = tt
unavailable_from_even Row even = even refl
unavailable_from_even Refused even = even refl

-- ---- what is returned has its error

-- what is true of the error is true of what the exit of a `?` returns
pub failed_so : {X : Type 0} (P : StoreFault → Type 0) (fault : StoreFault) (result : Result X StoreFault) → IsErrAnd result (λ told. told ≡ fault)
    → P fault → IfErr result P
failed_so P fault (Ok x) failed so = tt
failed_so P fault (Err told) failed so = subst P (sym failed) so

pub fault_is : {X : Type 0} (fault told : StoreFault) (result : Result X StoreFault) → IsErrAnd result (λ f. f ≡ fault) → result ≡ Err told → fault ≡ told
fault_is fault told result failed is = sym (subst (λ r. IsErrAnd r (λ f. f ≡ fault)) is failed)

pub version_or_unavailable : (fault : StoreFault) → fault ≢ NotADesk → fault ≢ Exists → (fault ≡ SchemaVersion) ⊎ IsUnavailability fault
version_or_unavailable told_as.Memory known new = inr tt
version_or_unavailable told_as.Disk known new = inr tt
version_or_unavailable told_as.Size known new = inr tt
version_or_unavailable told_as.NotADesk known new = absurd (known refl)
version_or_unavailable told_as.SchemaVersion known new = inl refl
version_or_unavailable told_as.Exists known new = absurd (new refl)

-- ---- rows

pub desk_has_meta : (schema : Schema) → schema ≡ desk_schema → HasMeta schema
desk_has_meta schema is = subst HasMeta (sym is) (record { first = refl; no_views = refl })

pub meta_tells : (version : ℕ) (schema_is : Schema) (db : Database) (r : Rows) → HoldsTen version schema_is db r → IsConfig r.settings
    → TellsMeta db.trees (pos version) r.settings
meta_tells version schema_is db r has config = record {
  row = _;
  one = has.meta;
  id = refl;
  version_is = refl;
  receiver = refl;
  operator = refl;
  base = refl;
  addresses = refl;
  config = config;
}

-- the row of meta has one version and one configuration
pub told_once : (trees : Trees) (a b : ℤ) (c d : Settings) → TellsMeta trees a c → TellsMeta trees b d → (a ≡ b) × (c ≡ d)
told_once trees a b c d one two =
    let both : one.row ∷ [] ≡ two.row ∷ [] = sym one.one ∙ two.one in
    let row : one.row ≡ two.row = cc in
    let version : Int a ≡ Int b = sym one.version_is ∙ ap (λ r. column r 2) row ∙ two.version_is in
    let receiver : Text c.receiver ≡ Text d.receiver = sym one.receiver ∙ ap (λ r. column r 3) row ∙ two.receiver in
    let operator : Text c.operator ≡ Text d.operator = sym one.operator ∙ ap (λ r. column r 4) row ∙ two.operator in
    let base : Int (pos c.base) ≡ Int (pos d.base) = sym one.base ∙ ap (λ r. column r 5) row ∙ two.base in
    let addresses : Int (pos c.addresses) ≡ Int (pos d.addresses) = sym one.addresses ∙ ap (λ r. column r 6) row ∙ two.addresses in
    let r : c.receiver ≡ d.receiver = cc in
    let o : c.operator ≡ d.operator = cc in
    let x : c.base ≡ d.base = cc in
    let y : c.addresses ≡ d.addresses = cc in
    (cc, λ i. record { receiver = r i; operator = o i; base = x i; addresses = y i })
