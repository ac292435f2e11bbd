-- What a batch of CREATEs makes, and that none of them is refused.
use Rattle.std.proofs.Common.{◌≡◌, ◌≢◌, inl, inr, ℕ, zero, suc, List, [], ◌∷◌, take, drop, true, IsTrue, Some, Ok, Err, refl, sym, ap, subst, ◌∙◌}
use Rattle.sqlite_trees.specs.declared.store.Store.{Ghosts}
use Rattle.sqlite_schema.specs.declared.schema.Schema.{Schema}
use Rattle.sqlite.specs.Effect.{IsDatabase}
use Rattle.sqlite.specs.State.{ExecutesIn, EndsScope}
use Rattle.sqlite.specs.Held.{Held, state}
use Rattle.sqlite.specs.Batch.{RunInTurn, first_len}
use Rattle.sqlite.specs.declared.error.Error.{Error}
use Rattle.desk_rows.specs.Faults.{row_fault}
use Rattle.desk_rows.specs.Making.{IsEmptied}
use Rattle.desk_rows.specs.declared.faults.RowFault.TheVariants.{Refused}
use Rattle.desk_rows.proofs.BatchSteps.{CreatesOne, Leads}

-- ---- one after the other

-- the text begins with this statement, and the rest follows
pub record Begins (text first rest : List ℕ) : Type 0 where
  pub some : take 1 text ≢ []
  pub first_is : take (first_len text) text ≡ first
  pub rest_is : drop (first_len text) text ≡ rest

module _ {S : Type 0} (g : Ghosts S) where
  pub one_ran : (most : ℕ) (text first rest : List ℕ) (old new : Held S) → Begins text first rest → RunInTurn g (Some 0) most text old new (Ok tt)
      → (mid : Held S) × (count : ℕ) × (left : ℕ) × ExecutesIn true first [] (state g old) (state g mid) (Ok count) × RunInTurn g (Some 0) left rest mid new (Ok tt)
  one_ran most [] first rest old new begins h = absurd (begins.some refl)
  one_ran zero (b ∷ more) first rest old new begins h = absurd h
  one_ran (suc most) (b ∷ more) first rest old new begins (inl stop) = absurd (let e = stop.1 in cc)
  one_ran (suc most) (b ∷ more) first rest old new begins (inr ran) =
      (ran.0, ran.1, most, subst (λ t. ExecutesIn true t [] (state g old) (state g ran.0) (Ok ran.1)) begins.first_is ran.2.runs, subst (λ t. RunInTurn g (Some 0) most t ran.0 new (Ok tt)) begins.rest_is ran.3)

-- empty tables of the schema, over a store that is open
abbrev pub IsLeft : {S : Type 0} → Ghosts S → Schema → Held S → Type 0
IsLeft g schema h = ((state g h).now.schema ≡ schema) × IsEmptied (state g h).now × IsDatabase (state g h).now × IsTrue (state g h).is_open

-- run in turn, the statements of the text lead from the one schema to the other
abbrev pub Through : List ℕ → Schema → Schema → Type 1
Through text before after = (S : Type 0) (g : Ghosts S) (most : ℕ) (old new : Held S) → (state g old).now.schema ≡ before → IsEmptied (state g old).now → IsDatabase (state g old).now
    → IsTrue (state g old).is_open → RunInTurn g (Some 0) most text old new (Ok tt) → IsLeft g after new

pub through : (text first rest : List ℕ) (before mid after : Schema) → Begins text first rest → Leads first before mid → Through rest mid after → Through text before after
through text first rest before mid after begins leads later S g most old new has empty sound up h =
    let ran = one_ran g most text first rest old new begins h in
    let did = leads (state g old) (state g ran.0) ran.1 has empty ran.3 in
    later S g ran.2 ran.0 new did.0 did.1 did.2 did.3 ran.4

pub no_more : (schema : Schema) → Through [] schema schema
no_more schema S g most old new has empty sound up h = let same = h.1 in (rw same has, rw same empty, rw same sound, rw same up)

-- the same from a database about which nothing more is known
abbrev pub Starts : List ℕ → Schema → Schema → Type 1
Starts text before after = (S : Type 0) (g : Ghosts S) (most : ℕ) (old new : Held S) → (state g old).now.schema ≡ before → IsEmptied (state g old).now
    → RunInTurn g (Some 0) most text old new (Ok tt) → IsLeft g after new

pub starts : (text first rest : List ℕ) (before mid after : Schema) → Begins text first rest → Leads first before mid → Through rest mid after → Starts text before after
starts text first rest before mid after begins leads later S g most old new has empty h =
    let ran = one_ran g most text first rest old new begins h in
    let did = leads (state g old) (state g ran.0) ran.1 has empty ran.3 in
    later S g ran.2 ran.0 new did.0 did.1 did.2 did.3 ran.4

-- ---- none of them is refused

-- run in turn inside a transaction, from empty tables of the schema, none returns `Refused`
abbrev pub IsNeverRefused : List ℕ → Schema → Type 1
IsNeverRefused text before = (S : Type 0) (g : Ghosts S) (most : ℕ) (old new : Held S) (e : Error) → (state g old).now.schema ≡ before → IsEmptied (state g old).now
    → IsTrue old.in_transaction → row_fault e ≡ Refused → RunInTurn g (Some 0) most text old new (Err e) → ⊥

pub none_refused : (schema : Schema) → IsNeverRefused [] schema
none_refused schema S g most old new e has empty inside told h = let failed = h.0 in cc

pub first_spared : (text first rest : List ℕ) (before mid : Schema) → Begins text first rest → CreatesOne first before mid → IsNeverRefused rest mid → IsNeverRefused text before
first_spared [] first rest before mid begins step later S g most old new e has empty inside told h = begins.some refl
first_spared (b ∷ more) first rest before mid begins step later S g zero old new e has empty inside told h = h
first_spared (b ∷ more) first rest before mid begins step later S g (suc most) old new e has empty inside told (inl (why, failed, inl ran)) =
    let same : e ≡ why = cc in
    step.spared.runs (state g old) (state g new) why has empty (ap row_fault (sym same) ∙ told)
    (subst (λ t. ExecutesIn true t [] (state g old) (state g new) (Err why)) begins.first_is ran.runs)
first_spared (b ∷ more) first rest before mid begins step later S g (suc most) old new e has empty inside told (inl (why, failed, inr (is, inl ends))) =
    step.spared.stays (state g old) has (subst (λ t. EndsScope 0 t [] (state g old)) begins.first_is ends.0)
first_spared (b ∷ more) first rest before mid begins step later S g (suc most) old new e has empty inside told (inl (why, failed, inr (is, inr idle))) =
    let out = idle.0 in let e = rw out at inside in cc
first_spared (b ∷ more) first rest before mid begins step later S g (suc most) old new e has empty inside told (inr (on, count, ran, others, stays)) =
    let did = step.leads (state g old) (state g on) count has empty (subst (λ t. ExecutesIn true t [] (state g old) (state g on) (Ok count)) begins.first_is ran.runs) in
    later S g most on new e did.0 did.1 stays.0 told (subst (λ t. RunInTurn g (Some 0) most t on new (Err e)) begins.rest_is others)

-- ---- both

pub record Makes (text : List ℕ) (before after : Schema) : Type 1 where
  pub through : Through text before after
  pub spared : IsNeverRefused text before

pub nothing_more : (schema : Schema) → Makes [] schema schema
nothing_more schema = record { through = no_more schema; spared = none_refused schema }

pub makes : (text first rest : List ℕ) {before mid after : Schema} → Begins text first rest → CreatesOne first before mid → Makes rest mid after → Makes text before after
makes text first rest {before} {mid} {after} begins step more = record {
  through = through text first rest before mid after begins step.leads more.through;
  spared = first_spared text first rest before mid begins step more.spared;
}
