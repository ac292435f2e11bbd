-- The query of the row of meta, whatever other tables there are.
use Rattle.std.proofs.Common.{◌≡◌, ◌≤◌, length, Ok, arith, ℕ, pos, negsuc, List, [], ◌∷◌, codes, None, false, true, refl}
use Rattle.sqlite_value.specs.declared.value.Value.TheVariants.{Int}
use Rattle.sqlite_schema.specs.declared.schema.Table.{Table}
use Rattle.sqlite_schema.specs.declared.schema.Index.{Index}
use Rattle.sqlite_schema.specs.declared.schema.Schema.{Schema}
use Rattle.sqlite_sql.specs.Term.{lit, col}
use Rattle.sqlite_sql.specs.Query.{Query, inner, end}
use Rattle.sqlite_tied.specs.Compute.{everything}
use Rattle.sqlite.specs.Command.TheVariants.{Select}
use Rattle.sqlite.specs.Listing.{understood, reads_listing}
use Rattle.sqlite_typing.specs.Types.{accepts_program}
use Rattle.sqlite_resolve.specs.declared.compiled.Compiled.{Compiled}
use Rattle.sqlite.proofs.Callers.{IsPlain, command_of}
use Rattle.desk_rows.specs.Schema.{meta_table}

abbrev pub find_text : List ℕ
find_text = codes "SELECT id, version, receiver, operator, base, addresses FROM meta"

abbrev pub find_query : Query
find_query = record {
  from = inner 0 end;
  filter = [];
  group = None;
  project = col 1 0 ∷ col 1 2 ∷ col 1 3 ∷ col 1 4 ∷ col 1 5 ∷ col 1 6 ∷ [];
  distinct = false;
  collations = [];
  order = [];
  limit = lit (Int (negsuc 0));
  offset = lit (Int (pos 0));
}

abbrev pub names : List (List ℕ)
names = codes "id" ∷ codes "version" ∷ codes "receiver" ∷ codes "operator" ∷ codes "base" ∷ codes "addresses" ∷ []

abbrev pub beside : List Table → List Index → Schema
beside more indexes = record { tables = meta_table ∷ more; indexes = indexes; views = [] }

pub find_is : (more : List Table) (indexes : List Index) → (command_of (understood (beside more indexes) find_text) ≡ Select (record { lets = []; body = find_query }) names) × (reads_listing (beside more indexes) find_text ≡ false)
unfolding understood everything
find_is more indexes = (refl, refl)

pub find_plain : (more : List Table) (indexes : List Index) → IsPlain (understood (beside more indexes) find_text)
unfolding understood everything
find_plain more indexes = (refl, refl)

-- it is one statement with no parameter
pub find_whole : (more : List Table) (indexes : List Index) → (compiled : Compiled) × (understood (beside more indexes) find_text ≡ Ok compiled) × ((compiled.returning ≡ None) × (compiled.formats ≡ [])) × (length find_text ≤ compiled.tail)
    × (0 ≡ length compiled.names) × (compiled.command ≡ Select (record { lets = []; body = find_query }) names)
unfolding understood everything
find_whole more indexes = (_, refl, (refl, refl), omega arith, refl, refl)

pub find_typed : (more : List Table) (indexes : List Index) → accepts_program (beside more indexes) [] find_query [] ≡ true
unfolding everything
find_typed more indexes = refl
