-- The data of a tree is what serde_json reads of its text, and a look-up finds the same in both.
use Rattle.std.proofs.Common.{◌≡◌, ℕ, List, [], ◌∷◌, Bool, true, false, true≢false, cond, ◌&&◌, Option, Some, None, unwrap_or, option_map, option_and_then, bytes_eq, refl, sym, ap, ◌∙◌, subst}
use Rattle.std.specs.Option.{is_some}
use Rattle.std.proofs.lemmas.Slice.Eq.{bytes_eq-Decides}
use Rattle.json.specs.Json as json
use Rattle.json.specs.Find as tree
use Rattle.serde_json.specs.Data.{Data, Num, number, array, object, no_items, item, Members, no_members, put}
use Rattle.serde_json.specs.Find.{get, get_member, as_null, as_bool, as_str, as_number}
use Rattle.serde_json.specs.Read.{number_of, of_json, of_items, of_members}
use Rattle.serde_json.proofs.Views.{get_member-put, get_member-put_other}
use Rattle.json.specs.Token.{Token}
use Rattle.json.specs.Lex.{tokens}
use Rattle.serde_json.specs.Read.{read}
use Rattle.std.specs.Str.{IsUtf8, is_utf8}
use Rattle.std.proofs.lemmas.Str.{is_utf8-from_IsUtf8, IsUtf8-from_is_utf8}
use Rattle.desk_wire.specs.Reading.{value_of}
use Rattle.desk_wire.specs.steps.TreeData.{data_of, data_of_items, data_of_members, in_range, items_in_range, members_in_range}

-- ---- what serde_json reads

abbrev only : {A : Type 0} → Bool → A → Option A
only b x = cond b (Some x) None

of_number : (n : Option Num) → option_map number n ≡ only (is_some n) (unwrap_or (option_map number n) (array no_items))
of_number None = refl
of_number (Some n) = refl

mapped : {A B : Type 0} (f : A → B) (b : Bool) (x : A) → option_map f (only b x) ≡ only b (f x)
mapped f true x = refl
mapped f false x = refl

both : {A B C : Type 0} (f : A → B → C) (b c : Bool) (x : A) (y : B) → option_and_then (λ d. option_map (f d) (only c y)) (only b x) ≡ only (b && c) (f x y)
both f true true x y = refl
both f true false x y = refl
both f false c x y = refl

onwards : {A B : Type 0} (f : A → Option B) (b c : Bool) (x : A) (y : B) → f x ≡ only c y → option_and_then f (only b x) ≡ only (b && c) y
onwards f true c x y e = e
onwards f false c x y e = refl

mutual
  pub read_data : (j : json.Json) → of_json j ≡ cond (in_range j) (Some (data_of j)) None
  read_data json.null = refl
  read_data (json.boolean b) = refl
  read_data (json.number s) = of_number (number_of s)
  read_data (json.string s) = refl
  read_data (json.array js) = ap (option_map array) (read_items js) ∙ mapped array (items_in_range js) (data_of_items js)
  read_data (json.object ms) = ap (option_map object) (read_members ms no_members) ∙ mapped object (members_in_range ms) (data_of_members ms no_members)

  read_items : (js : json.Items) → of_items js ≡ cond (items_in_range js) (Some (data_of_items js)) None
  read_items json.no_items = refl
  read_items (json.item j js) =
      ap (option_and_then (λ d. option_map (item d) (of_items js))) (read_data j)
      ∙ ap (λ r. option_and_then (λ d. option_map (item d) r) (only (in_range j) (data_of j))) (read_items js)
      ∙ both item (in_range j) (items_in_range js) (data_of j) (data_of_items js)

  read_members : (ms : json.Members) (found : Members) → of_members ms found ≡ cond (members_in_range ms) (Some (data_of_members ms found)) None
  read_members json.no_members found = refl
  read_members (json.member k j ms) found =
      ap (option_and_then (λ d. of_members ms (put k d found))) (read_data j)
      ∙ onwards (λ d. of_members ms (put k d found)) (in_range j) (members_in_range ms) (data_of j) _ (read_members ms (put k (data_of j) found))

-- ---- a member

put_found : (name k : List ℕ) (d : Data) (found : Members) (b : Bool) → bytes_eq k name ≡ b → get_member name (put k d found) ≡ cond b (Some d) (get_member name found)
put_found name k d found true e = subst (λ n. get_member n (put k d found) ≡ Some d) ((bytes_eq-Decides k name).0 e) (get_member-put k d found)
put_found name k d found false e = get_member-put_other name k d found (λ same. true≢false (sym ((bytes_eq-Decides k name).1 (sym same)) ∙ e))

abbrev later : Option json.Json → Option Data → Option Data
later None earlier = earlier
later (Some j) earlier = Some (data_of j)

later_cond : (o : Option json.Json) (b : Bool) (j : json.Json) (earlier : Option Data) → later o (cond b (Some (data_of j)) earlier) ≡ later (tree.later_or o (cond b (Some j) None)) earlier
later_cond None true j earlier = refl
later_cond None false j earlier = refl
later_cond (Some i) b j earlier = refl

members_found : (name : List ℕ) (ms : json.Members) (found : Members) → get_member name (data_of_members ms found) ≡ later (tree.get_member name ms) (get_member name found)
members_found name json.no_members found = refl
members_found name (json.member k j ms) found =
    members_found name ms (put k (data_of j) found)
    ∙ ap (later (tree.get_member name ms)) (put_found name k (data_of j) found (bytes_eq k name) refl)
    ∙ later_cond (tree.get_member name ms) (bytes_eq k name) j (get_member name found)

later_none : (o : Option json.Json) → later o None ≡ option_map data_of o
later_none None = refl
later_none (Some j) = refl

not_object : (n : Option Num) (name : List ℕ) → get name (unwrap_or (option_map number n) (array no_items)) ≡ None
not_object None name = refl
not_object (Some n) name = refl

pub member_found : (name : List ℕ) (j : json.Json) → get name (data_of j) ≡ option_map data_of (tree.get name j)
member_found name json.null = refl
member_found name (json.boolean b) = refl
member_found name (json.number s) = not_object (number_of s) name
member_found name (json.string s) = refl
member_found name (json.array js) = refl
member_found name (json.object ms) = members_found name ms no_members ∙ later_none (tree.get_member name ms)

-- ---- a text, a boolean, null, a number

no_str : (n : Option Num) → as_str (unwrap_or (option_map number n) (array no_items)) ≡ None
no_str None = refl
no_str (Some n) = refl

no_bool : (n : Option Num) → as_bool (unwrap_or (option_map number n) (array no_items)) ≡ None
no_bool None = refl
no_bool (Some n) = refl

no_null : (n : Option Num) → is_some (as_null (unwrap_or (option_map number n) (array no_items))) ≡ false
no_null None = refl
no_null (Some n) = refl

its_number : (n : Option Num) → as_number (unwrap_or (option_map number n) (array no_items)) ≡ n
its_number None = refl
its_number (Some n) = refl

pub string_found : (j : json.Json) → as_str (data_of j) ≡ tree.as_str j
string_found json.null = refl
string_found (json.boolean b) = refl
string_found (json.number s) = no_str (number_of s)
string_found (json.string s) = refl
string_found (json.array js) = refl
string_found (json.object ms) = refl

pub boolean_found : (j : json.Json) → as_bool (data_of j) ≡ tree.as_bool j
boolean_found json.null = refl
boolean_found (json.boolean b) = refl
boolean_found (json.number s) = no_bool (number_of s)
boolean_found (json.string s) = refl
boolean_found (json.array js) = refl
boolean_found (json.object ms) = refl

pub null_found : (j : json.Json) → is_some (as_null (data_of j)) ≡ tree.is_null j
null_found json.null = refl
null_found (json.boolean b) = refl
null_found (json.number s) = no_null (number_of s)
null_found (json.string s) = refl
null_found (json.array js) = refl
null_found (json.object ms) = refl

pub number_found : (j : json.Json) → as_number (data_of j) ≡ option_and_then number_of (tree.as_number j)
number_found json.null = refl
number_found (json.boolean b) = refl
number_found (json.number s) = its_number (number_of s)
number_found (json.string s) = refl
number_found (json.array js) = refl
number_found (json.object ms) = refl

-- ---- the whole text

abbrev whole : Option (json.Json × List Token) → Option Data
whole o = option_and_then of_json (option_and_then (λ p. json.if_last p.0 p.1) o)

pub read_whole : (text : List ℕ) (j : json.Json) (ts : List Token) → json.value 127 (tokens text) ≡ Some (j, ts) → ts ≡ [] → in_range j ≡ true → read text ≡ Some (data_of j)
read_whole text j ts e last fits =
    ap whole e ∙ ap (λ us. whole (Some (j, us))) last ∙ read_data j ∙ ap (λ b. only b (data_of j)) fits

pub read_out_of_range : (text : List ℕ) (j : json.Json) (ts : List Token) → json.value 127 (tokens text) ≡ Some (j, ts) → in_range j ≡ false → read text ≡ None
read_out_of_range text j [] e fits = ap whole e ∙ read_data j ∙ ap (λ b. only b (data_of j)) fits
read_out_of_range text j (t ∷ ts) e fits = ap whole e

pub read_more : (text : List ℕ) (j : json.Json) (ts : List Token) (t : Token) (us : List Token) → json.value 127 (tokens text) ≡ Some (j, ts) → ts ≡ t ∷ us → read text ≡ None
read_more text j ts t us e more = ap whole e ∙ ap (λ vs. whole (Some (j, vs))) more

pub read_refused : (text : List ℕ) → json.value 127 (tokens text) ≡ None → read text ≡ None
read_refused text e = ap whole e

pub of_text : (text : List ℕ) (v : Option Data) → IsUtf8 text → v ≡ read text → v ≡ value_of text
of_text text v u e = rw (is_utf8-from_IsUtf8 text u) e

of_octets_by : (text : List ℕ) (b : Bool) → is_utf8 text ≡ b → ¬ IsUtf8 text → None ≡ value_of text
of_octets_by text true is wrong = absurd (wrong (IsUtf8-from_is_utf8 text is))
of_octets_by text false is wrong = rw is refl

pub of_octets : (text : List ℕ) → ¬ IsUtf8 text → None ≡ value_of text
of_octets text wrong = of_octets_by text (is_utf8 text) refl wrong
