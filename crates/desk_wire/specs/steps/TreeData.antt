-- The data that serde_json reads, given the tree that json reads.
use Rattle.std.specs.Prelude.{Bool, true, ◌&&◌, unwrap_or, option_map}
use Rattle.std.specs.Option.{is_some}
use Rattle.json.specs.Json as json
use Rattle.json.specs.Value.{value_view}
use Rattle.json.specs.declared.value.Value.{Value}
use Rattle.serde_json.specs.Data.{Data, null, boolean, number, string, array, object, Items, no_items, item, Members, no_members, put}
use Rattle.serde_json.specs.Read.{number_of}

-- The members are inserted one after another, so the last value of a name counts. A number that is too large for a float becomes an empty
-- array, which is neither a text nor a number nor a boolean: a text with such a number is refused anyway.
abbrev mutual
  pub data_of : json.Json → Data
  data_of json.null = null
  data_of (json.boolean b) = boolean b
  data_of (json.number s) = unwrap_or (option_map number (number_of s)) (array no_items)
  data_of (json.string s) = string s
  data_of (json.array js) = array (data_of_items js)
  data_of (json.object ms) = object (data_of_members ms no_members)

  pub data_of_items : json.Items → Items
  data_of_items json.no_items = no_items
  data_of_items (json.item j js) = item (data_of j) (data_of_items js)

  pub data_of_members : json.Members → Members → Members
  data_of_members json.no_members found = found
  data_of_members (json.member k j ms) found = data_of_members ms (put k (data_of j) found)

-- no number is too large for a float
abbrev mutual
  pub in_range : json.Json → Bool
  in_range json.null = true
  in_range (json.boolean b) = true
  in_range (json.number s) = is_some (number_of s)
  in_range (json.string s) = true
  in_range (json.array js) = items_in_range js
  in_range (json.object ms) = members_in_range ms

  pub items_in_range : json.Items → Bool
  items_in_range json.no_items = true
  items_in_range (json.item j js) = in_range j && items_in_range js

  pub members_in_range : json.Members → Bool
  members_in_range json.no_members = true
  members_in_range (json.member k j ms) = in_range j && members_in_range ms

-- the data of a value of the code
abbrev pub view : {A : Type 0} → Value A → Data
view v = data_of (value_view v)
