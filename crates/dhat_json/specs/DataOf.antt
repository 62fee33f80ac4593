-- The data of a JSON value whose texts are borrowed, for private clauses. A number that is too large
-- for JSON's data gives null, and the last value of a key stays.
use Rattle.std.specs.Prelude.{◌&&◌, Bool, true, Option, Some, None, is_some}
use Rattle.json.specs.Json as json
use Rattle.json.specs.Value.{value_view}
use Rattle.json.specs.declared.value.Value.{Value}
use Rattle.serde_json.specs.Data.{Num, Data, null, boolean, number, string, array, object, Items, no_items, item}
use Rattle.serde_json.specs.Data.{Members, no_members, put}
use Rattle.serde_json.specs.Read.{number_of}

abbrev pub number_data : Option Num → Data
number_data None = null
number_data (Some n) = number n

abbrev mutual
  pub json_data : json.Json → Data
  json_data json.null = null
  json_data (json.boolean b) = boolean b
  json_data (json.number s) = number_data (number_of s)
  json_data (json.string s) = string s
  json_data (json.array js) = array (items_data js)
  json_data (json.object ms) = object (members_data ms no_members)

  pub items_data : json.Items → Items
  items_data json.no_items = no_items
  items_data (json.item j js) = item (json_data j) (items_data js)

  -- the members go in one after another
  pub members_data : json.Members → Members → Members
  members_data json.no_members found = found
  members_data (json.member k j ms) found = members_data ms (put k (json_data j) found)

abbrev pub data_of : {A : Type 0} → Value A → Data
data_of value = json_data (value_view value)

-- no number in it is too large
abbrev mutual
  pub has_data : json.Json → Bool
  has_data json.null = true
  has_data (json.boolean b) = true
  has_data (json.number s) = is_some (number_of s)
  has_data (json.string s) = true
  has_data (json.array js) = items_have_data js
  has_data (json.object ms) = members_have_data ms

  pub items_have_data : json.Items → Bool
  items_have_data json.no_items = true
  items_have_data (json.item j js) = has_data j && items_have_data js

  pub members_have_data : json.Members → Bool
  members_have_data json.no_members = true
  members_have_data (json.member k j ms) = has_data j && members_have_data ms
