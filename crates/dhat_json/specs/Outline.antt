-- What a document is but for its points: its members, of which all lists and objects but the table
-- are empty, for private clauses.
use Rattle.std.specs.Prelude.{◌≡◌, List, Option, Result, Some, None, MatchResult, is_some}
use Rattle.std.specs.Option.{option_map}
use Rattle.json.specs.Json.{parse_map}
use Rattle.json.specs.Token.{Token}
use Rattle.json.specs.declared.value.Value.{Value}
use Rattle.serde_json.specs.Data.{Data, null, boolean, number, string, array, object, no_items, no_members}
use Rattle.serde_json.specs.Find.{as_object, get}
use Rattle.dhat_json.specs.declared.key.Key.{Key}
use Rattle.dhat_json.specs.declared.key.Key.TheVariants.{Ftbl}
use Rattle.dhat_json.specs.Ahead.{value_ahead}
use Rattle.dhat_json.specs.DataOf.{data_of}
use Rattle.dhat_json.specs.KeyName.{key_name}

-- the value without its parts
abbrev pub hollow : Data → Data
hollow null = null
hollow (boolean b) = boolean b
hollow (number n) = number n
hollow (string s) = string s
hollow (array ds) = array no_items
hollow (object ms) = object no_members

-- what stands at a key, without its parts
abbrev pub hollow_at : Key → Data → Option Data
hollow_at key value = option_map hollow (get (key_name key) value)

-- what stands next was read without its parts, or no value does
abbrev pub IsOutlined : {X E : Type 0} → Result (Value X) E → List Token → List Token → Type 0
IsOutlined result ahead behind = MatchResult result
    (λ v. parse_map hollow (value_ahead 126 ahead) ≡ Some (data_of v, behind))
    (λ _. value_ahead 126 ahead ≡ None)

-- the one has the table of the other, and at all other keys what the other has there but for its parts
pub record IsOutline (outline value : Data) : Type 0 where
  pub object : is_some (as_object outline) ≡ is_some (as_object value)
  pub table : get (key_name Ftbl) outline ≡ get (key_name Ftbl) value
  pub others : (key : Key) → hollow_at key outline ≡ hollow_at key value
