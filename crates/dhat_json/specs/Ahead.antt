-- What stands next among the tokens of a text, as data, with the tokens behind it; nothing where a
-- number in it is out of range, for private clauses.
use Rattle.std.specs.Prelude.{◌≡◌, ℕ, List, length, Option, Result, Some, None, MatchResult}
use Rattle.std.specs.Option.{option_map}
use Rattle.json.specs.Token.{Token}
use Rattle.json.specs.Json.{value, items, members}
use Rattle.serde_json.specs.Data.{Data, Items, Members, no_members}
use Rattle.serde_json.specs.Read.{of_json, of_items, of_members, converted}
use Rattle.dhat_json.specs.declared.fault.DhatFault.{DhatFault}
use Rattle.dhat_json.specs.declared.fault.DhatFault.TheVariants.{NotJson}
use Rattle.dhat_json.specs.Reads.{UnlessNoMemory}

-- a value that nests so deep at most
abbrev pub value_ahead : ℕ → List Token → Option (Data × List Token)
value_ahead depth ts = converted of_json (value depth ts)

-- the items of a list up to its closing bracket, and the tokens behind it
abbrev pub items_ahead : ℕ → List Token → Option (Items × List Token)
items_ahead depth ts = converted of_items (items (value depth) (length ts) ts)

-- the members of an object, and its brace
abbrev pub members_ahead : ℕ → List Token → Option (Members × List Token)
members_ahead depth ts = converted (λ ms. of_members ms no_members)
    (members (value depth) (length ts) ts)

-- the tokens behind it
abbrev pub behind : {A : Type 0} → Option (A × List Token) → Option (List Token)
behind ahead = option_map (λ p. p.1) ahead

-- what stands there was passed over, or nothing of the kind does
abbrev pub Passes : {A E : Type 0} → Result (Unit {0}) E → Option (A × List Token) → List Token
    → Type 0
Passes result ahead now = MatchResult result (λ _. behind ahead ≡ Some now)
    (λ _. behind ahead ≡ None)

-- nothing of the kind stands there, or memory was wanting
abbrev pub TellsNone : {A : Type 0} → DhatFault → Option (A × List Token) → Type 0
TellsNone fault ahead = UnlessNoMemory fault ((fault ≡ NotJson) × (ahead ≡ None))
