-- What stands next, by the first token.
use Rattle.std.proofs.Common.{◌≡◌, ℕ, ◌-◌, ◌<◌, List, [], ◌∷◌, length, Bool, true, false, cond, Option, Some, None}
use Rattle.std.proofs.Common.{option_map, refl, ap, ◌∙◌}
use Rattle.std.specs.Prelude.{is_some}
use Rattle.std.specs.Borrow.{Bor}
use Rattle.std.specs.Global.{Vec}
use Rattle.std.specs.declared.alloc.Global.{Global}
use Rattle.json.specs.Token.{Token, begin_array, begin_object, string, number, boolean, null}
use Rattle.json.specs.Json.{Json, parse_map, value, items, members}
use Rattle.json.specs.Value.{items_view, members_view}
use Rattle.json.specs.declared.value.Value.{Value, Array, Object}
use Rattle.json.proofs.Trees.{view-Array, view-Object}
use Rattle.json.proofs.Grammar.{value_is, value-begin_array, value-begin_object, left-parse_map, left_none}
use Rattle.serde_json.specs.Data as spec
use Rattle.serde_json.specs.Data.{Data, Num, array, object, no_items, no_members}
use Rattle.serde_json.specs.Read.{of_json, converted, number_of}
use Rattle.dhat_json.proofs.AheadTurns.{array_converted, object_converted}
use Rattle.dhat_json.specs.Ahead.{value_ahead, items_ahead, members_ahead, behind}
use Rattle.dhat_json.specs.DataOf.{data_of, has_data, items_data, json_data, members_data, number_data}
use Rattle.dhat_json.specs.Outline.{hollow}
use Rattle.dhat_json.proofs.DataLemmas.{json_is}

pub array_ahead : (depth : ℕ) (ts : List Token) → 0 < depth
    → value_ahead depth (begin_array ∷ ts) ≡ parse_map array (items_ahead (depth - 1) ts)
array_ahead depth ts h =
    ap (converted of_json) (value-begin_array depth ts h) ∙ array_converted (items (value (depth - 1)) (length ts) ts)

pub object_ahead : (depth : ℕ) (ts : List Token) → 0 < depth
    → value_ahead depth (begin_object ∷ ts) ≡ parse_map object (members_ahead (depth - 1) ts)
object_ahead depth ts h =
    ap (converted of_json) (value-begin_object depth ts h)
    ∙ object_converted (members (value (depth - 1)) (length ts) ts)

pub behind_array : (depth : ℕ) (now ts : List Token) → now ≡ begin_array ∷ ts → 0 < depth
    → behind (value_ahead depth now) ≡ behind (items_ahead (depth - 1) ts)
behind_array depth now ts is h =
    ap behind (ap (value_ahead depth) is ∙ array_ahead depth ts h)
    ∙ left-parse_map array (items_ahead (depth - 1) ts)

pub behind_object : (depth : ℕ) (now ts : List Token) → now ≡ begin_object ∷ ts → 0 < depth
    → behind (value_ahead depth now) ≡ behind (members_ahead (depth - 1) ts)
behind_object depth now ts is h =
    ap behind (ap (value_ahead depth) is ∙ object_ahead depth ts h)
    ∙ left-parse_map object (members_ahead (depth - 1) ts)

pub nothing_ahead : (depth : ℕ) → value_ahead depth [] ≡ None
nothing_ahead depth = ap (converted of_json) (value_is depth [])

pub string_ahead : (depth : ℕ) (s : List ℕ) (ts : List Token)
    → value_ahead depth (string s ∷ ts) ≡ Some (spec.string s, ts)
string_ahead depth s ts = ap (converted of_json) (value_is depth (string s ∷ ts))

pub boolean_ahead : (depth : ℕ) (b : Bool) (ts : List Token)
    → value_ahead depth (boolean b ∷ ts) ≡ Some (spec.boolean b, ts)
boolean_ahead depth b ts = ap (converted of_json) (value_is depth (boolean b ∷ ts))

pub null_ahead : (depth : ℕ) (ts : List Token) → value_ahead depth (null ∷ ts) ≡ Some (spec.null, ts)
null_ahead depth ts = ap (converted of_json) (value_is depth (null ∷ ts))

pub number_ahead : (depth : ℕ) (s : List ℕ) (ts : List Token)
    → value_ahead depth (number s ∷ ts)
    ≡ option_map {U = Data × List Token} (λ d. (d, ts)) (option_map spec.number (number_of s))
number_ahead depth s ts = ap (converted of_json) (value_is depth (number s ∷ ts))

-- what stands there is a value whose numbers are in range, or one with others
pub ahead_is : (depth : ℕ) (ts r : List Token) (j : Json) (has : Bool) → value depth ts ≡ Some (j, r) → has_data j ≡ has
    → value_ahead depth ts ≡ cond has (Some (json_data j, r)) None
ahead_is depth ts r j has e is =
    ap (converted of_json) e
    ∙ ap (option_map {U = Data × List Token} (λ d. (d, r)))
    (json_is j ∙ ap (λ (b : Bool). cond b (Some (json_data j)) None) is)
    ∙ split has
  where
    split : (b : Bool)
        → option_map {U = Data × List Token} (λ d. (d, r)) (cond b (Some (json_data j)) None)
        ≡ cond b (Some (json_data j, r)) None
    split true = refl
    split false = refl

-- a value of parts that were passed over is an empty one
hollow_parts : {A : Type 0} (of : A → Data) (empty : Data) → ((parts : A) → hollow (of parts) ≡ empty)
    → (o : Option (A × List Token)) (r : List Token) → behind o ≡ Some r
    → parse_map hollow (parse_map of o) ≡ Some (empty, r)
hollow_parts of empty is None r e = absurd cc
hollow_parts of empty is (Some p) r e =
    rw (is p.0) (ap (λ (rest : Option (List Token)). option_map (λ s. (empty, s)) rest) e)

-- a list and an object are empty ones, once their parts were passed over
pub hollow_array : (depth : ℕ) (ts r : List Token) → 0 < depth → behind (items_ahead (depth - 1) ts) ≡ Some r
    → parse_map hollow (value_ahead depth (begin_array ∷ ts)) ≡ Some (array no_items, r)
hollow_array depth ts r h e =
    ap (parse_map hollow) (array_ahead depth ts h)
    ∙ hollow_parts array (array no_items) (λ ds. refl) (items_ahead (depth - 1) ts) r e

pub hollow_object : (depth : ℕ) (ts r : List Token) → 0 < depth → behind (members_ahead (depth - 1) ts) ≡ Some r
    → parse_map hollow (value_ahead depth (begin_object ∷ ts)) ≡ Some (object no_members, r)
hollow_object depth ts r h e =
    ap (parse_map hollow) (object_ahead depth ts h)
    ∙ hollow_parts object (object no_members) (λ ms. refl) (members_ahead (depth - 1) ts) r e

pub no_array : (depth : ℕ) (ts : List Token) → 0 < depth → behind (items_ahead (depth - 1) ts) ≡ None
    → value_ahead depth (begin_array ∷ ts) ≡ None
no_array depth ts h e = array_ahead depth ts h ∙ ap (parse_map array) (left_none (items_ahead (depth - 1) ts) e)

pub no_object : (depth : ℕ) (ts : List Token) → 0 < depth → behind (members_ahead (depth - 1) ts) ≡ None
    → value_ahead depth (begin_object ∷ ts) ≡ None
no_object depth ts h e = object_ahead depth ts h ∙ ap (parse_map object) (left_none (members_ahead (depth - 1) ts) e)

-- a number out of range is no value, and one in range is one
pub number_out : (depth : ℕ) (s : List ℕ) (ts : List Token) → is_some (number_of s) ≡ false
    → value_ahead depth (number s ∷ ts) ≡ None
number_out depth s ts e = number_ahead depth s ts ∙ at (number_of s) e
  where
    at : (o : Option Num) → is_some o ≡ false
        → option_map {U = Data × List Token} (λ d. (d, ts)) (option_map spec.number o) ≡ None
    at None none = refl
    at (Some n) never = absurd cc

pub number_in : (depth : ℕ) (s : List ℕ) (ts : List Token) → is_some (number_of s) ≡ true
    → value_ahead depth (number s ∷ ts) ≡ Some (number_data (number_of s), ts)
number_in depth s ts e = number_ahead depth s ts ∙ at (number_of s) e
  where
    at : (o : Option Num) → is_some o ≡ true
        → option_map {U = Data × List Token} (λ d. (d, ts)) (option_map spec.number o) ≡ Some (number_data o, ts)
    at None never = absurd cc
    at (Some n) some = refl

-- a number has no parts
pub hollow_number : (o : Option Num) → hollow (number_data o) ≡ number_data o
hollow_number None = refl
hollow_number (Some n) = refl

-- the data of an empty list and of an empty object
pub empty_list : (v : Vec (Value Global)) → v.items ≡ [] → data_of (Array v) ≡ array no_items
empty_list v none = ap json_data (view-Array v) ∙ ap (λ vs. array (items_data (items_view vs))) none

pub empty_object : (v : Vec (Bor (List ℕ) × Value Global)) → v.items ≡ [] → data_of (Object v) ≡ object no_members
empty_object v none = ap json_data (view-Object v) ∙ ap (λ ms. object (members_data (members_view ms) no_members)) none
