-- A JSON value has data where no number in it is too large, and what stands at a key of the data is the data of what
-- stands there in the value.
use Rattle.std.proofs.Common.{◌≡◌, ℕ, List, [], ◌∷◌, map, Bool, true, false, cond, Option, Some, None, option_map}
use Rattle.std.proofs.Common.{option_and_then, bytes_eq, true≢false, refl, sym, ap, ◌∙◌}
use Rattle.std.specs.Prelude.{◌&&◌, is_some}
use Rattle.std.proofs.lemmas.Slice.Eq.{bytes_eq-Decides}
use Rattle.std.specs.Borrow.{Bor}
use Rattle.std.specs.declared.alloc.Global.{Global}
use Rattle.json.specs.Json as json
use Rattle.json.specs.Lex.{tokens}
use Rattle.json.specs.Find as find
use Rattle.json.specs.Find.{later_or}
use Rattle.json.specs.Value.{value_view, items_view}
use Rattle.json.specs.declared.value.Value.{Value}
use Rattle.serde_json.specs.Data.{Num, Data, null, number, array, object, Items, item, Members, no_members, put}
use Rattle.serde_json.specs.Find.{get, get_member, as_str, as_bool}
use Rattle.serde_json.specs.Read.{of_json, of_items, of_members, number_of, read}
use Rattle.serde_json.proofs.Views.{get_member-put, get_member-put_other}
use Rattle.dhat_json.specs.Kinds.{list_of}
use Rattle.dhat_json.specs.DataOf.{number_data, json_data, items_data, members_data, data_of, has_data, items_have_data}
use Rattle.dhat_json.specs.DataOf.{members_have_data}

-- ---- the data

number_is : (o : Option Num) → option_map number o ≡ cond (is_some o) (Some (number_data o)) None
number_is None = refl
number_is (Some n) = refl

under : {A B : Type 0} (f : A → B) (x : A) (b : Bool) → option_map f (cond b (Some x) None) ≡ cond b (Some (f x)) None
under f x true = refl
under f x false = refl

item_is : (d : Data) (ds : Items) (a b : Bool)
    → option_and_then (λ e. option_map (item e) (cond b (Some ds) None)) (cond a (Some d) None)
    ≡ cond (a && b) (Some (item d ds)) None
item_is d ds true true = refl
item_is d ds true false = refl
item_is d ds false b = refl

member_is : (d : Data) (more : Data → Option Members) (ms : Members) (a b : Bool) → more d ≡ cond b (Some ms) None
    → option_and_then more (cond a (Some d) None) ≡ cond (a && b) (Some ms) None
member_is d more ms true b e = e
member_is d more ms false b e = refl

mutual
  pub json_is : (j : json.Json) → of_json j ≡ cond (has_data j) (Some (json_data j)) None
  json_is json.null = refl
  json_is (json.boolean b) = refl
  json_is (json.number s) = number_is (number_of s)
  json_is (json.string s) = refl
  json_is (json.array js) = rw (items_are js) (under array (items_data js) (items_have_data js))
  json_is (json.object ms) =
      rw (members_are ms no_members) (under object (members_data ms no_members) (members_have_data ms))

  items_are : (js : json.Items) → of_items js ≡ cond (items_have_data js) (Some (items_data js)) None
  items_are json.no_items = refl
  items_are (json.item j js) =
      rw (json_is j, items_are js) (item_is (json_data j) (items_data js) (has_data j) (items_have_data js))

  members_are : (ms : json.Members) (found : Members)
      → of_members ms found ≡ cond (members_have_data ms) (Some (members_data ms found)) None
  members_are json.no_members found = refl
  members_are (json.member k j ms) found =
      rw (json_is j)
      (member_is (json_data j) (λ d. of_members ms (put k d found)) (members_data ms (put k (json_data j) found))
      (has_data j) (members_have_data ms) (members_are ms (put k (json_data j) found)))

-- the data of a whole text
pub read_is : (text : List ℕ) (j : json.Json) (has : Bool) → json.value 127 (tokens text) ≡ Some (j, [])
    → has_data j ≡ has → read text ≡ cond has (Some (json_data j)) None
read_is text j has e is =
    ap (λ o. option_and_then of_json (option_and_then (λ p. json.if_last p.0 p.1) o)) e ∙ json_is j
    ∙ ap (λ (b : Bool). cond b (Some (json_data j)) None) is

-- ---- look-ups

abbrev or_before : Option Data → Option Data → Option Data
or_before None before = before
or_before (Some d) before = Some d

put_found : (k l : List ℕ) (d : Data) (found : Members) (b : Bool) (j : json.Json) → json_data j ≡ d → bytes_eq l k ≡ b
    → get_member k (put l d found) ≡ or_before (option_map json_data (cond b (Some j) None)) (get_member k found)
put_found k l d found true j is same =
    let e : l ≡ k = (bytes_eq-Decides l k).0 same in rw e (get_member-put k d found ∙ ap Some (sym is))
put_found k l d found false j is other =
    get_member-put_other k l d found (λ e. true≢false (sym ((bytes_eq-Decides l k).1 (sym e)) ∙ other))

later_found : (k l : List ℕ) (j : json.Json) (later : Option json.Json) (found : Members)
    → or_before (option_map json_data later) (get_member k (put l (json_data j) found))
    ≡ or_before (option_map json_data (later_or later (cond (bytes_eq l k) (Some j) None))) (get_member k found)
later_found k l j None found = put_found k l (json_data j) found (bytes_eq l k) j refl refl
later_found k l j (Some later) found = refl

member_found : (k : List ℕ) (ms : json.Members) (found : Members)
    → get_member k (members_data ms found)
    ≡ or_before (option_map json_data (find.get_member k ms)) (get_member k found)
member_found k json.no_members found = refl
member_found k (json.member l j ms) found =
    member_found k ms (put l (json_data j) found) ∙ later_found k l j (find.get_member k ms) found

no_earlier : (o : Option Data) → or_before o None ≡ o
no_earlier None = refl
no_earlier (Some d) = refl

-- what is asked of a number, in range or not
at_number : {A : Type 0} (ask : Data → A) (o : Option Num) (x : A) → ask null ≡ x → ((n : Num) → ask (number n) ≡ x)
    → ask (number_data o) ≡ x
at_number ask None x none some = none
at_number ask (Some n) x none some = some n

pub get_data : (k : List ℕ) (j : json.Json) → get k (json_data j) ≡ option_map json_data (find.get k j)
get_data k (json.number s) = at_number (get k) (number_of s) None refl (λ n. refl)
get_data k (json.object ms) = member_found k ms no_members ∙ no_earlier (option_map json_data (find.get_member k ms))
get_data _ _ = refl

pub data_mapped : (o : Option (Bor (Value Global)))
    → option_map (λ v. data_of v.now) o ≡ option_map json_data (option_map (λ v. value_view v.now) o)
data_mapped None = refl
data_mapped (Some v) = refl

pub text_data : (j : json.Json) → as_str (json_data j) ≡ find.as_str j
text_data (json.number s) = at_number as_str (number_of s) None refl (λ n. refl)
text_data _ = refl

pub flag_data : (j : json.Json) → as_bool (json_data j) ≡ find.as_bool j
flag_data (json.number s) = at_number as_bool (number_of s) None refl (λ n. refl)
flag_data _ = refl

pub list_data : {A : Type 0} (values : List (Value A)) → list_of (items_data (items_view values)) ≡ map data_of values
list_data [] = refl
list_data (value ∷ values) = ap (λ (ds : List Data). data_of value ∷ ds) (list_data values)
