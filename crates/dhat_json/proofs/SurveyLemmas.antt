-- A document gone through member by member.
use Rattle.std.proofs.Common.{◌≡◌, ℕ, ◌-◌, List, [], ◌∷◌, ◌++◌, length, codes, Bool, true, false, Option, Some, None}
use Rattle.std.proofs.Common.{Err, option_map, option_and_then, refl, sym, ap, ◌∙◌, subst, arith}
use Rattle.std.specs.Prelude.{IfSome, is_some, unwrap_or}
use Rattle.std.specs.Borrow.{Bor}
use Rattle.std.specs.declared.alloc.Global.{Global}
use Rattle.json.specs.Token.{Token, begin_array, begin_object, end_array, end_object, key, string, number, boolean}
use Rattle.json.specs.Token.{null, bad}
use Rattle.json.specs.Lex.{tokens}
use Rattle.json.specs.Json as json
use Rattle.json.specs.Json.{Json, parse_map, value}
use Rattle.json.specs.Reads.{Yields, token_of}
use Rattle.json.specs.declared.token.Token.{Token as Read}
use Rattle.json.specs.Value.{members_view}
use Rattle.json.specs.declared.value.Value.{Value}
use Rattle.json.proofs.Grammar.{value_is, value-begin_array}
use Rattle.serde_json.specs.Data as spec
use Rattle.serde_json.specs.Data.{Data, Items, Members, Num, array, object, no_members, put}
use Rattle.serde_json.specs.Find.{as_object}
use Rattle.serde_json.specs.Read.{converted, of_json, of_items, number_of, read}
use Rattle.dhat_json.proofs.AheadTurns.{whole, whole_and_more, whole_read, whole_refused}
use Rattle.dhat_json.specs.Ahead.{members_ahead, value_ahead}
use Rattle.dhat_json.specs.declared.fault.DhatFault.TheVariants.{NotJson}
use Rattle.dhat_json.specs.declared.key.Key.TheVariants.{Pps}
use Rattle.dhat_json.specs.declared.shape.Shape.{Shape}
use Rattle.dhat_json.specs.declared.gathered.Gathered.{Gathered}
use Rattle.dhat_json.specs.declared.survey.Survey.{Survey}
use Rattle.dhat_json.specs.DataOf.{data_of, members_data}
use Rattle.dhat_json.specs.DhatFault.{dhat_fault}
use Rattle.dhat_json.specs.Document.{dhat_in, dhat_in_some}
use Rattle.dhat_json.specs.Gathered.{HasGathered}
use Rattle.dhat_json.specs.Kinds.{as_list}
use Rattle.dhat_json.specs.Opening.{begins_list, begins_object}
use Rattle.dhat_json.specs.Outline.{IsOutline, hollow}
use Rattle.dhat_json.specs.ProfileIn.{list_at}
use Rattle.dhat_json.specs.Survey.{HasMet, outline_of}
use Rattle.dhat_json.proofs.AheadLemmas.{boolean_ahead, null_ahead, number_ahead, object_ahead, string_ahead}
use Rattle.dhat_json.proofs.OutlineLemmas.{data_push, outline_put, points_kept, points_put}

-- ---- texts that are no object

no_object_value : (d : Data) → is_some (as_object d) ≡ false → dhat_in d ≡ Err NotJson
unfolding dhat_in dhat_fault
no_object_value d other = rw other refl

abbrev is_object : Json → Bool
is_object (json.object ms) = true
is_object _ = false

plain_value : (j : Json) → is_object j ≡ false → dhat_in_some (of_json j) ≡ Err NotJson
plain_value json.null e = no_object_value spec.null refl
plain_value (json.boolean b) e = no_object_value (spec.boolean b) refl
plain_value (json.number s) e = at (number_of s)
  where
    at : (o : Option Num) → dhat_in_some (option_map spec.number o) ≡ Err NotJson
    at None = refl
    at (Some n) = no_object_value (spec.number n) refl
plain_value (json.string s) e = no_object_value (spec.string s) refl
plain_value (json.array js) e = at (of_items js)
  where
    at : (o : Option Items) → dhat_in_some (option_map array o) ≡ Err NotJson
    at None = refl
    at (Some ds) = no_object_value (array ds) refl
plain_value (json.object ms) e = absurd cc

plain_text : (j : Json) (r : List Token) → is_object j ≡ false → dhat_in_some (whole (Some (j, r))) ≡ Err NotJson
plain_text j [] e = plain_value j e
plain_text j (t ∷ r) e = refl

array_text : (o : Option (json.Items × List Token)) → dhat_in_some (whole (parse_map json.array o)) ≡ Err NotJson
array_text None = refl
array_text (Some p) = plain_text (json.array p.0) p.1 refl

pub empty_text : dhat_in_some (whole (value 127 [])) ≡ Err NotJson
empty_text = ap (λ o. dhat_in_some (whole o)) (value_is 127 [])

pub other_text : (t : Token) (ts : List Token) → begins_object t ≡ false
    → dhat_in_some (whole (value 127 (t ∷ ts))) ≡ Err NotJson
other_text begin_object ts e = absurd cc
other_text end_object ts e = ap (λ o. dhat_in_some (whole o)) (value_is 127 (end_object ∷ ts))
other_text begin_array ts e =
    ap (λ o. dhat_in_some (whole o)) (value-begin_array 127 ts (omega arith))
    ∙ array_text (json.items (value (127 - 1)) (length ts) ts)
other_text end_array ts e = ap (λ o. dhat_in_some (whole o)) (value_is 127 (end_array ∷ ts))
other_text (key s) ts e = ap (λ o. dhat_in_some (whole o)) (value_is 127 (key s ∷ ts))
other_text (string s) ts e =
    ap (λ o. dhat_in_some (whole o)) (value_is 127 (string s ∷ ts)) ∙ plain_text (json.string s) ts refl
other_text (number s) ts e =
    ap (λ o. dhat_in_some (whole o)) (value_is 127 (number s ∷ ts)) ∙ plain_text (json.number s) ts refl
other_text (boolean b) ts e =
    ap (λ o. dhat_in_some (whole o)) (value_is 127 (boolean b ∷ ts)) ∙ plain_text (json.boolean b) ts refl
other_text null ts e = ap (λ o. dhat_in_some (whole o)) (value_is 127 (null ∷ ts)) ∙ plain_text json.null ts refl
other_text bad ts e = ap (λ o. dhat_in_some (whole o)) (value_is 127 (bad ∷ ts))

pub is_begin_object : (t : Token) → begins_object t ≡ true → t ≡ begin_object
is_begin_object begin_object e = refl
is_begin_object _ e = absurd cc

pub is_begin_array : (t : Token) → begins_list t ≡ true → t ≡ begin_array
is_begin_array begin_array e = refl
is_begin_array _ e = absurd cc

-- ---- texts that begin an object

opened : (text : List ℕ) (t : Token) (ts : List Token) → tokens text ≡ t ∷ ts → begins_object t ≡ true
    → value_ahead 127 (tokens text) ≡ parse_map object (members_ahead 126 ts)
opened text t ts is begins =
    ap (value_ahead 127) (is ∙ ap (λ (u : Token). u ∷ ts) (is_begin_object t begins))
    ∙ object_ahead 127 ts (omega arith)

pub object_refused : (text : List ℕ) (t : Token) (ts : List Token) → tokens text ≡ t ∷ ts → begins_object t ≡ true
    → members_ahead 126 ts ≡ None → dhat_in_some (read text) ≡ Err NotJson
object_refused text t ts is begins none =
    ap dhat_in_some (whole_refused (value 127 (tokens text)) (opened text t ts is begins ∙ ap (parse_map object) none))

pub object_and_more : (text : List ℕ) (t u : Token) (ts r : List Token) (found : Members) → tokens text ≡ t ∷ ts
    → begins_object t ≡ true → members_ahead 126 ts ≡ Some (found, u ∷ r) → dhat_in_some (read text) ≡ Err NotJson
object_and_more text t u ts r found is begins e =
    ap dhat_in_some
    (whole_and_more (value 127 (tokens text)) (object found) u r
    (opened text t ts is begins ∙ ap (parse_map object) e))

pub object_read : (text : List ℕ) (t : Token) (ts : List Token) (found : Members) → tokens text ≡ t ∷ ts
    → begins_object t ≡ true → members_ahead 126 ts ≡ Some (found, []) → read text ≡ Some (object found)
object_read text t ts found is begins e =
    whole_read (value 127 (tokens text)) (object found) (opened text t ts is begins ∙ ap (parse_map object) e)

-- ---- the end of a text

pub one_left : (old new : List Token) (o : Option Read) → Yields old o new → is_some o ≡ true
    → (u : Token) × (old ≡ u ∷ new)
one_left old new None h e = absurd cc
one_left old new (Some t) h e = (token_of t, h)

pub none_left : (old new : List Token) (o : Option Read) → Yields old o new → is_some o ≡ false → old ≡ []
none_left old new None h e = h.0
none_left old new (Some t) h e = absurd cc

-- ---- a value that is no list

abbrev listed : Option (Data × List Token) → Option (List Data)
listed ahead = option_and_then (λ p. as_list p.0) ahead

number_listed : (o : Option Num) (ts : List Token)
    → listed (option_map {U = Data × List Token} (λ d. (d, ts)) (option_map spec.number o)) ≡ None
number_listed None ts = refl
number_listed (Some n) ts = refl

object_listed : (o : Option (Members × List Token)) → listed (parse_map object o) ≡ None
object_listed None = refl
object_listed (Some p) = refl

other_listed : (t : Token) (ts : List Token) → begins_list t ≡ false → listed (value_ahead 126 (t ∷ ts)) ≡ None
other_listed begin_object ts e =
    ap listed (object_ahead 126 ts (omega arith)) ∙ object_listed (members_ahead (126 - 1) ts)
other_listed end_object ts e = ap listed (ap (converted of_json) (value_is 126 (end_object ∷ ts)))
other_listed begin_array ts e = absurd cc
other_listed end_array ts e = ap listed (ap (converted of_json) (value_is 126 (end_array ∷ ts)))
other_listed (key s) ts e = ap listed (ap (converted of_json) (value_is 126 (key s ∷ ts)))
other_listed (string s) ts e = ap listed (string_ahead 126 s ts)
other_listed (number s) ts e = ap listed (number_ahead 126 s ts) ∙ number_listed (number_of s) ts
other_listed (boolean b) ts e = ap listed (boolean_ahead 126 b ts)
other_listed null ts e = ap listed (null_ahead 126 ts)
other_listed bad ts e = ap listed (ap (converted of_json) (value_is 126 (bad ∷ ts)))

-- it has no items
pub lists_nothing : (t : Token) (ts r : List Token) (d : Data) → begins_list t ≡ false
    → value_ahead 126 (t ∷ ts) ≡ Some (d, r) → unwrap_or (as_list d) [] ≡ []
lists_nothing t ts r d other e =
    ap (λ (o : Option (List Data)). unwrap_or o []) (sym (ap listed e) ∙ other_listed t ts other)

-- the value of the outline is the value without its parts
pub hollow_is : (o : Option (Data × List Token)) (v : Data) (r : List Token) → parse_map hollow o ≡ Some (v, r)
    → (d : Data) × (o ≡ Some (d, r)) × (v ≡ hollow d)
hollow_is None v r e = absurd cc
hollow_is (Some p) v r e =
    let pick : Option (Data × List Token) → Data × List Token = λ q. unwrap_or q (v, r) in
    let same = ap pick e in (
      p.0,
      ap (λ (ts : List Token). Some (p.0, ts)) (ap (λ (q : Data × List Token). q.1) same),
      sym (ap (λ (q : Data × List Token). q.0) same),
    )

pub differ : codes "ftbl" ≡ codes "pps" → ⊥
differ e = absurd cc

-- ---- a member more

module _ (old new : Survey) (name : Bor (List ℕ)) (v : Value Global) (found : Members)
    (kept : new.members.items ≡ old.members.items ++ (name, v) ∷ []) (given : new.given ≡ old.given) where
  outline_is : outline_of new
      ≡ object (put name.now (data_of v) (members_data (members_view old.members.items) no_members))
  outline_is =
      ap (λ ms. object (members_data (members_view ms) no_members)) kept
      ∙ ap object (data_push old.members.items (name, v) no_members)

  outline_more : (d : Data) → hollow (data_of v) ≡ hollow d → (name.now ≡ codes "ftbl" → data_of v ≡ d)
      → HasMet old found → IsOutline (outline_of new) (object (put name.now d found))
  outline_more d alike same met =
      subst (λ (o : Data). IsOutline o (object (put name.now d found))) (sym outline_is)
      (outline_put name.now (data_of v) d _ found alike same met.outline)

  pub other_met : (d : Data) → new.gathered ≡ old.gathered → hollow (data_of v) ≡ hollow d
      → (name.now ≡ codes "ftbl" → data_of v ≡ d) → (name.now ≡ codes "pps" → ⊥) → HasMet old found
      → HasMet new (put name.now d found)
  other_met d points alike same other met = record {
    outline = outline_more d alike same met;
    points =
        subst (HasGathered new.gathered) (sym (points_kept name.now d found other))
        (subst (λ (g : Gathered). HasGathered g (list_at Pps (object found))) (sym points) met.points);
    shape =
        subst (λ (o : Option Shape). IfSome o (λ shape. new.gathered.shape ≡ shape)) (sym given)
        (subst (λ (g : Gathered). IfSome old.given (λ shape. g.shape ≡ shape)) (sym points) met.shape);
  }

  pub points_met : (d : Data) → name.now ≡ codes "pps" → hollow (data_of v) ≡ hollow d
      → HasGathered new.gathered (unwrap_or (as_list d) []) → IfSome old.given (λ shape. new.gathered.shape ≡ shape)
      → HasMet old found → HasMet new (put name.now d found)
  points_met d is alike gathered shape met = record {
    outline = outline_more d alike (λ table. absurd (differ (sym table ∙ is))) met;
    points = subst (HasGathered new.gathered) (sym (points_put name.now d found is)) gathered;
    shape = subst (λ (o : Option Shape). IfSome o (λ shape'. new.gathered.shape ≡ shape')) (sym given) shape;
  }
