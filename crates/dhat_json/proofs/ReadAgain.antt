-- The text of a value whose keys are in order reads as that value.
use Rattle.std.proofs.Common.{◌≡◌, ℕ, zero, suc, ◌≤◌, List, [], Less, Greater, Option, Some, refl, sym, ap, ◌∙◌, arith}
use Rattle.std.proofs.Common.{append-nil}
use Rattle.std.specs.Option.{option_map, option_and_then}
use Rattle.std.specs.Ordering.{nat_cmp, ordering_reverse}
use Rattle.std.specs.Cmp.Lexicographic.{slice_cmp}
use Rattle.std.proofs.lemmas.Cmp.{nat_list_cmp_total}
use Rattle.json.specs.Token.{Token}
use Rattle.json.specs.Lex.{tokens}
use Rattle.json.specs.Json as json
use Rattle.json.specs.Tree as tree
use Rattle.json.proofs.Printed.Trees.{value-json_tokens}
use Rattle.serde_json.specs.Data.{Data, null, boolean, number, string, array, object, unsigned, negative, float, Num}
use Rattle.serde_json.specs.Data.{Items, no_items, item, Members, no_members, member, put}
use Rattle.serde_json.specs.Read.{read, max_depth, of_json, of_items, of_members}
use Rattle.serde_json.specs.Written.{outline, items_outline, members_outline}
use Rattle.serde_json.proofs.Numbers.{number_of-decimal}
use Rattle.dhat_json.specs.Adds.{Fits, ItemsFit, MembersFit, IsFit}

-- ---- values whose keys are in order, and that nest at most so deep

abbrev pub Above : List ℕ → Members → Type 0
Above k no_members = Unit {0}
Above k (member l d ms) = slice_cmp nat_cmp k l ≡ Less

abbrev mutual
  pub InOrder : ℕ → Data → Type 0
  InOrder n null = Unit {0}
  InOrder n (boolean b) = Unit {0}
  InOrder n (number x) = Unit {0}
  InOrder n (string s) = Unit {0}
  InOrder zero (array ds) = ⊥
  InOrder (suc n) (array ds) = ItemsInOrder n ds
  InOrder zero (object ms) = ⊥
  InOrder (suc n) (object ms) = MembersInOrder n ms

  pub ItemsInOrder : ℕ → Items → Type 0
  ItemsInOrder n no_items = Unit {0}
  ItemsInOrder n (item d ds) = InOrder n d × ItemsInOrder n ds

  pub MembersInOrder : ℕ → Members → Type 0
  MembersInOrder n no_members = Unit {0}
  MembersInOrder n (member k d ms) = InOrder n d × (Above k ms × MembersInOrder n ms)

mutual
  shallow : (n : ℕ) (d : Data) → InOrder n d → tree.depth (outline d) ≤ n
  shallow n null h = omega arith
  shallow n (boolean b) h = omega arith
  shallow n (number x) h = omega arith
  shallow n (string s) h = omega arith
  shallow zero (array ds) h = absurd h
  shallow (suc n) (array ds) h = omega (arith, items_shallow n ds h)
  shallow zero (object ms) h = absurd h
  shallow (suc n) (object ms) h = omega (arith, members_shallow n ms h)

  items_shallow : (n : ℕ) (ds : Items) → ItemsInOrder n ds → tree.items_depth (items_outline ds) ≤ n
  items_shallow n no_items h = omega arith
  items_shallow n (item d ds) h = omega (arith, shallow n d h.0, items_shallow n ds h.1)

  members_shallow : (n : ℕ) (ms : Members) → MembersInOrder n ms → tree.members_depth (members_outline ms) ≤ n
  members_shallow n no_members h = omega arith
  members_shallow n (member k d ms) h = omega (arith, shallow n d h.0, members_shallow n ms h.1.1)

-- ---- members that are put in one by one

abbrev joined : Members → Members → Members
joined no_members ms = ms
joined (member k d done) ms = member k d (joined done ms)

joined_nil : (ms : Members) → joined ms no_members ≡ ms
joined_nil no_members = refl
joined_nil (member k d ms) = ap (member k d) (joined_nil ms)

joined_more : (done : Members) (k : List ℕ) (d : Data) (ms : Members)
    → joined (joined done (member k d no_members)) ms ≡ joined done (member k d ms)
joined_more no_members k d ms = refl
joined_more (member l e done) k d ms = ap (member l e) (joined_more done k d ms)

-- every key is below this one
abbrev Below : Members → List ℕ → Type 0
Below no_members k = Unit {0}
Below (member l d ms) k = (slice_cmp nat_cmp l k ≡ Less) × Below ms k

put_last : (k : List ℕ) (d : Data) (done : Members) → Below done k → put k d done ≡ joined done (member k d no_members)
put_last k d no_members h = refl
put_last k d (member l e done) h =
    let above : slice_cmp nat_cmp k l ≡ Greater = nat_list_cmp_total.antisymm k l ∙ ap ordering_reverse h.0 in
    rw above (ap (member l e) (put_last k d done h.1))

below_next : (done : Members) (k l : List ℕ) (d : Data) → Below done k → slice_cmp nat_cmp k l ≡ Less
    → Below (joined done (member k d no_members)) l
below_next no_members k l d h lt = (lt, tt)
below_next (member j e done) k l d h lt = (nat_list_cmp_total.trans j k l h.0 lt, below_next done k l d h.1 lt)

abbrev BelowFirst : Members → Members → Type 0
BelowFirst done no_members = Unit {0}
BelowFirst done (member k d ms) = Below done k

first_next : (done : Members) (k : List ℕ) (d : Data) (ms : Members) → Below done k → Above k ms
    → BelowFirst (joined done (member k d no_members)) ms
first_next done k d no_members h above = tt
first_next done k d (member l e ms) h above = below_next done k l d h above

-- ---- what is written of a value reads as that value

number_again : (n : Num) → IsFit n → of_json (outline (number n)) ≡ Some (number n)
number_again (unsigned n) fit = ap (option_map number) (number_of-decimal n fit)
number_again (negative z) fit = absurd fit
number_again (float x) fit = absurd fit

none_below : (ms : Members) → BelowFirst no_members ms
none_below no_members = tt
none_below (member k d ms) = tt

mutual
  value_again : (n : ℕ) (d : Data) → Fits d → InOrder n d → of_json (outline d) ≡ Some d
  value_again n null fit h = refl
  value_again n (boolean b) fit h = refl
  value_again n (number x) fit h = number_again x fit
  value_again n (string s) fit h = refl
  value_again zero (array ds) fit h = absurd h
  value_again (suc n) (array ds) fit h = ap (option_map array) (items_again n ds fit h)
  value_again zero (object ms) fit h = absurd h
  value_again (suc n) (object ms) fit h = ap (option_map object) (members_again n ms no_members fit h (none_below ms))

  items_again : (n : ℕ) (ds : Items) → ItemsFit ds → ItemsInOrder n ds → of_items (items_outline ds) ≡ Some ds
  items_again n no_items fit h = refl
  items_again n (item d ds) fit h =
      ap (option_and_then (λ (e : Data). option_map (item e) (of_items (items_outline ds)))) (value_again n d fit.0 h.0)
      ∙ ap (option_map (item d)) (items_again n ds fit.1 h.1)

  members_again : (n : ℕ) (ms done : Members) → MembersFit ms → MembersInOrder n ms → BelowFirst done ms
      → of_members (members_outline ms) done ≡ Some (joined done ms)
  members_again n no_members done fit h below = ap Some (sym (joined_nil done))
  members_again n (member k d ms) done fit h below =
      ap (option_and_then (λ (e : Data). of_members (members_outline ms) (put k e done))) (value_again n d fit.0 h.0)
      ∙ ap (of_members (members_outline ms)) (put_last k d done below)
      ∙ members_again n ms (joined done (member k d no_members)) fit.1 h.1.1 (first_next done k d ms below h.1.0)
      ∙ ap Some (joined_more done k d ms)

-- the value of a whole text, from what was read of its tokens
abbrev whole : Option (json.Json × List Token) → Option Data
whole r = option_and_then of_json (option_and_then (λ p. json.if_last p.0 p.1) r)

pub read_again : (d : Data) (ts : List Token) (text : List ℕ) → ts ≡ tree.json_tokens (outline d) → tokens text ≡ ts
    → Fits d → InOrder max_depth d → read text ≡ Some d
read_again d ts text ts-is same fit h =
    ap whole (ap (json.value max_depth) (same ∙ ts-is ∙ sym (append-nil _))
    ∙ value-json_tokens (outline d) max_depth [] (shallow max_depth d h))
    ∙ value_again max_depth d fit h
