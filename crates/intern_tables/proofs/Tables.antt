-- Lemmas on the names in a list and on their numbers.
use Rattle.std.proofs.Common.{◌≡◌, ◌≢◌, ℕ, zero, suc, ◌+◌, ◌-◌, ◌<◌, ◌≤◌, true, false, List, [], ◌∷◌, ◌++◌, length}
use Rattle.std.proofs.Common.{get_or, Option, None, Some, refl, sym, ap, ◌∙◌, subst, arith, true≢false, Contains}
use Rattle.std.proofs.Common.{length-append}
use Rattle.std.specs.Prelude.{position}
use Rattle.std.specs.Global.{Vec}
use Rattle.std.specs.Option.{option_map}
use Rattle.std.specs.Str.{bytes_eq}
use Rattle.std.specs.List.{list_any}
use Rattle.std.proofs.lemmas.Bool.{cond-true, cond-false, false_from_ne_true}
use Rattle.std.proofs.lemmas.Bool.Decides.{nat_tests}
use Rattle.std.proofs.lemmas.Cmp.{nat_list_eq_equiv}
use Rattle.std.proofs.lemmas.List.{length-map, map-append, get_or_append_left}
use Rattle.std.proofs.lemmas.List.Folds.{list_any_at}
use Rattle.std.proofs.lemmas.List.Quantifiers.{all_pairs_push, position-Some}
use Rattle.std.proofs.lemmas.Map.Views.{list_any-from_Contains, Contains-from_any}
use Rattle.std.proofs.lemmas.Option.{slice_get-get_or, option_and_then_some}
use Rattle.std.proofs.lemmas.Slice.Eq.{bytes_eq-Decides}
use Rattle.std.proofs.Math.Seq.{get_or-append_seam}
use Rattle.indexmap.specs.IndexSet.{insert_key}
use Rattle.intern_tables.specs.Distinct.{AreDistinct}
use Rattle.intern_tables.specs.Keys.{names_of}
use Rattle.intern_tables.specs.Numbers.{name_at, number_of}
use Rattle.intern_tables.specs.WithoutRepeats.{without_repeats}
use Rattle.intern_tables.proofs.Lists.{position-map, list_any-map, position-none, position-end, position-push}
use Rattle.intern_tables.proofs.Laws.{repeats-push}

-- the number of a name, from its place among the keys
pub number_of-place : (keys : List (Vec ℕ)) (names : List (List ℕ)) (bytes : List ℕ) (place : ℕ) → names_of keys ≡ names
    → position (λ key. bytes_eq bytes key.items) keys ≡ Some place → number_of names bytes ≡ Some (place + 1)
unfolding number_of
number_of-place keys names bytes place same is =
    let there = position-map (bytes_eq bytes) (λ (key : Vec ℕ). key.items) keys ∙ is in
    let P : List (List ℕ) → Type 0 = λ xs. position (bytes_eq bytes) xs ≡ Some place in
    ap (λ (found : Option ℕ). option_map (λ n. n + 1) found) (subst P same there)

-- a name that isn't there has no number
pub number_of-none : (names : List (List ℕ)) (bytes : List ℕ) → list_any (bytes_eq bytes) names ≡ false
    → number_of names bytes ≡ None
unfolding number_of
number_of-none names bytes none =
    ap (λ (found : Option ℕ). option_map (λ n. n + 1) found) (position-none (bytes_eq bytes) names none)

-- a new name at the end has the number that is the new count
number_of-end : (names : List (List ℕ)) (bytes : List ℕ) → list_any (bytes_eq bytes) names ≡ false
    → number_of (names ++ bytes ∷ []) bytes ≡ Some (length names + 1)
unfolding number_of
number_of-end names bytes none =
    ap (λ (found : Option ℕ). option_map (λ n. n + 1) found)
    (position-end (bytes_eq bytes) names bytes none ((bytes_eq-Decides bytes bytes).1 refl))

-- the number of a name stays as the list grows
number_of-push : (names : List (List ℕ)) (bytes other : List ℕ) (n : ℕ) → number_of names other ≡ Some n
    → number_of (names ++ bytes ∷ []) other ≡ Some n
unfolding number_of
number_of-push names bytes other n is =
    option_and_then_some (λ (place : ℕ). Some (place + 1)) (position (bytes_eq other) names) n is
    (λ place at number. ap (λ (found : Option ℕ). option_map (λ n. n + 1) found)
    (position-push (bytes_eq other) names bytes place at)
    ∙ number)

-- what the number of a name says
pub record IsNumberOf (names : List (List ℕ)) (n : ℕ) (bytes : List ℕ) : Type 0 where
  pub above : 1 ≤ n
  pub within : n ≤ length names
  pub name : name_at names n ≡ Some bytes

-- a place where a name stands gives its number
pub IsNumberOf-place : (names : List (List ℕ)) (place : ℕ) (bytes : List ℕ) → place < length names
    → get_or names place bytes ≡ bytes → IsNumberOf names (place + 1) bytes
IsNumberOf-place names place bytes within is =
    let found = slice_get-get_or names place bytes within in
    let back : place + 1 - 1 ≡ place = omega arith in
    record { above = omega arith; within = omega arith; name = grind (arith, nat_tests, found, is, back) }

-- the place among the keys gives the name
pub IsNumberOf-keys : (keys : List (Vec ℕ)) (names : List (List ℕ)) (bytes : List ℕ) (place : ℕ) → names_of keys ≡ names
    → position (λ key. bytes_eq bytes key.items) keys ≡ Some place → IsNumberOf names (place + 1) bytes
IsNumberOf-keys keys names bytes place same is =
    let found =
    position-Some (bytes_eq bytes) (names_of keys) place bytes
    (position-map (bytes_eq bytes) (λ (key : Vec ℕ). key.items) keys ∙ is) in
    let P : List (List ℕ) → Type 0 = λ xs. IsNumberOf xs (place + 1) bytes in
    subst P same
    (IsNumberOf-place (names_of keys) place bytes found.0
    (sym ((bytes_eq-Decides bytes (get_or (names_of keys) place bytes)).0 found.1)))

-- a list has a name exactly where the test finds it
pub Contains-any : (names : List (List ℕ)) (bytes : List ℕ) → list_any (bytes_eq bytes) names ≡ true
    → Contains names bytes
Contains-any names bytes found = Contains-from_any (λ x y. (bytes_eq-Decides x y).0) bytes names found

pub none-Contains : (names : List (List ℕ)) (bytes : List ℕ) → list_any (bytes_eq bytes) names ≡ false
    → Contains names bytes → ⊥
none-Contains names bytes none held =
    true≢false (sym (list_any-from_Contains nat_list_eq_equiv bytes names held) ∙ none)

-- a list without a name fails the test
no-Contains : (names : List (List ℕ)) (bytes : List ℕ) → (Contains names bytes → ⊥)
    → list_any (bytes_eq bytes) names ≡ false
no-Contains names bytes none =
    false_from_ne_true (list_any (bytes_eq bytes) names) (λ found. none (Contains-any names bytes found))

-- names that are all different stay so with a new one
AreDistinct-push : (names : List (List ℕ)) (bytes : List ℕ) → AreDistinct names
    → list_any (bytes_eq bytes) names ≡ false → AreDistinct (names ++ bytes ∷ [])
AreDistinct-push names bytes distinct none =
    all_pairs_push (λ x y. x ≢ y) names bytes distinct
    (λ k d within same. true≢false
    (sym (list_any_at (bytes_eq bytes) names k d within ((bytes_eq-Decides bytes (get_or names k d)).1 (sym same)))
    ∙ none))

-- whether a name is there, by its key
pub list_any-names : (keys : List (Vec ℕ)) (names : List (List ℕ)) (bytes : List ℕ) → names_of keys ≡ names
    → list_any (bytes_eq bytes) names ≡ list_any (λ key. bytes_eq bytes key.items) keys
list_any-names keys names bytes same =
    ap (λ (xs : List (List ℕ)). list_any (bytes_eq bytes) xs) (sym same)
    ∙ list_any-map (bytes_eq bytes) (λ (key : Vec ℕ). key.items) keys

-- the names of the keys after a name is inserted that wasn't there
names_of-insert :
    (keys new_keys : List (Vec ℕ)) (names : List (List ℕ)) (key : Vec ℕ) (bytes : List ℕ)
    → names_of keys ≡ names → key.items ≡ bytes → (Contains names bytes → ⊥)
    → new_keys ≡ insert_key (λ x y. bytes_eq x.items y.items) keys key
    → names_of new_keys ≡ names ++ bytes ∷ []
names_of-insert keys new_keys names key bytes same copied none inserted =
    let absent = no-Contains names bytes none in
    let P : List ℕ → Type 0 = λ xs. list_any (bytes_eq xs) names ≡ false in
    let test = sym (list_any-names keys names key.items same) ∙ subst P (sym copied) absent in
    let appended : new_keys ≡ keys ++ key ∷ [] =
    inserted ∙ cond-false (list_any (λ (y : Vec ℕ). bytes_eq key.items y.items) keys) keys (keys ++ key ∷ []) test in
    ap (λ (xs : List (Vec ℕ)). names_of xs) appended
    ∙ map-append (λ (key : Vec ℕ). key.items) keys (key ∷ [])
    ∙ ap (λ (xs : List (List ℕ)). xs ++ key.items ∷ []) same
    ∙ ap (λ (xs : List ℕ). names ++ xs ∷ []) copied

-- the new names are the old ones and one that wasn't there
pub record Grows (names : List (List ℕ)) (bytes : List ℕ) (new : List (List ℕ)) : Type 0 where
  pub appended : new ≡ names ++ bytes ∷ []
  pub none : number_of names bytes ≡ None
  pub number : number_of new bytes ≡ Some (length new)
  pub name : name_at new (length new) ≡ Some bytes
  pub stay : (n : ℕ) → n ≤ length names → name_at new n ≡ name_at names n
  pub numbers : (other : List ℕ) (n : ℕ) → number_of names other ≡ Some n → number_of new other ≡ Some n
  pub none_lost : length names ≤ length new
  pub one_more : length new ≤ length names + 1
  pub distinct : AreDistinct new
  pub repeats : (came : List (List ℕ)) → names ≡ without_repeats bytes_eq came
      → new ≡ without_repeats bytes_eq (came ++ bytes ∷ [])

-- a name before the end of a list
name_at-front : (names : List (List ℕ)) (bytes : List ℕ) (n : ℕ) → n ≤ length names
    → name_at (names ++ bytes ∷ []) n ≡ name_at names n
name_at-front names bytes zero within = refl
name_at-front names bytes (suc place) within =
    let here = slice_get-get_or names place bytes (omega arith) in
    let count = length-append names (bytes ∷ []) in
    let there = slice_get-get_or (names ++ bytes ∷ []) place bytes (omega arith) in
    let same = get_or_append_left names (bytes ∷ []) bytes place (omega arith) in
    grind (arith, nat_tests)

-- the name at the end of a list
name_at-end : (names : List (List ℕ)) (bytes : List ℕ) → name_at (names ++ bytes ∷ []) (length names + 1) ≡ Some bytes
name_at-end names bytes =
    let count = length-append names (bytes ∷ []) in
    let is =
    IsNumberOf-place (names ++ bytes ∷ []) (length names) bytes (omega arith)
    (get_or-append_seam names bytes [] bytes) in
    is.name

-- a list grows by a new name at its end
grows-append : (names : List (List ℕ)) (bytes : List ℕ) → AreDistinct names → list_any (bytes_eq bytes) names ≡ false
    → Grows names bytes (names ++ bytes ∷ [])
grows-append names bytes distinct absent =
    let count : length (names ++ bytes ∷ []) ≡ length names + 1 = length-append names (bytes ∷ []) in
    record {
      appended = refl;
      none = number_of-none names bytes absent;
      number = number_of-end names bytes absent ∙ ap (λ (n : ℕ). Some n) (sym count);
      name = rw count (name_at-end names bytes);
      stay = λ n within. name_at-front names bytes n within;
      numbers = λ other n is. number_of-push names bytes other n is;
      none_lost = omega arith;
      one_more = omega arith;
      distinct = AreDistinct-push names bytes distinct absent;
      repeats = λ came same. repeats came same;
    }
  where
    repeats : (came : List (List ℕ)) → names ≡ without_repeats bytes_eq came
        → names ++ bytes ∷ [] ≡ without_repeats bytes_eq (came ++ bytes ∷ [])
    repeats came same =
        let P : List (List ℕ) → Type 0 = λ xs. list_any (bytes_eq bytes) xs ≡ false in
        let push = repeats-push (λ (name : List ℕ). name) bytes_eq bytes_eq-Decides came bytes in
        let pick =
        cond-false (list_any (bytes_eq bytes) (without_repeats bytes_eq came)) (without_repeats bytes_eq came)
        (without_repeats bytes_eq came ++ bytes ∷ []) (subst P same absent) in
        ap (λ (xs : List (List ℕ)). xs ++ bytes ∷ []) same ∙ sym pick ∙ sym push

-- the names grow where the key of a name that wasn't there is inserted
pub grows-insert :
    (keys new_keys : List (Vec ℕ)) (names : List (List ℕ)) (key : Vec ℕ) (bytes : List ℕ)
    → names_of keys ≡ names → AreDistinct names → (Contains names bytes → ⊥) → key.items ≡ bytes
    → new_keys ≡ insert_key (λ x y. bytes_eq x.items y.items) keys key → Grows names bytes (names_of new_keys)
grows-insert keys new_keys names key bytes same distinct none copied inserted =
    let P : List (List ℕ) → Type 0 = λ new. Grows names bytes new in
    subst P (sym (names_of-insert keys new_keys names key bytes same copied none inserted))
    (grows-append names bytes distinct (no-Contains names bytes none))

-- as many names as keys
pub length-names_of : (keys : List (Vec ℕ)) → length (names_of keys) ≡ length keys
length-names_of keys = length-map keys (λ (key : Vec ℕ). key.items)

-- a name that comes again is left out
pub repeats-present : (names came : List (List ℕ)) (bytes : List ℕ) → Contains names bytes
    → names ≡ without_repeats bytes_eq came → names ≡ without_repeats bytes_eq (came ++ bytes ∷ [])
repeats-present names came bytes held same =
    let P : List (List ℕ) → Type 0 = λ xs. list_any (bytes_eq bytes) xs ≡ true in
    let present = subst P same (list_any-from_Contains nat_list_eq_equiv bytes names held) in
    let push = repeats-push (λ (name : List ℕ). name) bytes_eq bytes_eq-Decides came bytes in
    let pick =
    cond-true (list_any (bytes_eq bytes) (without_repeats bytes_eq came)) (without_repeats bytes_eq came)
    (without_repeats bytes_eq came ++ bytes ∷ []) present in
    same ∙ sym pick ∙ sym push
