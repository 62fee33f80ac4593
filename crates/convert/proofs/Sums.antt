-- Lemmas on sums that are kept by lists of numbers, as a number is added.
use Rattle.std.proofs.Common.{◌≡◌, ℕ, zero, suc, ◌+◌, ◌<◌, ◌≤◌, Bool, true, false, not, cond, ◌||◌, List, [], ◌∷◌, ◌++◌}
use Rattle.std.proofs.Common.{length, map, get_or, set, refl, sym, ap, ◌∙◌, subst, arith}
use Rattle.std.specs.Prelude.{All, sum_by}
use Rattle.std.specs.Global.{Vec}
use Rattle.std.specs.List.{list_any, position_or_len}
use Rattle.std.specs.Str.{bytes_eq}
use Rattle.std.proofs.lemmas.Bool.{cond-true, cond-false, true≢false}
use Rattle.std.proofs.lemmas.Grind.{get_or_default_zero}
use Rattle.std.proofs.lemmas.List.{length-map, map-append}
use Rattle.std.proofs.lemmas.List.Elements.{All-push}
use Rattle.cost_tree.specs.Costed.{Costed}
use Rattle.cost_tree.specs.Inclusive.{is_front, own}
use Rattle.indexmap.specs.IndexSet.{insert_key}
use Rattle.intern_tables.specs.Distinct.{AreDistinct}
use Rattle.convert.specs.Folded.{folded_lists}
use Rattle.cost_tree.specs.Texts.{IsText, texts_of}
use Rattle.convert.specs.Numbers.{AreSums}
use Rattle.convert.proofs.Folding.{is_front-Decides, lists-distinct, lists-more, lists-zero, own-gains, own-kept}
use Rattle.convert.proofs.Folding.{own-more, own-none, own-within, own-zero, cost_of}
use Rattle.convert.proofs.Lists.{found-map}
use Rattle.convert.proofs.Names.{same_test}

-- the item of a list of numbers
abbrev pub item_at : List (List ℕ) → List ℕ → ℕ → Costed
item_at names list number = record { texts = texts_of names list; cost = number }

-- the test that finds a list among the keys
abbrev pub is_key : List ℕ → Vec ℕ → Bool
is_key list key = bytes_eq list key.items

-- it answers as that of the texts, and finds the same place
key-found : (names : List (List ℕ)) (keys : List (Vec ℕ)) (sums : List ℕ) (items : List Costed) (list : List ℕ)
    → AreSums names keys sums items → All (IsText names) list
    → (list_any (is_key list) keys ≡ list_any (is_front (texts_of names list)) (folded_lists items))
    × (position_or_len (is_key list) keys ≡ position_or_len (is_front (texts_of names list)) (folded_lists items))
key-found names keys sums items list are held =
    let found =
    found-map (is_key list) (is_front (texts_of names list)) (λ key. texts_of names key.items) keys
    (λ k d within. same_test names list (get_or keys k d).items are.distinct held (are.held k d within)) in (
      found.0 ∙ ap (λ (ls : List (List (List ℕ))). list_any (is_front (texts_of names list)) ls) are.lists,
      found.1 ∙ ap (λ (ls : List (List (List ℕ))). position_or_len (is_front (texts_of names list)) ls) are.lists,
    )

-- the number 0 changes nothing
pub zero-added : (names : List (List ℕ)) (keys : List (Vec ℕ)) (sums : List ℕ) (items : List Costed) (list : List ℕ)
    → AreSums names keys sums items → AreSums names keys sums (items ++ item_at names list 0 ∷ [])
zero-added names keys sums items list are =
    let item : Costed = item_at names list 0 in
    record {
      distinct = are.distinct;
      held = are.held;
      lists = are.lists ∙ sym (lists-zero items item refl);
      sums_are =
          are.sums_are ∙ same (folded_lists items)
          ∙ ap (λ (ls : List (List (List ℕ))). map (λ l. own l (items ++ item ∷ [])) ls)
          (sym (lists-zero items item refl));
    }
  where
    same : (lists : List (List (List ℕ)))
        → map (λ l. own l items) lists ≡ map (λ l. own l (items ++ item_at names list 0 ∷ [])) lists
    same [] = refl
    same (l ∷ ls) =
        ap (λ (n : ℕ). n ∷ map (λ l. own l items) ls) (sym (own-zero l items (item_at names list 0) refl))
        ∙ ap (λ (ns : List ℕ). own l (items ++ item_at names list 0 ∷ []) ∷ ns) (same ls)

-- a list that is new goes behind the others
pub new-added : (names : List (List ℕ)) (keys : List (Vec ℕ)) (sums : List ℕ) (items : List Costed) (key : Vec ℕ)
    (list : List ℕ) (number : ℕ)
    → AreSums names keys sums items → All (IsText names) list
    → key.items ≡ list → 0 < number → list_any (is_key list) keys ≡ false
    → AreSums names (keys ++ key ∷ []) (sums ++ number ∷ []) (items ++ item_at names list number ∷ [])
new-added names keys sums items key list number are held copied some absent =
    let item : Costed = item_at names list number in
    let F : List (List (List ℕ)) = folded_lists items in
    let none : list_any (is_front item.texts) F ≡ false =
    sym (key-found names keys sums items list are held).0 ∙ absent in
    let lists_are : folded_lists (items ++ item ∷ []) ≡ F ++ item.texts ∷ [] =
    lists-more items item some ∙ cond-false _ F (F ++ item.texts ∷ []) none in
    let mine =
    own-more item.texts items item
    ∙ ap (λ (b : Bool). own item.texts items + cond b number 0) ((is_front-Decides item.texts item.texts).1 refl) in
    let nothing = own-none item.texts items none in
    let sum : own item.texts (items ++ item ∷ []) ≡ number = omega arith in
    record {
      distinct = are.distinct;
      held =
          All-push (λ (k : Vec ℕ). All (IsText names) k.items) keys key are.held
          (subst (All (IsText names)) (sym copied) held);
      lists =
          map-append (λ (k : Vec ℕ). texts_of names k.items) keys (key ∷ [])
          ∙ ap (λ (ls : List (List (List ℕ))). ls ++ texts_of names key.items ∷ []) are.lists
          ∙ ap (λ (ns : List ℕ). F ++ texts_of names ns ∷ []) copied ∙ sym lists_are;
      sums_are =
          ap (λ (ns : List ℕ). ns ++ number ∷ []) (are.sums_are ∙ sym (own-kept items item F none))
          ∙ ap (λ (n : ℕ). map (λ l. own l (items ++ item ∷ [])) F ++ n ∷ []) (sym sum)
          ∙ sym (map-append (λ (l : List (List ℕ)). own l (items ++ item ∷ [])) F (item.texts ∷ []))
          ∙ ap (λ (ls : List (List (List ℕ))). map (λ l. own l (items ++ item ∷ [])) ls) (sym lists_are);
    }

-- one that was there gains the number
pub old-added : (names : List (List ℕ)) (keys : List (Vec ℕ)) (sums new_sums : List ℕ) (items : List Costed)
    (list : List ℕ) (number : ℕ)
    → AreSums names keys sums items → All (IsText names) list → 0 < number
    → list_any (is_key list) keys ≡ true
    → new_sums
    ≡ set sums (position_or_len (is_key list) keys) (get_or sums (position_or_len (is_key list) keys) 0 + number)
    → AreSums names keys new_sums (items ++ item_at names list number ∷ [])
old-added names keys sums new_sums items list number are held some present new_is =
    let item : Costed = item_at names list number in
    let F : List (List (List ℕ)) = folded_lists items in
    let one : list_any (is_front item.texts) F ≡ true =
    sym (key-found names keys sums items list are held).0 ∙ present in
    let lists_are : folded_lists (items ++ item ∷ []) ≡ F =
    lists-more items item some ∙ cond-true _ F (F ++ item.texts ∷ []) one in
    record {
      distinct = are.distinct;
      held = are.held;
      lists = are.lists ∙ sym lists_are;
      sums_are =
          new_is
          ∙ ap (λ (k : ℕ). set sums k (get_or sums k 0 + number)) (key-found names keys sums items list are held).1
          ∙ ap
          (λ (ns : List ℕ). set ns (position_or_len (is_front item.texts) F)
          (get_or ns (position_or_len (is_front item.texts) F) 0 + number))
          are.sums_are
          ∙ sym (own-gains items item F (lists-distinct items))
          ∙ ap (λ (ls : List (List (List ℕ))). map (λ l. own l (items ++ item ∷ [])) ls) (sym lists_are);
    }

-- no sums yet
pub none-added : (names : List (List ℕ)) → AreDistinct names → AreSums names [] [] []
unfolding folded_lists
none-added names distinct = record {
  distinct = distinct;
  held = λ k d within. absurd (omega arith);
  lists = refl;
  sums_are = refl;
}

-- there is a sum for each key
pub sums-count : (names : List (List ℕ)) (keys : List (Vec ℕ)) (sums : List ℕ) (items : List Costed)
    → AreSums names keys sums items → length sums ≡ length keys
sums-count names keys sums items are =
    ap length are.sums_are ∙ length-map (folded_lists items) (λ l. own l items) ∙ ap length (sym are.lists)
    ∙ length-map keys (λ key. texts_of names key.items)

-- and none is more than all items together
pub sum-within : (names : List (List ℕ)) (keys : List (Vec ℕ)) (sums : List ℕ) (items : List Costed) (place : ℕ)
    → AreSums names keys sums items → get_or sums place 0 ≤ sum_by cost_of items
sum-within names keys sums items place are =
    subst (λ (ns : List ℕ). get_or ns place 0 ≤ sum_by cost_of items) (sym are.sums_are)
    (within (folded_lists items) place)
  where
    within : (lists : List (List (List ℕ))) (k : ℕ) → get_or (map (λ l. own l items) lists) k 0 ≤ sum_by cost_of items
    within [] k = omega arith
    within (l ∷ ls) zero = own-within l items
    within (l ∷ ls) (suc k) = within ls k

-- the place of a key that is there
place-within : {X : Type 0} (p : X → Bool) (xs : List X) → list_any p xs ≡ true → position_or_len p xs < length xs
place-within p [] held = absurd (true≢false (sym held))
place-within {X} p (x ∷ xs) held = by (λ rest. place-within p xs rest) (p x) refl
  where
    by : (list_any p xs ≡ true → position_or_len p xs < length xs) → (b : Bool) → p x ≡ b
        → cond (not b) (1 + position_or_len p xs) 0 < length (x ∷ xs)
    by later true is = omega arith
    by later false is = let rest = later (sym (ap (λ (b : Bool). b || list_any p xs) is) ∙ held) in omega arith

-- what was inserted, where the key is new
pub new-taken : (names : List (List ℕ)) (keys new_keys : List (Vec ℕ)) (sums new_sums : List ℕ) (items : List Costed)
    (key : Vec ℕ) (list : List ℕ) (number : ℕ)
    → AreSums names keys sums items → All (IsText names) list
    → key.items ≡ list → 0 < number → list_any (is_key key.items) keys ≡ false
    → new_keys ≡ insert_key (λ (x y : Vec ℕ). bytes_eq x.items y.items) keys key → new_sums ≡ sums ++ number ∷ []
    → AreSums names new_keys new_sums (items ++ item_at names list number ∷ [])
new-taken names keys new_keys sums new_sums items key list number are held copied some absent keys_are sums_are =
    let P : List (Vec ℕ) → List ℕ → Type 0 = λ ks ss. AreSums names ks ss (items ++ item_at names list number ∷ []) in
    let absent_list = ap (λ (l : List ℕ). list_any (is_key l) keys) (sym copied) ∙ absent in
    subst (λ ks. P ks new_sums) (sym (keys_are ∙ cond-false _ keys (keys ++ key ∷ []) absent))
    (subst (P (keys ++ key ∷ [])) (sym sums_are)
    (new-added names keys sums items key list number are held copied some absent_list))

-- what a key's sum was
pub old-sum : (names : List (List ℕ)) (keys : List (Vec ℕ)) (sums : List ℕ) (items : List Costed) (list : List ℕ)
    (place now : ℕ)
    → AreSums names keys sums items → list_any (is_key list) keys ≡ true
    → place ≡ position_or_len (is_key list) keys → now ≡ get_or sums place now → now ≡ get_or sums place 0
old-sum names keys sums items list place now are present place_is now_is =
    let count = sums-count names keys sums items are in
    let within = place-within (is_key list) keys present in
    now_is ∙ get_or_default_zero sums place now (omega arith)

-- and where it was there
pub old-taken : (names : List (List ℕ)) (keys new_keys : List (Vec ℕ)) (sums new_sums : List ℕ) (items : List Costed)
    (key : Vec ℕ) (list : List ℕ) (number place now : ℕ)
    → AreSums names keys sums items → All (IsText names) list
    → key.items ≡ list → 0 < number → list_any (is_key key.items) keys ≡ true
    → new_keys ≡ insert_key (λ (x y : Vec ℕ). bytes_eq x.items y.items) keys key
    → place ≡ position_or_len (is_key key.items) keys → now ≡ get_or sums place now
    → new_sums ≡ set sums place (now + number)
    → AreSums names new_keys new_sums (items ++ item_at names list number ∷ [])
old-taken names keys new_keys sums new_sums items key list number place now are held copied some present keys_are
    place_is now_is sums_are =
    let P : List (Vec ℕ) → Type 0 = λ ks. AreSums names ks new_sums (items ++ item_at names list number ∷ []) in
    let present_list = ap (λ (l : List ℕ). list_any (is_key l) keys) (sym copied) ∙ present in
    let place_list = place_is ∙ ap (λ (l : List ℕ). position_or_len (is_key l) keys) copied in
    subst P (sym (keys_are ∙ cond-true _ keys (keys ++ key ∷ []) present))
    (old-added names keys sums new_sums items list number are held some present_list
    (sums_are
    ∙ ap (λ (n : ℕ). set sums place (n + number))
    (old-sum names keys sums items key.items place now are present place_is now_is)
    ∙ ap (λ (k : ℕ). set sums k (get_or sums k 0 + number)) place_list))
