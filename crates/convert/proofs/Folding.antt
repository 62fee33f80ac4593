-- Lemmas on the lists of some items and on their sums, as one item more comes.
use Rattle.std.proofs.Common.{◌≡◌, ◌≢◌, ℕ, zero, suc, ◌+◌, ◌<◌, ◌≤◌, Bool, true, false, not, cond, ◌||◌, List, [], ◌∷◌}
use Rattle.std.proofs.Common.{◌++◌, length, map, get_or, set, refl, sym, ap, ◌∙◌, subst, arith, true≢false, append-nil}
use Rattle.std.specs.Prelude.{All, AllPairs, nat_lt, sum_by}
use Rattle.std.specs.Bool.{Decides}
use Rattle.std.specs.List.{list_any, position_or_len}
use Rattle.std.specs.Str.{bytes_eq}
use Rattle.std.proofs.lemmas.Bool.{cond-true, cond-false, false_from_ne_true, lt-ltb}
use Rattle.std.proofs.lemmas.List.{map-append}
use Rattle.std.proofs.lemmas.List.Elements.{All-push, All-weaker, filter-append}
use Rattle.std.proofs.lemmas.List.Folds.{list_any-append}
use Rattle.std.proofs.lemmas.List.Quantifiers.{all_pairs_push}
use Rattle.std.proofs.lemmas.List.Sums.{fold_push, sum_by-cons, sum_by_push}
use Rattle.std.proofs.lemmas.Slice.Eq.{bytes_eq-Decides, slice_eq-Decides}
use Rattle.cost_tree.specs.Costed.{Costed}
use Rattle.cost_tree.specs.Inclusive.{is_front, own}
use Rattle.indexmap.specs.IndexSet.{insert_all, insert_key}
use Rattle.convert.specs.Folded.{counting, folded_lists}
use Rattle.convert.proofs.Lists.{from_end}

pub is_front-Decides : (front texts : List (List ℕ)) → Decides (is_front front texts) (front ≡ texts)
unfolding is_front
is_front-Decides front texts = slice_eq-Decides {E = bytes_eq} bytes_eq-Decides front texts (is_front front texts) refl

abbrev pub texts_of : Costed → List (List ℕ)
texts_of item = item.texts

abbrev pub cost_of : Costed → ℕ
cost_of item = item.cost

-- neither of two tests passes
pub neither : (a b : Bool) → (a || b) ≡ false → (a ≡ false) × (b ≡ false)
neither true b none = absurd (true≢false none)
neither false b none = (refl, none)

pub none_at : {X : Type 0} (p : X → Bool) (xs : List X) → list_any p xs ≡ false → (k : ℕ) (d : X) → k < length xs
    → p (get_or xs k d) ≡ false
none_at p [] none k d within = absurd (omega arith)
none_at p (x ∷ xs) none zero d within = (neither (p x) (list_any p xs) none).0
none_at p (x ∷ xs) none (suc k) d within = none_at p xs (neither (p x) (list_any p xs) none).1 k d (omega arith)

none_from : {X : Type 0} (p : X → Bool) (xs : List X) → ((k : ℕ) (d : X) → k < length xs → p (get_or xs k d) ≡ false)
    → list_any p xs ≡ false
none_from p [] each = refl
none_from p (x ∷ xs) each =
    ap (λ (b : Bool). b || list_any p xs) (each 0 x (omega arith))
    ∙ none_from p xs (λ k d within. each (suc k) d (omega arith))

-- an item that counts nothing changes nothing
pub lists-zero : (items : List Costed) (item : Costed) → item.cost ≡ 0
    → folded_lists (items ++ item ∷ []) ≡ folded_lists items
unfolding folded_lists
lists-zero items item none =
    let left =
    filter-append (λ (i : Costed). nat_lt 0 i.cost) items (item ∷ [])
    ∙ ap (λ (n : ℕ). counting items ++ cond (nat_lt 0 n) (item ∷ []) []) none ∙ append-nil (counting items) in
    ap (λ (is : List Costed). insert_all is_front [] (map texts_of is)) left

-- one that counts puts its list behind the others, unless it is one of them
pub lists-more : (items : List Costed) (item : Costed) → 0 < item.cost
    → folded_lists (items ++ item ∷ []) ≡ insert_key is_front (folded_lists items) item.texts
unfolding folded_lists
lists-more items item some =
    let left =
    filter-append (λ (i : Costed). nat_lt 0 i.cost) items (item ∷ [])
    ∙ ap (λ (b : Bool). counting items ++ cond b (item ∷ []) []) (lt-ltb 0 item.cost some) in
    ap (λ (is : List Costed). insert_all is_front [] (map texts_of is)) left
    ∙ ap (λ (ls : List (List (List ℕ))). insert_all is_front [] ls) (map-append texts_of (counting items) (item ∷ []))
    ∙ fold_push (insert_key is_front) [] (map texts_of (counting items)) item.texts

-- an item adds what it counts to the sum of its list alone
pub own-more : (list : List (List ℕ)) (items : List Costed) (item : Costed)
    → own list (items ++ item ∷ []) ≡ own list items + cond (is_front list item.texts) item.cost 0
unfolding own
own-more list items item = sum_by_push (λ (i : Costed). cond (is_front list i.texts) i.cost 0) items item

pub own-zero : (list : List (List ℕ)) (items : List Costed) (item : Costed) → item.cost ≡ 0
    → own list (items ++ item ∷ []) ≡ own list items
own-zero list items item none =
    own-more list items item ∙ ap (λ (n : ℕ). own list items + cond (is_front list item.texts) n 0) none
    ∙ none_more (is_front list item.texts)
  where
    none_more : (b : Bool) → own list items + cond b 0 0 ≡ own list items
    none_more true = omega arith
    none_more false = omega arith

own-nothing : (list : List (List ℕ)) → own list [] ≡ 0
unfolding own
own-nothing list = refl

lists-none : folded_lists [] ≡ []
unfolding folded_lists
lists-none = refl

-- a list that none of the items has that count has the sum 0
pub own-none : (list : List (List ℕ)) (items : List Costed) → list_any (is_front list) (folded_lists items) ≡ false
    → own list items ≡ 0
own-none list =
    from_end (λ items. list_any (is_front list) (folded_lists items) ≡ false → own list items ≡ 0)
    (λ none. own-nothing list) step
  where
    step : (items : List Costed) (item : Costed)
        → (list_any (is_front list) (folded_lists items) ≡ false → own list items ≡ 0)
        → list_any (is_front list) (folded_lists (items ++ item ∷ [])) ≡ false → own list (items ++ item ∷ []) ≡ 0
    step items item before none = by item.cost refl (list_any (is_front item.texts) (folded_lists items)) refl
      where
        added : list_any (is_front list) (folded_lists items) ≡ false → is_front list item.texts ≡ false
            → own list (items ++ item ∷ []) ≡ 0
        added left other =
            own-more list items item ∙ ap (λ (n : ℕ). n + cond (is_front list item.texts) item.cost 0) (before left)
            ∙ ap (λ (b : Bool). 0 + cond b item.cost 0) other

        by : (cost : ℕ) → item.cost ≡ cost → (b : Bool) → list_any (is_front item.texts) (folded_lists items) ≡ b
            → own list (items ++ item ∷ []) ≡ 0
        by zero is b held =
            own-zero list items item is
            ∙ before
            (ap (λ (ls : List (List (List ℕ))). list_any (is_front list) ls) (sym (lists-zero items item is)) ∙ none)
        by (suc cost) is true held =
            let same =
            lists-more items item (omega arith)
            ∙ cond-true _ (folded_lists items) (folded_lists items ++ item.texts ∷ []) held in
            let left = ap (λ (ls : List (List (List ℕ))). list_any (is_front list) ls) (sym same) ∙ none in
            let other : is_front list item.texts ≡ false = false_from_ne_true (is_front list item.texts) (λ is_list.
            true≢false
            (sym held
            ∙ ap (λ (l : List (List ℕ)). list_any (is_front l) (folded_lists items))
            (sym ((is_front-Decides list item.texts).0 is_list))
            ∙ left)) in
            added left other
        by (suc cost) is false held =
            let same =
            lists-more items item (omega arith)
            ∙ cond-false _ (folded_lists items) (folded_lists items ++ item.texts ∷ []) held in
            let left =
            sym (list_any-append (is_front list) (folded_lists items) (item.texts ∷ []))
            ∙ ap (λ (ls : List (List (List ℕ))). list_any (is_front list) ls) (sym same) ∙ none in
            let parts =
            neither (list_any (is_front list) (folded_lists items)) (is_front list item.texts || false) left in
            added parts.0 (neither (is_front list item.texts) false parts.1).0

-- the lists are all different
pub lists-distinct : (items : List Costed) → AllPairs (λ earlier later. earlier ≢ later) (folded_lists items)
lists-distinct = from_end (λ items. AllPairs (λ earlier later. earlier ≢ later) (folded_lists items)) none step
  where
    none : AllPairs (λ (earlier later : List (List ℕ)). earlier ≢ later) (folded_lists [])
    none j k d before within = let empty = ap length lists-none in absurd (omega arith)

    step : (items : List Costed) (item : Costed) → AllPairs (λ earlier later. earlier ≢ later) (folded_lists items)
        → AllPairs (λ earlier later. earlier ≢ later) (folded_lists (items ++ item ∷ []))
    step items item before = by item.cost refl (list_any (is_front item.texts) (folded_lists items)) refl
      where
        by : (cost : ℕ) → item.cost ≡ cost → (b : Bool) → list_any (is_front item.texts) (folded_lists items) ≡ b
            → AllPairs (λ earlier later. earlier ≢ later) (folded_lists (items ++ item ∷ []))
        by zero is b held = subst (AllPairs (λ earlier later. earlier ≢ later)) (sym (lists-zero items item is)) before
        by (suc cost) is true held =
            subst (AllPairs (λ earlier later. earlier ≢ later))
            (sym
            (lists-more items item (omega arith)
            ∙ cond-true _ (folded_lists items) (folded_lists items ++ item.texts ∷ []) held))
            before
        by (suc cost) is false held =
            subst (AllPairs (λ earlier later. earlier ≢ later))
            (sym
            (lists-more items item (omega arith)
            ∙ cond-false _ (folded_lists items) (folded_lists items ++ item.texts ∷ []) held))
            (all_pairs_push (λ earlier later. earlier ≢ later) (folded_lists items) item.texts before
            (λ k d within same. true≢false
            (sym ((is_front-Decides item.texts (get_or (folded_lists items) k d)).1 (sym same))
            ∙ none_at (is_front item.texts) (folded_lists items) held k d within)))

-- each of them has a sum other than 0
pub lists-some : (items : List Costed) → All (λ list. 0 < own list items) (folded_lists items)
lists-some = from_end (λ items. All (λ list. 0 < own list items) (folded_lists items)) none step
  where
    none : All (λ (list : List (List ℕ)). 0 < own list []) (folded_lists [])
    none k d within = let empty = ap length lists-none in absurd (omega arith)

    step : (items : List Costed) (item : Costed) → All (λ list. 0 < own list items) (folded_lists items)
        → All (λ list. 0 < own list (items ++ item ∷ [])) (folded_lists (items ++ item ∷ []))
    step items item before = by item.cost refl (list_any (is_front item.texts) (folded_lists items)) refl
      where
        P : List (List ℕ) → Type 0
        P list = 0 < own list (items ++ item ∷ [])

        grown : All P (folded_lists items)
        grown =
            All-weaker (λ list. 0 < own list items) P (λ list some. let more = own-more list items item in omega arith)
            (folded_lists items) before

        by : (cost : ℕ) → item.cost ≡ cost → (b : Bool) → list_any (is_front item.texts) (folded_lists items) ≡ b
            → All P (folded_lists (items ++ item ∷ []))
        by zero is b held = subst (All P) (sym (lists-zero items item is)) grown
        by (suc cost) is true held =
            subst (All P)
            (sym
            (lists-more items item (omega arith)
            ∙ cond-true _ (folded_lists items) (folded_lists items ++ item.texts ∷ []) held))
            grown
        by (suc cost) is false held =
            let more =
            own-more item.texts items item
            ∙ ap (λ (b : Bool). own item.texts items + cond b item.cost 0)
            ((is_front-Decides item.texts item.texts).1 refl) in
            subst (All P)
            (sym
            (lists-more items item (omega arith)
            ∙ cond-false _ (folded_lists items) (folded_lists items ++ item.texts ∷ []) held))
            (All-push P (folded_lists items) item.texts grown (omega arith))

-- a list other than the item's keeps its sum
own-other : (items : List Costed) (item : Costed) (list : List (List ℕ)) → is_front item.texts list ≡ false
    → own list (items ++ item ∷ []) ≡ own list items
own-other items item list other =
    let apart =
    false_from_ne_true (is_front list item.texts)
    (λ same. true≢false
    (sym ((is_front-Decides item.texts list).1 (sym ((is_front-Decides list item.texts).0 same))) ∙ other)) in
    let more = own-more list items item ∙ ap (λ (b : Bool). own list items + cond b item.cost 0) apart in
    omega (arith, more)

-- no list has more than all items together
pub own-within : (list : List (List ℕ)) (items : List Costed) → own list items ≤ sum_by cost_of items
unfolding own
own-within list [] = omega arith
own-within list (item ∷ items) =
    let rest = own-within list items in
    let mine = sum_by-cons (λ (i : Costed). cond (is_front list i.texts) i.cost 0) item items in
    let all = sum_by-cons cost_of item items in
    let part = at_most (is_front list item.texts) in
    omega arith
  where
    at_most : (b : Bool) → cond b item.cost 0 ≤ item.cost
    at_most true = omega arith
    at_most false = omega arith

-- lists other than the item's keep their sums
pub own-kept : (items : List Costed) (item : Costed) (lists : List (List (List ℕ)))
    → list_any (is_front item.texts) lists ≡ false
    → map (λ list. own list (items ++ item ∷ [])) lists ≡ map (λ list. own list items) lists
own-kept items item [] none = refl
own-kept items item (list ∷ lists) none =
    let parts = neither (is_front item.texts list) (list_any (is_front item.texts) lists) none in
    ap (λ (n : ℕ). n ∷ map (λ l. own l (items ++ item ∷ [])) lists) (own-other items item list parts.0)
    ∙ ap (λ (ns : List ℕ). own list items ∷ ns) (own-kept items item lists parts.1)

-- and the item's gains what it counts
pub own-gains : (items : List Costed) (item : Costed) (lists : List (List (List ℕ)))
    → AllPairs (λ earlier later. earlier ≢ later) lists
    → map (λ list. own list (items ++ item ∷ [])) lists
    ≡ set (map (λ list. own list items) lists) (position_or_len (is_front item.texts) lists)
    (get_or (map (λ list. own list items) lists) (position_or_len (is_front item.texts) lists) 0 + item.cost)
own-gains items item [] distinct = refl
own-gains items item (list ∷ lists) distinct =
    by (own-gains items item lists (λ j k d before within. distinct (suc j) (suc k) d (omega arith) (omega arith)))
    (is_front item.texts list) refl
  where
    O : List (List ℕ) → ℕ
    O l = own l items

    by : map (λ l. own l (items ++ item ∷ [])) lists
        ≡ set (map O lists) (position_or_len (is_front item.texts) lists)
        (get_or (map O lists) (position_or_len (is_front item.texts) lists) 0 + item.cost)
        → (b : Bool) → is_front item.texts list ≡ b
        → own list (items ++ item ∷ []) ∷ map (λ l. own l (items ++ item ∷ [])) lists
        ≡ set (O list ∷ map O lists) (cond (not b) (1 + position_or_len (is_front item.texts) lists) 0)
        (get_or (O list ∷ map O lists) (cond (not b) (1 + position_or_len (is_front item.texts) lists) 0) 0 + item.cost)
    by rest true is =
        let same = (is_front-Decides item.texts list).0 is in
        let more =
        own-more list items item
        ∙ ap (λ (b : Bool). own list items + cond b item.cost 0)
        ((is_front-Decides list item.texts).1 (sym same)) in
        let others : list_any (is_front item.texts) lists ≡ false = none_from (is_front item.texts) lists (λ k d within.
        false_from_ne_true (is_front item.texts (get_or lists k d))
        (λ again. distinct 0 (suc k) d (omega arith) (omega arith)
        (sym same ∙ (is_front-Decides item.texts (get_or lists k d)).0 again))) in
        ap (λ (n : ℕ). n ∷ map (λ l. own l (items ++ item ∷ [])) lists) more
        ∙ ap (λ (ns : List ℕ). (own list items + item.cost) ∷ ns) (own-kept items item lists others)
    by rest false is =
        let place : 1 + position_or_len (is_front item.texts) lists
        ≡ suc (position_or_len (is_front item.texts) lists) = omega arith in
        ap (λ (n : ℕ). n ∷ map (λ l. own l (items ++ item ∷ [])) lists) (own-other items item list is)
        ∙ ap (λ (ns : List ℕ). own list items ∷ ns) rest
        ∙ ap (λ (k : ℕ). set (O list ∷ map O lists) k (get_or (O list ∷ map O lists) k 0 + item.cost)) (sym place)
