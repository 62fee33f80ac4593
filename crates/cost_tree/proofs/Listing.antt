-- Lemmas on lists of texts that are kept as numbers, as more texts are appended to the last.
use Rattle.std.proofs.Common.{◌≡◌, ℕ, ◌-◌, ◌<◌, ◌≤◌, List, [], ◌∷◌, ◌++◌, length, take, get_or, Option, Some, refl, sym}
use Rattle.std.proofs.Common.{ap, ◌∙◌, subst, append_assoc, arith}
use Rattle.std.specs.Prelude.{All, Err, Ok, OnErr, OnOk, Result, unwrap_or}
use Rattle.std.proofs.lemmas.List.{length-map, map-append, same_from_push}
use Rattle.std.proofs.lemmas.List.Elements.{All-append, All-cons, All-get_or, All-head, All-nil, All-tail, All-take}
use Rattle.std.proofs.lemmas.List.Elements.{All-weaker}
use Rattle.intern_tables.specs.Numbers.{name_at}
use Rattle.cost_tree.specs.GrowingLists.{LastGains}
use Rattle.cost_tree.specs.Texts.{AreTexts, IsText, lists_of, text_of, texts_of}
use Rattle.cost_tree.proofs.ShapeLists.{split-last}

-- there are as many lists of numbers as of texts
pub as-many-lists : (names : List (List ℕ)) (lists : List (List ℕ)) (seen : List (List (List ℕ)))
    → lists_of names lists ≡ seen → length lists ≡ length seen
as-many-lists names lists seen is =
    sym (length-map lists (texts_of names)) ∙ ap (λ (ls : List (List (List ℕ))). length ls) is

-- texts keep their numbers as names are added
text-kept : (names new : List (List ℕ)) (n : ℕ) → ((k : ℕ) → k ≤ length names → name_at new k ≡ name_at names k)
    → IsText names n → text_of new n ≡ text_of names n
unfolding text_of
text-kept names new n stay is = ap (λ (found : Option (List ℕ)). unwrap_or found []) (stay n is.1)

pub texts-kept : (names new : List (List ℕ)) (numbers : List ℕ)
    → ((k : ℕ) → k ≤ length names → name_at new k ≡ name_at names k) → All (IsText names) numbers
    → texts_of new numbers ≡ texts_of names numbers
texts-kept names new [] stay are = refl
texts-kept names new (n ∷ numbers) stay are =
    ap (λ (text : List ℕ). text ∷ texts_of new numbers)
    (text-kept names new n stay (All-head (IsText names) n numbers are))
    ∙ ap (λ (texts : List (List ℕ)). text_of names n ∷ texts)
    (texts-kept names new numbers stay (All-tail (IsText names) n numbers are))

pub lists-kept : (names new : List (List ℕ)) (lists : List (List ℕ))
    → ((k : ℕ) → k ≤ length names → name_at new k ≡ name_at names k) → AreTexts names lists
    → lists_of new lists ≡ lists_of names lists
lists-kept names new [] stay are = refl
lists-kept names new (list ∷ lists) stay are =
    ap (λ (texts : List (List ℕ)). texts ∷ lists_of new lists)
    (texts-kept names new list stay (All-head (All (IsText names)) list lists are))
    ∙ ap (λ (all : List (List (List ℕ))). texts_of names list ∷ all)
    (lists-kept names new lists stay (All-tail (All (IsText names)) list lists are))

pub texts-grown : (names new : List (List ℕ)) (lists : List (List ℕ)) → length names ≤ length new → AreTexts names lists
    → AreTexts new lists
texts-grown names new lists more are =
    All-weaker (All (IsText names)) (All (IsText new))
    (λ list. All-weaker (IsText names) (IsText new) (λ n is. (is.0, omega (arith, is.1))) list) lists are

-- a text by the name that has its number
pub text-named : (names : List (List ℕ)) (n : ℕ) (text : List ℕ) → name_at names n ≡ Some text → text_of names n ≡ text
unfolding text_of
text-named names n text is = ap (λ (found : Option (List ℕ)). unwrap_or found []) is

-- a number of a text more
pub texts-last : (names old new : List (List ℕ)) (number : ℕ) → 0 < length old → AreTexts names old
    → IsText names number → LastGains old (number ∷ []) new → AreTexts names new
texts-last names old new number some are is gains =
    let earlier : List (List ℕ) = take (length old - 1) old in
    let last : List ℕ = get_or old (length old - 1) [] in
    let P : List (List ℕ) → Type 0 = λ lists. AreTexts names lists in
    let now : List ℕ = last ++ number ∷ [] in
    let one =
    All-append (IsText names) last (number ∷ [])
    (All-get_or (All (IsText names)) old (length old - 1) [] (omega arith) are)
    (All-cons (IsText names) number [] is (All-nil (IsText names))) in
    subst P (sym (gains earlier last (split-last old [] some)))
    (All-append (All (IsText names)) earlier (now ∷ []) (All-take (All (IsText names)) (length old - 1) old are)
    (All-cons (All (IsText names)) now [] one (All-nil (All (IsText names)))))

-- the last list has numbers more, and so the last list of texts their texts
pub lists-gained : (names old new : List (List ℕ)) (numbers : List ℕ) (texts : List (List ℕ)) → 0 < length old
    → texts_of names numbers ≡ texts → LastGains old numbers new
    → LastGains (lists_of names old) texts (lists_of names new)
lists-gained names old new numbers texts some are gains = λ earlier last is.
    let before : List (List ℕ) = take (length old - 1) old in
    let list : List ℕ = get_or old (length old - 1) [] in
    let split = split-last old [] some in
    let parts = same_from_push (lists_of names before) earlier (texts_of names list) last
    (sym (map-append (texts_of names) before (list ∷ [])) ∙ ap (λ (ls : List (List ℕ)). lists_of names ls) (sym split)
    ∙ is) in
    ap (λ (ls : List (List ℕ)). lists_of names ls) (gains before list split)
    ∙ map-append (texts_of names) before ((list ++ numbers) ∷ [])
    ∙ ap (λ (ts : List (List ℕ)). lists_of names before ++ ts ∷ []) (map-append (text_of names) list numbers)
    ∙ ap (λ (ts : List (List ℕ)). lists_of names before ++ (texts_of names list ++ ts) ∷ []) are
    ∙ ap (λ (ls : List (List (List ℕ))). ls ++ (texts_of names list ++ texts) ∷ []) parts.0
    ∙ ap (λ (ts : List (List ℕ)). earlier ++ (ts ++ texts) ∷ []) parts.1

-- one number and its text
pub lists-last : (names old new : List (List ℕ)) (number : ℕ) (text : List ℕ) (earlier : List (List (List ℕ)))
    (last : List (List ℕ))
    → 0 < length old → name_at names number ≡ Some text → LastGains old (number ∷ []) new
    → lists_of names old ≡ earlier ++ last ∷ []
    → lists_of names new ≡ earlier ++ (last ++ text ∷ []) ∷ []
lists-last names old new number text earlier last some named gains is =
    lists-gained names old new (number ∷ []) (text ∷ []) some
    (ap (λ (t : List ℕ). t ∷ []) (text-named names number text named)) gains earlier last is

-- numbers come one by one
pub gains-more : {X : Type 0} (old now new : List (List X)) (xs more : List X) → LastGains old xs now
    → LastGains now more new → LastGains old (xs ++ more) new
gains-more {X} old now new xs more before after = λ earlier last is.
    after earlier (last ++ xs) (before earlier last is)
    ∙ ap (λ (all : List X). earlier ++ all ∷ []) (append_assoc last xs more)

-- whether it was pushed or not, the numbers are those of texts
pub texts-pushed : {T E : Type 0} (result : Result T E) (names old new : List (List ℕ)) (number : ℕ)
    → AreTexts names old → IsText names number → 0 < length old
    → OnOk result (LastGains old (number ∷ []) new) → OnErr result (new ≡ old) → AreTexts names new
texts-pushed (Ok value) names old new number are is some gains same = texts-last names old new number some are is gains
texts-pushed (Err fault) names old new number are is some gains same =
    subst (λ (lists : List (List ℕ)). AreTexts names lists) (sym same) are
