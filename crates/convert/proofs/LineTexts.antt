-- Lemmas on the texts of folded lines, as they are appended.
use Rattle.std.proofs.Common.{◌≡◌, ℕ, zero, suc, ◌+◌, ◌-◌, ◌<◌, ◌≤◌, List, [], ◌∷◌, ◌++◌, length, map, drop, take}
use Rattle.std.proofs.Common.{get_or, reverse, Some, refl, sym, ap, ◌∙◌, arith, append-nil}
use Rattle.std.specs.Prelude.{codes, flat_map, slice_get}
use Rattle.std.specs.Global.{Vec}
use Rattle.std.specs.List.{join_by}
use Rattle.std.proofs.lemmas.Grind.{flat_map-append}
use Rattle.std.proofs.lemmas.List.{length-map, map-append, reverse-append, take_all}
use Rattle.std.proofs.lemmas.Option.{none-some, same_Some}
use Rattle.std.proofs.Math.Seq.{drop-cons}
use Rattle.cost_tree.specs.Costed.{Costed, costed}
use Rattle.cost_tree.specs.Inclusive.{own}
use Rattle.cost_tree.proofs.Laws.{costed-count, take-next}
use Rattle.convert.specs.Folded.{folded_line, folded_lists, folded_name, folded_path, folded_sums, folded_text}
use Rattle.convert.specs.Folded.{lines_text}
use Rattle.convert.proofs.Sums.{sums-count}
use Rattle.cost_tree.specs.Texts.{text_of, texts_of}
use Rattle.convert.specs.Numbers.{AreSums, later_texts, lines_at, lists_at}

pub later-none : (names : List (List ℕ)) (numbers : List ℕ) → later_texts names (drop (length numbers) numbers) ≡ []
later-none names [] = refl
later-none names (n ∷ ns) = later-none names ns

pub later-more : (names : List (List ℕ)) (numbers : List ℕ) (place : ℕ) → 0 < place → place ≤ length numbers
    → later_texts names (drop (place - 1) numbers)
    ≡ later_texts names (drop place numbers)
    ++ (codes ";" ++ folded_name (text_of names (get_or numbers (place - 1) 0)))
later-more names numbers zero some within = absurd (omega arith)
later-more names numbers (suc place) some within =
    let back : suc place - 1 ≡ place = omega arith in
    let text : List ℕ = text_of names (get_or numbers place 0) in
    let rest : List (List ℕ) = map (text_of names) (drop (suc place) numbers) in
    let name : List ℕ → List ℕ = λ t. codes ";" ++ folded_name t in
    ap (λ (k : ℕ). later_texts names (drop k numbers)) back
    ∙ ap (λ (ns : List ℕ). later_texts names ns) (drop-cons numbers place 0 (omega arith))
    ∙ ap (λ (ts : List (List ℕ)). flat_map name ts) (reverse-append (text ∷ []) rest)
    ∙ flat_map-append name (reverse rest) (text ∷ [])
    ∙ ap (λ (bs : List ℕ). flat_map name (reverse rest) ++ bs) (append-nil (name text))
    ∙ ap (λ (k : ℕ). later_texts names (drop (suc place) numbers)
    ++ (codes ";" ++ folded_name (text_of names (get_or numbers k 0)))) (sym
    back)

-- the path of no text, and of a last one behind others
pub path-none : (names : List (List ℕ)) (numbers : List ℕ) → length numbers ≡ 0
    → folded_path (texts_of names numbers) ≡ codes "(no stack)"
path-none names [] none = refl
path-none names (n ∷ ns) none = absurd (omega arith)

pub path-last : (names : List (List ℕ)) (numbers before : List ℕ) (last : ℕ) → numbers ≡ before ++ last ∷ []
    → folded_path (texts_of names numbers) ≡ folded_name (text_of names last) ++ later_texts names before
path-last names numbers before last is =
    ap (λ (ns : List ℕ). folded_path (texts_of names ns)) is
    ∙ ap (λ (ts : List (List ℕ)). folded_path ts) (map-append (text_of names) before (last ∷ []))
    ∙ joined (map (text_of names) before) (text_of names last)
    ∙ ap (λ (ts : List (List ℕ)). join_by folded_name (codes ";") ts)
    (reverse-append (map (text_of names) before) (text_of names last ∷ []))
  where
    joined : (ts : List (List ℕ)) (t : List ℕ)
        → folded_path (ts ++ t ∷ []) ≡ join_by folded_name (codes ";") (reverse (ts ++ t ∷ []))
    joined [] t = refl
    joined (u ∷ us) t = refl

pub costed-at : (lists : List (List (List ℕ))) (costs : List ℕ) (k : ℕ) (list : List (List ℕ)) (cost : ℕ)
    → slice_get lists k ≡ Some list → slice_get costs k ≡ Some cost
    → slice_get (costed lists costs) k ≡ Some (record { texts = list; cost = cost })
unfolding costed
costed-at [] costs k list cost list_is cost_is = absurd (none-some list list_is)
costed-at (l ∷ ls) [] k list cost list_is cost_is = absurd (none-some cost cost_is)
costed-at (l ∷ ls) (c ∷ cs) zero list cost list_is cost_is =
    ap (λ (x : List (List ℕ)). Some (record { texts = x; cost = c })) (same_Some l list list_is)
    ∙ ap (λ (n : ℕ). Some (record { texts = list; cost = n })) (same_Some c cost cost_is)
costed-at (l ∷ ls) (c ∷ cs) (suc k) list cost list_is cost_is = costed-at ls cs k list cost list_is cost_is

-- what a line is made of
pub line-parts : (names : List (List ℕ)) (keys : List (Vec ℕ)) (sums : List ℕ) (place : ℕ) (line : Costed)
    → slice_get (lines_at names keys sums) place ≡ Some line
    → (key : Vec ℕ) × (slice_get keys place ≡ Some key) × (slice_get sums place ≡ Some line.cost)
    × (texts_of names key.items ≡ line.texts)
unfolding costed
line-parts names [] sums place line at = absurd (none-some line at)
line-parts names (key ∷ keys) [] place line at = absurd (none-some line at)
line-parts names (key ∷ keys) (sum ∷ sums) zero line at =
    let same = same_Some (record { texts = texts_of names key.items; cost = sum }) line at in
    (key, refl, ap (λ (l : Costed). Some l.cost) same, ap (λ (l : Costed). l.texts) same)
line-parts names (key ∷ keys) (sum ∷ sums) (suc place) line at = line-parts names keys sums place line at

-- one line more
pub lines-more : (lines : List Costed) (place : ℕ) (line : Costed) → slice_get lines place ≡ Some line
    → lines_text (take (place + 1) lines) ≡ lines_text (take place lines) ++ folded_line line
lines-more lines place line at =
    ap lines_text (take-next lines place line at)
    ∙ flat_map-append folded_line (take place lines) (line ∷ [])
    ∙ ap (λ (bs : List ℕ). lines_text (take place lines) ++ bs) (append-nil (folded_line line))

-- all of them
pub lines-all : (names : List (List ℕ)) (keys : List (Vec ℕ)) (sums : List ℕ) (items : List Costed) (place : ℕ)
    → AreSums names keys sums items → length sums ≤ place
    → lines_text (take place (lines_at names keys sums)) ≡ folded_text items
unfolding folded_text folded_sums costed
lines-all names keys sums items place are all =
    let F : List (List (List ℕ)) = folded_lists items in
    let count = short (lists_at names keys) sums in
    ap lines_text (take_all place (lines_at names keys sums) (omega arith))
    ∙ ap (λ (ls : List (List (List ℕ))). lines_text (costed ls sums)) are.lists
    ∙ ap (λ (ns : List ℕ). lines_text (costed F ns)) are.sums_are
    ∙ ap lines_text (same F)
  where
    short : (lists : List (List (List ℕ))) (costs : List ℕ) → length (costed lists costs) ≤ length costs
    short [] costs = omega arith
    short (l ∷ ls) [] = omega arith
    short (l ∷ ls) (c ∷ cs) = let rest = short ls cs in omega arith

    same : (lists : List (List (List ℕ)))
        → costed lists (map (λ l. own l items) lists) ≡ map (λ l. record { texts = l; cost = own l items }) lists
    same [] = refl
    same (l ∷ ls) = ap (λ (rest : List Costed). record { texts = l; cost = own l items } ∷ rest) (same ls)

-- there is a line for each sum
pub lines-count : (names : List (List ℕ)) (keys : List (Vec ℕ)) (sums : List ℕ) (items : List Costed)
    → AreSums names keys sums items → length (lines_at names keys sums) ≡ length sums
lines-count names keys sums items are =
    let count = sums-count names keys sums items are in
    let lists = length-map keys (λ (key : Vec ℕ). texts_of names key.items) in
    costed-count (lists_at names keys) sums (omega arith) ∙ lists ∙ sym count
