-- Lines and the texts that they make, each with its line feed.
use Rattle.std.proofs.Common.{◌≡◌, ◌≢◌, ℕ, ◌+◌, ◌<◌, ◌==◌, Bool, true, false, cond, List, [], ◌∷◌, ◌++◌, length, get_or}
use Rattle.std.proofs.Common.{take, drop, Option, None, Some, refl, sym, ap, ap₂, ◌∙◌, arith, append_assoc}
use Rattle.std.proofs.Common.{length-append}
use Rattle.std.specs.Prelude.{All}
use Rattle.std.proofs.lemmas.Bool.Decides.{nat_tests}
use Rattle.std.proofs.lemmas.List.Elements.{All-head, All-tail}
use Rattle.std.proofs.lemmas.List.{drop_more, take-append-drop}
use Rattle.std.proofs.Math.Seq.{get_or-append_seam, take-append_seam}
use Rattle.hp_outside.specs.Lines.{lines_of, put_first}
use Rattle.hp_outside.specs.WholeLines.{IsLineText, text_of_lines}
use Rattle.record_book.specs.Spelled.{behind}
use Rattle.record_book.proofs.Laws.{text-append}

-- one line more
pub text-push : (xs : List (List ℕ)) (line more : List ℕ)
    → text_of_lines (xs ++ line ∷ []) ++ more ≡ text_of_lines xs ++ (line ++ (10 ∷ more))
text-push xs line more =
    ap (λ (text : List ℕ). text ++ more) (text-append xs (line ∷ []))
    ∙ append_assoc (text_of_lines xs) (line ++ (10 ∷ [])) more
    ∙ ap (λ (rest : List ℕ). text_of_lines xs ++ rest) (append_assoc line (10 ∷ []) more)

-- a text that ends with a line feed is the text of its lines
put-text : (b : ℕ) (lines : List (List ℕ)) (text : List ℕ) → text_of_lines lines ≡ text → text ≢ []
    → text_of_lines (put_first b lines) ≡ b ∷ text
put-text b [] text is some = absurd (some (sym is))
put-text b (line ∷ lines) text is some = ap (λ (rest : List ℕ). b ∷ rest) is

not-empty : (front : List ℕ) (b : ℕ) → front ++ b ∷ [] ≢ []
not-empty [] b e = absurd (cc)
not-empty (x ∷ front) b e = absurd (cc)

pub whole-text : (front : List ℕ) → text_of_lines (lines_of (front ++ 10 ∷ [])) ≡ front ++ 10 ∷ []
whole-text [] = refl
whole-text (b ∷ front) = by (whole-text front) (b == 10) refl
  where
    by : text_of_lines (lines_of (front ++ 10 ∷ [])) ≡ front ++ 10 ∷ [] → (t : Bool) → (b == 10) ≡ t
        → text_of_lines (cond t ([] ∷ lines_of (front ++ 10 ∷ [])) (put_first b (lines_of (front ++ 10 ∷ []))))
        ≡ b ∷ front ++ 10 ∷ []
    by rest true p =
        let same : b ≡ 10 =
        grind (arith, nat_tests, p) in ap (λ (rest : List ℕ). 10 ∷ rest) rest
        ∙ ap (λ (x : ℕ). x ∷ front ++ 10 ∷ []) (sym same)
    by rest false p = put-text b (lines_of (front ++ 10 ∷ [])) (front ++ 10 ∷ []) rest (not-empty front 10)

-- two texts that are equal have the same first line
pub same-first : (xs ys more rest : List ℕ) → IsLineText xs → IsLineText ys → xs ++ (10 ∷ more) ≡ ys ++ (10 ∷ rest)
    → (xs ≡ ys) × (more ≡ rest)
same-first [] [] more rest a b is = (refl, cc)
same-first [] (y ∷ ys) more rest a b is = absurd (All-head (λ c. c ≢ 10) y ys b cc)
same-first (x ∷ xs) [] more rest a b is = absurd (All-head (λ c. c ≢ 10) x xs a cc)
same-first (x ∷ xs) (y ∷ ys) more rest a b is =
    let head : x ≡ y = cc in
    let tail : xs ++ (10 ∷ more) ≡ ys ++ (10 ∷ rest) = cc in
    let found = same-first xs ys more rest (All-tail (λ c. c ≢ 10) x xs a) (All-tail (λ c. c ≢ 10) y ys b) tail in
    (ap (λ (z : ℕ). z ∷ xs) head ∙ ap (λ (zs : List ℕ). y ∷ zs) found.0, found.1)

-- what stands behind a front
equal-byte : (b : ℕ) → (b == b) ≡ true
equal-byte b = by (b == b) refl
  where
    by : (t : Bool) → (b == b) ≡ t → t ≡ true
    by true p = refl
    by false p = absurd (grind (arith, nat_tests, p))

pub behind-front : (front rest : List ℕ) → behind front (front ++ rest) ≡ Some rest
behind-front [] rest = refl
behind-front (b ∷ front) rest =
    ap (λ (t : Bool). cond t (behind front (front ++ rest)) None) (equal-byte b) ∙ behind-front front rest

pub front-behind : (front text rest : List ℕ) → behind front text ≡ Some rest → text ≡ front ++ rest
front-behind [] text rest is = cc
front-behind (b ∷ front) [] rest is = absurd (cc)
front-behind (b ∷ front) (c ∷ text) rest is = by (λ found. front-behind front text rest found) (b == c) refl is
  where
    by : (behind front text ≡ Some rest → text ≡ front ++ rest) → (t : Bool) → (b == c) ≡ t
        → cond t (behind front text) None ≡ Some rest → c ∷ text ≡ b ∷ front ++ rest
    by more true p is =
        let same : b ≡ c =
        grind (arith, nat_tests, p) in ap (λ (x : ℕ). x ∷ text) (sym same) ∙ ap (λ (xs : List ℕ). b ∷ xs) (more is)
    by more false p is = absurd (cc)

-- the end of a text that ends with a line feed
pub last-split : (b : ℕ) (bytes : List ℕ) → (front : List ℕ) × (z : ℕ) × (b ∷ bytes ≡ front ++ z ∷ [])
last-split b [] = ([], b, refl)
last-split b (c ∷ bytes) =
    let found = last-split c bytes in (b ∷ found.0, found.1, ap (λ (xs : List ℕ). b ∷ xs) found.2)

pub same-last : (xs ys : List ℕ) (x y : ℕ) → xs ++ x ∷ [] ≡ ys ++ y ∷ [] → x ≡ y
same-last [] [] x y is = cc
same-last [] (b ∷ ys) x y is = let none : [] ≡ ys ++ y ∷ [] = cc in absurd (not-empty ys y (sym none))
same-last (a ∷ xs) [] x y is = let none : xs ++ x ∷ [] ≡ [] = cc in absurd (not-empty xs x none)
same-last (a ∷ xs) (b ∷ ys) x y is = same-last xs ys x y cc

pub ends-too : (xs ys front : List ℕ) (b : ℕ) → xs ++ (b ∷ ys) ≡ front ++ 10 ∷ []
    → (rest : List ℕ) × (b ∷ ys ≡ rest ++ 10 ∷ [])
ends-too xs ys front b is =
    let found = last-split b ys in
    let whole : (xs ++ found.0) ++ found.1 ∷ [] ≡ front ++ 10 ∷ [] =
    append_assoc xs found.0 (found.1 ∷ []) ∙ ap (λ (zs : List ℕ). xs ++ zs) (sym found.2) ∙ is in
    let last : found.1 ≡ 10 = same-last (xs ++ found.0) front found.1 10 whole in
    (found.0, found.2 ∙ ap (λ (z : ℕ). found.0 ++ z ∷ []) last)

-- a text that ends with a line feed holds the first line of what begins with it
pub line-within : (line coming front more rest : List ℕ) → IsLineText line → coming ≡ front ++ 10 ∷ []
    → coming ++ more ≡ line ++ (10 ∷ rest)
    → (after : List ℕ) × (coming ≡ line ++ (10 ∷ after))
line-within [] [] front more rest text ends is = absurd (not-empty front 10 (sym ends))
line-within [] (c ∷ coming) front more rest text ends is =
    let head : c ≡ 10 = cc in (coming, ap (λ (b : ℕ). b ∷ coming) head)
line-within (b ∷ line) [] front more rest text ends is = absurd (not-empty front 10 (sym ends))
line-within (b ∷ line) (c ∷ coming) [] more rest text ends is =
    let first : c ≡ 10 = cc in
    let head : c ≡ b = cc in
    absurd (All-head (λ x. x ≢ 10) b line text (sym head ∙ first))
line-within (b ∷ line) (c ∷ coming) (d ∷ front) more rest text ends is =
    let head : c ≡ b = cc in
    let end : coming ≡ front ++ 10 ∷ [] = cc in
    let tail : coming ++ more ≡ line ++ (10 ∷ rest) = cc in
    let found = line-within line coming front more rest (All-tail (λ x. x ≢ 10) b line text) end tail in
    (found.0, ap (λ (x : ℕ). x ∷ coming) head ∙ ap (λ (xs : List ℕ). b ∷ xs) found.1)

-- nothing stands behind what is the whole
pub nothing-more : (xs ys : List ℕ) → xs ++ ys ≡ xs → ys ≡ []
nothing-more [] ys is = is
nothing-more (x ∷ xs) ys is = nothing-more xs ys cc

-- whether a text begins with a line and its line feed
pub line-begins : (line text : List ℕ) → take (length line) text ≡ line → get_or text (length line) 0 ≡ 10
    → length line < length text → text ≡ line ++ (10 ∷ drop (length line + 1) text)
line-begins line text front feed within =
    sym (take-append-drop (length line) text)
    ∙ ap₂ (λ (xs ys : List ℕ). xs ++ ys) front
    (drop_more text (length line) 0 within ∙ ap (λ (b : ℕ). b ∷ drop (length line + 1) text) feed)

pub behind-line : (line text : List ℕ) → take (length line) text ≡ line → get_or text (length line) 0 ≡ 10
    → length line < length text
    → behind (line ++ 10 ∷ []) text ≡ Some (drop (length line + 1) text)
behind-line line text front feed within =
    let rest = drop (length line + 1) text in
    ap (λ (bytes : List ℕ). behind (line ++ 10 ∷ []) bytes)
    (line-begins line text front feed within ∙ sym (append_assoc line (10 ∷ []) rest))
    ∙ behind-front (line ++ 10 ∷ []) rest

pub behind-none : (line text : List ℕ) → ((rest : List ℕ) → text ≢ line ++ (10 ∷ rest))
    → behind (line ++ 10 ∷ []) text ≡ None
behind-none line text other = by (behind (line ++ 10 ∷ []) text) refl
  where
    by : (found : Option (List ℕ)) → behind (line ++ 10 ∷ []) text ≡ found → found ≡ None
    by None is = refl
    by (Some rest) is =
        absurd (other rest (front-behind (line ++ 10 ∷ []) text rest is ∙ append_assoc line (10 ∷ []) rest))

-- what is so of a text that begins with a line
pub begun-length : (line text rest : List ℕ) → text ≡ line ++ (10 ∷ rest) → length line < length text
begun-length line text rest is = omega (arith, ap length is, length-append line (10 ∷ rest))

pub begun-feed : (line text rest : List ℕ) → text ≡ line ++ (10 ∷ rest) → get_or text (length line) 0 ≡ 10
begun-feed line text rest is =
    ap (λ (bytes : List ℕ). get_or bytes (length line) 0) is ∙ get_or-append_seam line 10 rest 0

pub begun-front : (line text rest : List ℕ) → text ≡ line ++ (10 ∷ rest) → take (length line) text ≡ line
begun-front line text rest is = ap (take (length line)) is ∙ take-append_seam line (10 ∷ rest)
