-- How the text of a profile grows, piece by piece.
use Rattle.std.proofs.Common.{◌≡◌, ℕ, zero, suc, ◌+◌, ◌-◌, ◌<◌, ◌≤◌, List, [], ◌∷◌, ◌++◌, length, get_or, drop, take}
use Rattle.std.proofs.Common.{replicate, set, arith, refl, sym, ap, ◌∙◌, append_assoc, add-one, drop-cons, length-take}
use Rattle.std.proofs.lemmas.Grind.{drop-set_at}
use Rattle.std.proofs.lemmas.List.{drop-append-le, drop-replicate, length-take-le, take-append-drop, take_all}
use Rattle.massif_file.specs.TreeLine.{TreeLine}
use Rattle.massif_file.specs.declared.profile.Snap.{Snap}
use Rattle.massif_file.specs.Blanks.{blanks}
use Rattle.massif_file.specs.Levels.{after_line}
use Rattle.massif_file.specs.MassifText.{text_of, node_text, tree_lines, snap_lines, snaps_lines}
use Rattle.std.proofs.Math.Seq.{take-append_seam}
use Rattle.std.proofs.lemmas.List.{take-take}

-- so many blanks
blanks_are : (n : ℕ) → replicate n 32 ≡ blanks n
blanks_are zero = refl
blanks_are (suc n) = ap (λ (bs : List ℕ). 32 ∷ bs) (blanks_are n)

-- a text that is filled up with them
pub blanks_behind : (out : List ℕ) (len n : ℕ) → len ≡ length out
    → take (len + n) out ++ replicate (len + n - len) 32 ≡ out ++ blanks n
blanks_behind out len n all =
    ap (λ (k : ℕ). take (len + n) out ++ replicate k 32) {x = len + n - len} {y = n} (omega arith)
    ∙ ap (λ (t : List ℕ). t ++ replicate n 32) (take_all (len + n) out (omega arith))
    ∙ ap (λ (t : List ℕ). out ++ t) (blanks_are n)

-- the text of lines after lines
text_of_append : (xs ys : List (List ℕ)) → text_of (xs ++ ys) ≡ text_of xs ++ text_of ys
text_of_append [] ys = refl
text_of_append (x ∷ xs) ys =
    ap (λ (t : List ℕ). x ++ (10 ∷ t)) (text_of_append xs ys) ∙ sym (append_assoc x (10 ∷ text_of xs) (text_of ys))

-- Of a text that is to follow, the front is written.
pub goes_on : (out next old front text rest whole : List ℕ) → next ≡ out ++ front → text ≡ front ++ rest
    → out ++ text ≡ old ++ whole → next ++ rest ≡ old ++ whole
goes_on out next old front text rest whole written parts all =
    ap (λ (t : List ℕ). t ++ rest) written ∙ append_assoc out front rest ∙ ap (λ (t : List ℕ). out ++ t) (sym parts)
    ∙ all

-- the text of the snapshots from one on begins with its own
pub snaps_step : (n : ℕ) (snaps : List Snap) (snap : Snap) → n < length snaps → snap ≡ get_or snaps n snap
    → text_of (snaps_lines n (drop n snaps))
    ≡ text_of (snap_lines n snap) ++ text_of (snaps_lines (n + 1) (drop (n + 1) snaps))
snaps_step n snaps snap lt e =
    let d : drop n snaps ≡ snap ∷ drop (suc n) snaps =
    drop-cons snaps n snap lt ∙ ap (λ (s : Snap). s ∷ drop (suc n) snaps) (sym e) in
    ap (λ (ss : List Snap). text_of (snaps_lines n ss)) d
    ∙ text_of_append (snap_lines n snap) (snaps_lines (suc n) (drop (suc n) snaps))
    ∙ ap (λ (k : ℕ). text_of (snap_lines n snap) ++ text_of (snaps_lines k (drop k snaps))) (sym (add-one n))

-- a line feed and the text of the lines of a tree from one on begin with the line feed and its own line
pub tree_step : (i : ℕ) (levels : List ℕ) (lines : List TreeLine) (line : TreeLine) → i < length lines
    → line ≡ get_or lines i line
    → 10 ∷ text_of (tree_lines levels (drop i lines))
    ≡ (10 ∷ (blanks (length levels - 1) ++ node_text line))
    ++ (10 ∷ text_of (tree_lines (after_line line.children levels) (drop (i + 1) lines)))
tree_step i levels lines line lt e =
    let d : drop i lines ≡ line ∷ drop (suc i) lines =
    drop-cons lines i line lt ∙ ap (λ (l : TreeLine). l ∷ drop (suc i) lines) (sym e) in
    ap (λ (ls : List TreeLine). 10 ∷ text_of (tree_lines levels ls)) d
    ∙ ap (λ (k : ℕ). (10 ∷ (blanks (length levels - 1) ++ node_text line))
    ++ (10 ∷ text_of (tree_lines (after_line line.children levels) (drop k lines)))) (sym
    (add-one i))

-- a line feed and blanks before what stands at the end of a text that has only blanks before it
pub front_is : (text : List ℕ) (head level : ℕ) → level < head → head ≤ length text → take head text ≡ replicate head 32
    → drop (head - level - 1) (set text (head - level - 1) 10) ≡ 10 ∷ (blanks level ++ drop head text)
front_is text head level below within blank =
    let start : ℕ = head - level - 1 in
    let before = ap length blank in
    let all : take head text ++ drop head text ≡ text = take-append-drop head text in
    drop-set_at text start start 10 (omega arith) (omega arith)
    ∙ ap (λ (k : ℕ). 10 ∷ drop k text) {x = start + 1} {y = head - level} (omega arith)
    ∙ ap (λ (t : List ℕ). 10 ∷ drop (head - level) t) (sym all)
    ∙ ap (λ (t : List ℕ). 10 ∷ t)
    (drop-append-le (head - level) (take head text) (drop head text) (omega (arith, length-take-le head text within)))
    ∙ ap (λ (t : List ℕ). 10 ∷ (drop (head - level) t ++ drop head text)) blank
    ∙ ap (λ (t : List ℕ). 10 ∷ (t ++ drop head text))
    (drop-replicate (head - level) head 32
    ∙ ap (λ (k : ℕ). replicate k 32) {x = head - (head - level)} {y = level} (omega arith) ∙ blanks_are level)

-- pieces that were written one after another
pub chain_2 : (o p q a b : List ℕ) → p ≡ o ++ a → q ≡ p ++ b → q ≡ o ++ (a ++ b)
chain_2 o p q a b e f = f ∙ ap (λ (t : List ℕ). t ++ b) e ∙ append_assoc o a b

-- lines that were written one after another
pub text_2 : (o p q : List ℕ) (ls ms : List (List ℕ)) → p ≡ o ++ text_of ls → q ≡ p ++ text_of ms
    → q ≡ o ++ text_of (ls ++ ms)
text_2 o p q ls ms e f =
    chain_2 o p q (text_of ls) (text_of ms) e f ∙ ap (λ (t : List ℕ). o ++ t) (sym (text_of_append ls ms))

-- three pieces
pub text_3 : (o p q r : List ℕ) (ls ms ns : List (List ℕ)) → p ≡ o ++ text_of ls → q ≡ p ++ text_of ms
    → r ≡ q ++ text_of ns → r ≡ o ++ text_of (ls ++ (ms ++ ns))
text_3 o p q r ls ms ns e f g = text_2 o p r ls (ms ++ ns) e (text_2 p q r ms ns f g)

-- four pieces
pub text_4 : (o p q r s : List ℕ) (ls ms ns ds : List (List ℕ)) → p ≡ o ++ text_of ls → q ≡ p ++ text_of ms
    → r ≡ q ++ text_of ns → s ≡ r ++ text_of ds → s ≡ o ++ text_of (ls ++ (ms ++ (ns ++ ds)))
text_4 o p q r s ls ms ns ds e f g h = text_2 o p s ls (ms ++ (ns ++ ds)) e (text_3 p q r s ms ns ds f g h)

-- what stood at the front stays there behind a piece, and behind a call that keeps what it finds
pub kept_more : (n : ℕ) (out piece next : List ℕ) → n ≡ length out → next ≡ out ++ piece → take n next ≡ out
kept_more n out piece next long is =
    ap (take n) is ∙ ap (λ (m : ℕ). take m (out ++ piece)) long ∙ take-append_seam out piece

pub kept_on : (n m : ℕ) (out next last : List ℕ) → n ≡ length out → m ≡ length next → take n next ≡ out
    → take m last ≡ next → take n last ≡ out
kept_on n m out next last long longer first second =
    let within : n ≤ m = omega (arith, long, longer, ap length first, length-take n next) in
    sym (take-take n m last within) ∙ ap (take n) second ∙ first
