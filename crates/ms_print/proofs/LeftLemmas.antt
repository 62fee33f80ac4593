-- Lemmas on what is left of a tree.
use Rattle.std.proofs.Common.{◌≡◌, ℕ, zero, suc, ◌+◌, ◌<◌, ◌≤◌, Bool, true, false, cond, eqb, List, [], ◌∷◌, ◌++◌}
use Rattle.std.proofs.Common.{length, take, reverse, Some, refl, sym, ap, ◌∙◌, subst, arith, append_assoc}
use Rattle.std.specs.Prelude.{All, codes, slice_get}
use Rattle.std.proofs.lemmas.Bool.Decides.{nat_tests}
use Rattle.std.proofs.lemmas.List.{append-nil, length-append, length-take, reverse-append, reverse-reverse, take_all}
use Rattle.std.proofs.lemmas.List.{take-append-le}
use Rattle.std.proofs.lemmas.List.Elements.{All-append, All-cons, All-nil}
use Rattle.massif_file.specs.TreeLine.{TreeLine}
use Rattle.massif_file.specs.Trees.{Trees, no_tree, a_tree}
use Rattle.ms_print.specs.declared.children.Pending.{Pending}
use Rattle.ms_print.specs.declared.entry.Scale.{Scale}
use Rattle.ms_print.specs.Pendings.{AreNested, AreRoots, IsHeld, bar_before, blank_below, entry_bytes, entry_children}
use Rattle.ms_print.specs.Pendings.{entry_label, left_text, pending_below, pending_line}
use Rattle.ms_print.specs.Ends.{children_at}
use Rattle.ms_print.specs.Entries.{entry_text}
use Rattle.ms_print.specs.Shown.{shown}
use Rattle.ms_print.specs.TreeText.{bar_to, entry_line, entries_text, lines_below, root_text}
use Rattle.ms_print.specs.TreesOf.{trees_of}
use Rattle.ms_print.proofs.TreesOfLemmas.{children-at, trees-at}

-- ---- fronts of prefixes

take-take : (i k : ℕ) (xs : List ℕ) → i ≤ k → take i (take k xs) ≡ take i xs
take-take zero k xs low = refl
take-take (suc i) zero xs low = absurd (omega arith)
take-take (suc i) (suc k) [] low = refl
take-take (suc i) (suc k) (x ∷ xs) low = ap (λ (ys : List ℕ). x ∷ ys) (take-take i k xs (omega arith))

-- two prefixes with the same front are the same for what stands in it
pub left-front : (scale : Scale) (lines : List TreeLine) (k : ℕ) (a b : List ℕ) → take k a ≡ take k b
    → (ps : List Pending) → AreNested k ps → left_text scale lines a ps ≡ left_text scale lines b ps
left-front scale lines k a b same [] nested = refl
left-front scale lines k a b same (p ∷ ps) nested =
    let low = nested.0 in
    let front : take p.indent a ≡ take p.indent b =
    sym (take-take p.indent k a low) ∙ ap (take p.indent) same ∙ take-take p.indent k b low in
    ap (λ (prefix : List ℕ). entry_line scale prefix (entry_bytes lines p.entry) (entry_label scale lines p.entry)
    ++ (pending_below scale lines (prefix ++ bar_before p.indent ps) p ++ left_text scale lines a ps)) front
    ∙ ap (λ (text : List ℕ). pending_line scale lines b p
    ++ (pending_below scale lines (take p.indent b ++ bar_before p.indent ps) p ++ text)) (left-front
    scale lines p.indent a b front ps nested.1)

-- ---- entries side by side

-- what is left behind them stands further to the left
abbrev pub IsLower : ℕ → List Pending → Type 0
IsLower indent [] = Unit {0}
IsLower indent (p ∷ ps) = p.indent < indent

bar-lower : (indent : ℕ) (ps : List Pending) → IsLower indent ps → bar_before indent ps ≡ codes "  "
bar-lower indent [] lower = refl
bar-lower indent (p ∷ ps) lower = ap (λ (b : Bool). cond b (codes "| ") (codes "  ")) (eqb-off p.indent indent lower)
  where
    eqb-off : (i j : ℕ) → i < j → eqb i j ≡ false
    eqb-off i j low = grind (arith, nat_tests)

bar-here : (indent : ℕ) (p : Pending) (ps : List Pending) → p.indent ≡ indent → bar_before indent (p ∷ ps) ≡ codes "| "
bar-here indent p ps same =
    ap (λ (b : Bool). cond b (codes "| ") (codes "  "))
    (let on : eqb p.indent indent ≡ true = grind (arith, nat_tests) in on)

bar-is : (scale : Scale) (lines : List TreeLine) (indent : ℕ) (cs ps : List Pending) (others : Trees)
    → AreRoots scale lines indent cs others → IsLower indent ps → bar_before indent (cs ++ ps) ≡ bar_to others
bar-is scale lines indent [] ps no_tree roots lower = bar-lower indent ps lower
bar-is scale lines indent [] ps (a_tree bytes label children others) roots lower = absurd roots
bar-is scale lines indent (c ∷ cs) ps no_tree roots lower = absurd roots
bar-is scale lines indent (c ∷ cs) ps (a_tree bytes label children others) roots lower =
    let root = roots.0 in bar-here indent c (cs ++ ps) root.indented

take-whole : (prefix : List ℕ) (k : ℕ) → k ≡ length prefix → take k prefix ≡ prefix
take-whole prefix k same = take_all k prefix (omega arith)

-- the text of entries side by side is that of their trees
pub left-roots : (scale : Scale) (lines : List TreeLine) (prefix : List ℕ) (indent : ℕ) → indent ≡ length prefix
    → (cs ps : List Pending) (trees : Trees) → AreRoots scale lines indent cs trees → IsLower indent ps
    → left_text scale lines prefix (cs ++ ps) ≡ entries_text scale prefix trees ++ left_text scale lines prefix ps
left-roots scale lines prefix indent same [] ps no_tree roots lower = refl
left-roots scale lines prefix indent same [] ps (a_tree bytes label children others) roots lower = absurd roots
left-roots scale lines prefix indent same (c ∷ cs) ps no_tree roots lower = absurd roots
left-roots scale lines prefix indent same (c ∷ cs) ps (a_tree bytes label children others) roots lower =
    let root = roots.0 in
    let here : take c.indent prefix ≡ prefix = take-whole prefix c.indent (root.indented ∙ same) in
    let bar : bar_before c.indent (cs ++ ps) ≡ bar_to others =
    ap (λ (i : ℕ). bar_before i (cs ++ ps)) root.indented ∙ bar-is scale lines indent cs ps others roots.1 lower in
    let line : pending_line scale lines prefix c ≡ entry_line scale prefix bytes label =
    ap (λ (p : List ℕ). entry_line scale p (entry_bytes lines c.entry) (entry_label scale lines c.entry)) here
    ∙ ap (λ (n : ℕ). entry_line scale prefix n (entry_label scale lines c.entry)) root.bytes_is
    ∙ ap (λ (text : List ℕ). entry_line scale prefix bytes text) root.label_is in
    let below : pending_below scale lines (take c.indent prefix ++ bar_before c.indent (cs ++ ps)) c
    ≡ lines_below children (prefix ++ bar_to others) (entries_text scale (prefix ++ bar_to others) children) =
    ap (λ (p : List ℕ). pending_below scale lines (p ++ bar_before c.indent (cs ++ ps)) c) here
    ∙ ap (λ (b : List ℕ). pending_below scale lines (prefix ++ b) c) bar
    ∙ ap (λ (t : Trees). lines_below t (prefix ++ bar_to others) (entries_text scale (prefix ++ bar_to others) t))
    root.children_is in
    ap (λ (text : List ℕ). text
    ++ (pending_below scale lines (take c.indent prefix ++ bar_before c.indent (cs ++ ps)) c
    ++ left_text scale lines prefix (cs ++ ps)))
    line
    ∙ ap (λ (text : List ℕ). entry_line scale prefix bytes label ++ (text ++ left_text scale lines prefix (cs ++ ps)))
    below
    ∙ ap (λ (text : List ℕ). entry_line scale prefix bytes label
    ++ (lines_below children (prefix ++ bar_to others) (entries_text scale (prefix ++ bar_to others) children) ++ text))
    (left-roots
    scale lines prefix indent same cs ps others roots.1 lower)
    ∙ apart (entry_line scale prefix bytes label)
    (lines_below children (prefix ++ bar_to others) (entries_text scale (prefix ++ bar_to others) children))
    (entries_text scale prefix others) (left_text scale lines prefix ps)
  where
    apart : (a b c d : List ℕ) → a ++ (b ++ (c ++ d)) ≡ (a ++ (b ++ c)) ++ d
    apart a b c d = simp append_assoc

-- ---- entries are held, nested and light

pub roots-held : (scale : Scale) (lines : List TreeLine) (indent : ℕ) (cs : List Pending) (trees : Trees)
    → AreRoots scale lines indent cs trees → All (λ p. IsHeld lines p.entry) cs
roots-held scale lines indent [] no_tree roots = All-nil (λ p. IsHeld lines p.entry)
roots-held scale lines indent [] (a_tree bytes label children others) roots = absurd roots
roots-held scale lines indent (c ∷ cs) no_tree roots = absurd roots
roots-held scale lines indent (c ∷ cs) (a_tree bytes label children others) roots =
    let root =
    roots.0 in All-cons (λ p. IsHeld lines p.entry) c cs root.held (roots-held scale lines indent cs others roots.1)

nested-weaker : (k m : ℕ) (ps : List Pending) → k ≤ m → AreNested k ps → AreNested m ps
nested-weaker k m [] low nested = tt
nested-weaker k m (p ∷ ps) low nested = let first = nested.0 in (omega arith, nested.1)

roots-nested : (scale : Scale) (lines : List TreeLine) (indent : ℕ) (cs ps : List Pending) (trees : Trees)
    → AreRoots scale lines indent cs trees → AreNested indent ps → AreNested indent (cs ++ ps)
roots-nested scale lines indent [] ps no_tree roots nested = nested
roots-nested scale lines indent [] ps (a_tree bytes label children others) roots nested = absurd roots
roots-nested scale lines indent (c ∷ cs) ps no_tree roots nested = absurd roots
roots-nested scale lines indent (c ∷ cs) ps (a_tree bytes label children others) roots nested =
    let root = roots.0 in
    let same = root.indented in (
      omega arith,
      subst (λ (i : ℕ). AreNested i (cs ++ ps)) (sym same)
          (roots-nested scale lines indent cs ps others roots.1 nested),
    )

-- how many entries trees have
abbrev pub size_of : Trees → ℕ
size_of no_tree = 0
size_of (a_tree bytes label children others) = suc (size_of children + size_of others)

-- how many entries are left of one, and of some
abbrev pub weight : Scale → List TreeLine → List Pending → ℕ
weight scale lines [] = 0
weight scale lines (p ∷ ps) = suc (size_of (entry_children scale lines p.entry) + weight scale lines ps)

pub roots-weight : (scale : Scale) (lines : List TreeLine) (indent : ℕ) (cs ps : List Pending) (trees : Trees)
    → AreRoots scale lines indent cs trees → weight scale lines (cs ++ ps) ≡ size_of trees + weight scale lines ps
roots-weight scale lines indent [] ps no_tree roots = omega arith
roots-weight scale lines indent [] ps (a_tree bytes label children others) roots = absurd roots
roots-weight scale lines indent (c ∷ cs) ps no_tree roots = absurd roots
roots-weight scale lines indent (c ∷ cs) ps (a_tree bytes label children others) roots =
    let root = roots.0 in
    let below = ap size_of root.children_is in
    let rest = roots-weight scale lines indent cs ps others roots.1 in
    omega arith

-- ---- one step

-- what holds of what is left: it is held and nested, and with what is written it is the whole
pub record IsLeft (scale : Scale) (lines : List TreeLine) (prefix : List ℕ) (ps : List Pending)
    (out whole : List ℕ) : Type 0 where
  pub held : All (λ p. IsHeld lines p.entry) ps
  pub nested : AreNested (length prefix) ps
  pub written : out ++ left_text scale lines prefix ps ≡ whole

lower-all : (indent most : ℕ) (ps : List Pending) → AreNested indent ps → indent < most → IsLower most ps
lower-all indent most [] nested low = tt
lower-all indent most (p ∷ ps) nested low = let first = nested.0 in omega arith

bar-two : (indent : ℕ) (ps : List Pending) → length (bar_before indent ps) ≡ 2
bar-two indent [] = refl
bar-two indent (p ∷ ps) = by (eqb p.indent indent)
  where
    by : (b : Bool) → length (cond b (codes "| ") (codes "  ")) ≡ 2
    by true = refl
    by false = refl

lines-blank : (trees : Trees) (prefix lines : List ℕ) → (trees ≡ no_tree → lines ≡ [])
    → lines_below trees prefix lines ≡ blank_below trees prefix ++ lines
lines-blank no_tree prefix lines none =
    sym (append-nil (prefix ++ codes "\n")) ∙ ap (λ (text : List ℕ). (prefix ++ codes "\n") ++ text) (sym (none refl))
lines-blank (a_tree bytes label children others) prefix lines none = refl

pub left-begin : (scale : Scale) (lines : List TreeLine) (cs : List Pending) (trees : Trees) (out : List ℕ)
    → AreRoots scale lines 0 cs trees → IsLeft scale lines [] cs out (out ++ entries_text scale [] trees)
left-begin scale lines cs trees out roots =
    let all = append-nil cs in
    record {
      held = roots-held scale lines 0 cs trees roots;
      nested = subst (AreNested 0) all (roots-nested scale lines 0 cs [] trees roots tt);
      written =
          ap (λ (ps : List Pending). out ++ left_text scale lines [] ps) (sym all)
          ∙ ap (λ (text : List ℕ). out ++ text) (left-roots scale lines [] 0 refl cs [] trees roots tt)
          ∙ ap (λ (text : List ℕ). out ++ text) (append-nil (entries_text scale [] trees));
    }

-- the first one is held, and the others
pub All-uncons : {X : Type 0} (P : X → Type 0) (x : X) (xs : List X) → All P (x ∷ xs) → P x × All P xs
All-uncons P x xs all = (all 0 x (omega arith), λ k d within. all (suc k) d (omega arith))

pub left-step : (scale : Scale) (lines : List TreeLine) (prefix : List ℕ) (next : Pending) (ps cs : List Pending)
    (out lined blanked whole after : List ℕ)
    → IsLeft scale lines prefix (next ∷ ps) out whole
    → after ≡ take next.indent prefix ++ bar_before next.indent ps
    → lined
    ≡ out
    ++ entry_line scale (take next.indent prefix) (entry_bytes lines next.entry) (entry_label scale lines next.entry)
    → blanked ≡ lined ++ blank_below (entry_children scale lines next.entry) after
    → AreRoots scale lines (length after) cs (entry_children scale lines next.entry)
    → IsLeft scale lines after (cs ++ ps) blanked whole
left-step scale lines prefix next ps cs out lined blanked whole after left after_is lined_is blanked_is roots =
    record {
      held =
          All-append (λ p. IsHeld lines p.entry) cs ps (roots-held scale lines (length after) cs trees roots)
          ((All-uncons (λ p. IsHeld lines p.entry) next ps left.held).1);
      nested =
          roots-nested scale lines (length after) cs ps trees roots
          (nested-weaker next.indent (length after) ps (omega (arith, after_len)) nested.1);
      written =
          ap (λ (text : List ℕ). blanked ++ text)
          (left-roots scale lines after (length after) refl cs ps trees roots
          (lower-all next.indent (length after) ps nested.1 (omega (arith, after_len))))
          ∙ ap (λ (text : List ℕ). text ++ (entries_text scale after trees ++ left_text scale lines after ps))
          (blanked_is ∙ ap (λ (text : List ℕ). text ++ blank_below trees after) lined_is)
          ∙ apart out line (blank_below trees after) (entries_text scale after trees) (left_text scale lines after ps)
          ∙ ap (λ (text : List ℕ). out ++ (line ++ (text ++ left_text scale lines after ps)))
          (sym (lines-blank trees after (entries_text scale after trees) (λ none. ap (entries_text scale after) none)))
          ∙ ap (λ (text : List ℕ). out ++ (line ++ (lines_below trees after (entries_text scale after trees) ++ text)))
          (left-front scale lines next.indent after prefix front ps nested.1)
          ∙ ap
          (λ (p : List ℕ). out
          ++ (line ++ (lines_below trees p (entries_text scale p trees) ++ left_text scale lines prefix ps)))
          after_is
          ∙ left.written;
    }
  where
    trees : Trees
    trees = entry_children scale lines next.entry

    line : List ℕ
    line =
        entry_line scale (take next.indent prefix) (entry_bytes lines next.entry) (entry_label scale lines next.entry)

    nested : AreNested (length prefix) (next ∷ ps)
    nested = left.nested

    front_len : length (take next.indent prefix) ≡ next.indent
    front_len = let low = nested.0 in omega (arith, length-take next.indent prefix)

    after_len : length after ≡ next.indent + 2
    after_len =
        ap length after_is ∙ length-append (take next.indent prefix) (bar_before next.indent ps)
        ∙ (let bar = bar-two next.indent ps in let front_is = front_len in omega arith)

    front : take next.indent after ≡ take next.indent prefix
    front =
        ap (take next.indent) after_is
        ∙ take-append-le next.indent (take next.indent prefix) (bar_before next.indent ps)
        (let same = front_len in omega arith)
        ∙ take-take next.indent next.indent prefix (omega arith)

    apart : (a b c d e : List ℕ) → ((a ++ b) ++ c) ++ (d ++ e) ≡ a ++ (b ++ ((c ++ d) ++ e))
    apart a b c d e = simp append_assoc

-- and it is lighter
pub left-lighter : (scale : Scale) (lines : List TreeLine) (indent : ℕ) (next : Pending) (ps cs : List Pending)
    → AreRoots scale lines indent cs (entry_children scale lines next.entry)
    → weight scale lines (cs ++ ps) < weight scale lines (next ∷ ps)
left-lighter scale lines indent next ps cs roots =
    let same = roots-weight scale lines indent cs ps (entry_children scale lines next.entry) roots in omega arith

-- an entry that has children has no blank line below
pub roots-blank : (scale : Scale) (lines : List TreeLine) (indent : ℕ) (cs : List Pending) (trees : Trees)
    (prefix : List ℕ)
    → AreRoots scale lines indent cs trees → 0 < length cs → blank_below trees prefix ≡ []
roots-blank scale lines indent [] trees prefix roots some = absurd (omega arith)
roots-blank scale lines indent (c ∷ cs) no_tree prefix roots some = absurd roots
roots-blank scale lines indent (c ∷ cs) (a_tree bytes label children others) prefix roots some = refl

-- and one that has none has one
pub roots-none : (scale : Scale) (lines : List TreeLine) (indent : ℕ) (cs : List Pending) (trees : Trees)
    (prefix : List ℕ)
    → AreRoots scale lines indent cs trees → length cs ≡ 0 → blank_below trees prefix ≡ prefix ++ codes "\n"
roots-none scale lines indent [] no_tree prefix roots none = refl
roots-none scale lines indent [] (a_tree bytes label children others) prefix roots none = absurd roots
roots-none scale lines indent (c ∷ cs) trees prefix roots none = absurd (omega arith)

-- the last entry that is pending is the next one
pub next-first : (scale : Scale) (lines : List TreeLine) (pending rest : List Pending) (next : Pending)
    → pending ≡ rest ++ next ∷ [] → reverse pending ≡ next ∷ reverse rest
next-first scale lines pending rest next parts =
    ap (λ (ps : List Pending). reverse ps) parts ∙ reverse-append rest (next ∷ [])

-- and its children come before all others
pub children-first : (old new children : List Pending) → new ≡ old ++ reverse children
    → reverse new ≡ children ++ reverse old
children-first old new children more =
    ap (λ (ps : List Pending). reverse ps) more
    ∙ reverse-append old (reverse children)
    ∙ ap (λ (ps : List Pending). ps ++ reverse old) (reverse-reverse children)

-- the tree from its root on
pub root-is : (scale : Scale) (lines : List TreeLine) (root : TreeLine) → slice_get lines 0 ≡ Some root
    → root_text scale (trees_of lines)
    ≡ entry_text scale root.bytes root.label
    ++ (codes "\n" ++ entries_text scale [] (shown scale (children_at lines 0)))
root-is scale lines root held =
    ap (root_text scale) (trees-at lines 0 root held)
    ∙ ap (λ (trees : Trees). entry_text scale root.bytes root.label
    ++ (codes "\n" ++ entries_text scale [] (shown scale trees))) (sym
    (children-at lines 0 root held))
