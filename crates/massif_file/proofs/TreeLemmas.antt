-- Lines whose levels follow from the counts are those of one tree, and the other way.
use Rattle.std.proofs.Common.{◌≡◌, ℕ, zero, suc, ◌+◌, ◌-◌, ◌<◌, ◌≤◌, List, [], ◌∷◌, ◌++◌, length, refl, sym, ap, subst}
use Rattle.std.proofs.Common.{◌∙◌, append_assoc, arith}
use Rattle.std.proofs.lemmas.List.{append-nil}
use Rattle.massif_file.specs.TreeLine.{TreeLine}
use Rattle.massif_file.specs.Leads.{Leads}
use Rattle.massif_file.specs.Levels.{without_done, after_line}
use Rattle.massif_file.specs.Trees.{Trees, no_tree, a_tree, count_of, levels_of, lines_of, IsTree}

-- lines after lines
Leads-append : (a : List ℕ) (xs : List TreeLine) (b : List ℕ) (ys : List TreeLine) (c : List ℕ) → Leads a xs b
    → Leads b ys c → Leads a (xs ++ ys) c
Leads-append a [] b ys c h k = subst (λ (l : List ℕ). Leads l ys c) (sym h) k
Leads-append a (x ∷ xs) b ys c h k = (h.0, h.1, Leads-append (after_line x.children a) xs b ys c h.2 k)

-- ---- from a tree

-- the lines of trees side by side, with further ones to come at their level
leads_trees : (t : Trees) (m : ℕ) (outer : List ℕ) → levels_of t + length outer ≤ 257
    → Leads (without_done ((count_of t + m) ∷ outer)) (lines_of t) (without_done (m ∷ outer))
leads_trees no_tree m outer few = ap (λ (k : ℕ). without_done (k ∷ outer)) {x = 0 + m} {y = m} (omega arith)
leads_trees (a_tree bytes label children others) m outer few =
    let n : ℕ = count_of others + m in
    let first : suc (count_of others) + m ≡ suc n = omega arith in
    let inner : Leads (without_done ((count_of children + 0) ∷ n ∷ outer)) (lines_of children)
    (without_done (n ∷ outer)) = leads_trees children 0 (n ∷ outer) (omega arith) in
    let begun : without_done ((count_of children + 0) ∷ n ∷ outer) ≡ after_line (count_of children) (suc n ∷ outer) =
    ap (λ (k : ℕ). without_done (k ∷ n ∷ outer)) {x = count_of children + 0} {y = count_of children} (omega arith)
    ∙ ap (λ (k : ℕ). without_done (count_of children ∷ k ∷ outer)) {x = n} {y = suc n - 1} (omega arith) in
    let beside = leads_trees others m outer (omega arith) in
    subst (λ (k : ℕ). Leads (without_done (k ∷ outer)) (lines_of (a_tree bytes label children others))
    (without_done (m ∷ outer))) (sym
    first) (
      omega arith,
      omega arith,
      Leads-append (after_line (count_of children) (suc n ∷ outer)) (lines_of children) (without_done (n ∷ outer))
          (lines_of others) (without_done (m ∷ outer))
          (subst (λ (l : List ℕ). Leads l (lines_of children) (without_done (n ∷ outer))) begun inner) beside,
    )

-- the lines of a tree lead from its root to nothing
pub leads_tree : (lines : List TreeLine) → IsTree lines → Leads (1 ∷ []) lines []
leads_tree lines h =
    let one : Leads (without_done ((count_of h.tree + 0) ∷ [])) (lines_of h.tree) [] =
    leads_trees h.tree 0 [] (omega (arith, h.levels)) in
    let count : count_of h.tree + 0 ≡ 1 = omega (arith, h.one) in
    subst (λ (ls : List TreeLine). Leads (1 ∷ []) ls []) (sym h.same)
    (subst (λ (k : ℕ). Leads (without_done (k ∷ [])) (lines_of h.tree) []) count one)

-- ---- to a tree

-- the lines are trees of so many roots at each level that is open
abbrev Forests : List ℕ → List TreeLine → Type 0
Forests [] lines = lines ≡ []
Forests (k ∷ outer) lines =
    (t : Trees) × (rest : List TreeLine) × (count_of t ≡ k) × (levels_of t + length outer ≤ 257)
    × (lines ≡ lines_of t ++ rest) × Forests outer rest

-- no tree stands at a level where none is to come
done_forests : (levels : List ℕ) (lines : List TreeLine) → length levels ≤ 258 → Forests (without_done levels) lines
    → Forests levels lines
done_forests [] lines few h = h
done_forests (zero ∷ outer) lines few h =
    (no_tree, lines, refl, omega arith, refl, done_forests outer lines (omega arith) h)
done_forests (suc n ∷ outer) lines few h = h

-- at the innermost level a line is to come
abbrev IsReady : List ℕ → Type 0
IsReady [] = Unit {0}
IsReady (n ∷ outer) = 0 < n

-- which is so once the others are ended
ready : (levels : List ℕ) → IsReady (without_done levels)
ready [] = tt
ready (zero ∷ outer) = ready outer
ready (suc n ∷ outer) = omega arith

-- a root before the trees below it and beside it
rooted : (n : ℕ) (outer : List ℕ) (line : TreeLine) (lines : List TreeLine) → 0 < n
    → Forests (line.children ∷ (n - 1) ∷ outer) lines → Forests (n ∷ outer) (line ∷ lines)
rooted n outer line lines some h =
    let below = h.0 in
    let rest = h.1 in
    let next = h.5 in
    let beside = next.0 in
    let root : TreeLine = record { children = count_of below; bytes = line.bytes; label = line.label } in
    let same : line ≡ root =
    ap (λ (c : ℕ). record { children = c; bytes = line.bytes; label = line.label }) (sym h.2) in
    let parts : lines ≡ (lines_of below ++ lines_of beside) ++ next.1 =
    h.4 ∙ ap (λ (ls : List TreeLine). lines_of below ++ ls) next.4
    ∙ sym (append_assoc (lines_of below) (lines_of beside) next.1) in (
      a_tree line.bytes line.label below beside,
      next.1,
      omega (arith, next.2),
      omega (arith, h.3, next.3),
      ap (λ (l : TreeLine). l ∷ lines) same ∙ ap (λ (ls : List TreeLine). root ∷ ls) parts,
      next.5,
    )

-- lines that lead to nothing are trees at each open level
forests : (before : List ℕ) (lines : List TreeLine) → IsReady before → Leads before lines [] → Forests before lines
forests before [] ready_before h = subst (λ (l : List ℕ). Forests l []) (sym h) refl
forests [] (line ∷ lines) ready_before h = absurd (omega (arith, h.0))
forests (n ∷ outer) (line ∷ lines) ready_before h =
    rooted n outer line lines ready_before
    (done_forests (line.children ∷ (n - 1) ∷ outer) lines (omega (arith, h.1))
    (forests (after_line line.children (n ∷ outer)) lines (ready (line.children ∷ (n - 1) ∷ outer)) h.2))

-- lines that lead from one root to nothing are a tree
pub tree_leads : (lines : List TreeLine) → Leads (1 ∷ []) lines [] → IsTree lines
tree_leads lines h =
    let f : Forests (1 ∷ []) lines = forests (1 ∷ []) lines (omega arith) h in
    record {
      tree = f.0;
      one = f.2;
      levels = omega (arith, f.3);
      same = f.4 ∙ ap (λ (ls : List TreeLine). lines_of f.0 ++ ls) f.5 ∙ append-nil (lines_of f.0);
    }
