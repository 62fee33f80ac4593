-- Lemmas on a list's way up along a shape.
use Rattle.std.proofs.Common.{◌≡◌, ◌≢◌, ℕ, zero, suc, ◌+◌, ◌-◌, ◌<◌, ◌≤◌, inl, inr, List, [], ◌∷◌, ◌++◌, length, take}
use Rattle.std.proofs.Common.{get_or, set, Some, sym, ap, ◌∙◌, subst, arith}
use Rattle.std.specs.Prelude.{slice_get, slice_index}
use Rattle.std.proofs.lemmas.List.{length-take-le, length_push, take-append-le, take-take, take_all}
use Rattle.std.proofs.lemmas.Option.{none-some, same_Some, slice_get_within, slice_get-get_or, get_or_from_slice_get}
use Rattle.cost_tree.specs.declared.edge.Edge.{Edge}
use Rattle.cost_tree.specs.Shapes.{AreSteps, list_at, next_front, numbers_of}
use Rattle.cost_tree.specs.Paths.{IsOnPath, IsPath}
use Rattle.cost_tree.proofs.Lists.{get-push_cases, get-push_old, get-set_other}

-- a node that has no number isn't node 0
pub above-root : (numbered : List ℕ) (node : ℕ) → slice_index numbered 0 ≡ 1 → slice_index numbered node ≡ 0 → 0 < node
above-root numbered zero root none = absurd (omega arith)
above-root numbered (suc node) root none = omega arith

pub free-above : (numbered : List ℕ) (node : ℕ) → slice_index numbered 0 ≡ 1 → slice_get numbered node ≡ Some 0
    → 0 < node
free-above numbered node root free = above-root numbered node root (get_or_from_slice_get numbered node 0 0 free)

-- the way begins at the list's end
pub IsPath-start : (edges : List Edge) (numbered path : List ℕ) (end : ℕ)
    → AreSteps (λ number. number) edges (numbers_of edges) → end ≤ length edges → path ≡ []
    → IsPath edges numbered (list_at edges end) path end
IsPath-start edges numbered path end are within empty =
    let list : List ℕ = list_at edges end in
    let P : List ℕ → Type 0 = λ way. IsPath edges numbered list way end in
    subst P (sym empty) (record {
      short = omega arith;
      front =
          slice_get-get_or (numbers_of edges) end [] (omega (arith, are.count))
          ∙ ap (λ (ns : List ℕ). Some ns) (sym (take_all (length list - 0) list (omega arith)));
      each = λ place node at. absurd (none-some node at);
    })

-- a node's edge on it, and the node above
pub IsPath-step : (edges : List Edge) (numbered list path : List ℕ) (node : ℕ) (edge : Edge)
    → AreSteps (λ number. number) edges (numbers_of edges) → IsPath edges numbered list path node
    → slice_get numbered node ≡ Some 0 → 0 < node → slice_get edges (node - 1) ≡ Some edge
    → IsPath edges numbered list (path ++ node ∷ []) edge.parent
IsPath-step edges numbered list path zero edge are way free above at = absurd (omega arith)
IsPath-step edges numbered list path (suc place) edge are way free above at =
    let lists : List (List ℕ) = numbers_of edges in
    let back : suc place - 1 ≡ place = omega arith in
    let next : place + 1 ≡ suc place = omega arith in
    let E : ℕ → Type 0 = λ k. slice_get edges k ≡ Some edge in
    let step = are.step place edge (subst E back at) in
    let F : ℕ → Type 0 = λ k. slice_get lists k ≡ Some (next_front (λ number. number) lists edge) in
    let start : List ℕ = get_or lists edge.parent [] in
    let left : ℕ = length list - length path in
    let same : start ++ edge.text ∷ [] ≡ take left list =
    same_Some (start ++ edge.text ∷ []) (take left list) (sym (subst F next step.front) ∙ way.front) in
    let short = way.short in
    let long = length_push start edge.text in
    let counts = ap (λ (ns : List ℕ). length ns) same in
    let cut = length-take-le left list (omega arith) in
    let more = length_push path (suc place) in
    let inside = slice_get_within edges (suc place - 1) edge at in
    let shorter : start ≡ take (length start) list =
    sym (take_all (length start) start (omega arith))
    ∙ sym (take-append-le (length start) start (edge.text ∷ []) (omega arith))
    ∙ ap (λ (ns : List ℕ). take (length start) ns) same
    ∙ take-take (length start) left list (omega arith) in
    let count : length start ≡ length list - length (path ++ suc place ∷ []) = omega arith in
    record {
      short = omega arith;
      front = slice_get-get_or lists edge.parent [] (omega (arith, are.count, step.earlier))
          ∙ ap (λ (ns : List ℕ). Some ns) (shorter ∙ ap (λ (k : ℕ). take k list) count);
      each = λ k node found. elim (get-push_cases path (suc place) k node found) [
        | inl old ↦ way.each k node old
        | inr last ↦
            let O : ℕ → Type 0 = λ m. IsOnPath edges numbered list m node in
            let N : ℕ → Type 0 = λ m. IsOnPath edges numbered list (length path) m in
            subst O (sym last.0) (subst N (sym last.1) (record { front = way.front; free = free }))
      ];
    }

-- the parent stands before
pub parent-before : (edges : List Edge) (lists : List (List ℕ)) (node : ℕ) (edge : Edge)
    → AreSteps (λ number. number) edges lists → 0 < node → slice_get edges (node - 1) ≡ Some edge → edge.parent < node
parent-before edges lists node edge are above at = let step = are.step (node - 1) edge at in omega (arith, step.earlier)

-- what is left of a way: its places, the last of which is next
pub record IsLeft (edges : List Edge) (numbered list path : List ℕ) : Type 0 where
  pub short : length path ≤ length list
  pub each : (place node : ℕ) → slice_get path place ≡ Some node → IsOnPath edges numbered list place node

-- and it stays where its next node gets a number
pub IsLeft-set : (edges : List Edge) (numbered list path : List ℕ) (node n : ℕ)
    → IsLeft edges numbered list (path ++ node ∷ []) → IsOnPath edges numbered list (length path) node
    → IsLeft edges (set numbered node n) list path
IsLeft-set edges numbered list path node n left here =
    let more = length_push path node in
    let short = left.short in
    record {
      short = omega arith;
      each = λ place other at.
          let inside = slice_get_within path place other at in
          let old = left.each place other (get-push_old path node place other at) in
          record {
            front = old.front;
            free = get-set_other numbered node other n (apart place other inside old) ∙ old.free;
          };
    }
  where
    apart : (place other : ℕ) → place < length path → IsOnPath edges numbered list place other → other ≢ node
    apart place other inside old same =
        let fronts =
        same_Some (take (length list - place) list) (take (length list - length path) list)
        (sym old.front ∙ ap (λ (k : ℕ). slice_get (numbers_of edges) k) same ∙ here.front) in
        let counts = ap (λ (ns : List ℕ). length ns) fronts in
        let one = length-take-le (length list - place) list (omega arith) in
        let two = length-take-le (length list - length path) list (omega arith) in
        let more = length_push path node in
        let short = left.short in
        absurd (omega arith)

-- a way stands at nodes of the shape
pub node-within : (edges : List Edge) (numbered list path : List ℕ) (node : ℕ)
    → AreSteps (λ number. number) edges (numbers_of edges) → IsPath edges numbered list path node → node ≤ length edges
node-within edges numbered list path node are way =
    let inside = slice_get_within (numbers_of edges) node (take (length list - length path) list) way.front in
    omega (arith, are.count)
