-- The stacks that allocated.
use Rattle.std.proofs.Common.{◌≡◌, ℕ, ◌+◌, ◌<◌, ◌≤◌, ltb, Bool, List, ◌++◌, map, ap, ◌∙◌, sym, subst, arith}
use Rattle.std.specs.Prelude.{All, filter}
use Rattle.std.specs.List.{range_with_len}
use Rattle.std.proofs.lemmas.List.{map-append, map-id}
use Rattle.std.proofs.lemmas.List.Elements.{All-filter, All-map}
use Rattle.std.proofs.lemmas.List.FromFn.{filter_of_map_range_with_len_more, get_or-range_with_len}
use Rattle.std.proofs.lemmas.List.FromFn.{length-range_with_len}
use Rattle.std.proofs.lemmas.Simd.{map-map}
use Rattle.ht_trace.specs.TableState.{TableState}
use Rattle.dhat_trace.specs.declared.points.CalledStack.{CalledStack}
use Rattle.dhat_trace.specs.declared.points.PointFigures.{PointFigures}
use Rattle.dhat_trace.specs.Backtraces.{AreBacktraces}
use Rattle.dhat_trace.specs.Points.{called, called_with, if_called}

-- those of one stack more
pub called_more : (figures : ℕ → PointFigures) (count : ℕ)
    → called figures (count + 1) ≡ called figures count ++ if_called figures count
unfolding called
called_more figures count =
    let p : ℕ → Bool = λ stack. ltb 0 (figures stack).tbk in
    let all : (n : ℕ) → map (λ (k : ℕ). k) (range_with_len 0 n) ≡ range_with_len 0 n =
    λ n. map-id (range_with_len 0 n) in
    ap (filter p) (sym (all (count + 1))) ∙ (filter_of_map_range_with_len_more p (λ k. k) 0 count count (omega arith)
    ∙ ap (λ (front : List ℕ). filter p front ++ if_called figures count) (all count))

-- with their figures
pub called_with_more : (figures : ℕ → PointFigures) (count : ℕ) (stacks more : List CalledStack)
    → stacks ≡ called_with figures (called figures count)
    → more ≡ stacks ++ called_with figures (if_called figures count)
    → more ≡ called_with figures (called figures (count + 1))
called_with_more figures count stacks more are appended =
    appended ∙ ap (λ (front : List CalledStack). front ++ called_with figures (if_called figures count)) are
    ∙ sym (map-append (λ (stack : ℕ). record { stack = stack; figures = figures stack }) (called figures count)
    (if_called figures count))
    ∙ ap (called_with figures) (sym (called_more figures count))

-- their numbers
pub called_numbers : (figures : ℕ → PointFigures) (stacks : List ℕ)
    → map (λ (c : CalledStack). c.stack) (called_with figures stacks) ≡ stacks
called_numbers figures stacks =
    map-map (λ (c : CalledStack). c.stack) (λ (stack : ℕ). record { stack = stack; figures = figures stack }) stacks
    ∙ map-id stacks

-- none is above the others that there are
called_below : (figures : ℕ → PointFigures) (count : ℕ) → All (λ stack. stack < count) (called figures count)
unfolding called
called_below figures count =
    All-filter _ (λ stack. stack < count) (range_with_len 0 count)
    (λ k d within.
    let inside : k < count = omega (arith, within, length-range_with_len 0 count) in
    let is = get_or-range_with_len 0 count k d inside in
    omega (arith, inside, is))

pub called_held : (figures : ℕ → PointFigures) (count nodes : ℕ) → count ≡ nodes + 1
    → All (λ (c : CalledStack). c.stack ≤ nodes) (called_with figures (called figures count))
called_held figures count nodes is =
    All-map (λ (c : CalledStack). c.stack ≤ nodes) (λ (stack : ℕ). record { stack = stack; figures = figures stack })
    (called figures count)
    (λ k d within. let below = called_below figures count k d within in omega (arith, below, is))

-- what is told of these stacks is told of those that allocated
pub all_told : (tables : TableState) (figures : ℕ → PointFigures) (count : ℕ) (items : List CalledStack)
    (table told : List (List ℕ))
    → items ≡ called_with figures (called figures count)
    → AreBacktraces tables (map (λ (c : CalledStack). c.stack) items) table told
    → AreBacktraces tables (called figures count) table told
all_told tables figures count items table told are by_items =
    subst (λ (stacks : List ℕ). AreBacktraces tables stacks table told)
    (ap (map (λ (c : CalledStack). c.stack)) are ∙ called_numbers figures (called figures count)) by_items
