-- What a sort by cost and node gives.
use Rattle.std.proofs.Common.{◌≡◌, ◌≢◌, ℕ, ◌<◌, ◌==◌, inl, inr, Bool, false, cond, List, get_or, sym, ap, ◌∙◌, arith}
use Rattle.std.proofs.Common.{IsPermutation, Ordering, Less, Equal, Greater, is_lt, true≢false}
use Rattle.std.specs.Prelude.{AllPairs, nat_lt}
use Rattle.std.specs.Cmp.{IsTotalOrder}
use Rattle.std.specs.List.Sorted.{IsSortedBy}
use Rattle.std.specs.Ordering.{nat_cmp, ordering_then}
use Rattle.std.proofs.lemmas.Bool.{cases_eq, cases_lt, cond-false, cond-true, eq-eqb, lt-ltb, ne_eqb, le-ltb}
use Rattle.std.proofs.lemmas.Cmp.{back_total, nat_cmp_total, nat_eq_equiv, on_total, then_total}
use Rattle.std.proofs.lemmas.List.Sorted.{ranks_by, sorted_far}
use Rattle.std.proofs.lemmas.Map.Keys.{IsDistinct-IsPermutation, IsDistinct-from_apart, apart_from_distinct}
use Rattle.cost_tree.specs.declared.children.Child.{Child}
use Rattle.cost_tree.proofs.Orders.{IsBefore}

-- by descending cost, and then by ascending node
abbrev pub child_cmp : Child → Child → Ordering
child_cmp a b = ordering_then (nat_cmp b.cost a.cost) (nat_cmp a.node b.node)

child_cmp_total : IsTotalOrder child_cmp
child_cmp_total =
    then_total (back_total (on_total (λ (c : Child). c.cost) nat_cmp_total))
    (on_total (λ (c : Child). c.node) nat_cmp_total)

less-is : (x y : ℕ) → x < y → nat_cmp x y ≡ Less
less-is x y less = cond-true (nat_lt x y) Less (cond (x == y) Equal Greater) (lt-ltb x y less)

equal-is : (x y : ℕ) → x ≡ y → nat_cmp x y ≡ Equal
equal-is x y same =
    cond-false (nat_lt x y) Less (cond (x == y) Equal Greater) (le-ltb x y (omega arith))
    ∙ cond-true (x == y) Equal Greater (eq-eqb x y same)

-- one that doesn't come after another node comes before it
not-after : (a b : Child) → is_lt (child_cmp b a) ≡ false → a.node ≢ b.node → IsBefore a b
not-after a b above apart =
    elim (cases_lt a.cost b.cost) [
      | inl less ↦
          let is =
          ap (λ (o : Ordering). is_lt (ordering_then o (nat_cmp b.node a.node))) (less-is a.cost b.cost less) in
          absurd (true≢false (sym is ∙ above))
      | inr more ↦ elim (cases_eq a.cost b.cost) [
        | inl same ↦ elim (cases_lt b.node a.node) [
          | inl lower ↦
              let is =
              ap (λ (o : Ordering). is_lt (ordering_then o (nat_cmp b.node a.node))) (equal-is a.cost b.cost same)
              ∙ ap (λ (o : Ordering). is_lt o) (less-is b.node a.node lower) in
              absurd (true≢false (sym is ∙ above))
          | inr higher ↦ elim (cases_eq a.node b.node) [
            | inl node ↦ absurd (apart node)
            | inr other ↦ inr (same, omega arith)
          ]
        ]
        | inr other ↦ inl (omega arith)
      ]
    ]

-- nodes that ascend are different, in any order
same_node : Child → Child → Bool
same_node a b = a.node == b.node

nodes-apart : (xs ys : List Child) → AllPairs (λ older younger. older.node < younger.node) xs → IsPermutation xs ys
    → AllPairs (λ a b. a.node ≢ b.node) ys
unfolding same_node
nodes-apart xs ys up moved =
    let before =
    IsDistinct-from_apart same_node xs
    (λ i j d first within. ne_eqb (get_or xs i d).node (get_or xs j d).node
    (λ is. let lower = up i j d first within in omega arith)) in
    let after = IsDistinct-IsPermutation same_node (λ a b. nat_eq_equiv.symm a.node b.node) xs ys moved before in
    λ i j d first within is. true≢false
    (sym (eq-eqb (get_or ys i d).node (get_or ys j d).node is)
    ∙ apart_from_distinct same_node ys i j d after first within)

pub before-sorted : (xs ys : List Child) → AllPairs (λ older younger. older.node < younger.node) xs
    → IsPermutation xs ys → IsSortedBy (λ a b. is_lt (child_cmp a b)) ys → AllPairs IsBefore ys
before-sorted xs ys up moved sorted =
    let apart = nodes-apart xs ys up moved in
    λ i j d first within.
    not-after (get_or ys i d) (get_or ys j d)
    (sorted_far (λ a b. is_lt (child_cmp a b)) (ranks_by child_cmp_total (λ (c : Child). c)) ys sorted i j d
    (omega arith) within)
    (apart i j d first within)
