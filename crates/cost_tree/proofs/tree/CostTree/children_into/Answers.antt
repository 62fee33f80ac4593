use Rattle.std.proofs.Common.{ℕ, ◌<◌, List, ◌++◌, sym, ap, ◌∙◌, subst}
use Rattle.std.specs.Prelude.{AllPairs, Contains}
use Rattle.std.proofs.lemmas.Result.{on_ok_weaker}
use Rattle.cost_tree.specs.Children.{children_of}
use Rattle.cost_tree.proofs.Linking.{children_of-ordered, children_of-all, children_of-only}
use Rattle.cost_tree.proofs.tree.CostTree.children_into.Goals as goal

pub returns-clause-all : goal.returns-clause-all
returns-clause-all c =
    let nodes = c.args.self.now.nodes in
    let cleared = ap (λ (xs : List ℕ). xs ++ children_of nodes c.args.n) c.clear.ensures.items in
    on_ok_weaker c.push_children.result (λ is. λ m node above at parent.
    let P : List ℕ → Type 0 = λ xs. Contains xs m in
    subst P (sym (is ∙ cleared)) (children_of-all nodes c.args.n m node above at parent))
    c.push_children.ensures.children

pub returns-clause-only : goal.returns-clause-only
returns-clause-only c =
    let nodes = c.args.self.now.nodes in
    let cleared = ap (λ (xs : List ℕ). xs ++ children_of nodes c.args.n) c.clear.ensures.items in
    on_ok_weaker c.push_children.result (λ is. λ m held.
    let P : List ℕ → Type 0 = λ xs. Contains xs m in
    children_of-only nodes c.args.n m (subst P (is ∙ cleared) held))
    c.push_children.ensures.children

pub returns-clause-order : goal.returns-clause-order
returns-clause-order c =
    let nodes = c.args.self.now.nodes in
    let cleared = ap (λ (xs : List ℕ). xs ++ children_of nodes c.args.n) c.clear.ensures.items in
    on_ok_weaker c.push_children.result (λ is.
    let P : List ℕ → Type 0 = λ xs. AllPairs (λ older younger. older < younger) xs in
    subst P (sym (is ∙ cleared)) (children_of-ordered nodes c.args.n))
    c.push_children.ensures.children
