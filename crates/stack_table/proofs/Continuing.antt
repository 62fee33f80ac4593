-- Lemmas on lists of nodes that grow.
use Rattle.std.proofs.Common.{◌≡◌, ℕ, List, [], ◌∷◌, ◌++◌, length, take, drop, refl, sym, ap, ◌∙◌, arith, subst}
use Rattle.std.proofs.Common.{append_assoc, append-nil, length-append}
use Rattle.std.proofs.lemmas.List.{take-append-drop}
use Rattle.std.proofs.Math.Seq.{take-append_seam}
use Rattle.stack_table.specs.Continues.{Continues}
use Rattle.stack_table.specs.Node.{Node}
use Rattle.stack_table.proofs.NodeNumbers.{number-is, number-shared}
use Rattle.stack_table.proofs.Stacks.{frame_count-older, node_at-older, stack-older}

-- a list continues itself
pub Continues-refl : (nodes : List Node) → Continues nodes nodes
Continues-refl nodes = record {
  grown = ([], sym (append-nil nodes));
  held = omega arith;
  nodes = λ n held. refl;
  stacks = λ n held. refl;
  frame_counts = λ n held. refl;
  numbers = λ ip parent n is. is;
}

-- what continues a list that continues another continues that one
pub Continues-trans : (first second third : List Node) → Continues first second → Continues second third
    → Continues first third
Continues-trans first second third one two = record {
  grown = (
    one.grown.0 ++ two.grown.0,
    two.grown.1 ∙ ap (λ (nodes : List Node). nodes ++ two.grown.0) one.grown.1
        ∙ append_assoc first one.grown.0 two.grown.0,
  );
  held = omega (arith, one.held, two.held);
  nodes = λ n held. two.nodes n (omega (arith, one.held)) ∙ one.nodes n held;
  stacks = λ n held. two.stacks n (omega (arith, one.held)) ∙ one.stacks n held;
  frame_counts = λ n held. two.frame_counts n (omega (arith, one.held)) ∙ one.frame_counts n held;
  numbers = λ ip parent n is. two.numbers ip parent n (one.numbers ip parent n is);
}

-- a list with one more node
pub Continues-push : (nodes : List Node) (node : Node) → Continues nodes (nodes ++ node ∷ [])
Continues-push nodes node =
    let count = length-append nodes (node ∷ []) in
    record {
      grown = (node ∷ [], refl);
      held = omega arith;
      nodes = λ n held. node_at-older nodes node n held;
      stacks = λ n held. stack-older nodes node n held;
      frame_counts = λ n held. frame_count-older nodes node n held;
      numbers = λ ip parent n is.
          let number = number-is nodes ip parent n is in
          number-shared nodes (nodes ++ node ∷ []) (length nodes) ip parent n
          (λ m held. node_at-older nodes node m held) number.within is;
    }

-- a list with more nodes
pub Continues-append : (nodes more : List Node) → Continues nodes (nodes ++ more)
Continues-append nodes [] =
    subst (λ (new : List Node). Continues nodes new) (sym (append-nil nodes)) (Continues-refl nodes)
Continues-append nodes (node ∷ more) =
    subst (λ (new : List Node). Continues nodes new) (append_assoc nodes (node ∷ []) more)
    (Continues-trans nodes (nodes ++ node ∷ []) ((nodes ++ node ∷ []) ++ more) (Continues-push nodes node)
    (Continues-append (nodes ++ node ∷ []) more))

-- a list is continued by the one that it was taken from
pub Continues-take : (len : ℕ) (nodes : List Node) → Continues (take len nodes) nodes
Continues-take len nodes =
    subst (λ (new : List Node). Continues (take len nodes) new) (take-append-drop len nodes)
    (Continues-append (take len nodes) (drop len nodes))

-- the list that is continued stands at the front
pub take-continued : (old new : List Node) (len : ℕ) → Continues old new → len ≡ length old → take len new ≡ old
take-continued old new len continues is = rw (is, continues.grown.1) (take-append_seam old continues.grown.0)
