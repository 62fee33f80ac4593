use Rattle.std.proofs.Common.{◌≡◌, ℕ, ◌-◌, inl, inr, List, [], ◌∷◌, ◌++◌, Some, length, get_or, refl, sym, ap, ◌∙◌}
use Rattle.std.proofs.Common.{arith}
use Rattle.std.specs.Prelude.{slice_get, slice_index}
use Rattle.std.proofs.lemmas.Bool.{cases_lt}
use Rattle.std.proofs.lemmas.Option.{get_or_from_slice_get, slice_get-get_or}
use Rattle.cost_tree.specs.declared.edge.Edge.{Edge}
use Rattle.cost_tree.specs.CostLines.{last_of}
use Rattle.cost_tree.specs.HeldNames.{names_in}
use Rattle.cost_tree.specs.NodeLinks.{texts_in}
use Rattle.cost_tree.specs.Texts.{fronts_of, text_of}
use Rattle.cost_tree.specs.TreeLines.{front_at}
use Rattle.cost_tree.specs.TreeState.{TreeState}
use Rattle.cost_tree.specs.View.{edges_of}
use Rattle.cost_tree.proofs.Beside.{text-beside}
use Rattle.cost_tree.proofs.Laws.{last-push}
use Rattle.cost_tree.proofs.Trees.{last-text}
use Rattle.cost_tree.proofs.tree.CostTree.text_number.Goals as goal

-- no text has the number 0
no-text : (names : List (List ℕ)) → text_of names 0 ≡ []
unfolding text_of
no-text names = refl

pub returns : goal.returns
returns c =
    let tree = c.self.inside in
    let names : List (List ℕ) = names_in tree.names in
    let edges : List Edge = edges_of tree in
    let fronts : List (List (List ℕ)) = fronts_of names edges in
    let n : ℕ = c.args.n in
    let beside = c.self.invariant.links.beside in
    let branches = c.self.invariant.branches in
    let no_edge : Edge = record { parent = 0; text = 0 } in
    let edge : Edge = get_or edges (n - 1) no_edge in
    let count = ap (λ (t : TreeState). length t.nodes) c.self.view_is in
    let nodes_count = branches.nodes_count in
    let held = c.requires.held in
    let named : text_of c.args.self.now.names c.text.result
    ≡ text_of names (slice_index (texts_in tree.links.links.items) n) =
    ap (λ (t : TreeState). text_of t.names c.text.result) (sym c.self.view_is)
    ∙ ap (λ (k : ℕ). text_of names k) c.text.ensures in
    let front_is : last_of (get_or fronts n []) ≡ last_of (front_at c.args.self.now n) =
    ap (λ (t : TreeState). last_of (front_at t n)) c.self.view_is in
    record {
      number = named
          ∙ elim (cases_lt 0 n) [
            | inl above ↦
                let at : slice_get edges (n - 1) ≡ Some edge = slice_get-get_or edges (n - 1) no_edge (omega arith) in
                let last =
                last-text names edges tree.nodes.items n (n - 1) edge (text_of names edge.text) branches above
                (omega arith) refl (sym at) refl in
                ap (λ (k : ℕ). text_of names k)
                (text-beside edges tree.nodes.items tree.links.links.items n no_edge beside above (omega arith))
                ∙ sym
                (ap last_of (get_or_from_slice_get fronts n (last.0 ++ text_of names edge.text ∷ []) [] last.1)
                ∙ last-push last.0 (text_of names edge.text))
            | inr below ↦
                let root : n ≡ 0 = omega arith in
                ap (λ (k : ℕ). text_of names (slice_index (texts_in tree.links.links.items) k)) root
                ∙ ap (λ (ks : List ℕ). text_of names (slice_index ks 0)) beside.texts
                ∙ no-text names
                ∙ sym
                (ap (λ (k : ℕ). last_of (get_or fronts k [])) root
                ∙ ap last_of (get_or_from_slice_get fronts 0 [] [] branches.steps.root))
          ]
          ∙ front_is;
    }
