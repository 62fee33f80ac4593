use Rattle.std.proofs.Common.{◌≡◌, ◌⊎◌, ℕ, List, inl, inr, length, sym, ap, ◌∙◌}
use Rattle.std.specs.Prelude.{slice_index}
use Rattle.std.proofs.lemmas.Result.{IfOk-weaker}
use Rattle.cost_tree.specs.Costed.{costed}
use Rattle.massif_cull.specs.declared.snapshot.Kind.{Kind}
use Rattle.massif_cull.specs.declared.snapshot.Kind.TheVariants.{Detailed, Peak}
use Rattle.massif_file.specs.TreeLine.{TreeLine}
use Rattle.massif_tree.specs.FunctionLists.{trimmed_before}
use Rattle.massif_tree.specs.MassifTree.{massif_tree}
use Rattle.cost_history.specs.ReplayState.{ReplayState}
use Rattle.cost_history.specs.declared.change.Change.{Change}
use Rattle.massif_sample.specs.Padded.{told}
use Rattle.massif_sample.specs.Snapshots.{tree_of}
use Rattle.massif_sample.proofs.AtPlace.{padded-told}
use Rattle.massif_sample.proofs.profile.shown_tree.Goals as goal

-- a detailed snapshot and the peak show the tree
is-shown : (kind : Kind) (tree : List TreeLine) → (kind ≡ Detailed) ⊎ (kind ≡ Peak) → tree ≡ tree_of kind tree
is-shown kind tree (inl is) = sym (ap (λ (k : Kind). tree_of k tree) is)
is-shown kind tree (inr is) = sym (ap (λ (k : Kind). tree_of k tree) is)

pub returns-in-Detailed : goal.returns-in-Detailed
returns-in-Detailed c =
    let same = ap (λ (r : ReplayState). r.changes) c.move_to.ensures.rest in
    record {
      tree = IfOk-weaker c.place_tree.result _ _
          (λ lines is tables names are.
          is tables names are
          ∙ ap (λ (cs : List ℕ). massif_tree c.args.options.now c.args.entry.now.total
          (costed (trimmed_before tables names (length c.args.fronts.now.whole)) cs))
          (padded-told (length c.args.fronts.now.whole) c.costs.result.now c.move_to.new.self.changes
          c.args.entry.now.place
          (λ stack. ap (λ (xs : List ℕ). slice_index xs stack) c.costs.ensures ∙ c.move_to.ensures.costs stack)
          ∙ ap (λ (cs : List Change). told (length c.args.fronts.now.whole) cs c.args.entry.now.place) same)
          ∙ is-shown c.args.entry.now.kind _ c.in-Detailed.is)
          c.place_tree.ensures.lines;
      changes = same;
      whole = c.place_tree.ensures.whole;
    }
