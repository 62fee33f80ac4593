use Rattle.std.proofs.Common.{◌≡◌, ℕ, ◌+◌, List, length, ap, sym, subst, arith}
use Rattle.massif_tree.specs.declared.options.TreeOptions.{TreeOptions}
use Rattle.massif_tree.specs.FirstLists.{first_lists}
use Rattle.massif_sample.specs.View.{state_of}
use Rattle.massif_sample.proofs.Sampling.{sampling-fronts}
use Rattle.massif_sample.proofs.Trees.{both_ok}
use Rattle.massif_sample.proofs.samples.Samples.add_fronts.Goals as goal

pub returns-clause-sampling : goal.returns-clause-sampling
returns-clause-sampling g c =
    let inside = c.self.inside in
    let asked = rw (← c.self.view_is) at c.tree_options-options.ensures in
    let same : c.tree_options-options.result.depth ≡ inside.options.depth = ap (λ (o : TreeOptions). o.depth) asked in
    rw (← c.self.view_is)
    (both_ok c.add_trimmed.result
    (λ count lists names events made texts was.
    let tables = c.args.tables.now in
    let are : List (List (List ℕ)) → ℕ → Type 0 =
    λ fronts depth. fronts ≡ first_lists tables names.alloc_fns (depth + 1) (length fronts) in
    sampling-fronts (state_of inside.options inside.running inside.array inside.failed inside.fronts inside.history)
    c.add_trimmed.new.fronts
    names tables events made
    (record {
      held = omega arith;
      are =
          subst (are c.add_trimmed.new.fronts) same
          (lists names.alloc_fns texts (subst (are inside.fronts) (sym same) was.fronts.are));
    })
    (let held = was.fronts.held in omega arith) was)
    c.add_trimmed.ensures.count c.add_trimmed.ensures.lists)
