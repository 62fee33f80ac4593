use Rattle.std.proofs.Common.{List, subst, sym}
use Rattle.cost_tree.specs.declared.list_step.ListStep.{ListStep}
use Rattle.cost_tree.specs.Told.{AreTold}
use Rattle.cost_tree.proofs.caller_lists.CallerLists.fronts.Goals as goal

pub shape_of-shape-requires : goal.shape_of-shape-requires
shape_of-shape-requires c =
    record {
      told = (
        c.self.inside.names,
        subst (λ (ss : List ListStep). AreTold c.self.inside.names ss) (sym c.deref.ensures.value) c.self.invariant,
      );
    }
