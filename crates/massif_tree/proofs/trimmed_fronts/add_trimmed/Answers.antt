use Rattle.std.proofs.Common.{◌≡◌, ℕ, ◌+◌, Bool, List, [], ◌∷◌, ◌++◌, length, sym, ap, ◌∙◌, arith}
use Rattle.massif_tree.specs.FirstLists.{first_lists, first_texts}
use Rattle.massif_tree.proofs.Trimming.{first-more, whole-more}
use Rattle.massif_tree.proofs.trimmed_fronts.add_trimmed.Goals as goal

pub each_stack-preserved : goal.each_stack-preserved
each_stack-preserved g c =
    let before = c.each_stack.invariant.count in
    let one = c.in_ok-is_whole.ensures.added.count in
    record {
      count = omega arith;
      within = omega arith;
      whole = λ names are.
          whole-more c.args.tables.now names c.each_stack.stack c.each_stack.buffers.whole.items c.push.new.self.items
          c.in_ok-is_whole.is_whole
          (c.in_ok-push.ensures.items
          ∙ ap (λ (flags : List Bool). flags ++ c.in_ok-is_whole.is_whole ∷ []) c.in_ok-is_whole.ensures.kept)
          (c.each_stack.invariant.whole names are) (λ whole. c.in_ok-is_whole.ensures.whole whole names are);
      lists = λ names are was.
          let tables = c.args.tables.now in
          let most = c.args.options.now.depth + 1 in
          let place : c.each_stack.stack ≡ length c.each_stack.fronts = sym before in
          let lists = c.each_stack.invariant.lists names are was in
          first-more tables names most (length c.each_stack.fronts) c.each_stack.fronts c.add_stack.new.fronts lists
          (c.in_ok-is_whole.ensures.added.added names are (lists ∙ ap (first_lists tables names most) before)
          ∙ ap (λ (n : ℕ). c.each_stack.fronts ++ first_texts tables names most n ∷ []) place)
          ∙ ap (first_lists tables names most) (sym one);
    }
