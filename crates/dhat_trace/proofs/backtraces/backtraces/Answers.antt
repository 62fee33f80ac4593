use Rattle.std.proofs.Common.{◌+◌, List, length, map, subst, arith}
use Rattle.std.proofs.lemmas.List.{take_all}
use Rattle.std.proofs.lemmas.List.Elements.{All-nil}
use Rattle.dhat_trace.specs.declared.points.CalledStack.{CalledStack}
use Rattle.dhat_trace.specs.Backtraces.{AreBacktraces}
use Rattle.dhat_trace.specs.FrameTable.{frame_texts, table_of}
use Rattle.dhat_trace.proofs.BacktraceLemmas.{next_backtraces}
use Rattle.dhat_trace.proofs.KnownLemmas.{none_known}
use Rattle.dhat_trace.proofs.backtraces.backtraces.Goals as goal

pub each_stack-init : goal.each_stack-init
unfolding table_of
each_stack-init c =
    let tables = c.args.tables.now in
    record {
      known = c.requires.known;
      are = record {
        table_is = c.requires.root;
        told_are =
            none_known (frame_texts tables) (length tables.nodes + 1) c.args.table.now.texts c.in_ok-told.told
            (omega (arith, c.in_ok-told.ensures.count, c.stacks.ensures)) c.in_ok-told.ensures.empty;
        all = All-nil _;
      };
    }

pub each_stack-preserved : goal.each_stack-preserved
each_stack-preserved c = record {
  known = c.in_ok-tell_stack.ensures.known;
  are =
      next_backtraces c.args.tables.now c.args.stacks.now c.each_stack.called-index _ c.each_stack.table.texts
      c.tell_stack.new.table.texts c.each_stack.told c.tell_stack.new.told
      (omega arith) c.each_stack.invariant.are c.in_ok-tell_stack.ensures.added c.in_ok-tell_stack.ensures.told;
}

pub returns : goal.returns
returns c =
    subst (λ (stacks : List CalledStack). AreBacktraces c.args.tables.now (map (λ (s : CalledStack). s.stack) stacks)
    c.each_stack.table.texts c.each_stack.told)
    (take_all c.each_stack.called-index c.args.stacks.now (omega arith)) c.each_stack.invariant.are
