use Rattle.std.proofs.Common.{sym, arith, ◌∙◌}
use Rattle.stack_table.proofs.Stacks.{frame_count-zero}
use Rattle.stack_table.proofs.EntryLemmas.{read}
use Rattle.stack_table.proofs.nodes.Nodes.frames_of.Goals as goal

pub returns-then-n-eq0-clause-frames : goal.returns-then-n-eq0-clause-frames
returns-then-n-eq0-clause-frames c = rw c.if-n-eq0.true (sym (frame_count-zero c.args.self.now))

pub returns-clause-frames : goal.returns-clause-frames
returns-clause-frames c =
    let reads =
    read c.self.inside.entries.items c.args.self.now c.args.n c.index.result.now c.self.invariant.0 c.self.view_is
    (omega arith) c.requires c.index.ensures in
    c.from.ensures ∙ reads.depth

pub returns-clause-few : goal.returns-clause-few
returns-clause-few c =
    let reads =
    read c.self.inside.entries.items c.args.self.now c.args.n c.index.result.now c.self.invariant.0 c.self.view_is
    (omega arith) c.requires c.index.ensures in
    rw c.from.ensures reads.few_frames
