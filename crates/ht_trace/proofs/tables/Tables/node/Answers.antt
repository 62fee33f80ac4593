use Rattle.std.proofs.Common.{◌≡◌, ◌≤◌, ◌++◌, ℕ, List, length, refl, subst, arith}
use Rattle.std.specs.List.{AllByRecursion}
use Rattle.ht_trace.specs.StackFrames.{frames_of, outer_frames, stack_frames}
use Rattle.ht_trace.specs.TableState.{TableState}
use Rattle.ht_trace.proofs.SoundLemmas.{some-frames-of}
use Rattle.ht_trace.proofs.StackLemmas.{node-frames}
use Rattle.ht_trace.proofs.tables.Tables.node.Goals as goal

pub returns-clause-frames : goal.returns-clause-frames
returns-clause-frames c =
    let table = c.self.inside in
    let found = c.in_ok-instruction in
    subst (λ (t : TableState). stack_frames t.instructions t.nodes c.args.n
    ≡ frames_of t.instructions found.instruction ++ outer_frames t.instructions t.nodes found.parent) c.self.view_is
    (node-frames table.instructions table.nodes c.args.n found.instruction found.parent
    (omega (arith, found.ensures.lower_parent)) found.ensures.stack)

pub returns-clause-some_frame : goal.returns-clause-some_frame
returns-clause-some_frame c =
    let table = c.self.inside in
    let own = c.self.invariant.stacks c.args.n (c.in_ok-instruction.ensures.found.0 refl).1 in
    let held =
    (subst (λ (ips : List ℕ). AllByRecursion (λ k. k ≤ length table.instructions) ips)
    c.in_ok-instruction.ensures.stack own.held).0 in
    subst (λ (t : TableState). 1 ≤ length (frames_of t.instructions c.in_ok-instruction.instruction)) c.self.view_is
    (some-frames-of (length table.strings) table.instructions c.in_ok-instruction.instruction c.self.invariant.named
    held)
