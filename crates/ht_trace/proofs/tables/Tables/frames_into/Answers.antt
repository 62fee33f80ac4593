use Rattle.std.proofs.Common.{◌≤◌, List, length, ap, arith, subst, sym}
use Rattle.std.specs.Prelude.{All}
use Rattle.std.proofs.lemmas.Result.{MatchResult-weaker}
use Rattle.ht_trace.specs.declared.frame.FrameAt.{FrameAt}
use Rattle.ht_trace.specs.IsFrame.{IsFrame}
use Rattle.ht_trace.specs.TableState.{TableState}
use Rattle.ht_trace.proofs.SoundLemmas.{some-stack-frame, stack-places}
use Rattle.ht_trace.proofs.tables.Tables.frames_into.Goals as goal

pub returns-clause-places : goal.returns-clause-places
returns-clause-places c =
    let table = c.self.inside in
    MatchResult-weaker c.replace_by_stack.result c.replace_by_stack.ensures.frames
    (λ done is.
    subst (λ (t : TableState). All (λ (at : FrameAt). IsFrame t at) c.replace_by_stack.new.out.items) c.self.view_is
    (rw is (stack-places table.instructions table.nodes c.args.stack)))
    (λ error all. all)

pub returns-clause-some_frame : goal.returns-clause-some_frame
returns-clause-some_frame c =
    let table = c.self.inside in
    let held = subst (λ (t : TableState). c.args.stack ≤ length t.nodes) (sym c.self.view_is) c.requires in
    MatchResult-weaker c.replace_by_stack.result c.replace_by_stack.ensures.frames
    (λ done is. let some = some-stack-frame table.version (length table.strings) table.instructions table.nodes
    table.infos c.args.stack c.self.invariant held in omega
    (arith, some, ap (λ (places : List FrameAt). length places) is))
    (λ error all. all)
