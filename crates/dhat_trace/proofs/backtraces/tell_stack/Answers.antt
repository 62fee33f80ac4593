use Rattle.std.proofs.Common.{ℕ, ◌-◌, List, drop, take, ap, arith}
use Rattle.std.proofs.lemmas.Result.{on_ok_weaker}
use Rattle.dhat_trace.proofs.SegmentLemmas.{inwards_first, inwards_last, inwards_more}
use Rattle.dhat_trace.proofs.backtraces.tell_stack.Goals as goal

pub inwards-init : goal.inwards-init
inwards-init c =
    inwards_first c.args.tables.now c.args.stack c.args.table.now.texts c.args.told.now c.gather.new.self.texts
    c.gather.new.places.items c.len-end.result c.in_ok-next.next c.gather.new.segments.items
    (omega arith) c.in_ok-next.ensures.next c.requires.told c.in_ok-next.ensures.gathered

pub inwards-preserved-then-segment-end : goal.inwards-preserved-then-segment-end
inwards-preserved-then-segment-end c =
    let segment = c.in-Some.segment in
    inwards_more c.args.tables.now c.args.stack c.args.told.now c.gather.new.self.texts c.inwards.told c.set.new.self
    c.gather.new.places.items _ c.inwards.end c.inwards.next
    c.inwards.segments.items c.pop.new.self.items segment c.in-Some.ensures.items (omega (arith, c.if-segment-end.true))
    (ap (λ (places : List ℕ). take (c.inwards.end - segment.start) (drop segment.start places)) c.deref.ensures.value)
    c.in_ok-set.ensures c.inwards.invariant

pub returns-clause-told : goal.returns-clause-told
returns-clause-told c =
    on_ok_weaker c.set-2.result
    (λ is. inwards_last c.args.tables.now c.args.stack c.args.table.now.texts c.args.told.now c.gather.new.self.texts
    c.inwards.told c.set-2.new.self c.gather.new.places.items _ c.inwards.end
    c.inwards.next c.inwards.segments.items c.requires.held c.in_ok-next.ensures.gathered.added.keeps
    (ap (take c.inwards.end) c.deref-2.ensures.value) is c.inwards.invariant)
    c.set-2.ensures
