use Rattle.std.proofs.Common.{◌≡◌, ℕ, ◌+◌, ◌<◌, List, length, replicate, get_or, sym, ap, ◌∙◌, arith, rules}
use Rattle.std.proofs.lemmas.List.{length-replicate, length-set}
use Rattle.std.proofs.lemmas.List.Elements.{All-get_or}
use Rattle.std.proofs.lemmas.Grind.{get_or_default_zero}
use Rattle.cost_tree.proofs.Lengthening.{ended-room, ended-set, ended-start, zeros-none}
use Rattle.cost_tree.proofs.ends.ended_costs_into.Goals as goal
use Rattle.cost_tree.proofs.ends.ended_costs_into.Goals.{After-index_mut}

pub each_list-init : goal.each_list-init
each_list-init c =
    let zeros : c.resize.new.self.items ≡ replicate c.args.nodes 0 = search rules in
    record {
      count = ap (λ (ns : List ℕ). length ns) zeros ∙ length-replicate c.args.nodes 0;
      sums = λ node within. zeros-none c.resize.new.self.items c.args.nodes node zeros within ∙ sym (ended-start node);
    }

-- the node where the list ends is held, and what is read there is what the earlier ones cost that end there
end-held : (c : After-index_mut) → get_or c.args.ends.now c.each_list.list 0 < c.args.nodes
end-held c =
    All-get_or (λ (e : ℕ). e < c.args.nodes) c.args.ends.now c.each_list.list 0 c.each_list-test.true c.requires.held

end-read : (c : After-index_mut)
    → c.index_mut.result.now ≡ get_or c.each_list.sums.items (get_or c.args.ends.now c.each_list.list 0) 0
end-read c =
    let count = c.each_list.invariant.count in
    let held = end-held c in
    c.index_mut.ensures.value
    ∙ get_or_default_zero c.each_list.sums.items (get_or c.args.ends.now c.each_list.list 0) c.index_mut.result.now
    (omega arith)

pub overflow_add-index_mut : goal.overflow_add-index_mut
overflow_add-index_mut c =
    let shared = (goal.at.overflow_add-index_mut c).After-index_mut in
    let value = end-read shared in
    let is = c.each_list.invariant.sums (get_or c.args.ends.now c.each_list.list 0) (end-held shared) in
    let room =
    ended-room c.args.ends.now c.args.costs.now c.each_list.list c.requires.as_many c.each_list-test.true in
    let bound = c.requires.bound in
    omega arith

pub each_list-preserved : goal.each_list-preserved
each_list-preserved c =
    let shared = (goal.at.each_list-preserved c).After-index_mut in
    let i = c.each_list.list in
    let ends = c.args.ends.now in
    let costs = c.args.costs.now in
    let sums = c.each_list.sums.items in
    let held = end-held shared in
    let count = c.each_list.invariant.count in
    record {
      count = length-set sums (get_or ends i 0) (c.index_mut.result.now + get_or costs i 0) ∙ count;
      sums =
          λ node within. ended-set sums ends costs i c.index_mut.result.now c.requires.as_many c.each_list-test.true
          (omega arith) (end-read shared)
          (λ n inside. c.each_list.invariant.sums n (omega arith)) node (omega arith);
    }
