use Rattle.std.proofs.Common.{◌≡◌, rules, List, [], ◌∷◌, ◌++◌, Some, sym, subst, append-nil, append_assoc}
use Rattle.std.proofs.lemmas.List.Elements.{All-pop}
use Rattle.cost_tree.specs.declared.line.CostLine.{CostLine}
use Rattle.cost_tree.specs.declared.lines.Pending.{Pending}
use Rattle.cost_tree.specs.Pendings.{IsPending, pending_below, pending_line}
use Rattle.cost_tree.specs.TreeLines.{IsPlace}
use Rattle.cost_tree.specs.WalkLines.{IsWalking}
use Rattle.cost_tree.proofs.Walks.{IsStep, left-smaller, step-is, weight}
use Rattle.cost_tree.proofs.Walking.{walking-all, walking-line, walking-next}
use Rattle.cost_tree.proofs.lines.take_left.Goals as goal
use Rattle.cost_tree.proofs.lines.take_left.Given.{Over}
use Rattle.cost_tree.proofs.lines.take_left.Goals.{In-Some}

pub each_pending-init : goal.each_pending-init
each_pending-init g c = (
  [],
  (λ lines was. subst (λ (ls : List CostLine). IsWalking c.args.scale c.args.tree.now ls c.args.pending.now.items)
      (sym (append-nil lines)) was),
  (λ first lines took. subst
      (λ (ls : List CostLine). g.T.CostLineTaker.takes c.args.tree.now first ls c.args.taker.now)
      (sym (append-nil lines)) took),
)

-- the walk so far
walk : (g : Over) (c : In-Some g)
    → IsWalking c.args.scale c.args.tree.now (c.requires.walking.0 ++ c.each_pending.invariant.0)
    c.each_pending.pending.items
walk g c = c.each_pending.invariant.1 c.requires.walking.0 c.requires.walking.1

held : (g : Over) (c : In-Some g) → IsPending c.args.tree.now c.in-Some.next
held g c =
    (All-pop (IsPending c.args.tree.now) c.each_pending.pending.items c.pop.new.self.items (Some c.in-Some.next)
    c.in-Some.ensures.items (walk g c).held).1

-- what is taken from what is pending
step : (g : Over) (c : In-Some g)
    → IsStep c.args.scale c.args.tree.now c.requires.tree.0 c.requires.tree.1 c.in-Some.next
step g c =
    step-is c.args.scale c.args.tree.now c.requires.tree.0 c.requires.tree.1 c.in-Some.next c.requires.tree.2 (held g c)

pub take_pending-requires-clause-pending : goal.take_pending-requires-clause-pending
take_pending-requires-clause-pending g c = held g (goal.at.take_pending-requires-clause-pending g c).In-Some

pub take_pending-requires-clause-within : goal.take_pending-requires-clause-within
take_pending-requires-clause-within g c = (step g (goal.at.take_pending-requires-clause-within g c).In-Some).within

pub take_pending-requires-clause-few : goal.take_pending-requires-clause-few
take_pending-requires-clause-few g c = (step g (goal.at.take_pending-requires-clause-few g c).In-Some).few

pub take_line-requires-clause-place : goal.take_line-requires-clause-place
take_line-requires-clause-place g c =
    let shared = (goal.at.take_line-requires-clause-place g c).In-Some in
    let line =
    walking-line c.args.scale c.args.tree.now (c.requires.walking.0 ++ c.each_pending.invariant.0)
    c.each_pending.pending.items c.pop.new.self.items c.in-Some.next (walk g shared) c.in-Some.ensures.items
    c.requires.tree.0 c.requires.tree.1 c.requires.tree.2 in
    subst (λ (it : CostLine). IsPlace c.args.tree.now it.place) (sym c.in_ok-line.ensures.line) line.place

pub each_pending-smaller : goal.each_pending-smaller
each_pending-smaller g c =
    let tree = c.args.tree.now in
    left-smaller (weight tree) c.each_pending.pending.items c.pop.new.self.items c.take_pending.new.pending.items
    (pending_below c.args.scale tree c.in-Some.next) c.in-Some.next
    c.in-Some.ensures.items c.in_ok-line.ensures.below (step g (goal.at.each_pending-smaller g c).In-Some).lighter

pub each_pending-preserved : goal.each_pending-preserved
each_pending-preserved g c =
    let scale = c.args.scale in
    let tree = c.args.tree.now in
    let next = c.in-Some.next in
    let rest : List CostLine = c.each_pending.invariant.0 in
    let made = pending_line scale tree next in (
      rest ++ made ∷ [],
      (λ lines was.
          subst (λ (ls : List CostLine). IsWalking scale tree ls c.take_pending.new.pending.items)
          (append_assoc lines rest (made ∷ []))
          (walking-next scale tree (lines ++ rest) c.each_pending.pending.items c.pop.new.self.items
          c.take_pending.new.pending.items next (c.each_pending.invariant.1 lines was) c.in-Some.ensures.items
          c.in_ok-line.ensures.below c.requires.tree.0 c.requires.tree.1 c.requires.tree.2)),
      (λ first lines took.
          subst (λ (ls : List CostLine). g.T.CostLineTaker.takes tree first ls c.take_line.new.self)
          (append_assoc lines rest (made ∷ []))
          (subst (λ (it : CostLine). g.T.CostLineTaker.takes tree first ((lines ++ rest) ++ it ∷ [])
          c.take_line.new.self) c.in_ok-line.ensures.line
          (c.in_ok-take_line.ensures.taken first (lines ++ rest) (c.each_pending.invariant.2 first lines took)))),
    )

pub returns : goal.returns
returns g c =
    let rest : List CostLine = c.each_pending.invariant.0 in
    let none : c.each_pending.pending.items ≡ [] = search rules in
    record {
      taken = record {
        rest = rest;
        all = λ lines was.
            walking-all c.args.scale c.args.tree.now (lines ++ rest)
            (subst (λ (ps : List Pending). IsWalking c.args.scale c.args.tree.now (lines ++ rest) ps)
            none (c.each_pending.invariant.1 lines was));
        taken = c.each_pending.invariant.2;
      };
    }
