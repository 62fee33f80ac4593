use Rattle.std.proofs.Common.{ℕ, ◌+◌, ◌<◌, List, length, set, get_or, refl, sym, ap, ◌∙◌, subst, arith}
use Rattle.std.proofs.lemmas.List.{length-set}
use Rattle.cost_tree.specs.declared.children.Gathered.{Gathered}
use Rattle.std.proofs.lemmas.List.Elements.{All-get_or}
use Rattle.cost_tree.proofs.TakingSmall.{IsTaking, taking-more, taking-room, taking-same, taking-start}
use Rattle.cost_tree.proofs.small_texts.take_small.Goals as goal
use Rattle.cost_tree.proofs.small_texts.take_small.Goals.{then-is_left_out, else-is_left_out}

pub each_list-init : goal.each_list-init
each_list-init c = record {
  count = refl;
  taking = taking-start c.args.scale c.args.firsts.now c.args.costs.now c.args.sums.now c.requires.sums;
}

pub with_list-gathered-requires-clause-places : goal.with_list-gathered-requires-clause-places
with_list-gathered-requires-clause-places c =
    let same = c.requires.as_many in
    let room =
    taking-room c.args.scale c.args.firsts.now c.args.costs.now c.each_list.list c.each_list.sums c.each_list.costs
    c.each_list.gathered c.each_list.invariant.taking (omega arith) in
    let most = room.0 in
    omega arith

pub each_list-preserved : goal.each_list-preserved
each_list-preserved c =
    let scale = c.args.scale in
    let firsts = c.args.firsts.now in
    let old = c.args.costs.now in
    let i = c.each_list.list in
    let sums = c.each_list.sums in
    let costs = c.each_list.costs in
    let few = c.each_list.gathered in
    let new = c.if-is_left_out in
    let was = c.each_list.invariant in
    let count = was.count in
    let inside = All-get_or (λ (f : ℕ). f < length c.args.sums.now) firsts i 0 c.each_list-test.true c.requires.held in
    elim c.if-is_left_out.branch [
      | then-is_left_out w ↦ record {
        count = ap (λ (xs : List ℕ). length xs) w.sums-is ∙ length-set sums (get_or firsts i 0) 0 ∙ count;
        taking =
            subst (λ (xs : List ℕ). IsTaking scale firsts old (i + 1) xs new.costs new.gathered) (sym w.sums-is)
            (subst (λ (xs : List ℕ). IsTaking scale firsts old (i + 1) (set sums (get_or firsts i 0) 0) xs new.gathered)
            (sym w.costs-is)
            (subst (λ (g : Gathered). IsTaking scale firsts old (i + 1) (set sums (get_or firsts i 0) 0) (set costs i 0) g)
            (sym (w.gathered-is ∙ w.with_list-gathered.ensures))
            (taking-more scale firsts old i sums costs few was.taking c.requires.as_many (omega arith) (omega arith)
            (sym c.is_left_out.ensures ∙ w.if-is_left_out.true))));
      }
      | else-is_left_out w ↦ record {
        count = ap (λ (xs : List ℕ). length xs) w.sums-is ∙ count;
        taking =
            subst (λ (xs : List ℕ). IsTaking scale firsts old (i + 1) xs new.costs new.gathered) (sym w.sums-is)
            (subst (λ (xs : List ℕ). IsTaking scale firsts old (i + 1) sums xs new.gathered) (sym w.costs-is)
            (subst (λ (g : Gathered). IsTaking scale firsts old (i + 1) sums costs g) (sym w.gathered-is)
            (taking-same scale firsts old i sums costs few was.taking c.requires.as_many (omega arith) (omega arith)
            (sym c.is_left_out.ensures ∙ w.if-is_left_out.false))));
      }
    ]
