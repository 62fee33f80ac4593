use Rattle.std.proofs.Common.{ℕ, ◌+◌, List, ap, length, rules, sym, ◌∙◌}
use Rattle.cost_history.specs.declared.change.Change.{Change}
use Rattle.massif_tree.specs.FirstLists.{first_lists}
use Rattle.massif_sample.specs.Made.{made, told_tree}
use Rattle.massif_sample.proofs.Making.{made-first, made-none}
use Rattle.massif_sample.proofs.profile.take_all.Goals as goal

pub each_snapshot-preserved : goal.each_snapshot-preserved
each_snapshot-preserved c = record {
  changes = c.snapshot.ensures.changes ∙ c.each_snapshot.invariant.changes;
  whole = c.snapshot.ensures.whole ∙ c.each_snapshot.invariant.whole;
  all = λ tables names are.
      made-first _ _ _ _ _ _ _ _ c.in-Some.entry c.in-Some.load c.in_ok-snap.snap
      (c.each_snapshot.invariant.all tables names are) c.in-Some.ensures.entry c.in-Some.ensures.load
      (c.in_ok-snap.ensures.snap tables names
      (c.each_snapshot.invariant.whole ∙ are
      ∙ ap (λ (ls : List (List (List ℕ))). first_lists tables names (c.args.options.now.depth + 1) (length ls))
      (sym c.each_snapshot.invariant.whole))
      ∙ ap (λ (ls : List (List (List ℕ))). made
      (told_tree c.args.options.now tables names (length ls) c.each_snapshot.replay.changes) c.in-Some.entry
      c.in-Some.load) c.each_snapshot.invariant.whole
      ∙ ap (λ (cs : List Change). made (told_tree c.args.options.now tables names (length c.args.fronts.now.whole) cs)
      c.in-Some.entry c.in-Some.load) c.each_snapshot.invariant.changes)
      c.in_ok-push.ensures.appended;
}

pub returns : goal.returns
returns c = λ tables names are. made-none _ _ _ _ _ (c.each_snapshot.invariant.all tables names are) (search rules)
