use Rattle.std.proofs.Common.{◌≡◌, ℕ, ◌+◌, ◌-◌, ◌<◌, List, length, take, sym, ap, ◌∙◌, subst, arith}
use Rattle.std.specs.Prelude.{All}
use Rattle.std.proofs.lemmas.List.Elements.{All-push}
use Rattle.ht_print.specs.FlameWalk.{IsBelowRoot, front_at, last_text}
use Rattle.ht_print.proofs.FlameTrees.{last_text-is, path-step}
use Rattle.ht_print.proofs.FrontTexts.{rest-cut}
use Rattle.ht_print.proofs.front_text.FrontText.climb.Goals as goal

pub returns-then-at-above-clause-between : goal.returns-then-at-above-clause-between
returns-then-at-above-clause-between c = λ n was.
    let tree = c.args.tree.now in
    let above : ℕ = c.args.between.above in
    let some : 0 < above = omega arith in
    let lower = c.node-parent.ensures.lower some in
    let within = was.above_held in
    record {
      at_held = was.at_held;
      above_held = omega (arith, lower, within);
      text_of = was.text_of;
      path_to =
          path-step tree c.args.self.now.path.items c.push_reserved.new.self.items above c.node-parent.result
          (front_at tree n) c.requires.tree_is some c.node-parent.ensures.node c.push_reserved.ensures.items
          was.path_to;
      path_held =
          subst (λ (ns : List ℕ). All (IsBelowRoot tree) ns) (sym c.push_reserved.ensures.items)
          (All-push (IsBelowRoot tree) c.args.self.now.path.items above was.path_held (some, within));
    }

pub returns-clause-between : goal.returns-clause-between
returns-clause-between c = λ n was.
    let tree = c.args.tree.now in
    let at : ℕ = c.args.between.at in
    let some : 0 < at = omega (arith, c.requires.apart) in
    let lower = c.node-parent-2.ensures.lower some in
    let within = was.at_held in
    let last = c.text-own.ensures.last some in
    let named : last_text tree at ≡ c.text-own.result.now = last_text-is tree at last.0 c.text-own.result.now last.1 in
    let text : List ℕ = c.args.self.now.text.items in
    let size : c.saturating_sub.result ≡ length text - (length c.text-own.result.now + 1) = omega arith in
    record {
      at_held = omega (arith, lower, within);
      above_held = was.above_held;
      text_of =
          c.truncate.ensures.items ∙ ap (λ (k : ℕ). take k text) size
          ∙ rest-cut tree at c.node-parent-2.result c.text-own.result.now text c.requires.tree_is some
          c.node-parent-2.ensures.node named was.text_of;
      path_to = was.path_to;
      path_held = was.path_held;
    }
