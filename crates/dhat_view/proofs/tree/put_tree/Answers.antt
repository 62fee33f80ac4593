use Rattle.std.proofs.Common.{ℕ, List, [], ◌++◌, drop, sym, ap, ◌∙◌, subst, append-nil}
use Rattle.std.specs.Prelude.{All}
use Rattle.std.proofs.lemmas.List.Elements.{All-tail}
use Rattle.std.proofs.lemmas.Option.{get_or_from_slice_get}
use Rattle.std.proofs.lemmas.Result.{on_ok_weaker}
use Rattle.cost_tree.specs.declared.line.CostLine.{CostLine}
use Rattle.cost_tree.specs.declared.scale.Scale.{Scale}
use Rattle.dhat_view.specs.LinesIn.{IsWritten}
use Rattle.dhat_view.proofs.TreeTexts.{below-text, may-write, none-below}
use Rattle.dhat_view.proofs.tree.put_tree.Goals as goal

pub cost_lines-requires : goal.cost_lines-requires
cost_lines-requires c = record { tree = (c.requires.tree.0, c.args.options.now.depth, c.requires.tree.1.lines) }

pub put_lines-requires-clause-root : goal.put_lines-requires-clause-root
put_lines-requires-clause-root c =
    get_or_from_slice_get c.args.tree.now.fronts 0 [] [] c.requires.tree.1.lines.tree_of.root

pub put_lines-requires-clause-written : goal.put_lines-requires-clause-written
put_lines-requires-clause-written c =
    let tree = c.args.tree.now in
    let scale : Scale = record { total = c.args.sum; threshold = c.args.options.now.threshold } in
    let depth = c.args.options.now.depth in
    let is = c.requires.tree.1 in
    let all =
    may-write scale tree c.requires.tree.0 depth c.in_ok-lines.lines.items is
    (c.in_ok-lines.ensures.each c.requires.tree.0 depth is.lines) in
    All-tail (IsWritten scale tree) _ _
    (subst (λ (ls : List CostLine). All (IsWritten scale tree) ls)
    (sym c.deref.ensures.value ∙ c.in-Some.ensures.cases.0) all)

pub returns-in_default-clause-appended : goal.returns-in_default-clause-appended
returns-in_default-clause-appended c = λ stacks is.
    let tree = c.args.tree.now in
    let scale : Scale = record { total = c.args.sum; threshold = c.args.options.now.threshold } in
    let depth = c.args.options.now.depth in
    let none =
    ap (λ (ls : List CostLine). drop 1 ls) (sym c.deref.ensures.value)
    ∙ none-below c.deref.result.now c.in_default.ensures.cases in
    sym (append-nil c.args.out.now.items)
    ∙ ap (λ (text : List ℕ). c.args.out.now.items ++ text)
    (below-text depth scale tree stacks c.in_ok-lines.lines.items [] (c.in_ok-lines.ensures.lines stacks depth is.lines)
    none)

pub returns-clause-appended : goal.returns-clause-appended
returns-clause-appended c =
    let tree = c.args.tree.now in
    let scale : Scale = record { total = c.args.sum; threshold = c.args.options.now.threshold } in
    let depth = c.args.options.now.depth in
    let below = ap (λ (ls : List CostLine). drop 1 ls) (sym c.deref.ensures.value ∙ c.in-Some.ensures.cases.0) in
    on_ok_weaker c.put_lines.result
    (λ added stacks is. added
    ∙ ap (λ (text : List ℕ). c.args.out.now.items ++ text)
    (below-text depth scale tree stacks c.in_ok-lines.lines.items _
    (c.in_ok-lines.ensures.lines stacks depth is.lines) below))
    c.put_lines.ensures.appended
