use Rattle.std.proofs.Common.{◌≡◌, ℕ, ◌+◌, ◌^◌, List, [], ◌∷◌, ◌++◌, drop, get_or, map, take, ap, sym, ◌∙◌, subst}
use Rattle.std.proofs.Common.{arith}
use Rattle.std.specs.Prelude.{All}
use Rattle.std.proofs.lemmas.List.{take_all}
use Rattle.cost_tree.specs.Costed.{Costed}
use Rattle.cost_tree.proofs.Laws.{take-next}
use Rattle.dhat_json.specs.Shown.{shown}
use Rattle.massif_file.specs.TreeLine.{TreeLine, line_of}
use Rattle.convert.specs.declared.path.Level.{Level}
use Rattle.cost_tree.specs.Texts.{IsText, texts_of}
use Rattle.dhat_view.specs.Numbers.{AreNumbers}
use Rattle.convert.specs.Numbers.{AreSums}
use Rattle.convert.specs.TreeItems.{tree_items}
use Rattle.convert.proofs.Walks.{IsAt, IsNext, at-begin, items-count, next-line, next-within}
use Rattle.convert.proofs.massif.add_lines.Goals as goal
use Rattle.convert.proofs.massif.add_lines.Goals.{After-deref-in-each_line, In_ok-enter}

pub each_line-init : goal.each_line-init
each_line-init c =
    record {
      numbers = c.requires.numbers;
      walk = at-begin c.args.sums.now.names c.args.tree.now c.args.walk.now.levels.items c.requires.begun.0;
      sums = c.requires.begun.1;
    }

-- the line that was entered, and the list of its labels
entered-line : (c : In_ok-enter)
    → IsNext c.each_line.sums.names c.args.tree.now c.enter.new.levels.items c.each_line.place
    (get_or c.args.left.now c.each_line.place 0)
entered-line c =
    next-line c.each_line.sums.names c.args.tree.now c.args.numbers.now c.args.left.now c.each_line.walk.levels.items
    c.enter.new.levels.items c.each_line.place (line_of c.at.result)
    c.each_line.invariant.walk c.at.ensures.item c.in_ok-enter.ensures.entered c.each_line.invariant.numbers
    c.requires.left (let all = c.len-place-end.ensures.length in let count = c.requires.counts.1 in omega arith)
    (let all = c.len-place-end.ensures.length in let count = c.requires.counts.0 in omega arith)

list-is : (c : After-deref-in-each_line)
    → c.deref-in-each_line.result.now ≡ drop 1 (map (λ (level : Level). level.label) c.enter.new.levels.items)
list-is c =
    c.deref-in-each_line.ensures.value ∙ c.in_ok-labels_into.ensures.labels
    ∙ ap (λ (ls : List Level). drop 1 (map (λ (level : Level). level.label) ls)) c.deref.ensures.value

pub add-requires-clause-sums : goal.add-requires-clause-sums
add-requires-clause-sums c =
    let next = entered-line (goal.at.add-requires-clause-sums c).In_ok-enter in (
      take c.each_line.place (tree_items c.args.tree.now),
      c.each_line.invariant.sums,
      next-within c.each_line.sums.names c.args.tree.now c.args.left.now c.enter.new.levels.items c.each_line.place
          (get_or c.args.left.now c.each_line.place 0) (2 ^ 62) next c.requires.left c.requires.within,
    )

pub add-requires-clause-held : goal.add-requires-clause-held
add-requires-clause-held c =
    let next = entered-line (goal.at.add-requires-clause-held c).In_ok-enter in
    subst (All (IsText c.each_line.sums.names))
    (sym (list-is (goal.at.add-requires-clause-held c).After-deref-in-each_line)) next.held

pub each_line-preserved : goal.each_line-preserved
each_line-preserved c =
    let tree = c.args.tree.now in
    let names = c.each_line.sums.names in
    let place = c.each_line.place in
    let levels = c.enter.new.levels.items in
    let new = c.add.new.self in
    let number : ℕ = get_or c.args.left.now place 0 in
    let next = entered-line (goal.at.each_line-preserved c).In_ok-enter in
    let items : List Costed = tree_items tree in
    let item : Costed =
    record { texts = texts_of names (drop 1 (map (λ (level : Level). level.label) levels)); cost = number } in
    record {
      numbers =
          subst (λ (ns : List (List ℕ)). AreNumbers ns c.args.numbers.now
          (map (λ (line : TreeLine). shown line.label) tree)) (sym
          c.in_ok-add.ensures.names) c.each_line.invariant.numbers;
      walk = subst (λ (ns : List (List ℕ)). IsAt ns tree levels (place + 1)) (sym c.in_ok-add.ensures.names) next.at;
      sums = subst (AreSums new.names new.lists.keys new.sums.items)
          (ap (λ (ns : List ℕ). take place items ++ record { texts = texts_of names ns; cost = number } ∷ [])
          (list-is (goal.at.each_line-preserved c).After-deref-in-each_line)
          ∙ sym (take-next items place item next.item))
          (c.in_ok-add.ensures.added (take place items) c.each_line.invariant.sums);
    }

pub returns : goal.returns
returns c =
    let sums = c.each_line.sums in
    let count = items-count c.args.tree.now in
    let all = c.len-place-end.ensures.length in
    record {
      sums = subst (AreSums sums.names sums.lists.keys sums.sums.items)
          (take_all c.each_line.place (tree_items c.args.tree.now) (omega arith)) c.each_line.invariant.sums;
    }
