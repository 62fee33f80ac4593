-- The line that was written is the first of those that are left.
use Rattle.std.proofs.Common.{◌≡◌, ◌∙◌, ◌++◌, ◌<◌, ◌≤◌, ◌+◌, ◌-◌, [], ◌∷◌, ap, sym, List, ℕ, length, drop, arith}
use Rattle.std.proofs.lemmas.List.{drop_all}
use Rattle.std.proofs.lemmas.Result.{on_ok_weaker}
use Rattle.std.proofs.lemmas.Option.{get_or_from_slice_get}
use Rattle.massif_file.specs.Blanks.{blanks}
use Rattle.massif_file.specs.MassifText.{node_text, text_of, tree_lines}
use Rattle.massif_file.specs.TreeLine.{TreeLine, line_of}
use Rattle.massif_file.proofs.WrittenLemmas.{goes_on, kept_on, tree_step}
use Rattle.massif_file.proofs.writer.put_tree.Goals as goal

-- where no line is left, what is written and a line feed are the whole
all_written : (out next whole levels : List ℕ) (place : ℕ) (tree : List TreeLine) → length tree ≤ place
    → out ++ (10 ∷ text_of (tree_lines levels (drop place tree))) ≡ whole → next ≡ out ++ (10 ∷ []) → next ≡ whole
all_written out next whole levels place tree done written fed =
    fed ∙ ap (λ (left : List TreeLine). out ++ (10 ∷ text_of (tree_lines levels left))) (sym (drop_all place tree done))
    ∙ written

pub each_line-preserved : goal.each_line-preserved
each_line-preserved c =
    let tree = c.args.tree.now in
    let place = c.each_line.place in
    let line = line_of c.at-line.result in
    let within : place < length tree = omega (arith, c.len-place-end.ensures.length) in
    let level = c.saturating_sub.ensures ∙ ap (λ (n : ℕ). n - 1) c.len.ensures.count in
    let front =
    c.in_ok-put_node.ensures.appended
    ∙ ap (λ (k : ℕ). c.each_line.out.items ++ (10 ∷ (blanks k ++ node_text line))) level in
    let step =
    tree_step place c.each_line.levels tree line within
    (sym (get_or_from_slice_get tree place line line c.at-line.ensures.item)) in
    record {
      kept = kept_on _ _ _ _ _ (omega arith) (omega arith) c.each_line.invariant.kept c.put_node.ensures.kept;
      written =
          ap (λ (l : List ℕ). c.put_node.new.out.items ++ (10 ∷ text_of (tree_lines l (drop (place + 1) tree))))
          c.in_ok-line.ensures
          ∙ goes_on _ _ c.args.out.now.items _ _ _ (10 ∷ text_of (tree_lines (1 ∷ []) tree)) front step
          c.each_line.invariant.written;
    }

pub returns-in_err-put_node-clause-kept : goal.returns-in_err-put_node-clause-kept
returns-in_err-put_node-clause-kept c =
    kept_on _ _ _ _ _ (omega arith) (omega arith) c.each_line.invariant.kept c.put_node.ensures.kept

pub returns-in_err-line-clause-kept : goal.returns-in_err-line-clause-kept
returns-in_err-line-clause-kept c =
    kept_on _ _ _ _ _ (omega arith) (omega arith) c.each_line.invariant.kept c.put_node.ensures.kept

pub returns-clause-appended : goal.returns-clause-appended
returns-clause-appended c =
    on_ok_weaker c.put_bytes.result
    (all_written _ _ _ c.each_line.levels c.each_line.place c.args.tree.now
    (omega (arith, c.len-place-end.ensures.length)) c.each_line.invariant.written)
    c.put_bytes.ensures.appended
