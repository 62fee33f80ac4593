use Rattle.std.proofs.Common.{◌≡◌, ◌<◌, ◌++◌, ◌∷◌, ℕ, [], List, length, reverse, take, refl, sym, ap, ◌∙◌, subst}
use Rattle.hp_num.proofs.Laws.{extends_same, extends_trans}
use Rattle.ms_print.specs.declared.children.Pending.{Pending}
use Rattle.ms_print.specs.Ends.{children_at}
use Rattle.ms_print.specs.Pendings.{AreRoots, IsHeld, bar_before, blank_below, entry_bytes, entry_children, entry_label}
use Rattle.ms_print.specs.Shown.{shown}
use Rattle.ms_print.specs.TreeText.{entries_text, entry_line}
use Rattle.ms_print.proofs.LeftLemmas.{All-uncons, IsLeft, children-first, left-begin, left-lighter, left-step}
use Rattle.ms_print.proofs.LeftLemmas.{next-first, weight}
use Rattle.ms_print.proofs.tree.put_entries.Goals as goal
use Rattle.ms_print.proofs.tree.put_entries.Goals.{In-Some, In_ok-push_reversed-2}

pub each_entry-init : goal.each_entry-init
each_entry-init c =
    let scale = c.args.scale in
    let tree = c.args.tree.now in
    let out = c.args.out.now.items in
    let roots : AreRoots scale tree 0 c.children_into.new.children.items (shown scale (children_at tree 0)) =
    c.in_ok-children_into.ensures.roots in
    let pending : reverse c.push_reversed.new.pending.items ≡ c.children_into.new.children.items =
    children-first [] c.push_reversed.new.pending.items c.children_into.new.children.items
    (c.in_ok-push_reversed.ensures.appended
    ∙ ap (λ (ps : List Pending). ps ++ reverse c.children_into.new.children.items) c.new-pending.ensures.items)
    ∙ Rattle.std.proofs.Common.append-nil c.children_into.new.children.items in
    record {
      kept = extends_same out out refl;
      left =
          subst
          (λ (ps : List Pending). IsLeft scale tree c.new-prefix.result.items ps out
          (out ++ entries_text scale [] (shown scale (children_at tree 0))))
          (sym pending)
          (subst
          (λ (prefix : List ℕ). IsLeft scale tree prefix c.children_into.new.children.items out
          (out ++ entries_text scale [] (shown scale (children_at tree 0))))
          (sym c.new-prefix.ensures.items)
          (left-begin scale tree c.children_into.new.children.items (shown scale (children_at tree 0)) out roots));
    }

-- the next entry is the first of those that are left
first-left : (c : In-Some) → reverse c.each_entry.pending.items ≡ c.in-Some.next ∷ reverse c.pop.new.self.items
first-left c =
    next-first c.args.scale c.args.tree.now c.each_entry.pending.items c.pop.new.self.items c.in-Some.next
    c.in-Some.ensures.items

next-left : (c : In-Some)
    → IsLeft c.args.scale c.args.tree.now c.each_entry.prefix.items (c.in-Some.next ∷ reverse c.pop.new.self.items)
    c.each_entry.out.items
    (c.args.out.now.items ++ entries_text c.args.scale [] (shown c.args.scale (children_at c.args.tree.now 0)))
next-left c =
    subst (λ (ps : List Pending). IsLeft c.args.scale c.args.tree.now c.each_entry.prefix.items ps
    c.each_entry.out.items
    (c.args.out.now.items ++ entries_text c.args.scale [] (shown c.args.scale (children_at c.args.tree.now 0))))
    (first-left
    c) c.each_entry.invariant.left

next-held : (c : In-Some) → IsHeld c.args.tree.now c.in-Some.next.entry
next-held c =
    let left =
    next-left
    c in (All-uncons (λ (p : Pending). IsHeld c.args.tree.now p.entry) c.in-Some.next (reverse c.pop.new.self.items)
    left.held).0

pub put_line-requires-clause-held : goal.put_line-requires-clause-held
put_line-requires-clause-held c = next-held (goal.at.put_line-requires-clause-held c).In-Some

pub put_below-requires-clause-held : goal.put_below-requires-clause-held
put_below-requires-clause-held c = next-held (goal.at.put_below-requires-clause-held c).In-Some

-- its children come before those that are left
children-left : (c : In_ok-push_reversed-2)
    → reverse c.push_reversed-in-Some.new.pending.items ≡ c.put_below.new.children.items ++ reverse c.pop.new.self.items
children-left c =
    children-first c.pop.new.self.items c.push_reversed-in-Some.new.pending.items c.put_below.new.children.items
    c.in_ok-push_reversed-2.ensures.appended

children-roots : (c : In_ok-push_reversed-2)
    → AreRoots c.args.scale c.args.tree.now (length c.put_bytes.new.out.items) c.put_below.new.children.items
    (entry_children c.args.scale c.args.tree.now c.in-Some.next.entry)
children-roots c =
    subst (λ (prefix : List ℕ). AreRoots c.args.scale c.args.tree.now (length prefix) c.put_below.new.children.items
    (entry_children c.args.scale c.args.tree.now c.in-Some.next.entry)) c.deref-in-Some-3.ensures.value
    c.in_ok-put_below.ensures.roots

pub each_entry-smaller : goal.each_entry-smaller
each_entry-smaller c =
    let scale = c.args.scale in
    let tree = c.args.tree.now in
    let lighter =
    left-lighter scale tree (length c.put_bytes.new.out.items) c.in-Some.next (reverse c.pop.new.self.items)
    c.put_below.new.children.items (children-roots (goal.at.each_entry-smaller c).In_ok-push_reversed-2) in
    subst (λ (ps : List Pending). weight scale tree ps < weight scale tree (reverse c.each_entry.pending.items))
    (sym (children-left (goal.at.each_entry-smaller c).In_ok-push_reversed-2))
    (subst (λ (ps : List Pending). weight scale tree (c.put_below.new.children.items ++ reverse c.pop.new.self.items)
    < weight scale tree ps) (sym
    (first-left (goal.at.each_entry-smaller c).In-Some)) lighter)

pub each_entry-preserved : goal.each_entry-preserved
each_entry-preserved c =
    let scale = c.args.scale in
    let tree = c.args.tree.now in
    let next = c.in-Some.next in
    let whole = c.args.out.now.items ++ entries_text scale [] (shown scale (children_at tree 0)) in
    let after : c.put_bytes.new.out.items
    ≡ take next.indent c.each_entry.prefix.items ++ bar_before next.indent (reverse c.pop.new.self.items) =
    c.in_ok-put_bytes.ensures.appended
    ∙ ap (λ (prefix : List ℕ). prefix ++ c.bar_before.result.now) c.truncate.ensures.items
    ∙ ap (λ (bar : List ℕ). take next.indent c.each_entry.prefix.items ++ bar)
    (c.bar_before.ensures
    ∙ ap (λ (ps : List Pending). bar_before next.indent (reverse ps)) c.deref-in-Some-2.ensures.value) in
    let lined : c.put_line.new.out.items
    ≡ c.each_entry.out.items
    ++ entry_line scale (take next.indent c.each_entry.prefix.items) (entry_bytes tree next.entry)
    (entry_label scale tree next.entry) =
    c.in_ok-put_line.ensures.appended
    ∙ ap (λ (prefix : List ℕ). c.each_entry.out.items
    ++ entry_line scale prefix (entry_bytes tree next.entry) (entry_label scale tree next.entry))
    (c.deref-in-Some.ensures.value
    ∙ c.truncate.ensures.items) in
    let blanked : c.put_below.new.out.items
    ≡ c.put_line.new.out.items ++ blank_below (entry_children scale tree next.entry) c.put_bytes.new.out.items =
    c.in_ok-put_below.ensures.appended
    ∙ ap (λ (prefix : List ℕ). c.put_line.new.out.items ++ blank_below (entry_children scale tree next.entry) prefix)
    c.deref-in-Some-3.ensures.value in
    let step =
    left-step scale tree c.each_entry.prefix.items next (reverse c.pop.new.self.items) c.put_below.new.children.items
    c.each_entry.out.items c.put_line.new.out.items c.put_below.new.out.items whole c.put_bytes.new.out.items
    (next-left (goal.at.each_entry-preserved c).In-Some) after lined blanked
    (children-roots (goal.at.each_entry-preserved c).In_ok-push_reversed-2) in
    record {
      kept =
          extends_trans c.args.out.now.items c.put_line.new.out.items c.put_below.new.out.items
          (extends_trans c.args.out.now.items c.each_entry.out.items c.put_line.new.out.items
          c.each_entry.invariant.kept c.put_line.ensures.kept)
          c.put_below.ensures.kept;
      left =
          subst (λ (ps : List Pending). IsLeft scale tree c.put_bytes.new.out.items ps c.put_below.new.out.items whole)
          (sym (children-left (goal.at.each_entry-preserved c).In_ok-push_reversed-2)) step;
    }
