use Rattle.std.proofs.Common.{◌≡◌, ℕ, ◌+◌, ◌-◌, Vec, Global, List, [], arith, refl, sym, ap, subst, ◌∙◌}
use Rattle.std.proofs.Common.{true, false, min, get_or, ◌^◌}
use Rattle.massif_file.specs.TreeLine.{line_of}
use Rattle.massif_file.specs.Trees.{Trees, no_tree}
use Rattle.ms_print.specs.declared.children.Gathered.{Gathered}
use Rattle.ms_print.specs.declared.children.Entry.TheVariants.{Line}
use Rattle.ms_print.specs.Entries.{is_small}
use Rattle.ms_print.specs.Pendings.{IsRoot, bytes_of, label_of}
use Rattle.ms_print.specs.Shown.{shown}
use Rattle.ms_print.specs.declared.children.Pending.{Pending}
use Rattle.ms_print.specs.Ends.{IsEnd, children_at, trees_at}
use Rattle.ms_print.specs.TreesOf.{first_trees}
use Rattle.ms_print.proofs.SplitLemmas.{IsSplit, left-next, split-kept, split-none, split-roots, split-same}
use Rattle.ms_print.proofs.SplitLemmas.{split-small, split-small-all}
use Rattle.ms_print.proofs.TreesOfLemmas.{children-at, passed-more, passed-none, passed-some}
use Rattle.ms_print.proofs.children.split_children.Goals as goal
use Rattle.ms_print.proofs.children.split_children.Goals.{After-each_child, then-is_small, else-is_small+in_ok-push}

pub each_child-init : goal.each_child-init
each_child-init c =
    let tree = c.args.view.now.tree.now in
    let all : children_at tree c.args.place
    ≡ first_trees (c.at-end.result.children - 0) (trees_at tree (c.args.place + 1)) =
    children-at tree c.args.place (line_of c.at-end.result) c.at-end.ensures.item
    ∙ ap (λ (n : ℕ). first_trees n
    (trees_at tree (c.args.place + 1))) {x = c.at-end.result.children} {y = c.at-end.result.children
    - 0} (omega arith) in
    record {
      passed = passed-none tree c.args.place c.requires.held;
      few = omega arith;
      fits = omega arith;
      split =
          subst
          (λ (items : List Pending). IsSplit c.args.view.now.scale tree c.args.indent (children_at tree c.args.place)
          (first_trees (c.at-end.result.children - 0) (trees_at tree (c.args.place + 1))) 0 0 items)
          (sym c.requires.empty)
          (subst
          (λ (left : Trees). IsSplit c.args.view.now.scale tree c.args.indent (children_at tree c.args.place) left 0 0
          [])
          all (split-none c.args.view.now.scale tree c.args.indent (children_at tree c.args.place)));
    }

pub at-bytes-requires : goal.at-bytes-requires
at-bytes-requires c =
    passed-some c.args.view.now.tree.now c.args.place (line_of c.at-end.result) c.each_child.counter c.each_child.child
    c.requires.whole c.at-end.ensures.item c.each_child.invariant.passed c.each_child-test.true

pub each_child-preserved : goal.each_child-preserved
each_child-preserved c =
    let tree = c.args.view.now.tree.now in
    let scale = c.args.view.now.scale in
    let indent = c.args.indent in
    let all = children_at tree c.args.place in
    let child = c.each_child.child in
    let kid = line_of c.at-bytes.result in
    let old = c.each_child.gathered in
    let items = c.each_child.children.items in
    let held = c.at-bytes.ensures.item in
    let some =
    passed-some tree c.args.place (line_of c.at-end.result) c.each_child.counter child c.requires.whole
    c.at-end.ensures.item c.each_child.invariant.passed c.each_child-test.true in
    let later = c.each_child.invariant.passed.later in
    let end : IsEnd tree child (get_or c.args.view.now.ends.now child 0) =
    c.requires.ends.each child (omega arith) some in
    let left =
    left-next tree child (get_or c.args.view.now.ends.now child 0) c.at-end.result.children c.each_child.counter kid
    held end c.each_child-test.true in
    let next : Trees =
    first_trees (c.at-end.result.children - (c.each_child.counter + 1))
    (trees_at tree (get_or c.args.view.now.ends.now child 0)) in
    let before =
    subst (λ (t : Trees). IsSplit scale tree indent all t old.places old.bytes items) left
    c.each_child.invariant.split in
    let passed =
    passed-more tree c.args.place c.each_child.counter child (get_or c.args.view.now.ends.now child 0)
    c.each_child.invariant.passed end in
    let few = c.each_child.invariant.few in
    let fits = c.each_child.invariant.fits in
    elim c.if-is_small.branch [
      | then-is_small w ↦
          let small : is_small scale kid.bytes ≡ true = sym c.is_small.ensures ∙ w.if-is_small.true in
          let after =
          split-small scale tree indent all kid.bytes kid.label (children_at tree child) next old.places old.bytes
          items small before in
          let places : c.if-is_small.gathered.places ≡ old.places + 1 =
          ap (λ (g : Gathered). g.places) w.gathered-is ∙ w.with-gathered.ensures.places in
          let bytes : c.if-is_small.gathered.bytes ≡ min (old.bytes + kid.bytes) (2 ^ 64 - 1) =
          ap (λ (g : Gathered). g.bytes) w.gathered-is ∙ w.with-gathered.ensures.bytes in
          let split =
          split-same scale tree indent all next places bytes (ap (λ (v : Vec Pending Global). v.items) w.children-is)
          after in
          record { passed = passed; few = omega arith; fits = omega arith; split = split }
      | else-is_small+in_ok-push w ↦
          let large : is_small scale kid.bytes ≡ false = sym c.is_small.ensures ∙ w.if-is_small.false in
          let root : IsRoot scale tree indent (record { indent = indent; entry = Line child }) kid.bytes kid.label
          (shown scale (children_at tree child)) =
          record {
            indented = refl;
            held = some;
            bytes_is = ap bytes_of held;
            label_is = ap label_of held;
            children_is = refl;
          } in
          let after =
          split-kept scale tree indent all kid.bytes kid.label (children_at tree child) next old.places old.bytes
          items (record { indent = indent; entry = Line child }) large root before in
          let places : c.if-is_small.gathered.places ≡ old.places = ap (λ (g : Gathered). g.places) w.gathered-is in
          let bytes : c.if-is_small.gathered.bytes ≡ old.bytes = ap (λ (g : Gathered). g.bytes) w.gathered-is in
          let split =
          split-same scale tree indent all next places bytes
          (ap (λ (v : Vec Pending Global). v.items) w.children-is ∙ w.in_ok-push.ensures.items) after in
          record { passed = passed; few = omega arith; fits = omega arith; split = split }
    ]

-- no child is left
none-left : (c : After-each_child)
    → first_trees (c.at-end.result.children - c.each_child.counter)
    (trees_at c.args.view.now.tree.now c.each_child.child)
    ≡ no_tree
none-left c =
    ap (λ (n : ℕ). first_trees n (trees_at c.args.view.now.tree.now c.each_child.child)) {x = c.at-end.result.children
    - c.each_child.counter} {y = 0} (omega arith)

pub returns-clause-kept : goal.returns-clause-kept
returns-clause-kept c =
    split-roots c.args.view.now.scale c.args.view.now.tree.now c.args.indent
    (children_at c.args.view.now.tree.now c.args.place)
    (first_trees (c.at-end.result.children - c.each_child.counter)
    (trees_at c.args.view.now.tree.now c.each_child.child))
    c.each_child.gathered.places c.each_child.gathered.bytes c.each_child.children.items (none-left c)
    c.each_child.invariant.split

pub returns-clause-gathered : goal.returns-clause-gathered
returns-clause-gathered c =
    split-small-all c.args.view.now.scale c.args.view.now.tree.now c.args.indent
    (children_at c.args.view.now.tree.now c.args.place)
    (first_trees (c.at-end.result.children - c.each_child.counter)
    (trees_at c.args.view.now.tree.now c.each_child.child))
    c.each_child.gathered c.each_child.children.items (none-left c) c.each_child.invariant.fits
    c.each_child.invariant.split
