use Rattle.std.proofs.Common.{rules, ◌≡◌, ℕ, ◌+◌, ◌++◌, List, [], length, map, take, get_or, ap, ◌∙◌, arith}
use Rattle.std.proofs.Common.{append_assoc, length-append}
use Rattle.std.specs.Prelude.{codes}
use Rattle.ht_print.specs.FlameText.{flame_name, flame_rest}
use Rattle.ht_print.specs.FlameWalk.{last_text}
use Rattle.ht_print.proofs.FlameLemmas.{appended-more, appended-none, flame_rest-more, flame_rest-none}
use Rattle.ht_print.proofs.FrontTexts.{rest-within}
use Rattle.ht_print.proofs.front_text.put_rest.Goals as goal

-- so many bytes stand there
so-far : (old now more : List ℕ) → now ≡ old ++ more → length now ≡ length old + length more
so-far old now more is = ap (λ (bytes : List ℕ). length bytes) is ∙ length-append old more

pub push_reserved-requires : goal.push_reserved-requires
push_reserved-requires c =
    let fits = rest-within (last_text c.args.tree.now) c.args.rest.now c.each_node.node-index 0 (omega arith) in
    let size =
    so-far c.args.out.now.items c.each_node.out.items
    (flame_rest (map (last_text c.args.tree.now) (take c.each_node.node-index c.args.rest.now)))
    c.each_node.invariant.written in
    let now = c.each_node.out.ok in
    let then = c.args.out.now.ok in
    let same = c.each_node.invariant.capacity in
    let room = c.requires.room in
    omega (arith, fits, size, now, then, same, room)

pub put_node-requires-clause-room : goal.put_node-requires-clause-room
put_node-requires-clause-room c =
    let fits = rest-within (last_text c.args.tree.now) c.args.rest.now c.each_node.node-index 0 (omega arith) in
    let size =
    so-far c.args.out.now.items c.each_node.out.items
    (flame_rest (map (last_text c.args.tree.now) (take c.each_node.node-index c.args.rest.now)))
    c.each_node.invariant.written in
    let now = c.each_node.out.ok in
    let then = c.args.out.now.ok in
    let same = c.each_node.invariant.capacity in
    let room = c.requires.room in
    let one = c.push_reserved.ensures.len in
    let kept = c.push_reserved.ensures.capacity in
    omega (arith, fits, size, now, then, same, room, one, kept)

pub each_node-init : goal.each_node-init
each_node-init c = record {
  written = appended-none c.args.out.now.items (flame_rest []) flame_rest-none;
  capacity = search rules;
}

pub each_node-preserved : goal.each_node-preserved
each_node-preserved c =
    let name : List ℕ = flame_name (last_text c.args.tree.now (get_or c.args.rest.now c.each_node.node-index 0)) in
    record {
      written =
          appended-more c.args.out.now.items c.each_node.out.items c.put_node.new.out.items
          (flame_rest (map (last_text c.args.tree.now) (take c.each_node.node-index c.args.rest.now)))
          (codes ";" ++ name) _
          c.each_node.invariant.written
          (c.put_node.ensures.appended ∙ ap (λ (bytes : List ℕ). bytes ++ name) c.push_reserved.ensures.items
          ∙ append_assoc c.each_node.out.items (codes ";") name)
          (flame_rest-more (last_text c.args.tree.now) c.args.rest.now c.each_node.node-index 0 (omega arith));
      capacity = c.put_node.ensures.capacity ∙ c.push_reserved.ensures.capacity ∙ c.each_node.invariant.capacity;
    }
