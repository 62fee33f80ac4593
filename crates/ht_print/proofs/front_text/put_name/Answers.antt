use Rattle.std.proofs.Common.{rules, ap, ◌∙◌, arith, ◌++◌, ◌∷◌, [], take, get_or}
use Rattle.ht_print.specs.FlameText.{flame_byte, flame_name}
use Rattle.ht_print.proofs.FlameLemmas.{appended-more, appended-none, flame_name-more, flame_name-none}
use Rattle.ht_print.proofs.front_text.put_name.Goals as goal

pub each_byte-init : goal.each_byte-init
each_byte-init c = record {
  written = appended-none c.args.out.now.items (flame_name []) flame_name-none;
  length = omega arith;
  capacity = search rules;
}

pub each_byte-preserved : goal.each_byte-preserved
each_byte-preserved c = record {
  written =
      appended-more c.args.out.now.items c.each_byte.out.items c.push_reserved.new.self.items
      (flame_name (take c.each_byte.byte-index c.args.text.now))
      (flame_byte (get_or c.args.text.now c.each_byte.byte-index _) ∷ []) _
      c.each_byte.invariant.written
      (c.push_reserved.ensures.items ∙ ap (λ b. c.each_byte.out.items ++ b ∷ []) c.plain_byte.ensures)
      (flame_name-more c.args.text.now c.each_byte.byte-index _ (omega arith));
  length = let before = c.each_byte.invariant.length in let one = c.push_reserved.ensures.len in omega arith;
  capacity = c.push_reserved.ensures.capacity ∙ c.each_byte.invariant.capacity;
}
