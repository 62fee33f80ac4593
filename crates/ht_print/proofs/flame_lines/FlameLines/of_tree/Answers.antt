use Rattle.std.proofs.Common.{ℕ, List, ◌≤◌, length, get_or, arith}
use Rattle.std.specs.Prelude.{vec_capacity}
use Rattle.std.proofs.lemmas.List.Elements.{All-weaker}
use Rattle.std.proofs.lemmas.Option.{slice_get-get_or}
use Rattle.stack_table.specs.Stack.{most_frames}
use Rattle.ht_print.specs.FlameLines.{line_bytes}
use Rattle.ht_print.specs.FlameText.{flame_rest}
use Rattle.ht_print.proofs.FlameTrees.{IsRooted-of}
use Rattle.ht_print.proofs.FrontTexts.{text-of-root}
use Rattle.ht_print.proofs.flame_lines.FlameLines.of_tree.Goals as goal

pub longest_line-requires : goal.longest_line-requires
longest_line-requires c = record { tree = IsRooted-of c.args.tree c.requires.0 most_frames c.requires.1 }

pub invariant_of-result : goal.invariant_of-result
invariant_of-result c =
    let tree = c.args.tree in
    let front = c.in_ok-front.front in
    let made = c.in_ok-front.ensures in
    let rooted = IsRooted-of tree c.requires.0 most_frames c.requires.1 in
    let longest = made.room in
    let deepest = made.path_room in
    record {
      rooted = rooted;
      lines = c.in_ok-nodes.ensures.lines;
      text = text-of-root tree front rooted made.node made.text;
      room = record {
        text =
            All-weaker (λ texts. line_bytes texts ≤ c.in_ok-longest.longest)
            (λ texts. length (flame_rest texts) ≤ vec_capacity front.text)
            (λ texts below. omega (arith, below, longest)) tree.fronts c.in_ok-longest.ensures;
        path = λ k d within.
            let short = c.requires.1.short k (get_or tree.fronts k d) (slice_get-get_or tree.fronts k d within) in
            omega (arith, short, deepest);
      };
      bounded = c.in_ok-longest.ensures;
    }
