use Rattle.std.proofs.Common.{ℕ, false, List, Option, ap, ◌∙◌}
use Rattle.std.specs.List.{list_any}
use Rattle.std.specs.Option.{option_map_or}
use Rattle.std.specs.Str.{bytes_eq}
use Rattle.massif_tree.proofs.Listed.{answer-is}
use Rattle.massif_tree.proofs.function_lists.is_listed.Goals as goal

pub returns-in-Some : goal.returns-in-Some
returns-in-Some g c = record {
  listed = λ texts are.
      answer-is texts c.in-Some.function.now c.of.result (c.of.ensures.listed texts are)
      ∙ ap (λ (found : Option (List ℕ)). option_map_or (λ (function : List ℕ). list_any (bytes_eq function) texts) found
      false) c.in-Some.ensures.name;
}
