use Rattle.std.proofs.Common.{Bor, ℕ, List, sym, ap, ◌∙◌}
use Rattle.std.specs.List.{list_any}
use Rattle.std.proofs.lemmas.List.Sorted.{list_any-IsPermutation}
use Rattle.ht_print.specs.LeastPatterns.{begins}
use Rattle.ht_print.proofs.Searches.{any-map}
use Rattle.ht_print.proofs.least_patterns.LeastPatterns.of.Goals as goal

pub returns : goal.returns
returns c = record {
  apart = c.in_ok-patterns.ensures.apart;
  same = λ text.
      let test = λ (pattern : Bor (List ℕ)). begins text pattern.now in
      c.in_ok-patterns.ensures.same text
      ∙ ap (list_any test) c.deref.ensures.value
      ∙ sym (list_any-IsPermutation test _ _ c.sort_unstable.ensures.permutation)
      ∙ sym (any-map (begins text) (λ (pattern : Bor (List ℕ)). pattern.now) c.in_ok-all.all.items)
      ∙ ap (list_any (begins text)) c.in_ok-all.ensures;
}
