use Rattle.std.proofs.Common.{Bor, ◌≡◌, ℕ, ◌-◌, List, length, length-drop, take, take_all, sym, ap, ◌∙◌, drop, arith}
use Rattle.ht_print.specs.LeastPatterns.{begins_any}
use Rattle.ht_print.proofs.LeastLemmas.{nowhere, somewhere}
use Rattle.ht_print.proofs.least_patterns.LeastPatterns.stand_in.Goals as goal

pub returns-then-begins_with_one : goal.returns-then-begins_with_one
returns-then-begins_with_one c = λ patterns are.
    let from : ℕ = c.each_place.from in
    let text : List ℕ = c.args.text.now in
    let pattern_of = λ (pattern : Bor (List ℕ)). pattern.now in
    let left : take (length text - from) (drop from text) ≡ drop from text =
    take_all (length text - from) (drop from text) (omega (arith, length-drop from text)) in
    sym (somewhere patterns text from (omega arith)
    (sym (are.same (drop from text))
    ∙ ap (λ (ps : List (Bor (List ℕ))). begins_any pattern_of ps (drop from text)) (sym c.deref.ensures.value)
    ∙ ap (begins_any pattern_of c.deref.result.now) (sym left)
    ∙ sym c.begins_with_one.ensures ∙ c.if-begins_with_one.true))

pub returns : goal.returns
returns c = λ patterns are.
    sym (nowhere patterns c.args.text.now
    (λ k within. sym (are.same (drop k c.args.text.now)) ∙ c.each_place.invariant k (omega (arith, within))))
