use Rattle.std.proofs.Common.{Bor, Global, Vec, ℕ, ◌+◌, List, take_all, sym, ap, subst, ◌∙◌, arith}
use Rattle.ht_print.specs.LeastPatterns.{begins_any}
use Rattle.ht_print.proofs.LeastLemmas.{AreOfFront, front-longer, front-more, front-none}
use Rattle.ht_print.proofs.least_patterns.without_longer.Goals as goal
use Rattle.ht_print.proofs.least_patterns.without_longer.Goals.{then-not-begins_with_last+in_ok-push}
use Rattle.ht_print.proofs.least_patterns.without_longer.Goals.{else-not-begins_with_last}

abbrev pattern_of : Bor (List ℕ) → List ℕ
pattern_of pattern = pattern.now

pub each_pattern-init : goal.each_pattern-init
each_pattern-init c =
    subst (AreOfFront (λ (pattern : Bor (List ℕ)). pattern.now) c.args.all.now 0) (sym c.new-least.ensures.items)
    (front-none (λ (pattern : Bor (List ℕ)). pattern.now) c.args.all.now)

pub each_pattern-preserved : goal.each_pattern-preserved
each_pattern-preserved c = elim c.if-not-begins_with_last.branch [
  | then-not-begins_with_last+in_ok-push w ↦
      subst (λ (least : List (Bor (List ℕ))). AreOfFront pattern_of c.args.all.now (c.each_pattern.pattern-index + 1)
      least) (sym
      (ap (λ (v : Vec (Bor (List ℕ)) Global). v.items) w.least-is))
      (front-more pattern_of c.args.all.now c.each_pattern.pattern-index c.each_pattern.least.items c.deref.result.now
      w.push.new.self.items _ (omega arith) c.deref.ensures.value c.requires.sorted
      (sym c.begins_with_last.ensures ∙ w.if-not-begins_with_last.true)
      w.in_ok-push.ensures.items c.each_pattern.invariant)
  | else-not-begins_with_last w ↦
      subst (λ (least : List (Bor (List ℕ))). AreOfFront pattern_of c.args.all.now (c.each_pattern.pattern-index + 1)
      least) (sym
      (ap (λ (v : Vec (Bor (List ℕ)) Global). v.items) w.least-is))
      (front-longer pattern_of c.args.all.now c.each_pattern.pattern-index c.each_pattern.least.items c.deref.result.now
      _ (omega arith) c.deref.ensures.value
      (sym c.begins_with_last.ensures ∙ w.if-not-begins_with_last.false)
      c.each_pattern.invariant)
]

pub returns : goal.returns
returns c =
    let are = c.each_pattern.invariant in
    record {
      apart = are.apart;
      same =
          λ text. are.same text
          ∙ ap (λ (all : List (Bor (List ℕ))). begins_any (λ (pattern : Bor (List ℕ)). pattern.now) all text)
          (take_all c.each_pattern.pattern-index c.args.all.now (omega arith));
    }
