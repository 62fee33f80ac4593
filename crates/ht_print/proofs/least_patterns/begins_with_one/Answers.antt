use Rattle.std.proofs.Common.{Bor, ℕ, List, ◌∙◌, arith}
use Rattle.ht_print.proofs.LeastLemmas.{found-at, found-before, found-none, rising}
use Rattle.ht_print.proofs.least_patterns.begins_with_one.Goals as goal

pub returns-in_default : goal.returns-in_default
returns-in_default c =
    found-at (λ (pattern : Bor (List ℕ)). pattern.now) c.args.patterns.now c.args.text.now c.in_default.field-0
    c.in_default.ensures.bound (λ d. c.in_default.ensures.ok d)

pub returns-then-place-eq0 : goal.returns-then-place-eq0
returns-then-place-eq0 c =
    let parted =
    c.in-Err.ensures.position
    (rising (λ (pattern : Bor (List ℕ)). pattern.now) c.args.patterns.now c.args.text.now c.requires.apart) in
    found-none (λ (pattern : Bor (List ℕ)). pattern.now) c.args.patterns.now c.args.text.now
    (λ k d low high. parted.1 k d (omega (arith, c.if-place-eq0.true)) high)

pub returns : goal.returns
returns c =
    let parted =
    c.in-Err.ensures.position
    (rising (λ (pattern : Bor (List ℕ)). pattern.now) c.args.patterns.now c.args.text.now c.requires.apart) in
    c.starts_with.ensures.value
    ∙ found-before (λ (pattern : Bor (List ℕ)). pattern.now) c.args.patterns.now c.args.text.now c.in-Err.place _
    c.requires.apart (omega (arith, c.if-place-eq0.false)) c.in-Err.ensures.bound parted.0 parted.1
