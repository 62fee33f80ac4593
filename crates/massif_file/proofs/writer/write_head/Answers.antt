-- The numbers from the last one on, and what stands around them.
use Rattle.std.proofs.Common.{◌≡◌, ℕ, ◌+◌, ◌-◌, List, [], ◌∷◌, ◌++◌, length, drop, set, decimal, ap, ◌∙◌, arith}
use Rattle.std.proofs.lemmas.Grind.{drop-set_at}
use Rattle.std.proofs.lemmas.List.{drop_all}
use Rattle.massif_file.proofs.writer.write_head.Goals as goal

pub returns-clause-written : goal.returns-clause-written
returns-clause-written c =
    let front : List ℕ = c.args.front.now in
    let mid : List ℕ = c.write_number-bytes_at.new.front in
    let at : ℕ = c.write_number-bytes_at.result in
    let long : length front ≡ 301 = omega arith in
    let mid_long : length mid ≡ 301 = omega arith in
    let below = c.write_number-bytes_at.ensures.below in
    let most = c.write_number-bytes_at.ensures.most in
    let blank : drop 300 (set front 300 32) ≡ 32 ∷ [] =
    drop-set_at front 300 300 32 (omega arith) (omega arith)
    ∙ ap (λ (t : List ℕ). 32 ∷ t) (drop_all 301 front (omega arith)) in
    let colon : drop (at - 1) (set mid (at - 1) 58) ≡ 58 ∷ drop at mid =
    drop-set_at mid (at - 1) (at - 1) 58 (omega arith) (omega arith)
    ∙ ap (λ (n : ℕ). 58 ∷ drop n mid) {x = at - 1 + 1} {y = at} (omega arith) in
    c.write_number.ensures.written
    ∙ ap (λ (t : List ℕ). 110 ∷ (decimal c.args.children ++ t))
    (colon
    ∙ ap (λ (t : List ℕ). 58 ∷ t)
    (c.write_number-bytes_at.ensures.written ∙ ap (λ (t : List ℕ). 32 ∷ (decimal c.args.bytes ++ t)) blank))
