use Rattle.std.proofs.Common.{◌≡◌, ◌++◌, ◌∙◌, List, ℕ, append_assoc, ap, codes}
use Rattle.std.proofs.lemmas.Result.{on_ok_weaker}
use Rattle.ht_print.proofs.histogram.put_ranges.Goals as goal

-- five texts that were appended one after another
appended : (o a b c d e t u v w x : List ℕ) → t ≡ o ++ a → u ≡ t ++ b → v ≡ u ++ c → w ≡ v ++ d → x ≡ w ++ e
    → x ≡ o ++ (a ++ (b ++ (c ++ (d ++ e))))
appended o a b c d e t u v w x is_t is_u is_v is_w is_x =
    let flat : o ++ a ++ b ++ c ++ d ++ e ≡ o ++ (a ++ (b ++ (c ++ (d ++ e)))) = simp append_assoc in
    is_x
    ∙ ap (λ (s : List ℕ). s ++ e)
    (is_w
    ∙ ap (λ (s : List ℕ). s ++ d) (is_v ∙ ap (λ (s : List ℕ). s ++ c) (is_u ∙ ap (λ (s : List ℕ). s ++ b) is_t)))
    ∙ flat

pub returns-clause-appended : goal.returns-clause-appended
returns-clause-appended c =
    on_ok_weaker c.put_bytes-2.result
    (λ put. appended c.args.out.now.items _ _ _ _ (codes "\n") _ _ _ _ _ c.in_ok-put_bytes.ensures.appended
    c.in_ok-put_small_ranges.ensures.appended c.in_ok-put_large_ranges.ensures.appended
    c.in_ok-put_range.ensures.appended put)
    c.put_bytes-2.ensures.appended
