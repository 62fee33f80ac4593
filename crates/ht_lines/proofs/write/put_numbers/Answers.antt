use Rattle.std.proofs.Common.{◌≡◌, ℕ, List, [], ◌∷◌, ◌++◌, ◌∙◌, ap, sym, append_assoc, append-nil}
use Rattle.hp_num.specs.Spelled.{spelled}
use Rattle.hp_num.proofs.Laws.{extends_trans}
use Rattle.ht_lines.proofs.write.put_numbers.Goals as goal

-- one number more is written, and one less is left
one_more : (out next : List ℕ) (n : ℕ) (ns after whole : List ℕ) → next ≡ out ++ spelled (n ∷ []) → ns ≡ n ∷ after
    → out ++ spelled ns ≡ whole → next ++ spelled after ≡ whole
one_more out next n ns after whole written first all =
    ap (λ l. l ++ spelled after) written ∙ parts ∙ ap (λ l. out ++ spelled l) (sym first) ∙ all
  where
    parts : (out ++ spelled (n ∷ [])) ++ spelled after ≡ out ++ spelled (n ∷ after)
    parts = simp (append_assoc, append-nil)

pub numbers-preserved : goal.numbers-preserved
numbers-preserved c = (
  one_more _ _ _ _ _ _ c.in_ok-put_number.ensures.appended c.in-Some.ensures.some c.numbers.invariant.0,
  extends_trans _ _ _ c.numbers.invariant.1 c.put_number.ensures.kept,
)
