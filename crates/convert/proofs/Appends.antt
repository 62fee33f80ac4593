-- Lemmas on appended texts, one after the other.
use Rattle.std.proofs.Common.{◌≡◌, ℕ, List, [], ◌++◌, sym, ap, ◌∙◌, append_assoc, append-nil}

pub appended-none : (old none : List ℕ) → none ≡ [] → old ≡ old ++ none
appended-none old none is = sym (append-nil old) ∙ ap (λ (bytes : List ℕ). old ++ bytes) (sym is)

pub appended-more : (old now new some more all : List ℕ) → now ≡ old ++ some → new ≡ now ++ more → all ≡ some ++ more
    → new ≡ old ++ all
appended-more old now new some more all are added both =
    added ∙ ap (λ (bytes : List ℕ). bytes ++ more) are ∙ append_assoc old some more
    ∙ ap (λ (bytes : List ℕ). old ++ bytes) (sym both)

pub two-appended : (o a b p q : List ℕ) → a ≡ o ++ p → b ≡ a ++ q → b ≡ o ++ (p ++ q)
two-appended o a b p q p_is q_is = q_is ∙ ap (λ (xs : List ℕ). xs ++ q) p_is ∙ append_assoc o p q

pub four-appended : (o a b c d p q r s : List ℕ) → a ≡ o ++ p → b ≡ a ++ q → c ≡ b ++ r → d ≡ c ++ s
    → d ≡ o ++ (p ++ (q ++ (r ++ s)))
four-appended o a b c d p q r s p_is q_is r_is s_is =
    two-appended o a d p (q ++ (r ++ s)) p_is (two-appended a b d q (r ++ s) q_is (two-appended b c d r s r_is s_is))
