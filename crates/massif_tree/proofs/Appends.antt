-- Lemmas on appends in a row.
use Rattle.std.proofs.Common.{◌≡◌, List, ◌++◌, ap, ◌∙◌, append_assoc}

pub two-appended : {X : Type 0} (o a b p q : List X) → a ≡ o ++ p → b ≡ a ++ q → b ≡ o ++ (p ++ q)
two-appended {X} o a b p q p_is q_is = q_is ∙ ap (λ (xs : List X). xs ++ q) p_is ∙ append_assoc o p q

pub three-appended : {X : Type 0} (o a b c p q r : List X) → a ≡ o ++ p → b ≡ a ++ q → c ≡ b ++ r
    → c ≡ o ++ (p ++ (q ++ r))
three-appended o a b c p q r p_is q_is r_is = two-appended o a c p (q ++ r) p_is (two-appended a b c q r q_is r_is)

pub four-appended : {X : Type 0} (o a b c d p q r s : List X) → a ≡ o ++ p → b ≡ a ++ q → c ≡ b ++ r → d ≡ c ++ s
    → d ≡ o ++ (p ++ (q ++ (r ++ s)))
four-appended o a b c d p q r s p_is q_is r_is s_is =
    two-appended o a d p (q ++ (r ++ s)) p_is (three-appended a b c d q r s q_is r_is s_is)
