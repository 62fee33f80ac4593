-- Lemmas on appends in a row.
use Rattle.std.proofs.Common.{◌≡◌, ℕ, List, ◌++◌, sym, ap, ◌∙◌, append_assoc}
use Rattle.hp_num.specs.Extends.{Extends}
use Rattle.hp_num.proofs.Laws.{extends_trans}

-- so many texts, one after the other
pub two-appended : (o a b p q : List ℕ) → a ≡ o ++ p → b ≡ a ++ q → b ≡ o ++ (p ++ q)
two-appended o a b p q p_is q_is = q_is ∙ ap (λ (xs : List ℕ). xs ++ q) p_is ∙ append_assoc o p q

pub three-appended : (o a b c p q r : List ℕ) → a ≡ o ++ p → b ≡ a ++ q → c ≡ b ++ r → c ≡ o ++ (p ++ (q ++ r))
three-appended o a b c p q r p_is q_is r_is = two-appended o a c p (q ++ r) p_is (two-appended a b c q r q_is r_is)

pub four-appended : (o a b c d p q r s : List ℕ) → a ≡ o ++ p → b ≡ a ++ q → c ≡ b ++ r → d ≡ c ++ s
    → d ≡ o ++ (p ++ (q ++ (r ++ s)))
four-appended o a b c d p q r s p_is q_is r_is s_is =
    two-appended o a d p (q ++ (r ++ s)) p_is (three-appended a b c d q r s q_is r_is s_is)

pub five-appended : (o a b c d e p q r s t : List ℕ) → a ≡ o ++ p → b ≡ a ++ q → c ≡ b ++ r → d ≡ c ++ s → e ≡ d ++ t
    → e ≡ o ++ (p ++ (q ++ (r ++ (s ++ t))))
five-appended o a b c d e p q r s t p_is q_is r_is s_is t_is =
    two-appended o a e p (q ++ (r ++ (s ++ t))) p_is
    (two-appended a b e q (r ++ (s ++ t)) q_is (three-appended b c d e r s t r_is s_is t_is))

pub seven-appended : (o a b c d e f g p q r s t u v : List ℕ) → a ≡ o ++ p → b ≡ a ++ q → c ≡ b ++ r → d ≡ c ++ s
    → e ≡ d ++ t → f ≡ e ++ u → g ≡ f ++ v → g ≡ o ++ (p ++ (q ++ (r ++ (s ++ (t ++ (u ++ v))))))
seven-appended o a b c d e f g p q r s t u v p_is q_is r_is s_is t_is u_is v_is =
    two-appended o a g p (q ++ (r ++ (s ++ (t ++ (u ++ v))))) p_is
    (two-appended a b g q (r ++ (s ++ (t ++ (u ++ v)))) q_is
    (five-appended b c d e f g r s t u v r_is s_is t_is u_is v_is))

-- so many calls, each of which may append, keep what was there
pub three-kept : (o a b c : List ℕ) → Extends o a → Extends a b → Extends b c → Extends o c
three-kept o a b c p q r = extends_trans o a c p (extends_trans a b c q r)

pub four-kept : (o a b c d : List ℕ) → Extends o a → Extends a b → Extends b c → Extends c d → Extends o d
four-kept o a b c d p q r s = extends_trans o a d p (three-kept a b c d q r s)

pub five-kept : (o a b c d e : List ℕ) → Extends o a → Extends a b → Extends b c → Extends c d → Extends d e
    → Extends o e
five-kept o a b c d e p q r s t = extends_trans o a e p (four-kept a b c d e q r s t)

-- a step of a loop that writes what is left from its front
pub left-appended : (a b text rest left whole : List ℕ) → b ≡ a ++ text → left ≡ text ++ rest → a ++ left ≡ whole
    → b ++ rest ≡ whole
left-appended a b text rest left whole more parts written =
    ap (λ (xs : List ℕ). xs ++ rest) more ∙ append_assoc a text rest ∙ ap (λ (xs : List ℕ). a ++ xs) (sym parts)
    ∙ written
