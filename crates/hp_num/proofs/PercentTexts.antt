-- What the texts that `percent` writes are.
use Rattle.std.proofs.Common.{◌≡◌, ◌≢◌, ℕ, ◌+◌, ◌/◌, ◌%◌, ◌<◌, ◌≤◌, List, [], ◌∷◌, length, refl, sym, subst, ◌∙◌, arith}
use Rattle.std.proofs.Common.{⊎_elim, All, lt-ltb, le-ltb}
use Rattle.std.proofs.lemmas.Bool.{cases_lt}
use Rattle.std.proofs.lemmas.Fmt.{decimal_digit, decimal_step}
use Rattle.std.proofs.lemmas.List.Elements.{All-cons, All-nil}
use Rattle.hp_num.specs.Percent.{percent, two_digits}

-- a list of two bytes by its bytes
pair : (a b c d : ℕ) → a ≡ c → b ≡ d → a ∷ b ∷ [] ≡ c ∷ d ∷ []
pair a b c d e f = rw (e, f)

-- the text of a number below 100 in two digits
two_digits_below : (n : ℕ) → n < 100 → two_digits n ≡ (48 + n / 10) ∷ (48 + n % 10) ∷ []
two_digits_below n small = ⊎_elim
    (λ (l : n < 10). rw (lt-ltb n 10 l, decimal_digit n l)
    (pair 48 (48 + n) (48 + n / 10) (48 + n % 10) (omega arith) (omega arith)))
    (λ (l : 10 ≤ n). rw (le-ltb n 10 l, decimal_step n l (omega arith), decimal_digit (n / 10) (omega arith)))
    (cases_lt n 10)

-- six bytes by what they are
six : (a b c d e f a' b' d' e' : ℕ) → a ≡ a' → b ≡ b' → d ≡ d' → e ≡ e'
    → a ∷ b ∷ c ∷ d ∷ e ∷ f ∷ [] ≡ a' ∷ b' ∷ c ∷ d' ∷ e' ∷ f ∷ []
six a b c d e f a' b' d' e' p q r s = rw (p, q, r, s)

-- the six bytes below 100 percent
pub percent_below : (h : ℕ) → h < 10000
    → percent h ≡ (48 + h / 1000) ∷ (48 + h / 100 % 10) ∷ 46 ∷ (48 + h / 10 % 10) ∷ (48 + h % 10) ∷ 37 ∷ []
unfolding percent
percent_below h small =
    rw (two_digits_below (h / 100) (omega arith), two_digits_below (h % 100) (omega arith))
    (six (48 + h / 100 / 10) (48 + h / 100 % 10) 46 (48 + h % 100 / 10) (48 + h % 100 % 10) 37 (48 + h / 1000)
    (48 + h / 100 % 10) (48 + h / 10 % 10) (48 + h % 10)
    (omega arith) refl (omega arith) (omega arith))

-- 100 percent
pub percent_full : percent 10000 ≡ 49 ∷ 48 ∷ 48 ∷ 46 ∷ 48 ∷ 48 ∷ 37 ∷ []
unfolding percent
percent_full =
    rw (
      decimal_step 100 (omega arith) (omega arith),
      decimal_step 10 (omega arith) (omega arith),
      decimal_digit 1 (omega arith),
      decimal_digit 0 (omega arith),
    )

-- what holds of the texts of all percentages below the whole, and of its text, holds of all
by_texts : (P : List ℕ → Type 0) → ((h : ℕ) → h < 10000 → P (percent h)) → P (percent 10000) → (h : ℕ) → h ≤ 10000
    → P (percent h)
by_texts P below full h small =
    ⊎_elim (λ l. below h l) (λ (l : 10000 ≤ h). let e : 10000 ≡ h = omega arith in subst (λ x. P (percent x)) e full)
    (cases_lt h 10000)

-- at least six bytes
pub at_least_6 : (h : ℕ) → h ≤ 10000 → 6 ≤ length (percent h)
at_least_6 =
    by_texts (λ text. 6 ≤ length text) (λ h l. rw (percent_below h l) (omega arith)) (rw percent_full (omega arith))

-- at most seven
pub at_most_7 : (h : ℕ) → h ≤ 10000 → length (percent h) ≤ 7
at_most_7 =
    by_texts (λ text. length text ≤ 7) (λ h l. rw (percent_below h l) (omega arith)) (rw percent_full (omega arith))

-- bytes that are no line feed
abbrev IsOther : ℕ → Type 0
IsOther b = b ≢ 10

-- one byte more that is none
other_cons : (b : ℕ) (bs : List ℕ) → 10 < b → All IsOther bs → All IsOther (b ∷ bs)
other_cons b bs l h = All-cons IsOther b bs (λ e. omega arith) h

-- six bytes that are none
others : (a b c d e f : ℕ) → 10 < a → 10 < b → 10 < c → 10 < d → 10 < e → 10 < f
    → All IsOther (a ∷ b ∷ c ∷ d ∷ e ∷ f ∷ [])
others a b c d e f p q r s t u =
    other_cons a (b ∷ c ∷ d ∷ e ∷ f ∷ []) p
    (other_cons b (c ∷ d ∷ e ∷ f ∷ []) q
    (other_cons c (d ∷ e ∷ f ∷ []) r
    (other_cons d (e ∷ f ∷ []) s (other_cons e (f ∷ []) t (other_cons f [] u (All-nil IsOther))))))

-- no line feed
pub one_line : (h : ℕ) → h ≤ 10000 → All (λ b. b ≢ 10) (percent h)
one_line = by_texts (λ text. All IsOther text)
    (λ h l. rw (percent_below h l)
    (others (48 + h / 1000) (48 + h / 100 % 10) 46 (48 + h / 10 % 10) (48 + h % 10) 37 (omega arith) (omega arith)
    (omega arith) (omega arith) (omega arith) (omega arith)))
    (rw percent_full
    (other_cons 49 (48 ∷ 48 ∷ 46 ∷ 48 ∷ 48 ∷ 37 ∷ []) (omega arith)
    (others 48 48 46 48 48 37 (omega arith) (omega arith) (omega arith) (omega arith) (omega arith) (omega arith))))

-- the six bytes as the code makes them
pub below_text : (h a b d e : ℕ) → h < 10000 → a ≡ 48 + h / 1000 % 10 → b ≡ 48 + h / 100 % 10 → d ≡ 48 + h / 10 % 10
    → e ≡ 48 + h % 10 → a ∷ b ∷ 46 ∷ d ∷ e ∷ 37 ∷ [] ≡ percent h
below_text h a b d e small p q r s =
    six a b 46 d e 37 (48 + h / 1000) (48 + h / 100 % 10) (48 + h / 10 % 10) (48 + h % 10) (omega (arith, p)) q r s
    ∙ sym (percent_below h small)

-- what callers learn of the text of a percentage
pub ruleset percent_text_laws = (at_least_6, at_most_7, one_line)
