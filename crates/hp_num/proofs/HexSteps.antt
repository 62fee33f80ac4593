-- The digits of `hexadecimal n` one by one: the last digit follows the text of what is before it.
use Rattle.std.proofs.Common.{◌≡◌, ℕ, zero, suc, ◌+◌, ◌/◌, ◌%◌, ◌^◌, ◌<◌, ◌≤◌, false, cond, List, [], ◌∷◌, ◌++◌, length}
use Rattle.std.proofs.Common.{refl, sym, ap, subst, ◌∙◌, ⊎_elim, append_assoc, arith, eq-eqb, ne_eqb, length-append}
use Rattle.std.proofs.Common.{◌-◌, drop, set, length-set, drop-cons, get_or-set_same, drop-set-lt}
use Rattle.std.proofs.lemmas.Bool.{cases_lt}
use Rattle.std.proofs.lemmas.Fmt.{hex_one_digit}
use Rattle.std.specs.Fmt.{digits, digits_onto, digit_glyph}
use Rattle.hp_num.specs.Hexadecimal.{hexadecimal}

-- the last k digits of n at most, followed by rest
abbrev spell : ℕ → ℕ → List ℕ → List ℕ
spell k n rest = digits_onto k 16 false n rest

-- the digit that ends the text of n
abbrev pub last_digit : ℕ → ℕ
last_digit n = digit_glyph false (n % 16)

-- a number below 16 is one digit
spell_last : (k n : ℕ) (rest : List ℕ) → n < 16 → spell (suc k) n rest ≡ last_digit n ∷ rest
spell_last k n rest h =
    ap (λ t. cond t (last_digit n ∷ rest) (spell k (n / 16) (last_digit n ∷ rest))) (eq-eqb (n / 16) 0 (omega arith))

-- another number has its last digit after the others
spell_next : (k n : ℕ) (rest : List ℕ) → 16 ≤ n → spell (suc k) n rest ≡ spell k (n / 16) (last_digit n ∷ rest)
spell_next k n rest h =
    ap (λ t. cond t (last_digit n ∷ rest) (spell k (n / 16) (last_digit n ∷ rest)))
    (ne_eqb (n / 16) 0 (λ e. omega arith))

-- what follows the digits does not change them
spell-append : (k n : ℕ) (rest : List ℕ) → spell k n rest ≡ spell k n [] ++ rest
spell-append zero n rest = refl
spell-append (suc k) n rest = ⊎_elim
    (λ l. spell_last k n rest l ∙ ap (λ x. x ++ rest) (sym (spell_last k n [] l)))
    (λ l. spell_next k n rest l ∙ spell-append k (n / 16) (last_digit n ∷ rest)
    ∙ sym (append_assoc (spell k (n / 16) []) (last_digit n ∷ []) rest)
    ∙ ap (λ x. x ++ rest) (sym (spell_next k n [] l ∙ spell-append k (n / 16) (last_digit n ∷ []))))
    (cases_lt n 16)

-- the limit on the digits does not matter once it is large enough
spell_enough : (j k n : ℕ) (rest : List ℕ) → n < 16 ^ suc j → n < 16 ^ suc k
    → spell (suc j) n rest ≡ spell (suc k) n rest
spell_enough zero k n rest p q = spell_last zero n rest (omega arith) ∙ sym (spell_last k n rest (omega arith))
spell_enough (suc j) zero n rest p q =
    spell_last (suc j) n rest (omega arith) ∙ sym (spell_last zero n rest (omega arith))
spell_enough (suc j) (suc k) n rest p q = ⊎_elim
    (λ l. spell_last (suc j) n rest l ∙ sym (spell_last (suc k) n rest l))
    (λ l. spell_next (suc j) n rest l ∙ spell_enough j k (n / 16) (last_digit n ∷ rest) (omega arith) (omega arith)
    ∙ sym (spell_next (suc k) n rest l))
    (cases_lt n 16)

-- `hexadecimal` as `spell`
spelled : (n : ℕ) → spell 64 n [] ≡ hexadecimal n
unfolding digits
spelled n = refl

-- one digit
pub hexadecimal_digit : (n : ℕ) → n < 16 → hexadecimal n ≡ digit_glyph false n ∷ []
hexadecimal_digit n small = hex_one_digit false n small

-- more digits than one
pub hexadecimal_step : (n : ℕ) → 16 ≤ n → n < 2 ^ 64 → hexadecimal n ≡ hexadecimal (n / 16) ++ (last_digit n ∷ [])
hexadecimal_step n h small =
    sym (spelled n) ∙ spell_next 63 n [] h ∙ spell_enough 62 63 (n / 16) (last_digit n ∷ []) (omega arith) (omega arith)
    ∙ spell-append 64 (n / 16) (last_digit n ∷ []) ∙ ap (λ x. x ++ (last_digit n ∷ [])) (spelled (n / 16))

module _ (P : ℕ → List ℕ → Type 0) (one : (n : ℕ) → n < 16 → P n (digit_glyph false n ∷ []))
    (more : (n : ℕ) (ds : List ℕ) → 16 ≤ n → P (n / 16) ds → P n (ds ++ (last_digit n ∷ []))) where
  by : (k n : ℕ) → n ≤ k → n < 2 ^ 64 → P n (hexadecimal n)
  by zero n le small = subst (P n) (sym (hexadecimal_digit n (omega arith))) (one n (omega arith))
  by (suc k) n le small = ⊎_elim
      (λ l. subst (P n) (sym (hexadecimal_digit n l)) (one n l))
      (λ l. subst (P n) (sym (hexadecimal_step n l small))
      (more n (hexadecimal (n / 16)) l (by k (n / 16) (omega arith) (omega arith))))
      (cases_lt n 16)

  -- induction on the digits of a number of 64 bits: one digit, then one more digit at the end
  pub hexadecimal_by_steps : (n : ℕ) → n < 2 ^ 64 → P n (hexadecimal n)
  hexadecimal_by_steps n small = by n n (omega arith) small

-- a number below 16 ^ k has at most k digits
pub length-hexadecimal-le : (k n : ℕ) → 0 < k → n < 16 ^ k → n < 2 ^ 64 → length (hexadecimal n) ≤ k
length-hexadecimal-le k n some fits small =
    hexadecimal_by_steps (λ m ds. (j : ℕ) → 0 < j → m < 16 ^ j → length ds ≤ j) (λ m l j a b. omega arith) more n small
    k some fits
  where
    more : (m : ℕ) (ds : List ℕ) → 16 ≤ m → ((j : ℕ) → 0 < j → m / 16 < 16 ^ j → length ds ≤ j) → (j : ℕ) → 0 < j
        → m < 16 ^ j → length (ds ++ (last_digit m ∷ [])) ≤ j
    more m ds l h zero a b = absurd (omega arith)
    more m ds l h (suc zero) a b = absurd (omega arith)
    more m ds l h (suc (suc j)) a b =
        omega (arith, length-append ds (last_digit m ∷ []), h (suc j) (omega arith) (omega arith))

-- a digit written before the others stands before them
pub digit_before : (buffer : List ℕ) (start digit : ℕ) → 0 < start → start ≤ length buffer
    → drop (start - 1) (set buffer (start - 1) digit) ≡ digit ∷ drop start buffer
digit_before buffer zero digit some within = absurd (omega arith)
digit_before buffer (suc j) digit some within =
    ap (λ k. drop k (set buffer k digit)) {x = suc j - 1} {y = j} (omega arith)
    ∙ drop-cons (set buffer j digit) j 0 (omega (arith, length-set buffer j digit))
    ∙ (λ i. get_or-set_same buffer j digit 0 (omega arith) i ∷ drop-set-lt (suc j) buffer j digit (omega arith) i)

-- the last digit of what is left completes the text where nothing is left after it
pub complete : (rest start digit : ℕ) (buffer text : List ℕ) → rest < 16 → 0 < start → start ≤ length buffer
    → digit ≡ last_digit rest
    → hexadecimal rest ++ drop start buffer ≡ text → drop (start - 1) (set buffer (start - 1) digit) ≡ text
complete rest start digit buffer text small some within is same =
    let low : rest % 16 ≡ rest = omega arith in
    digit_before buffer start digit some within
    ∙ ap (λ d. d ∷ drop start buffer) (is ∙ ap (digit_glyph false) low)
    ∙ ap (λ x. x ++ drop start buffer) (sym (hexadecimal_digit rest small)) ∙ same

-- and else leaves one digit fewer
pub proceed : (rest start digit : ℕ) (buffer text : List ℕ) → 16 ≤ rest → rest < 2 ^ 64 → 0 < start
    → start ≤ length buffer → digit ≡ last_digit rest
    → hexadecimal rest ++ drop start buffer ≡ text
    → hexadecimal (rest / 16) ++ drop (start - 1) (set buffer (start - 1) digit) ≡ text
proceed rest start digit buffer text large small some within is same =
    ap (λ x. hexadecimal (rest / 16) ++ x)
    (digit_before buffer start digit some within ∙ ap (λ d. d ∷ drop start buffer) is)
    ∙ sym (append_assoc (hexadecimal (rest / 16)) (last_digit rest ∷ []) (drop start buffer))
    ∙ ap (λ x. x ++ drop start buffer) (sym (hexadecimal_step rest large small)) ∙ same

-- the digits of the front are one fewer
pub length-hexadecimal_front : (n : ℕ) → 16 ≤ n → n < 2 ^ 64
    → length (hexadecimal (n / 16)) + 1 ≡ length (hexadecimal n)
length-hexadecimal_front n large small =
    sym (ap length (hexadecimal_step n large small) ∙ length-append (hexadecimal (n / 16)) (last_digit n ∷ []))
