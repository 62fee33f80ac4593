-- Texts that begin with others, and where they stand in order.
use Rattle.std.proofs.Common.{◌≡◌, ℕ, ◌+◌, ◌<◌, ◌≤◌, ◌&&◌, inl, inr, Bool, true, false, Ordering, Less, Equal, Greater}
use Rattle.std.proofs.Common.{eqb, List, [], ◌∷◌, ◌++◌, length, take, drop, refl, sym, ap, subst, ◌∙◌, arith}
use Rattle.std.proofs.Common.{append_assoc, length-append, length-drop, take-append-drop, true≢false}
use Rattle.std.specs.Prelude.{nat_le, nat_lt}
use Rattle.std.specs.Str.{bytes_eq}
use Rattle.std.specs.Ordering.{is_gt, is_lt, nat_cmp, ordering_reverse, ordering_then}
use Rattle.std.specs.Cmp.Lexicographic.{bytes_decides, nat_list_cmp_total, slice_cmp}
use Rattle.std.proofs.lemmas.Bool.{cases_lt, false_from_ne_true}
use Rattle.std.proofs.lemmas.Bool.Decides.{nat_tests}
use Rattle.std.proofs.Math.Seq.{take-append_seam}
use Rattle.memchr.specs.Find.{occurs_at}
use Rattle.ht_print.specs.LeastPatterns.{begins}

-- what begins with a text is that text and more
pub rest-of : (text pattern : List ℕ) → begins text pattern ≡ true → text ≡ pattern ++ drop (length pattern) text
rest-of text pattern is =
    sym (take-append-drop (length pattern) text)
    ∙ ap (λ (front : List ℕ). front ++ drop (length pattern) text)
    (sym ((bytes_decides pattern (take (length pattern) text)).0 is))

pub begins-more : (pattern rest : List ℕ) → begins (pattern ++ rest) pattern ≡ true
begins-more pattern rest =
    (bytes_decides pattern (take (length pattern) (pattern ++ rest))).1 (sym (take-append_seam pattern rest))

pub begins-same : (text pattern rest : List ℕ) → text ≡ pattern ++ rest → begins text pattern ≡ true
begins-same text pattern rest is = subst (λ (t : List ℕ). begins t pattern ≡ true) (sym is) (begins-more pattern rest)

-- a text begins with what its front begins with
pub begins-through : (text one other : List ℕ) → begins text one ≡ true → begins one other ≡ true
    → begins text other ≡ true
begins-through text one other first second =
    begins-same text other (drop (length other) one ++ drop (length one) text)
    (rest-of text one first ∙ ap (λ (front : List ℕ). front ++ drop (length one) text) (rest-of one other second)
    ∙ append_assoc other (drop (length other) one) (drop (length one) text))

-- heads in order
head-below : (x y : ℕ) → x < y → nat_cmp x y ≡ Less
head-below x y below = let less : nat_lt x y ≡ true = grind (arith, nat_tests) in rw less refl

head-above : (x y : ℕ) → y < x → nat_cmp x y ≡ Greater
head-above x y above =
    let less : nat_lt x y ≡ false = grind (arith, nat_tests) in
    let same : eqb x y ≡ false = grind (arith, nat_tests) in
    rw (less, same) refl

head-same : (x y : ℕ) → x ≡ y → nat_cmp x y ≡ Equal
head-same x y is =
    let less : nat_lt x y ≡ false = grind (arith, nat_tests) in
    let same : eqb x y ≡ true = grind (arith, nat_tests) in
    rw (less, same) refl

-- a front doesn't stand behind the text
pub front-first : (p r : List ℕ) → is_gt (slice_cmp nat_cmp p (p ++ r)) ≡ false
front-first [] [] = refl
front-first [] (y ∷ r) = refl
front-first (x ∷ p) r =
    ap (λ (o : Ordering). is_gt (ordering_then o (slice_cmp nat_cmp p (p ++ r)))) (head-same x x refl) ∙ front-first p r

-- the second of two texts isn't before the first, as its test has it from the other side
turned : (o : Ordering) → is_gt (ordering_reverse o) ≡ is_lt o
turned Less = refl
turned Equal = refl
turned Greater = refl

pub other-side : (one other : List ℕ) → is_lt (slice_cmp nat_cmp other one) ≡ false
    → is_gt (slice_cmp nat_cmp one other) ≡ false
other-side one other is = ap is_gt (nat_list_cmp_total.antisymm one other) ∙ turned (slice_cmp nat_cmp other one) ∙ is

-- where one head is neither before nor behind another, they are the same
heads : (x y : ℕ) (c d : Ordering) → is_lt (ordering_then (nat_cmp y x) c) ≡ false
    → is_gt (ordering_then (nat_cmp y x) d) ≡ false
    → (x ≡ y) × (is_lt c ≡ false) × (is_gt d ≡ false)
heads x y c d below above =
    elim (cases_lt x y) [
      | inl less ↦ absurd
          (true≢false (sym (ap (λ (o : Ordering). is_gt (ordering_then o d)) (head-above y x less)) ∙ above))
      | inr over ↦ elim (cases_lt y x) [
        | inl more ↦ absurd
            (true≢false (sym (ap (λ (o : Ordering). is_lt (ordering_then o c)) (head-below y x more)) ∙ below))
        | inr under ↦
            let same : x ≡ y = omega arith in (
              same,
              sym (ap (λ (o : Ordering). is_lt (ordering_then o c)) (head-same y x (sym same))) ∙ below,
              sym (ap (λ (o : Ordering). is_gt (ordering_then o d)) (head-same y x (sym same))) ∙ above,
            )
      ]
    ]

-- a text that is neither before a front of another nor behind that other begins with the front
pub between : (p q r : List ℕ) → is_lt (slice_cmp nat_cmp q p) ≡ false → is_gt (slice_cmp nat_cmp q (p ++ r)) ≡ false
    → (rest : List ℕ) × (q ≡ p ++ rest)
between [] q r below above = (q, refl)
between (x ∷ p) [] r below above = absurd (true≢false below)
between (x ∷ p) (y ∷ q) r below above =
    let parts = heads x y (slice_cmp nat_cmp q p) (slice_cmp nat_cmp q (p ++ r)) below above in
    let inner = between p q r parts.1 parts.2 in
    (inner.0, ap (λ (n : ℕ). n ∷ q) (sym parts.0) ∙ ap (λ (t : List ℕ). x ∷ t) inner.1)

pub between-begins : (p q text : List ℕ) → begins text p ≡ true → is_lt (slice_cmp nat_cmp q p) ≡ false
    → is_gt (slice_cmp nat_cmp q text) ≡ false
    → begins q p ≡ true
between-begins p q text begun below above =
    let r : List ℕ = drop (length p) text in
    let inner =
    between p q r below (ap (λ (t : List ℕ). is_gt (slice_cmp nat_cmp q t)) (sym (rest-of text p begun)) ∙ above) in
    begins-same q p inner.0 inner.1

-- a pattern that is behind the text is none that it begins with
pub behind-none : (text pattern : List ℕ) → slice_cmp nat_cmp pattern text ≡ Greater → begins text pattern ≡ false
behind-none text pattern behind =
    false_from_ne_true (begins text pattern)
    (λ begun. true≢false
    (sym (ap is_gt behind) ∙ ap (λ (t : List ℕ). is_gt (slice_cmp nat_cmp pattern t)) (rest-of text pattern begun)
    ∙ front-first pattern (drop (length pattern) text)))

-- where a pattern stands is where what is left of the text begins with it
and-false : (b : Bool) → (b && false) ≡ false
and-false true = refl
and-false false = refl

occurs-by : (text pattern : List ℕ) (k : ℕ) → k ≤ length text → (answer : Bool) → begins (drop k text) pattern ≡ answer
    → occurs_at text pattern k ≡ answer
occurs-by text pattern k within true is =
    let same = rest-of (drop k text) pattern is in
    let count = length-drop k text in
    let all = ap length same ∙ length-append pattern (drop (length pattern) (drop k text)) in
    let fits : nat_le (k + length pattern) (length text) ≡ true = grind (arith, nat_tests, all, count) in
    let bytes =
    (bytes_decides (take (length pattern) (drop k text)) pattern).1
    (sym ((bytes_decides pattern (take (length pattern) (drop k text))).0 is)) in
    rw (fits, bytes) refl
occurs-by text pattern k within false is =
    let bytes : bytes_eq (take (length pattern) (drop k text)) pattern ≡ false =
    false_from_ne_true (bytes_eq (take (length pattern) (drop k text)) pattern)
    (λ yes. true≢false
    (sym ((bytes_decides pattern (take (length pattern) (drop k text))).1
    (sym ((bytes_decides (take (length pattern) (drop k text)) pattern).0 yes)))
    ∙ is)) in
    rw bytes (and-false (nat_le (k + length pattern) (length text)))

pub occurs-begins : (text pattern : List ℕ) (k : ℕ) → k ≤ length text
    → begins (drop k text) pattern ≡ occurs_at text pattern k
occurs-begins text pattern k within = sym (occurs-by text pattern k within (begins (drop k text) pattern) refl)
