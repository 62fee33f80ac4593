-- Lemmas on a walk over lists that takes out what those cost whose first number is too small.
use Rattle.std.proofs.Common.{◌≡◌, ℕ, zero, suc, ◌+◌, ◌<◌, ◌≤◌, ◌⊎◌, inl, inr, ◌≢◌, ◌&&◌, Bool, true, false, eqb, cond, List, []}
use Rattle.std.proofs.Common.{◌∷◌, ◌++◌, append-nil, drop, length, set, take, get_or, refl, sym, ap, ◌∙◌, sum, arith}
use Rattle.std.specs.Prelude.{nat_lt, slice_index}
use Rattle.std.proofs.Math.Bool.{and-false}
use Rattle.std.proofs.lemmas.Bool.{true≢false, and_parts, cases_Bool, cases_eq, cases_lt, eq-eqb, lt-ltb, ltb-true, ne_eqb}
use Rattle.std.proofs.lemmas.Bool.Decides.{nat_tests}
use Rattle.std.proofs.lemmas.Grind.{get_or-set_at}
use Rattle.std.proofs.lemmas.List.{drop_all, get_or-set_other, length-set, take_all}
use Rattle.std.proofs.lemmas.List.Sums.{get_or-le-sum_by, sum_by-set}
use Rattle.cost_tree.specs.declared.children.Gathered.{Gathered}
use Rattle.cost_tree.specs.declared.scale.Scale.{Scale}
use Rattle.cost_tree.specs.CostLines.{is_small}
use Rattle.cost_tree.specs.CutShapes.{ended_cost}
use Rattle.cost_tree.specs.SmallCosts.{TakesSmall, count_below, first_number, is_small_first, left_cost, tells_small}
use Rattle.cost_tree.proofs.Lengthening.{ended-more, ended-start, less-small}

pub first-take : (numbers : List ℕ) → first_number (take 1 numbers) ≡ first_number numbers
unfolding first_number
first-take [] = refl
first-take (number ∷ numbers) = refl

-- what was done at the lists before one: their costs are those that are left, and where a number that is too small was counted,
-- its sum is 0
pub record IsTaking (scale : Scale) (firsts old : List ℕ) (i : ℕ) (sums costs : List ℕ) (few : Gathered) : Type 0 where
  pub as_many : length costs ≡ length old
  pub left : (k : ℕ) → k < length old
      → get_or costs k 0 ≡ cond {A = ℕ} (nat_lt k i) (left_cost scale firsts old k) (get_or old k 0)
  pub shared : (n : ℕ) → n < length sums
      → get_or sums n 0
      ≡ cond {A = ℕ}
      (is_small_first scale firsts old n && nat_lt 0 (ended_cost (take i firsts) (take i old) n)) 0
      (ended_cost firsts old n)
  pub places : few.places ≡ count_below (tells_small scale firsts old) i
  pub parts : few.cost + sum costs ≡ sum old

pub taking-start : (scale : Scale) (firsts old sums : List ℕ)
    → ((n : ℕ) → n < length sums → slice_index sums n ≡ ended_cost firsts old n)
    → IsTaking scale firsts old 0 sums old (record { places = 0; cost = 0 })
unfolding count_below
taking-start scale firsts old sums are = record {
  as_many = refl;
  left = λ k within.
      ap (λ (b : Bool). cond {A = ℕ} b (left_cost scale firsts old k) (get_or old k 0))
      (let e : false ≡ nat_lt k 0 = grind (arith, nat_tests) in e);
  shared = λ n within.
      are n within
      ∙ ap (λ (b : Bool). cond {A = ℕ} b 0 (ended_cost firsts old n))
      (sym (and-false (is_small_first scale firsts old n))
      ∙ ap (λ (m : ℕ). is_small_first scale firsts old n && nat_lt 0 m) (sym (ended-start n)));
  places = refl;
  parts = omega arith;
}

-- what the first lists cost that end at a node is no more than what all cost
ended-front : (ends costs : List ℕ) (i node : ℕ)
    → ended_cost (take i ends) (take i costs) node ≤ ended_cost ends costs node
unfolding ended_cost
ended-front ends costs zero node = omega arith
ended-front [] costs (suc i) node = omega arith
ended-front (e ∷ ends) [] (suc i) node = omega arith
ended-front (e ∷ ends) (c ∷ costs) (suc i) node = let rest = ended-front ends costs i node in omega arith

-- a test more
pub count-more : (test : ℕ → Bool) (i : ℕ) → count_below test (i + 1) ≡ count_below test i + cond {A = ℕ} (test i) 1 0
unfolding count_below
count-more test i = ap (count_below test) (let e : i + 1 ≡ suc i = omega arith in e)

pub count-few : (test : ℕ → Bool) (n : ℕ) → count_below test n ≤ n
unfolding count_below
count-few test zero = omega arith
count-few test (suc n) =
    let rest = count-few test n in
    let here = by_flag (test n) in
    omega arith
  where
    by_flag : (b : Bool) → cond {A = ℕ} b 1 0 ≤ 1
    by_flag true = omega arith
    by_flag false = omega arith

-- the cost of the list that is next is as it was
pub taking-cost : (scale : Scale) (firsts old : List ℕ) (i : ℕ) (sums costs : List ℕ) (few : Gathered)
    → IsTaking scale firsts old i sums costs few → i < length old → get_or costs i 0 ≡ get_or old i 0
taking-cost scale firsts old i sums costs few was within =
    was.left i within
    ∙ ap (λ (b : Bool). cond {A = ℕ} b (left_cost scale firsts old i) (get_or old i 0))
    (let e : nat_lt i i ≡ false = grind (arith, nat_tests) in e)

-- what is counted, with one place and a cost more, fits
pub taking-room : (scale : Scale) (firsts old : List ℕ) (i : ℕ) (sums costs : List ℕ) (few : Gathered)
    → IsTaking scale firsts old i sums costs few → i < length old
    → (few.places ≤ i) × (few.cost + get_or costs i 0 ≤ sum old)
taking-room scale firsts old i sums costs few was within =
    let most = count-few (tells_small scale firsts old) i in
    let places = was.places in
    let parts = was.parts in
    let as_many = was.as_many in
    let one = get_or-le-sum_by (λ (n : ℕ). n) costs i 0 (omega arith) in
    (omega arith, omega arith)

-- the list's number is too small, as its sum says
small-is : (scale : Scale) (firsts old : List ℕ) (f before shared : ℕ) → nat_lt 0 f ≡ true → is_small scale shared ≡ true
    → shared
    ≡ cond {A = ℕ} (is_small_first scale firsts old f && nat_lt 0 before) 0 (ended_cost firsts old f)
    → is_small_first scale firsts old f ≡ true
small-is scale firsts old f before shared some small is =
    elim (cases_Bool (is_small_first scale firsts old f)) [
      | inl yes' ↦ yes'
      | inr no' ↦
          let whole : shared ≡ ended_cost firsts old f =
          is ∙ ap (λ (b : Bool). cond {A = ℕ} (b && nat_lt 0 before) 0 (ended_cost firsts old f)) no' in
          ap (λ (b : Bool). b && is_small scale (ended_cost firsts old f)) some
          ∙ ap (λ (n : ℕ). is_small scale n) (sym whole) ∙ small
    ]

-- a number that is too small is so whether it was counted or not
small-still : (scale : Scale) (firsts old : List ℕ) (f before shared : ℕ) → is_small_first scale firsts old f ≡ true
    → shared
    ≡ cond {A = ℕ} (is_small_first scale firsts old f && nat_lt 0 before) 0 (ended_cost firsts old f)
    → is_small scale shared ≡ true
small-still scale firsts old f before shared yes' is =
    let parts = and_parts (nat_lt 0 f) (is_small scale (ended_cost firsts old f)) yes' in
    let most : shared ≤ ended_cost firsts old f =
    below (is_small_first scale firsts old f && nat_lt 0 before) (ended_cost firsts old f) is in
    less-small scale shared (ended_cost firsts old f) most parts.1
  where
    below : (b : Bool) (n : ℕ) → shared ≡ cond {A = ℕ} b 0 n → shared ≤ n
    below true n e = omega arith
    below false n e = omega arith

-- lists before the next one are those before this, and it
before-more : (k i : ℕ) → k ≢ i → nat_lt k (i + 1) ≡ nat_lt k i
before-more k i apart = grind (arith, nat_tests)

-- the next list is left out
pub taking-more : (scale : Scale) (firsts old : List ℕ) (i : ℕ) (sums costs : List ℕ) (few : Gathered)
    → IsTaking scale firsts old i sums costs few → length old ≡ length firsts → i < length firsts
    → get_or firsts i 0 < length sums
    → (nat_lt 0 (get_or firsts i 0) && nat_lt 0 (get_or costs i 0)
    && is_small scale (get_or sums (get_or firsts i 0) 0)) ≡ true
    → IsTaking scale firsts old (i + 1) (set sums (get_or firsts i 0) 0) (set costs i 0)
    (record {
      places = few.places + cond {A = ℕ} (nat_lt 0 (get_or sums (get_or firsts i 0) 0)) 1 0;
      cost = few.cost + get_or costs i 0;
    })
taking-more scale firsts old i sums costs few was same within held out =
    let f : ℕ = get_or firsts i 0 in
    let shared : ℕ = get_or sums f 0 in
    let before : ℕ = ended_cost (take i firsts) (take i old) f in
    let both = and_parts (nat_lt 0 f && nat_lt 0 (get_or costs i 0)) (is_small scale shared) out in
    let two = and_parts (nat_lt 0 f) (nat_lt 0 (get_or costs i 0)) both.0 in
    let costs_some = ltb-true 0 (get_or costs i 0) two.1 in
    let cost = taking-cost scale firsts old i sums costs few was (omega arith) in
    let value = was.shared f held in
    let small = small-is scale firsts old f before shared two.0 both.1 value in
    let as_many = was.as_many in
    let counted = length-set sums f 0 in
    let more = ended-more firsts old i f same within in
    let itself = ap (λ (b : Bool). cond {A = ℕ} b (get_or old i 0) 0) (eq-eqb f f refl) in
    record {
      as_many = length-set costs i 0 ∙ was.as_many;
      left = λ k inside.
          elim (cases_eq k i) [
            | inl is ↦
                get_or-set_at costs i k 0 0 is (omega arith)
                ∙ sym
                (ap (λ (b : Bool). cond {A = ℕ} b (left_cost scale firsts old k) (get_or old k 0))
                (lt-ltb k (i + 1) (omega arith))
                ∙ ap (λ (j : ℕ). left_cost scale firsts old j) is
                ∙ ap (λ (b : Bool). cond {A = ℕ} b 0 (get_or old i 0)) small)
            | inr apart ↦
                get_or-set_other costs i k 0 0 apart
                ∙ was.left k inside
                ∙ ap (λ (b : Bool). cond {A = ℕ} b (left_cost scale firsts old k) (get_or old k 0))
                (sym (before-more k i apart))
          ];
      shared = λ n inside.
          elim (cases_eq n f) [
            | inl is ↦
                get_or-set_at sums f n 0 0 is held
                ∙ sym
                (ap (λ (m : ℕ). told (i + 1) m) is
                ∙ ap (λ (b : Bool). cond {A = ℕ} (b && nat_lt 0 (ended (i + 1) f)) 0 (ended_cost firsts old f)) small
                ∙ ap (λ (b : Bool). cond {A = ℕ} b 0 (ended_cost firsts old f))
                (lt-ltb 0 (ended (i + 1) f) (omega arith)))
            | inr apart ↦
                let later = ended-more firsts old i n same within in
                let other = ap (λ (b : Bool). cond {A = ℕ} b (get_or old i 0) 0) (ne_eqb f n (λ e. apart (sym e))) in
                get_or-set_other sums f n 0 0 apart
                ∙ was.shared n (omega arith)
                ∙ ap (λ (m : ℕ). cond {A = ℕ} (is_small_first scale firsts old n && nat_lt 0 m) 0
                (ended_cost firsts old n)) (let e : ended i n ≡ ended (i + 1) n = omega arith in e)
          ];
      places =
          ap (λ (m : ℕ). m + cond {A = ℕ} (nat_lt 0 shared) 1 0) was.places
          ∙ ap (λ (m : ℕ). count_below (tells_small scale firsts old) i + m)
          (once before small (omega (arith, ended-front firsts old (i + 1) f)) value
          ∙ ap (λ (b : Bool). cond {A = ℕ} (b && eqb before 0) 1 0)
          (sym (ap (λ (b : Bool). b && nat_lt 0 (get_or old i 0)) small ∙ lt-ltb 0 (get_or old i 0) (omega arith))))
          ∙ sym (count-more (tells_small scale firsts old) i);
      parts =
          let out_of = sum_by-set (λ (n : ℕ). n) costs i 0 0 (omega arith) in
          let parts = was.parts in
          omega arith;
    }
  where
    ended : ℕ → ℕ → ℕ
    ended j n = ended_cost (take j firsts) (take j old) n

    told : ℕ → ℕ → ℕ
    told j n = cond {A = ℕ} (is_small_first scale firsts old n && nat_lt 0 (ended j n)) 0 (ended_cost firsts old n)

    -- its number is counted where that is the first time
    once : (before : ℕ) → is_small_first scale firsts old (get_or firsts i 0) ≡ true
        → 0 < ended_cost firsts old (get_or firsts i 0)
        → get_or sums (get_or firsts i 0) 0
        ≡ cond {A = ℕ} (is_small_first scale firsts old (get_or firsts i 0) && nat_lt 0 before) 0
        (ended_cost firsts old (get_or firsts i 0))
        → cond {A = ℕ} (nat_lt 0 (get_or sums (get_or firsts i 0) 0)) 1 0 ≡ cond {A = ℕ} (true && eqb before 0) 1 0
    once zero small some value =
        let whole : get_or sums (get_or firsts i 0) 0 ≡ ended_cost firsts old (get_or firsts i 0) =
        value ∙ ap (λ (b : Bool). cond {A = ℕ} b 0 (ended_cost firsts old (get_or firsts i 0)))
        (and-false (is_small_first scale firsts old (get_or firsts i 0))) in
        ap (λ (b : Bool). cond {A = ℕ} b 1 0) (lt-ltb 0 (get_or sums (get_or firsts i 0) 0) (omega arith))
    once (suc more) small some value =
        let none : get_or sums (get_or firsts i 0) 0 ≡ 0 =
        value
        ∙ ap (λ (b : Bool). cond {A = ℕ} (b && nat_lt 0 (suc more)) 0 (ended_cost firsts old (get_or firsts i 0))) small
        ∙ ap (λ (b : Bool). cond {A = ℕ} b 0 (ended_cost firsts old (get_or firsts i 0)))
        (lt-ltb 0 (suc more) (omega arith)) in
        ap (λ (m : ℕ). cond {A = ℕ} (nat_lt 0 m) 1 0) none
        ∙ sym (ap (λ (b : Bool). cond {A = ℕ} b 1 0) (ne_eqb (suc more) 0 (λ e. absurd (omega arith))))

-- it is not
pub taking-same : (scale : Scale) (firsts old : List ℕ) (i : ℕ) (sums costs : List ℕ) (few : Gathered)
    → IsTaking scale firsts old i sums costs few → length old ≡ length firsts → i < length firsts
    → get_or firsts i 0 < length sums
    → (nat_lt 0 (get_or firsts i 0) && nat_lt 0 (get_or costs i 0)
    && is_small scale (get_or sums (get_or firsts i 0) 0)) ≡ false
    → IsTaking scale firsts old (i + 1) sums costs few
taking-same scale firsts old i sums costs few was same within held stays =
    let f : ℕ = get_or firsts i 0 in
    let before : ℕ = ended_cost (take i firsts) (take i old) f in
    let cost = taking-cost scale firsts old i sums costs few was (omega arith) in
    let value = was.shared f held in
    let case : (is_small_first scale firsts old f ≡ false) ⊎ (get_or old i 0 ≡ 0) =
    elim (cases_Bool (is_small_first scale firsts old f)) [
      | inr no' ↦ inl no'
      | inl yes' ↦
          let parts = and_parts (nat_lt 0 f) (is_small scale (ended_cost firsts old f)) yes' in
          let still = small-still scale firsts old f before (get_or sums f 0) yes' value in
          elim (cases_lt 0 (get_or old i 0)) [
            | inr none ↦ inr (omega arith)
            | inl some ↦ absurd (false_true
                (sym stays
                ∙ ap (λ (b : Bool). b && nat_lt 0 (get_or costs i 0) && is_small scale (get_or sums f 0)) parts.0
                ∙ ap (λ (b : Bool). true && b && is_small scale (get_or sums f 0))
                (lt-ltb 0 (get_or costs i 0) (omega arith))
                ∙ still))
          ]
    ] in
    record {
      as_many = was.as_many;
      left = λ k inside.
          was.left k inside
          ∙ elim (cases_eq k i) [
            | inl is ↦
                ap (λ (j : ℕ). cond {A = ℕ} (nat_lt j i) (left_cost scale firsts old j) (get_or old j 0)) is
                ∙ ap (λ (b : Bool). cond {A = ℕ} b (left_cost scale firsts old i) (get_or old i 0))
                (let e : nat_lt i i ≡ false = grind (arith, nat_tests) in e)
                ∙ whole case
                ∙ ap (λ (j : ℕ). left_cost scale firsts old j) (sym is)
                ∙ ap (λ (b : Bool). cond {A = ℕ} b (left_cost scale firsts old k) (get_or old k 0))
                (sym (lt-ltb k (i + 1) (omega arith)))
            | inr apart ↦
                ap (λ (b : Bool). cond {A = ℕ} b (left_cost scale firsts old k) (get_or old k 0))
                (sym (before-more k i apart))
          ];
      shared = λ n inside.
          was.shared n inside
          ∙ elim (cases_eq n f) [
            | inl is ↦ ap (λ (m : ℕ). told i m) is ∙ unchanged case ∙ ap (λ (m : ℕ). told (i + 1) m) (sym is)
            | inr apart ↦
                let later = ended-more firsts old i n same within in
                let other = ap (λ (b : Bool). cond {A = ℕ} b (get_or old i 0) 0) (ne_eqb f n (λ e. apart (sym e))) in
                ap (λ (m : ℕ). cond {A = ℕ} (is_small_first scale firsts old n && nat_lt 0 m) 0
                (ended_cost firsts old n)) (let e : ended i n ≡ ended (i + 1) n = omega arith in e)
          ];
      places =
          was.places
          ∙ (let e : count_below (tells_small scale firsts old) i
          ≡ count_below (tells_small scale firsts old) i + 0 =
          omega arith in e)
          ∙ ap (λ (m : ℕ). count_below (tells_small scale firsts old) i + m) (sym (untold case))
          ∙ sym (count-more (tells_small scale firsts old) i);
      parts = was.parts;
    }
  where
    ended : ℕ → ℕ → ℕ
    ended j n = ended_cost (take j firsts) (take j old) n

    told : ℕ → ℕ → ℕ
    told j n = cond {A = ℕ} (is_small_first scale firsts old n && nat_lt 0 (ended j n)) 0 (ended_cost firsts old n)

    false_true : false ≡ true → ⊥
    false_true e = true≢false (sym e)

    whole : ((is_small_first scale firsts old (get_or firsts i 0) ≡ false) ⊎ (get_or old i 0 ≡ 0))
        → get_or old i 0 ≡ left_cost scale firsts old i
    whole (inl large) = sym (ap (λ (b : Bool). cond {A = ℕ} b 0 (get_or old i 0)) large)
    whole (inr none) =
        none ∙ sym (same_cond (is_small_first scale firsts old (get_or firsts i 0)) (get_or old i 0) none)
      where
        same_cond : (b : Bool) (n : ℕ) → n ≡ 0 → cond {A = ℕ} b 0 n ≡ 0
        same_cond true n e = refl
        same_cond false n e = e

    unchanged : ((is_small_first scale firsts old (get_or firsts i 0) ≡ false) ⊎ (get_or old i 0 ≡ 0))
        → told i (get_or firsts i 0) ≡ told (i + 1) (get_or firsts i 0)
    unchanged (inl large) =
        ap (λ (b : Bool). cond {A = ℕ} (b && nat_lt 0 (ended i (get_or firsts i 0))) 0
        (ended_cost firsts old (get_or firsts i 0))) large
        ∙ sym (ap (λ (b : Bool). cond {A = ℕ} (b && nat_lt 0 (ended (i + 1) (get_or firsts i 0))) 0
        (ended_cost firsts old (get_or firsts i 0))) large)
    unchanged (inr none) =
        let f : ℕ = get_or firsts i 0 in
        let more = ended-more firsts old i f same within in
        let itself = ap (λ (b : Bool). cond {A = ℕ} b (get_or old i 0) 0) (eq-eqb f f refl) in
        ap (λ (m : ℕ). cond {A = ℕ} (is_small_first scale firsts old f && nat_lt 0 m) 0 (ended_cost firsts old f))
        (let e : ended i f ≡ ended (i + 1) f = omega arith in e)

    untold : ((is_small_first scale firsts old (get_or firsts i 0) ≡ false) ⊎ (get_or old i 0 ≡ 0))
        → cond {A = ℕ} (tells_small scale firsts old i) 1 0 ≡ 0
    untold (inl large) =
        ap (λ (b : Bool). cond {A = ℕ} (b && nat_lt 0 (get_or old i 0) && eqb (ended i (get_or firsts i 0)) 0) 1 0) large
    untold (inr none) =
        ap (λ (m : ℕ). cond {A = ℕ}
        (is_small_first scale firsts old (get_or firsts i 0) && nat_lt 0 m && eqb (ended i (get_or firsts i 0)) 0) 1 0)
        none
        ∙ ap (λ (b : Bool). cond {A = ℕ} (b && eqb (ended i (get_or firsts i 0)) 0) 1 0)
        (and-false (is_small_first scale firsts old (get_or firsts i 0)))

-- all lists are done
pub taking-all : (scale : Scale) (firsts old : List ℕ) (i : ℕ) (sums costs : List ℕ) (few : Gathered)
    → IsTaking scale firsts old i sums costs few → i ≡ length old → TakesSmall scale firsts old costs few
taking-all scale firsts old i sums costs few was all = record {
  as_many = was.as_many;
  left = λ k within.
      was.left k within
      ∙ ap (λ (b : Bool). cond {A = ℕ} b (left_cost scale firsts old k) (get_or old k 0)) (lt-ltb k i (omega arith));
  places = was.places ∙ ap (count_below (tells_small scale firsts old)) all;
  parts = was.parts;
}

-- a vector's elements are those that a slice of all of them has become
pub written-back : (len : ℕ) (new old : List ℕ) → length new ≡ length old → len ≡ length old
    → take len (new ++ drop (length new) old) ≡ new
written-back len new old same is =
    ap (λ (xs : List ℕ). take len (new ++ xs)) (drop_all (length new) old (omega arith))
    ∙ ap (λ (xs : List ℕ). take len xs) (append-nil new)
    ∙ take_all len new (omega arith)
