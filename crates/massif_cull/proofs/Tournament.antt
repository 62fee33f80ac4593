-- The first of keys: what one choice of two says, that the top of a tournament is the first of all,
-- and how one is kept.
use Rattle.std.proofs.Common.{◌≡◌, ◌≢◌, ◌⊎◌, ℕ, ◌+◌, ◌-◌, ◌/◌, ◌<◌, ◌≤◌, zero, suc, true, List, [], ◌∷◌, length}
use Rattle.std.proofs.Common.{drop, map, set, get_or, inl, inr, refl, sym, ap, subst, ◌∙◌, arith}
use Rattle.std.proofs.lemmas.Bool.{cases_eq, cases_lt, lt-ltb, le-ltb}
use Rattle.std.proofs.lemmas.List.{drop-set-add, get_or_default, get_or-set_same, get_or-set_other, get_or-drop}
use Rattle.std.proofs.lemmas.List.{length-set, length-drop}
use Rattle.massif_cull.specs.declared.gaps.Key.{Key}
use Rattle.massif_cull.specs.declared.gaps.Gaps.TheInside.{Inside}
use Rattle.massif_cull.specs.Keys.{no_key, key_at, with_gap, first_of, IsNoLater, IsFirst, AreFirsts}
use Rattle.massif_cull.specs.Tournament.{IsTournament, gaps_of}

-- ---- one choice

pub later-self : (a : Key) → IsNoLater a a
later-self a = record { gap = omega arith; number = λ e. omega arith }

pub later-trans : (a b c : Key) → IsNoLater a b → IsNoLater b c → IsNoLater a c
later-trans a b c one two =
    let gap_one = one.gap in
    let gap_two = two.gap in
    record {
      gap = omega arith;
      number =
          λ e. (let number_one = one.number (omega arith) in let number_two = two.number (omega arith) in omega arith);
    }

-- which of two is chosen
first-cases : (a b : Key) → ((first_of a b ≡ a) × IsNoLater a b) ⊎ ((first_of a b ≡ b) × IsNoLater b a)
first-cases a b =
    elim (cases_lt b.gap a.gap) [
      | inl second ↦ inr
          (rw (lt-ltb b.gap a.gap second) refl, record { gap = omega arith; number = λ e. absurd (omega arith) })
      | inr most ↦ elim (cases_lt a.gap b.gap) [
        | inl first ↦
            inl (
              rw (le-ltb b.gap a.gap most, lt-ltb a.gap b.gap first) refl,
              record { gap = omega arith; number = λ e. absurd (omega arith) },
            )
        | inr least ↦ elim (cases_lt b.number a.number) [
          | inl second ↦
              inr (
                rw (le-ltb b.gap a.gap most, le-ltb a.gap b.gap least, lt-ltb b.number a.number second) refl,
                record { gap = omega arith; number = λ e. omega arith },
              )
          | inr first ↦
              inl (
                rw (le-ltb b.gap a.gap most, le-ltb a.gap b.gap least, le-ltb b.number a.number first) refl,
                record { gap = omega arith; number = λ e. omega arith },
              )
        ]
      ]
    ]

-- what is chosen comes no later than either
first-left : (a b : Key) → IsNoLater (first_of a b) a
first-left a b =
    elim (first-cases a b) [
      | inl left ↦ subst (λ (k : Key). IsNoLater k a) (sym left.0) (later-self a)
      | inr right ↦ subst (λ (k : Key). IsNoLater k a) (sym right.0) right.1
    ]

first-right : (a b : Key) → IsNoLater (first_of a b) b
first-right a b =
    elim (first-cases a b) [
      | inl left ↦ subst (λ (k : Key). IsNoLater k b) (sym left.0) left.1
      | inr right ↦ subst (λ (k : Key). IsNoLater k b) (sym right.0) (later-self b)
    ]

-- ---- the top

-- a node comes no later than one below it
node-below :
    (nodes : List Key) (max h n : ℕ)
    → length nodes ≡ max + max
    → AreFirsts nodes 0
    → (n ≡ h + h) ⊎ (n ≡ h + h + 1)
    → 0 < h
    → n < length nodes
    → IsNoLater (key_at nodes h) (key_at nodes n)
node-below nodes max h n size firsts side some inside =
    elim side [
      | inl left ↦
          let is = firsts.each h some (omega arith) (λ e. omega arith) in
          subst (λ (m : ℕ). IsNoLater (key_at nodes h) (key_at nodes m)) (sym left)
          (subst (λ (k : Key). IsNoLater k (key_at nodes (h + h))) (sym is)
          (first-left (key_at nodes (h + h)) (key_at nodes (h + h + 1))))
      | inr right ↦
          let is = firsts.each h some (omega arith) (λ e. omega arith) in
          subst (λ (m : ℕ). IsNoLater (key_at nodes h) (key_at nodes m)) (sym right)
          (subst (λ (k : Key). IsNoLater k (key_at nodes (h + h + 1))) (sym is)
          (first-right (key_at nodes (h + h)) (key_at nodes (h + h + 1))))
    ]

-- the top comes no later than any node
top-least : (nodes : List Key) (max : ℕ) → length nodes ≡ max + max → AreFirsts nodes 0 → (f n : ℕ) → n ≤ f → 0 < n
    → n < length nodes → IsNoLater (key_at nodes 1) (key_at nodes n)
top-least nodes max size firsts zero n few some inside = absurd (omega arith)
top-least nodes max size firsts (suc f) n few some inside =
    elim (cases_eq n 1) [
      | inl one ↦ subst (λ (k : ℕ). IsNoLater (key_at nodes 1) (key_at nodes k)) (sym one) (later-self (key_at nodes 1))
      | inr more ↦
          let side : (n ≡ n / 2 + n / 2) ⊎ (n ≡ n / 2 + n / 2 + 1) = elim (cases_eq n (n / 2 + n / 2)) [
            | inl even ↦ inl even
            | inr odd ↦ inr (omega arith)
          ]
          in
          later-trans (key_at nodes 1) (key_at nodes (n / 2)) (key_at nodes n)
          (top-least nodes max size firsts f (n / 2) (omega arith) (omega arith) (omega arith))
          (node-below nodes max (n / 2) n size firsts side (omega arith) inside)
    ]

-- each node has the key of a place
top-some : (nodes : List Key) (max : ℕ) → length nodes ≡ max + max → AreFirsts nodes 0 → (f n : ℕ)
    → length nodes ≤ n + f → 0 < n → n < length nodes
    → (m : ℕ) × (max ≤ m) × (m < length nodes) × (key_at nodes m ≡ key_at nodes n)
top-some nodes max size firsts zero n few some inside = absurd (omega arith)
top-some nodes max size firsts (suc f) n few some inside =
    elim (cases_lt (n + n + 1) (length nodes)) [
      | inl inner ↦
          let is = firsts.each n some inner (λ e. omega arith) in
          elim (first-cases (key_at nodes (n + n)) (key_at nodes (n + n + 1))) [
            | inl left ↦
                let found = top-some nodes max size firsts f (n + n) (omega arith) (omega arith) (omega arith) in
                (found.0, found.1, found.2, found.3 ∙ sym left.0 ∙ sym is)
            | inr right ↦
                let found = top-some nodes max size firsts f (n + n + 1) (omega arith) (omega arith) (omega arith) in
                (found.0, found.1, found.2, found.3 ∙ sym right.0 ∙ sym is)
          ]
      | inr leaf ↦ (n, omega arith, inside, refl)
    ]

-- where there is a place there is a top
pub some-nodes : (gaps : Inside) → IsTournament gaps → 0 < length (gaps_of gaps).keys → 1 < length gaps.nodes.items
some-nodes gaps is some =
    let size = is.size in
    let long : length (drop gaps.max gaps.nodes.items) ≡ length gaps.nodes.items - gaps.max =
    length-drop gaps.max gaps.nodes.items in
    omega arith

-- the top is the first of the keys
pub top-first : (gaps : Inside) → IsTournament gaps → gaps.ready ≡ true → 0 < length (gaps_of gaps).keys
    → IsFirst (gaps_of gaps).keys (key_at gaps.nodes.items 1)
top-first gaps is ready some =
    let nodes = gaps.nodes.items in
    let size = is.size in
    let long : length (drop gaps.max gaps.nodes.items) ≡ length gaps.nodes.items - gaps.max =
    length-drop gaps.max gaps.nodes.items in
    let firsts = is.firsts ready in
    let found = top-some nodes gaps.max size firsts (length nodes) 1 (omega arith) (omega arith) (omega arith) in
    let high = found.1 in
    let within = found.2 in
    let back : gaps.max + (found.0 - gaps.max) ≡ found.0 = omega arith in
    record {
      at = found.0 - gaps.max;
      inside = omega arith;
      there = get_or-drop gaps.max nodes (found.0 - gaps.max) no_key ∙ ap (key_at nodes) back ∙ found.3;
      each = λ other inside.
          subst (λ (k : Key). IsNoLater (key_at nodes 1) k) (sym (get_or-drop gaps.max nodes other no_key))
          (top-least nodes gaps.max size firsts (gaps.max + other) (gaps.max + other) (omega arith) (omega arith)
          (omega arith));
    }

-- ---- one key changes

-- the node has the first of the keys of the two below it
abbrev HasFirst : List Key → ℕ → Type 0
HasFirst nodes n = key_at nodes n ≡ first_of (key_at nodes (n + n)) (key_at nodes (n + n + 1))

-- so it has where another key changes, which is neither its own nor one of these
first-stays : (nodes : List Key) (n m : ℕ) (key : Key) → m ≢ n → m + m ≢ n → m + m + 1 ≢ n → HasFirst nodes m
    → HasFirst (set nodes n key) m
first-stays nodes n m key apart left right is =
    rw (
      get_or-set_other nodes n m key no_key apart,
      get_or-set_other nodes n (m + m) key no_key left,
      get_or-set_other nodes n (m + m + 1) key no_key right,
    )
    is

-- and where it gets that key
first-made : (nodes : List Key) (n m : ℕ) (key : Key) → m ≡ n → 0 < n → n + n + 1 < length nodes
    → key ≡ first_of (key_at nodes (n + n)) (key_at nodes (n + n + 1)) → HasFirst (set nodes n key) m
first-made nodes n m key same above within is =
    subst (λ (k : ℕ). HasFirst (set nodes n key) k) (sym same)
    (rw (
      get_or-set_same nodes n key no_key (omega arith),
      get_or-set_other nodes n (n + n) key no_key (λ e. omega arith),
      get_or-set_other nodes n (n + n + 1) key no_key (λ e. omega arith),
    )
    is)

-- a key that has no node below it: the one above it is open
pub climb-start : (nodes : List Key) (n : ℕ) (key : Key) → length nodes ≤ n + n → AreFirsts nodes 0
    → AreFirsts (set nodes n key) (n / 2)
climb-start nodes n key low firsts = record {
  each = λ m some inside apart.
      let long = length-set nodes n key in
      first-stays nodes n m key (λ e. omega arith) (λ e. apart (omega arith)) (λ e. apart (omega arith))
      (firsts.each m some (omega arith) (λ e. omega arith));
}

-- a node that gets the first of the two below it: the one above it is open
pub climb-more :
    (nodes : List Key) (n : ℕ) (key : Key)
    → 0 < n
    → n + n + 1 < length nodes
    → key ≡ first_of (key_at nodes (n + n)) (key_at nodes (n + n + 1))
    → AreFirsts nodes n
    → AreFirsts (set nodes n key) (n / 2)
climb-more nodes n key above within is firsts = record {
  each = λ m some inside apart.
      let long = length-set nodes n key in
      elim (cases_eq m n) [
        | inl same ↦ first-made nodes n m key same above within is
        | inr other ↦
            first-stays nodes n m key other (λ e. apart (omega arith)) (λ e. apart (omega arith))
            (firsts.each m some (omega arith) other)
      ];
}

-- a node that has it already: none is open
pub climb-same : (nodes : List Key) (n : ℕ)
    → key_at nodes n ≡ first_of (key_at nodes (n + n)) (key_at nodes (n + n + 1)) → AreFirsts nodes n
    → AreFirsts nodes 0
climb-same nodes n is firsts = record {
  each = λ m some inside apart. elim (cases_eq m n) [
    | inl same ↦ subst (HasFirst nodes) (sym same) is
    | inr other ↦ firsts.each m some inside other
  ];
}

-- what is read of a node
pub node-read : (nodes : List Key) (n : ℕ) (key : Key) → n < length nodes → key ≡ get_or nodes n key
    → key ≡ key_at nodes n
node-read nodes n key inside is = is ∙ get_or_default nodes n key no_key inside

-- a key that gets another gap
pub gap-made : (nodes : List Key) (max place gap : ℕ) (key : Key) → max + place < length nodes
    → key ≡ get_or nodes (max + place) key
    → drop max (set nodes (max + place) (record key { gap = gap })) ≡ with_gap (drop max nodes) place gap
gap-made nodes max place gap key inside is =
    drop-set-add max nodes place (record key { gap = gap })
    ∙ ap (λ (k : Key). set (drop max nodes) place (record k { gap = gap }))
    (node-read nodes (max + place) key inside is ∙ sym (get_or-drop max nodes place no_key))

-- a place of a key has a node
pub node-inside : (gaps : Inside) (place : ℕ) → IsTournament gaps → place < length (gaps_of gaps).keys
    → gaps.max + place < length gaps.nodes.items
node-inside gaps place is inside =
    let size = is.size in
    let long : length (drop gaps.max gaps.nodes.items) ≡ length gaps.nodes.items - gaps.max =
    length-drop gaps.max gaps.nodes.items in
    omega arith

-- as many keys as before
pub keys-same : (nodes old : List Key) (max : ℕ) → length nodes ≡ length old
    → length (drop max nodes) ≡ length (drop max old)
keys-same nodes old max same = length-drop max nodes ∙ ap (λ (n : ℕ). n - max) same ∙ sym (length-drop max old)

-- ---- all are found

-- each node from this one on that has two below it has the first of them
pub record AreFound (nodes : List Key) (from : ℕ) : Type 0 where
  pub each : (n : ℕ) → from ≤ n → n + n + 1 < length nodes
      → key_at nodes n ≡ first_of (key_at nodes (n + n)) (key_at nodes (n + n + 1))

pub found-none : (nodes : List Key) (max : ℕ) → length nodes ≡ max + max → AreFound nodes max
found-none nodes max size = record { each = λ n high inside. absurd (omega arith) }

pub found-more :
    (nodes : List Key) (n : ℕ) (key : Key)
    → 0 < n
    → n + n + 1 < length nodes
    → key ≡ first_of (key_at nodes (n + n)) (key_at nodes (n + n + 1))
    → AreFound nodes (n + 1)
    → AreFound (set nodes n key) n
found-more nodes n key above within is found = record {
  each = λ m high inside.
      let long = length-set nodes n key in
      elim (cases_eq m n) [
        | inl same ↦ first-made nodes n m key same above within is
        | inr other ↦
            first-stays nodes n m key other (λ e. omega arith) (λ e. omega arith)
            (found.each m (omega arith) (omega arith))
      ];
}

pub found-all : (nodes : List Key) (from : ℕ) → from ≤ 1 → AreFound nodes from → AreFirsts nodes 0
found-all nodes from low found = record { each = λ n some inside apart. found.each n (omega arith) inside }

-- ---- no key is to be chosen

key-cleared : (nodes : List Key) (n : ℕ) → key_at (map (λ (key : Key). no_key) nodes) n ≡ no_key
key-cleared [] n = refl
key-cleared (key ∷ nodes) zero = refl
key-cleared (key ∷ nodes) (suc n) = key-cleared nodes n

pub keys-cleared : (nodes old : List Key) (max place : ℕ) → nodes ≡ map (λ (key : Key). no_key) old
    → key_at (drop max nodes) place ≡ no_key
keys-cleared nodes old max place is =
    get_or-drop max nodes place no_key ∙ ap (λ (ks : List Key). key_at ks (max + place)) is
    ∙ key-cleared old (max + place)
