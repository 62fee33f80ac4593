-- What a list of changes says where one of them is taken out, or more come.
use Rattle.std.proofs.Common.{◌≡◌, ◌≢◌, ℕ, ◌<◌, ◌≤◌, List, [], ◌∷◌, ◌++◌, get_or, Bool, true, false, cond, refl, inl}
use Rattle.std.proofs.Common.{inr, sym, ap, subst, ◌∙◌, arith}
use Rattle.std.specs.Prelude.{◌⊎◌, All}
use Rattle.std.proofs.lemmas.List.Elements.{All-cons, All-nil}
use Rattle.std.proofs.lemmas.Bool.{and_from, and_left, and_right, both_ways, eq-eqb, le-leb, lt-leb, ne_eqb}
use Rattle.std.proofs.lemmas.Bool.Decides.{eqb_tells, leb_tells}
use Rattle.cost_history.specs.declared.change.Change.{Change}
use Rattle.cost_history.specs.Changes.{IsBetween, cost_behind, says}
use Rattle.cost_history.specs.Seen.{Has}

-- a change says what the stack costs at the place, or doesn't
pub says-cases : (change : Change) (place stack : ℕ)
    → ((says change place stack ≡ true) × (change.place ≤ place) × (change.stack ≡ stack))
    ⊎ (says change place stack ≡ false)
says-cases change place stack =
    elim (leb_tells change.place place) [
      | inl early ↦
          elim (eqb_tells change.stack stack) [
            | inl own ↦ inl (and_from _ _ early.0 own.0, early.1, own.1)
            | inr other ↦ inr (and_right _ _ other.0)
          ]
      | inr late ↦ inr (and_left _ _ late.0)
    ]

pub says-own : (change : Change) (place stack : ℕ) → change.place ≤ place → change.stack ≡ stack
    → says change place stack ≡ true
says-own change place stack early own = and_from _ _ (le-leb _ _ early) (eq-eqb _ _ own)

pub says-late : (change : Change) (place stack : ℕ) → place < change.place → says change place stack ≡ false
says-late change place stack late = and_left _ _ (lt-leb _ _ late)

pub says-other : (change : Change) (place stack : ℕ) → change.stack ≢ stack → says change place stack ≡ false
says-other change place stack other = and_right _ _ (ne_eqb _ _ other)

-- the cost behind a change that says it, and behind one that doesn't
pub behind-said : (before : ℕ) (change : Change) (changes : List Change) (place stack : ℕ)
    → says change place stack ≡ true
    → cost_behind before (change ∷ changes) place stack ≡ cost_behind change.cost changes place stack
behind-said before change changes place stack is =
    ap (λ (b : Bool). cost_behind (cond {A = ℕ} b change.cost before) changes place stack) is

pub behind-passed : (before : ℕ) (change : Change) (changes : List Change) (place stack : ℕ)
    → says change place stack ≡ false
    → cost_behind before (change ∷ changes) place stack ≡ cost_behind before changes place stack
behind-passed before change changes place stack is =
    ap (λ (b : Bool). cost_behind (cond {A = ℕ} b change.cost before) changes place stack) is

-- behind two lists
pub behind-append : (before : ℕ) (xs ys : List Change) (place stack : ℕ)
    → cost_behind before (xs ++ ys) place stack ≡ cost_behind (cost_behind before xs place stack) ys place stack
behind-append before [] ys place stack = refl
behind-append before (x ∷ xs) ys place stack =
    behind-append (cond {A = ℕ} (says x place stack) x.cost before) xs ys place stack

-- where one says it, it doesn't matter what the stack cost before
pub overridden : (changes : List Change) (first second place stack : ℕ) → Has changes place stack
    → cost_behind first changes place stack ≡ cost_behind second changes place stack
overridden [] first second place stack has = absurd has
overridden (change ∷ changes) first second place stack has =
    elim (says-cases change place stack) [
      | inl said ↦ behind-said first change changes place stack said.0
          ∙ sym (behind-said second change changes place stack said.0)
      | inr passed ↦
          behind-passed first change changes place stack passed
          ∙ overridden changes first second place stack
          (elim has [ inl is ↦ absurd (both_ways _ passed is) | inr rest ↦ rest ])
          ∙ sym (behind-passed second change changes place stack passed)
    ]

-- a change that is made good by a later one wherever it is seen may be taken out
pub without :
    (front : List Change) (change : Change) (rest : List Change) (before place stack : ℕ)
    → (change.place ≤ place → Has rest place change.stack)
    → cost_behind before (front ++ change ∷ rest) place stack ≡ cost_behind before (front ++ rest) place stack
without [] change rest before place stack good =
    elim (says-cases change place stack) [
      | inl said ↦ behind-said before change rest place stack said.0
          ∙ overridden rest change.cost before place stack (subst (λ (s : ℕ). Has rest place s) said.2 (good said.1))
      | inr passed ↦ behind-passed before change rest place stack passed
    ]
without (first ∷ front) change rest before place stack good =
    without front change rest (cond {A = ℕ} (says first place stack) first.cost before) place stack good

-- what says it at a place says it at a later one
pub has-later : (changes : List Change) (place later stack : ℕ) → place ≤ later → Has changes place stack
    → Has changes later stack
has-later [] place later stack up has = absurd has
has-later (change ∷ changes) place later stack up has =
    elim (says-cases change place stack) [
      | inl said ↦ (let early = said.1 in inl (says-own change later stack (omega arith) said.2))
      | inr passed ↦ inr
          (has-later changes place later stack up
          (elim has [ inl is ↦ absurd (both_ways _ passed is) | inr rest ↦ rest ]))
    ]

-- changes between a place and the last one are between an earlier one and it
pub between-lower : (stacks low middle : ℕ) (changes : List Change) (last : ℕ) → low ≤ middle
    → IsBetween stacks middle changes last → IsBetween stacks low changes last
between-lower stacks low middle [] last up between = omega arith
between-lower stacks low middle (change ∷ changes) last up between =
    (between.0, (let above = between.1 in omega arith), between.2)

pub between-without : (stacks low : ℕ) (front : List Change) (change : Change) (rest : List Change) (last : ℕ)
    → IsBetween stacks low (front ++ change ∷ rest) last → IsBetween stacks low (front ++ rest) last
between-without stacks low [] change rest last between =
    between-lower stacks low change.place rest last between.1 between.2
between-without stacks low (first ∷ front) change rest last between =
    (between.0, between.1, between-without stacks first.place front change rest last between.2)

pub between-most : (stacks low : ℕ) (changes : List Change) (last : ℕ) → IsBetween stacks low changes last → low ≤ last
between-most stacks low [] last between = between
between-most stacks low (change ∷ changes) last between =
    (let above = between.1 in let below = between-most stacks change.place changes last between.2 in omega arith)

-- the change behind a front
pub between-at : (stacks low : ℕ) (front : List Change) (change : Change) (rest : List Change) (last : ℕ)
    → IsBetween stacks low (front ++ change ∷ rest) last
    → (change.stack < stacks) × (change.place ≤ last) × IsBetween stacks change.place rest last
between-at stacks low [] change rest last between =
    (between.0, between-most stacks change.place rest last between.2, between.2)
between-at stacks low (first ∷ front) change rest last between =
    between-at stacks first.place front change rest last between.2

-- more stacks
pub between-stacks : (stacks more low : ℕ) (changes : List Change) (last : ℕ) → stacks ≤ more
    → IsBetween stacks low changes last → IsBetween more low changes last
between-stacks stacks more low [] last up between = between
between-stacks stacks more low (change ∷ changes) last up between = (
  (let held = between.0 in omega arith),
  between.1,
  between-stacks stacks more change.place changes last up between.2,
)

-- changes behind the place say nothing
pub behind-late : (stacks low : ℕ) (changes : List Change) (last before place stack : ℕ) → place < low
    → IsBetween stacks low changes last → cost_behind before changes place stack ≡ before
behind-late stacks low [] last before place stack late between = refl
behind-late stacks low (change ∷ changes) last before place stack late between =
    let above = between.1 in
    let here : place < change.place = omega arith in
    behind-passed before change changes place stack (says-late change place stack here)
    ∙ behind-late stacks change.place changes last before place stack here between.2

-- changes up to a place are up to a later one
pub between-raise : (stacks low : ℕ) (changes : List Change) (last place : ℕ) → last ≤ place
    → IsBetween stacks low changes last → IsBetween stacks low changes place
between-raise stacks low [] last place up between = omega arith
between-raise stacks low (change ∷ changes) last place up between =
    (between.0, between.1, between-raise stacks change.place changes last place up between.2)

-- and one more may stand at their end
pub between-end : (stacks low : ℕ) (changes : List Change) (last : ℕ) (change : Change)
    → IsBetween stacks low changes last → last ≤ change.place → change.stack < stacks
    → IsBetween stacks low (changes ++ change ∷ []) change.place
between-end stacks low [] last change between up held = (held, omega arith, omega arith)
between-end stacks low (first ∷ changes) last change between up held =
    (between.0, between.1, between-end stacks first.place changes last change between.2 up held)

-- changes up to one of them
pub between-front : (stacks low : ℕ) (front : List Change) (change : Change) (last : ℕ)
    → IsBetween stacks low (front ++ change ∷ []) last → IsBetween stacks low front change.place × (change.place ≤ last)
between-front stacks low [] change last between = (between.1, between.2)
between-front stacks low (first ∷ front) change last between =
    (let rest = between-front stacks first.place front change last
    between.2 in ((between.0, between.1, rest.0), rest.1))

-- each of them is between the two places
pub between-each : (stacks low : ℕ) (changes : List Change) (last : ℕ) → IsBetween stacks low changes last
    → All (λ (change : Change). (low ≤ change.place) × (change.place ≤ last)) changes
between-each stacks low [] last between = All-nil (λ (change : Change). (low ≤ change.place) × (change.place ≤ last))
between-each stacks low (change ∷ changes) last between =
    All-cons (λ (c : Change). (low ≤ c.place) × (c.place ≤ last)) change changes
    (between.1, between-most stacks change.place changes last between.2)
    (λ k d within. raised (get_or changes k d) (between-each stacks change.place changes last between.2 k d within))
  where
    raised : (c : Change) → (change.place ≤ c.place) × (c.place ≤ last) → (low ≤ c.place) × (c.place ≤ last)
    raised c at = (let above = between.1 in let here = at.0 in omega arith, at.1)

-- of a stack that isn't there they say nothing
pub behind-beyond : (stacks low : ℕ) (changes : List Change) (last before place stack : ℕ) → stacks ≤ stack
    → IsBetween stacks low changes last → cost_behind before changes place stack ≡ before
behind-beyond stacks low [] last before place stack beyond between = refl
behind-beyond stacks low (change ∷ changes) last before place stack beyond between =
    behind-passed before change changes place stack
    (says-other change place stack (λ same. (let held = between.0 in absurd (omega arith))))
    ∙ behind-beyond stacks change.place changes last before place stack beyond between.2

-- those in front of a change are no later than it
pub between-before : (stacks low : ℕ) (front : List Change) (change : Change) (rest : List Change) (last : ℕ)
    → IsBetween stacks low (front ++ change ∷ rest) last → IsBetween stacks low front change.place
between-before stacks low [] change rest last between = between.1
between-before stacks low (first ∷ front) change rest last between =
    (between.0, between.1, between-before stacks first.place front change rest last between.2)
