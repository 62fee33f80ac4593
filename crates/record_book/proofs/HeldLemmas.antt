-- The live block of a thread's ID, its size, and what it weighs among the others.
use Rattle.std.proofs.Common.{◌≡◌, ℕ, ◌+◌, ◌==◌, ◌&&◌, Bool, true, false, cond, List, [], ◌∷◌, Option, None, Some, refl}
use Rattle.std.proofs.Common.{sym, ap, ap₂, ◌∙◌, arith, true≢false}
use Rattle.std.specs.Prelude.{option_map}
use Rattle.std.proofs.lemmas.Bool.Decides.{nat_tests}
use Rattle.record_scripts.specs.Events.{Event, allocation, free}
use Rattle.record_book.specs.Actions.{Action}
use Rattle.record_book.specs.Figures.{Held, has_id, held_after, weigh, without}
use Rattle.record_book.specs.HeapPlaces.{Block}
use Rattle.record_book.specs.TallyState.{size_in}
use Rattle.record_book.proofs.HeapLemmas.{of-other, of-same, same}

abbrev pub held_in : List Held → ℕ → ℕ → Option Held
held_in [] thread id = None
held_in (block ∷ older) thread id = cond (has_id thread id block) (Some block) (held_in older thread id)

-- its size
pub held-size : (blocks : List Held) (thread id : ℕ)
    → size_in blocks thread id ≡ option_map (λ block. block.size) (held_in blocks thread id)
held-size [] thread id = refl
held-size (block ∷ older) thread id = by (has_id thread id block) (held-size older thread id)
  where
    by : (b : Bool) → size_in older thread id ≡ option_map (λ block. block.size) (held_in older thread id)
        → cond b (Some block.size) (size_in older thread id)
        ≡ option_map (λ block. block.size) (cond b (Some block) (held_in older thread id))
    by true rest = refl
    by false rest = rest

-- where there is a size, there is a block of it; and where there is none, there is no block
pub held-some : (blocks : List Held) (thread id size : ℕ) → size_in blocks thread id ≡ Some size
    → (block : Held) × (held_in blocks thread id ≡ Some block) × (block.size ≡ size)
held-some blocks thread id size is = by (held_in blocks thread id) refl (sym (held-size blocks thread id) ∙ is)
  where
    by : (found : Option Held) → held_in blocks thread id ≡ found
        → option_map (λ (block : Held). block.size) found ≡ Some size
        → (block : Held) × (held_in blocks thread id ≡ Some block) × (block.size ≡ size)
    by None p q = absurd (cc)
    by (Some block) p q = (block, p, cc)

pub held-none : (blocks : List Held) (thread id : ℕ) → size_in blocks thread id ≡ None → held_in blocks thread id ≡ None
held-none blocks thread id is = by (held_in blocks thread id) refl (sym (held-size blocks thread id) ∙ is)
  where
    by : (found : Option Held) → held_in blocks thread id ≡ found
        → option_map (λ (block : Held). block.size) found ≡ None → held_in blocks thread id ≡ None
    by None p q = p
    by (Some block) p q = absurd (cc)

-- its block, without the stack
abbrev block_of : Held → Block
block_of held = record { thread = held.thread; id = held.id; size = held.size }

never : {X : Type 0} (b : Bool) → None ≡ cond {A = Option X} b None None
never true = refl
never false = refl

-- the block is gone, and no other
pub held-without : (thread id : ℕ) (blocks : List Held) (t i : ℕ)
    → held_in (without thread id blocks) t i ≡ cond (same thread id t i) None (held_in blocks t i)
held-without thread id [] t i = never (same thread id t i)
held-without thread id (block ∷ older) t i =
    by (held-without thread id older t i) (has_id thread id block) (same thread id t i) (has_id t i block) refl refl
    refl
  where
    by : held_in (without thread id older) t i ≡ cond (same thread id t i) None (held_in older t i) → (b s o : Bool)
        → has_id thread id block ≡ b → same thread id t i ≡ s → has_id t i block ≡ o
        → held_in (cond b (without thread id older) (block ∷ without thread id older)) t i
        ≡ cond s None (cond o (Some block) (held_in older t i))
    by ih true true o p q r = ih ∙ ap (λ (x : Bool). cond x None (held_in older t i)) q
    by ih true false true p q r = absurd (true≢false (sym r ∙ of-same (block_of block) thread id t i p ∙ q))
    by ih true false false p q r = ih ∙ ap (λ (x : Bool). cond x None (held_in older t i)) q
    by ih false true o p q r =
        ap (λ (x : Bool). cond x (Some block) (held_in (without thread id older) t i))
        (of-other (block_of block) thread id t i p q)
        ∙ ih ∙ ap (λ (x : Bool). cond x None (held_in older t i)) q
    by ih false false true p q r = ap (λ (x : Bool). cond x (Some block) (held_in (without thread id older) t i)) r
    by ih false false false p q r =
        ap (λ (x : Bool). cond x (Some block) (held_in (without thread id older) t i)) r ∙ ih
        ∙ ap (λ (x : Bool). cond x None (held_in older t i)) q

-- and its size
pub size-without : (thread id : ℕ) (blocks : List Held) (t i : ℕ)
    → size_in (without thread id blocks) t i ≡ cond (same thread id t i) None (size_in blocks t i)
size-without thread id blocks t i =
    held-size (without thread id blocks) t i
    ∙ ap (option_map (λ (block : Held). block.size)) (held-without thread id blocks t i)
    ∙ by (same thread id t i) ∙ ap (cond (same thread id t i) None) (sym (held-size blocks t i))
  where
    by : (b : Bool)
        → option_map (λ (block : Held). block.size) (cond b None (held_in blocks t i))
        ≡ cond b None (option_map (λ (block : Held). block.size) (held_in blocks t i))
    by true = refl
    by false = refl

-- each block is the only one of its ID
abbrev AreOnce : List Held → Type 0
AreOnce [] = Unit {0}
AreOnce (block ∷ older) = (held_in older block.thread block.id ≡ None) × AreOnce older

once-without : (thread id : ℕ) (blocks : List Held) → AreOnce blocks → AreOnce (without thread id blocks)
once-without thread id [] once = tt
once-without thread id (block ∷ older) once = by (once-without thread id older once.1) (has_id thread id block)
  where
    by : AreOnce (without thread id older) → (b : Bool)
        → AreOnce (cond b (without thread id older) (block ∷ without thread id older))
    by rest true = rest
    by rest false = (
      held-without thread id older block.thread block.id ∙ ap (cond (same thread id block.thread block.id) None) once.0
          ∙ sym (never (same thread id block.thread block.id)),
      rest,
    )

pub same-self : (thread id : ℕ) → same thread id thread id ≡ true
same-self thread id = by (same thread id thread id) refl
  where
    by : (b : Bool) → same thread id thread id ≡ b → b ≡ true
    by true p = refl
    by false p = absurd (grind (arith, nat_tests, p))

gone : (thread id : ℕ) (blocks : List Held) → held_in (without thread id blocks) thread id ≡ None
gone thread id blocks =
    held-without thread id blocks thread id
    ∙ ap (λ (b : Bool). cond b None (held_in blocks thread id)) (same-self thread id)

once-held : (acts : List Action) → AreOnce (held_after acts)
once-held [] = tt
once-held (action ∷ before) = by (once-held before) action.event
  where
    by : AreOnce (held_after before) → (event : Event)
        → AreOnce (held_after (record { thread = action.thread; event = event } ∷ before))
    by once (allocation id size ips) =
        (gone action.thread id (held_after before), once-without action.thread id (held_after before) once)
    by once (free id rejoined) = once-without action.thread id (held_after before) once

-- what it weighs
abbrev pub weight_of : (Held → ℕ) → Option Held → ℕ
weight_of weight None = 0
weight_of weight (Some block) = weight block

blocks-split : (weight : Held → ℕ) (thread id : ℕ) (blocks : List Held) → AreOnce blocks
    → weigh weight blocks ≡ weigh weight (without thread id blocks) + weight_of weight (held_in blocks thread id)
blocks-split weight thread id [] once = refl
blocks-split weight thread id (block ∷ older) once =
    by (blocks-split weight thread id older once.1) (has_id thread id block) refl
  where
    by : weigh weight older ≡ weigh weight (without thread id older) + weight_of weight (held_in older thread id)
        → (b : Bool) → has_id thread id block ≡ b
        → weigh weight (block ∷ older)
        ≡ weigh weight (cond b (without thread id older) (block ∷ without thread id older))
        + weight_of weight (cond b (Some block) (held_in older thread id))
    by ih true p =
        let a : block.thread ≡ thread = grind (arith, nat_tests, p) in
        let i : block.id ≡ id = grind (arith, nat_tests, p) in
        let none : held_in older thread id ≡ None = sym (ap₂ (λ (x y : ℕ). held_in older x y) a i) ∙ once.0 in
        let rest : weigh weight older ≡ weigh weight (without thread id older) + 0 =
        ih ∙ ap (λ (found : Option Held). weigh weight (without thread id older) + weight_of weight found) none in
        omega (arith, rest)
    by ih false p = omega (arith, ih)

pub held-split : (weight : Held → ℕ) (thread id : ℕ) (acts : List Action)
    → weigh weight (held_after acts)
    ≡ weigh weight (without thread id (held_after acts)) + weight_of weight (held_in (held_after acts) thread id)
held-split weight thread id acts = blocks-split weight thread id (held_after acts) (once-held acts)
