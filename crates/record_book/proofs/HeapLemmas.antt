-- What a free and an allocation change of places.
use Rattle.std.proofs.Common.{◌≡◌, ℕ, ◌+◌, ◌<◌, ◌≤◌, ◌==◌, ◌&&◌, ◌||◌, Bool, true, false, cond, ◌⊎◌, inl, inr, List, []}
use Rattle.std.proofs.Common.{◌∷◌, Option, None, Some, refl, sym, ap, ap₂, ◌∙◌, subst, arith, true≢false}
use Rattle.std.specs.Prelude.{min}
use Rattle.std.proofs.lemmas.Bool.Decides.{nat_tests}
use Rattle.std.proofs.lemmas.Option.{same_Some}
use Rattle.record_book.specs.declared.live_blocks.LiveEntry.{LiveEntry}
use Rattle.record_book.specs.HeapPlaces.{Block, Place, taken, empty, class_of, end_of, free_addresses, is_of, least}
use Rattle.record_book.specs.HeapPlaces.{next_address, placed, placed_at, released}
use Rattle.record_book.specs.HeapState.{AreOf, AreOnly, entry_in, is_free}

-- whether a thread's ID is another's
abbrev pub same : ℕ → ℕ → ℕ → ℕ → Bool
same thread id t i = thread == t && id == i

-- a block that has an ID has another one exactly where the two are the same
pub of-same : (block : Block) (thread id t i : ℕ) → is_of thread id block ≡ true → is_of t i block ≡ same thread id t i
of-same block thread id t i owned =
    let a : block.thread ≡ thread = grind (arith, nat_tests, owned) in
    let b : block.id ≡ id = grind (arith, nat_tests, owned) in
    ap₂ (λ (x y : ℕ). x == t && y == i) a b

pub of-other : (block : Block) (thread id t i : ℕ) → is_of thread id block ≡ false → same thread id t i ≡ true
    → is_of t i block ≡ false
of-other block thread id t i other is =
    let a : thread ≡ t = grind (arith, nat_tests, is) in
    let b : id ≡ i = grind (arith, nat_tests, is) in
    sym (ap₂ (λ (x y : ℕ). is_of x y block) a b) ∙ other

none-of : (b : Bool) (entry : LiveEntry) (rest : Option LiveEntry) → cond b (Some entry) rest ≡ None
    → (b ≡ false) × (rest ≡ None)
none-of true entry rest none = absurd (grind (arith, none))
none-of false entry rest none = (refl, none)

pub end-released : (thread id : ℕ) (places : List Place) → end_of (released thread id places) ≡ end_of places
end-released thread id [] = refl
end-released thread id (taken class block ∷ older) = by (end-released thread id older) (is_of thread id block)
  where
    by : end_of (released thread id older) ≡ end_of older → (b : Bool)
        → end_of (cond b (empty class) (taken class block) ∷ released thread id older) ≡ end_of older + class
    by same_end true = ap (λ (n : ℕ). n + class) same_end
    by same_end false = ap (λ (n : ℕ). n + class) same_end
end-released thread id (empty class ∷ older) = ap (λ (n : ℕ). n + class) (end-released thread id older)

pub entry-released : (thread id : ℕ) (places : List Place) (t i : ℕ)
    → entry_in (released thread id places) t i ≡ cond (same thread id t i) None (entry_in places t i)
entry-released thread id [] t i = by (same thread id t i)
  where
    by : (b : Bool) → None ≡ cond {A = Option LiveEntry} b None None
    by true = refl
    by false = refl
entry-released thread id (empty class ∷ older) t i = entry-released thread id older t i
entry-released thread id (taken class block ∷ older) t i =
    by (entry-released thread id older t i) (is_of thread id block) (same thread id t i) (is_of t i block) refl refl
    refl
  where
    by : entry_in (released thread id older) t i ≡ cond (same thread id t i) None (entry_in older t i) → (b s o : Bool)
        → is_of thread id block ≡ b → same thread id t i ≡ s → is_of t i block ≡ o
        → entry_in (cond b (empty class) (taken class block) ∷ released thread id older) t i
        ≡ cond s None (cond o (Some (record { address = end_of older; class = class })) (entry_in older t i))
    by ih true true o p q r = ih ∙ ap (λ (x : Bool). cond x None (entry_in older t i)) q
    by ih true false true p q r = absurd (true≢false (sym r ∙ of-same block thread id t i p ∙ q))
    by ih true false false p q r = ih ∙ ap (λ (x : Bool). cond x None (entry_in older t i)) q
    by ih false true o p q r =
        ap (λ (x : Bool). cond x (Some (record { address = end_of (released thread id older); class = class }))
        (entry_in (released thread id older) t i)) (of-other
        block thread id t i p q)
        ∙ ih ∙ ap (λ (x : Bool). cond x None (entry_in older t i)) q
    by ih false false true p q r =
        ap (λ (x : Bool). cond x (Some (record { address = end_of (released thread id older); class = class }))
        (entry_in (released thread id older) t i)) r
        ∙ ap (λ (n : ℕ). Some (record { address = n; class = class })) (end-released thread id older)
    by ih false false false p q r =
        ap (λ (x : Bool). cond x (Some (record { address = end_of (released thread id older); class = class }))
        (entry_in (released thread id older) t i)) r
        ∙ ih ∙ ap (λ (x : Bool). cond x None (entry_in older t i)) q

-- nothing to free
pub none-released : (thread id : ℕ) (places : List Place) → entry_in places thread id ≡ None
    → released thread id places ≡ places
none-released thread id [] none = refl
none-released thread id (empty class ∷ older) none =
    ap (λ (more : List Place). empty class ∷ more) (none-released thread id older none)
none-released thread id (taken class block ∷ older) none =
    let other =
    none-of (is_of thread id block) (record { address = end_of older; class = class }) (entry_in older thread id)
    none in
    ap₂ (λ (b : Bool) (more : List Place). cond b (empty class) (taken class block) ∷ more) other.0
    (none-released thread id older other.1)

-- a free place more
pub free-released : (thread id : ℕ) (places : List Place) (entry : LiveEntry) (c a : ℕ) → AreOnly places
    → entry_in places thread id ≡ Some entry
    → is_free (released thread id places) c a ≡ cond (entry.class == c && entry.address == a) true (is_free places c a)
free-released thread id [] entry c a only at = absurd (grind (arith, at))
free-released thread id (empty class ∷ older) entry c a only at =
    by (entry.class == c && entry.address == a) (class == c && end_of older == a)
    (ap₂ (λ (n : ℕ) (b : Bool). (class == c && n == a) || b) (end-released thread id older)
    (free-released thread id older entry c a only.1 at))
  where
    by : (m x : Bool) → is_free (released thread id (empty class ∷ older)) c a ≡ (x || cond m true (is_free older c a))
        → is_free (released thread id (empty class ∷ older)) c a ≡ cond m true (x || is_free older c a)
    by true true is = is
    by true false is = is
    by false true is = is
    by false false is = is
free-released thread id (taken class block ∷ older) entry c a only at =
    by (free-released thread id older entry c a only.3) (is_of thread id block) refl at
  where
    gone : is_of thread id block ≡ true → entry_in older thread id ≡ None
    gone p =
        let x : block.thread ≡ thread = grind (arith, nat_tests, p) in
        let y : block.id ≡ id = grind (arith, nat_tests, p) in
        sym (ap₂ (λ (t i : ℕ). entry_in older t i) x y) ∙ only.2

    by : (entry_in older thread id ≡ Some entry
        → is_free (released thread id older) c a
        ≡ cond (entry.class == c && entry.address == a) true (is_free older c a))
        → (b : Bool) → is_of thread id block ≡ b
        → cond b (Some (record { address = end_of older; class = class })) (entry_in older thread id) ≡ Some entry
        → is_free (cond b (empty class) (taken class block) ∷ released thread id older) c a
        ≡ cond (entry.class == c && entry.address == a) true (is_free older c a)
    by ih true p at =
        let e : record { address = end_of older; class = class } ≡ entry =
        same_Some (record { address = end_of older; class = class }) entry at in
        ap (λ (more : List Place). (class == c && end_of more == a) || is_free more c a)
        (none-released thread id older (gone p))
        ∙ or-cond (class == c && end_of older == a) (is_free older c a)
        ∙ ap (λ (x : LiveEntry). cond (x.class == c && x.address == a) true (is_free older c a)) e
      where
        or-cond : (x y : Bool) → (x || y) ≡ cond x true y
        or-cond true y = refl
        or-cond false y = refl
    by ih false p at = ih at

only-end : (thread id t i : ℕ) (places : List Place) → entry_in places t i ≡ None
    → entry_in (released thread id places) t i ≡ None
only-end thread id t i places none = entry-released thread id places t i ∙ by (same thread id t i)
  where
    by : (s : Bool) → cond s None (entry_in places t i) ≡ None
    by true = refl
    by false = none

pub only-released : (thread id : ℕ) (places : List Place) → AreOnly places → AreOnly (released thread id places)
only-released thread id [] only = tt
only-released thread id (empty class ∷ older) only = (only.0, only-released thread id older only.1)
only-released thread id (taken class block ∷ older) only =
    by (only-released thread id older only.3) (is_of thread id block)
  where
    by : AreOnly (released thread id older) → (b : Bool)
        → AreOnly (cond b (empty class) (taken class block) ∷ released thread id older)
    by rest true = (only.0, rest)
    by rest false = (only.0, only.1, only-end thread id block.thread block.id older only.2, rest)

-- free places lie before the end
pub free-below : (places : List Place) (class address : ℕ) → AreOnly places → is_free places class address ≡ true
    → address < end_of places
free-below [] class address only free = absurd (true≢false (sym free))
free-below (taken other block ∷ older) class address only free =
    omega (arith, only.0, free-below older class address only.3 free)
free-below (empty other ∷ older) class address only free =
    by (free-below older class address only.1) (other == class) (end_of older == address) refl free
  where
    by : (is_free older class address ≡ true → address < end_of older) → (x y : Bool) → (end_of older == address) ≡ y
        → ((x && y) || is_free older class address) ≡ true → address < end_of older + other
    by ih true true p free =
        let here : end_of older ≡ address = grind (arith, nat_tests, p) in omega (arith, only.0, here)
    by ih true false p free = omega (arith, only.0, ih free)
    by ih false y p free = omega (arith, only.0, ih free)

pub free-end : (places : List Place) (class address : ℕ) → AreOnly places → end_of places ≤ address
    → is_free places class address ≡ false
free-end places class address only behind = by (is_free places class address) refl
  where
    by : (b : Bool) → is_free places class address ≡ b → b ≡ false
    by true is = absurd (omega (arith, behind, free-below places class address only is))
    by false is = refl

pub end-placed_at : (address : ℕ) (block : Block) (places : List Place)
    → end_of (placed_at address block places) ≡ end_of places
end-placed_at address block [] = refl
end-placed_at address block (taken class other ∷ older) = ap (λ (n : ℕ). n + class) (end-placed_at address block older)
end-placed_at address block (empty class ∷ older) = by (end-placed_at address block older) (end_of older == address)
  where
    by : end_of (placed_at address block older) ≡ end_of older → (b : Bool)
        → end_of (cond b (taken class block ∷ older) (empty class ∷ placed_at address block older)) ≡ end_of older
        + class
    by same_end true = refl
    by same_end false = ap (λ (n : ℕ). n + class) same_end

-- where an empty place is looked for: it is this one of that class, or an older one
here-or : (older : List Place) (other class address : ℕ) (d : Bool) → AreOnly older → (end_of older == address) ≡ d
    → ((other == class && d) || is_free older class address) ≡ true
    → cond {A = Type 0} d (other ≡ class) (is_free older class address ≡ true)
here-or older other class address true only p free = by (other == class) refl free
  where
    by : (x : Bool) → (other == class) ≡ x → ((x && true) || is_free older class address) ≡ true → other ≡ class
    by true q free = grind (arith, nat_tests, q)
    by false q free =
        let here : end_of older ≡ address = grind (arith, nat_tests, p) in
        absurd (true≢false (sym free ∙ free-end older class address only (omega (arith, here))))
here-or older other class address false only p free = by (other == class) free
  where
    by : (x : Bool) → ((x && false) || is_free older class address) ≡ true → is_free older class address ≡ true
    by true free = free
    by false free = free

pub entry-placed_at : (address : ℕ) (block : Block) (places : List Place) (t i : ℕ) → AreOnly places
    → entry_in places block.thread block.id ≡ None → is_free places (class_of block.size) address ≡ true
    → entry_in (placed_at address block places) t i
    ≡ cond (same block.thread block.id t i) (Some (record { address = address; class = class_of block.size }))
    (entry_in places t i)
entry-placed_at address block [] t i only none free = absurd (true≢false (sym free))
entry-placed_at address block (taken c other ∷ older) t i only none free =
    let apart =
    none-of (is_of block.thread block.id other) (record { address = end_of older; class = c })
    (entry_in older block.thread block.id) none in
    ap₂ (λ (n : ℕ) (rest : Option LiveEntry). cond (is_of t i other) (Some (record { address = n; class = c })) rest)
    (end-placed_at address block older) (entry-placed_at address block older t i only.3 apart.1 free)
    ∙ by (same block.thread block.id t i) (is_of t i other) refl refl apart.0
  where
    by : (s o : Bool) → same block.thread block.id t i ≡ s → is_of t i other ≡ o
        → is_of block.thread block.id other ≡ false
        → cond o (Some (record { address = end_of older; class = c }))
        (cond s (Some (record { address = address; class = class_of block.size })) (entry_in older t i))
        ≡ cond s (Some (record { address = address; class = class_of block.size }))
        (cond o (Some (record { address = end_of older; class = c })) (entry_in older t i))
    by true true p q apart = absurd (true≢false (sym q ∙ of-other other block.thread block.id t i apart p))
    by true false p q apart = refl
    by false true p q apart = refl
    by false false p q apart = refl
entry-placed_at address block (empty c ∷ older) t i only none free =
    by (λ is. entry-placed_at address block older t i only.1 none is) (end_of older == address) refl
    (here-or older c (class_of block.size) address (end_of older == address) only.1 refl free)
  where
    by : (is_free older (class_of block.size) address ≡ true
        → entry_in (placed_at address block older) t i
        ≡ cond (same block.thread block.id t i) (Some (record { address = address; class = class_of block.size }))
        (entry_in older t i))
        → (d : Bool) → (end_of older == address) ≡ d
        → cond {A = Type 0} d (c ≡ class_of block.size) (is_free older (class_of block.size) address ≡ true)
        → entry_in (cond d (taken c block ∷ older) (empty c ∷ placed_at address block older)) t i
        ≡ cond (same block.thread block.id t i) (Some (record { address = address; class = class_of block.size }))
        (entry_in older t i)
    by ih true p is =
        let here : end_of older ≡ address = grind (arith, nat_tests, p) in
        ap₂ (λ (n k : ℕ). cond (same block.thread block.id t i) (Some (record { address = n; class = k }))
        (entry_in older t i)) here is
    by ih false p is = ih is

pub free-placed_at : (address : ℕ) (block : Block) (places : List Place) (class c a : ℕ) → AreOnly places
    → is_free places class address ≡ true
    → is_free (placed_at address block places) c a ≡ cond (class == c && address == a) false (is_free places c a)
free-placed_at address block [] class c a only free = absurd (true≢false (sym free))
free-placed_at address block (taken k other ∷ older) class c a only free =
    free-placed_at address block older class c a only.3 free
free-placed_at address block (empty k ∷ older) class c a only free =
    by (λ is. free-placed_at address block older class c a only.1 is) (end_of older == address) refl
    (here-or older k class address (end_of older == address) only.1 refl free)
  where
    gone : end_of older ≡ address → (m : Bool) → (class == c && address == a) ≡ m
        → is_free older c a ≡ cond m false (m || is_free older c a)
    gone here true q =
        let same : address ≡ a = grind (arith, nat_tests, q) in
        free-end older c a only.1 (omega (arith, here, same))
    gone here false q = refl

    later : (m x : Bool) → (class == c && address == a) ≡ m → (k == c && end_of older == a) ≡ x
        → (end_of older == address) ≡ false
        → (x || cond m false (is_free older c a)) ≡ cond m false (x || is_free older c a)
    later true true q r p = absurd (grind (arith, nat_tests, q, r, p))
    later true false q r p = refl
    later false x q r p = refl

    by : (is_free older class address ≡ true
        → is_free (placed_at address block older) c a ≡ cond (class == c && address == a) false (is_free older c a))
        → (d : Bool) → (end_of older == address) ≡ d
        → cond {A = Type 0} d (k ≡ class) (is_free older class address ≡ true)
        → is_free (cond d (taken k block ∷ older) (empty k ∷ placed_at address block older)) c a
        ≡ cond (class == c && address == a) false ((k == c && end_of older == a) || is_free older c a)
    by ih true p is =
        let here : end_of older ≡ address = grind (arith, nat_tests, p) in
        gone here (class == c && address == a) refl
        ∙ ap₂ (λ (x y : ℕ). cond (class == c && address == a) false ((x == c && y == a) || is_free older c a)) (sym is)
        (sym here)
    by ih false p is =
        ap₂ (λ (n : ℕ) (b : Bool). (k == c && n == a) || b) (end-placed_at address block older) (ih is)
        ∙ later (class == c && address == a) (k == c && end_of older == a) refl refl p

pub only-placed_at : (address : ℕ) (block : Block) (places : List Place) → AreOnly places
    → entry_in places block.thread block.id ≡ None → is_free places (class_of block.size) address ≡ true
    → AreOnly (placed_at address block places)
only-placed_at address block [] only none free = absurd (true≢false (sym free))
only-placed_at address block (taken k other ∷ older) only none free =
    let apart =
    none-of (is_of block.thread block.id other) (record { address = end_of older; class = k })
    (entry_in older block.thread block.id) none in (
      only.0,
      only.1,
      entry-placed_at address block older other.thread other.id only.3 apart.1 free
          ∙ by (same block.thread block.id other.thread other.id) refl apart.0,
      only-placed_at address block older only.3 apart.1 free,
    )
  where
    by : (s : Bool) → same block.thread block.id other.thread other.id ≡ s → is_of block.thread block.id other ≡ false
        → cond s (Some (record { address = address; class = class_of block.size }))
        (entry_in older other.thread other.id)
        ≡ None
    by true p apart = absurd (grind (arith, nat_tests, p, apart))
    by false p apart = only.2
only-placed_at address block (empty k ∷ older) only none free =
    by (λ is. only-placed_at address block older only.1 none is) (end_of older == address)
    (here-or older k (class_of block.size) address (end_of older == address) only.1 refl free)
  where
    by : (is_free older (class_of block.size) address ≡ true → AreOnly (placed_at address block older))
        → (d : Bool)
        → cond {A = Type 0} d (k ≡ class_of block.size) (is_free older (class_of block.size) address ≡ true)
        → AreOnly (cond d (taken k block ∷ older) (empty k ∷ placed_at address block older))
    by ih true is = (only.0, is, none, only.1)
    by ih false is = (only.0, ih is)

-- the least of an end and free addresses
pub least-none : (n class : ℕ) (places : List Place) → ((a : ℕ) → is_free places class a ≡ false)
    → least n (free_addresses class places) ≡ n
least-none n class [] none = refl
least-none n class (taken k block ∷ older) none = least-none n class older none
least-none n class (empty k ∷ older) none =
    by (least-none n class older (λ a. older-none (k == class && end_of older == a) (is_free older class a) (none a)))
    (k == class) refl
  where
    refuted : (x : Bool) → (end_of older == end_of older) ≡ x → (x || is_free older class (end_of older)) ≡ false → ⊥
    refuted true p is = true≢false is
    refuted false p is = grind (arith, nat_tests, p)

    older-none : (x y : Bool) → (x || y) ≡ false → y ≡ false
    older-none true y is = absurd (true≢false is)
    older-none false y is = is

    by : least n (free_addresses class older) ≡ n → (x : Bool) → (k == class) ≡ x
        → least n (cond x (end_of older ∷ free_addresses class older) (free_addresses class older)) ≡ n
    by ih true p =
        absurd (refuted (end_of older == end_of older) refl
        (sym (ap (λ (x : Bool). (x && end_of older == end_of older) || is_free older class (end_of older)) p)
        ∙ none (end_of older)))
    by ih false p = ih

pub least-le : (n class a : ℕ) (places : List Place) → is_free places class a ≡ true
    → least n (free_addresses class places) ≤ a
least-le n class a [] free = absurd (true≢false (sym free))
least-le n class a (taken k block ∷ older) free = least-le n class a older free
least-le n class a (empty k ∷ older) free =
    by (λ is. least-le n class a older is) (k == class) (end_of older == a) refl free
  where
    by : (is_free older class a ≡ true → least n (free_addresses class older) ≤ a) → (x y : Bool)
        → (end_of older == a) ≡ y → ((x && y) || is_free older class a) ≡ true
        → least n (cond x (end_of older ∷ free_addresses class older) (free_addresses class older)) ≤ a
    by ih true true p free = let here : end_of older ≡ a = grind (arith, nat_tests, p) in omega (arith, here)
    by ih true false p free = let rest = ih free in omega (arith, rest)
    by ih false y p free = ih free

pub least-ge : (n class a : ℕ) (places : List Place) → ((b : ℕ) → is_free places class b ≡ true → a ≤ b) → a ≤ n
    → a ≤ least n (free_addresses class places)
least-ge n class a [] before within = within
least-ge n class a (taken k block ∷ older) before within = least-ge n class a older before within
least-ge n class a (empty k ∷ older) before within =
    by (least-ge n class a older (λ b is. before b (more (k == class && end_of older == b) (is_free older class b) is))
    within) (k == class) refl
  where
    more : (x y : Bool) → y ≡ true → (x || y) ≡ true
    more true y is = refl
    more false y is = is

    itself : (x y : Bool) → (k == class) ≡ x → (end_of older == end_of older) ≡ y → x ≡ true
        → ((k == class && end_of older == end_of older) || is_free older class (end_of older)) ≡ true
    itself true true p q is = ap₂ (λ (u v : Bool). (u && v) || is_free older class (end_of older)) p q
    itself true false p q is = absurd (grind (arith, nat_tests, q))
    itself false y p q is = absurd (true≢false (sym is))

    by : a ≤ least n (free_addresses class older) → (x : Bool) → (k == class) ≡ x
        → a ≤ least n (cond x (end_of older ∷ free_addresses class older) (free_addresses class older))
    by rest true p =
        let first =
        before (end_of older) (itself (k == class) (end_of older == end_of older) refl refl p) in omega
        (arith, first, rest)
    by rest false p = rest

-- the least is the number, or one of the addresses
pub least-in : (n class : ℕ) (places : List Place)
    → (least n (free_addresses class places) ≡ n)
    ⊎ (is_free places class (least n (free_addresses class places)) ≡ true)
least-in n class [] = inl refl
least-in n class (taken k block ∷ older) = least-in n class older
least-in n class (empty k ∷ older) = by (least-in n class older) (k == class) refl
  where
    more : (x y : Bool) → y ≡ true → (x || y) ≡ true
    more true y is = refl
    more false y is = is

    pick : (m a b : ℕ) → m ≡ min a b → (m ≡ a) ⊎ (m ≡ b)
    pick m a b is = grind (arith, nat_tests)

    itself : (m : ℕ) → m ≡ end_of older → (k == class) ≡ true
        → ((k == class && end_of older == m) || is_free older class m) ≡ true
    itself m is p = grind (arith, nat_tests)

    by : (least n (free_addresses class older) ≡ n)
        ⊎ (is_free older class (least n (free_addresses class older)) ≡ true)
        → (x : Bool) → (k == class) ≡ x
        → (least n (cond x (end_of older ∷ free_addresses class older) (free_addresses class older)) ≡ n)
        ⊎ (((k == class && end_of older == least n
        (cond x (end_of older ∷ free_addresses class older) (free_addresses class older)))
        || is_free older class
        (least n (cond x (end_of older ∷ free_addresses class older) (free_addresses class older))))
        ≡ true)
    by ih true p =
        let m : ℕ = min (end_of older) (least n (free_addresses class older)) in
        elim (pick m (end_of older) (least n (free_addresses class older)) refl) [
          | inl is ↦ inr (itself m is p)
          | inr is ↦
              elim (ih) [
                | inl end ↦ inl (is ∙ end)
                | inr free ↦ inr
                    (more (k == class && end_of older == m) (is_free older class m)
                    (ap (λ (a : ℕ). is_free older class a) is ∙ free))
              ]
        ]
    by ih false p =
        elim (ih) [
          | inl end ↦ inl end
          | inr free ↦ inr
              (more (k == class && end_of older == least n (free_addresses class older))
              (is_free older class (least n (free_addresses class older))) free)
        ]

class-some : (size : ℕ) → 0 < class_of size
class-some size = grind (arith, nat_tests)

-- a heap of which a live block is freed
pub of-released : (live later : ℕ → ℕ → Option LiveEntry) (free more : ℕ → ℕ → Bool) (end : ℕ) (places : List Place)
    (thread id : ℕ) (entry : LiveEntry)
    → AreOf live free end places
    → live thread id ≡ Some entry
    → ((c a : ℕ) → more c a ≡ cond (entry.class == c && entry.address == a) true (free c a))
    → ((t i : ℕ) → later t i ≡ cond (same thread id t i) None (live t i))
    → AreOf later more end (released thread id places)
of-released live later free more end places thread id entry of at put gone = record {
  live_blocks =
      λ t i. gone t i ∙ ap (λ (x : Option LiveEntry). cond (same thread id t i) None x) (of.live_blocks t i)
      ∙ sym (entry-released thread id places t i);
  free_places = λ c a.
      put c a ∙ ap (λ (x : Bool). cond (entry.class == c && entry.address == a) true x) (of.free_places c a)
      ∙ sym (free-released thread id places entry c a of.only (sym (of.live_blocks thread id) ∙ at));
  end_is = of.end_is ∙ sym (end-released thread id places);
  only = only-released thread id places of.only;
}

-- one of which no block is freed
pub of-kept : (live later : ℕ → ℕ → Option LiveEntry) (free more : ℕ → ℕ → Bool) (end : ℕ) (places : List Place)
    (thread id : ℕ)
    → AreOf live free end places
    → live thread id ≡ None → ((c a : ℕ) → more c a ≡ free c a)
    → ((t i : ℕ) → later t i ≡ cond (same thread id t i) None (live t i))
    → AreOf later more end (released thread id places)
of-kept live later free more end places thread id of at same_free gone = record {
  live_blocks =
      λ t i. gone t i ∙ ap (λ (x : Option LiveEntry). cond (same thread id t i) None x) (of.live_blocks t i)
      ∙ sym (entry-released thread id places t i);
  free_places =
      λ c a. same_free c a ∙ of.free_places c a
      ∙ ap (λ (ps : List Place). is_free ps c a)
      (sym (none-released thread id places (sym (of.live_blocks thread id) ∙ at)));
  end_is = of.end_is ∙ sym (end-released thread id places);
  only = only-released thread id places of.only;
}

-- one into which a block is put
pub of-placed : (live later : ℕ → ℕ → Option LiveEntry) (free less : ℕ → ℕ → Bool) (end new_end : ℕ)
    (places : List Place) (block : Block) (address : ℕ)
    → AreOf live free end places
    → live block.thread block.id ≡ None → address ≡ next_address (class_of block.size) places
    → ((c a : ℕ) → less c a ≡ cond (class_of block.size == c && address == a) false (free c a))
    → ((t i : ℕ)
    → later t i
    ≡ cond (same block.thread block.id t i) (Some (record { address = address; class = class_of block.size }))
    (live t i))
    → new_end ≡ cond (address == end) (end + class_of block.size) end → AreOf later less new_end (placed block places)
of-placed live later free less end new_end places block address of none next took put grown =
    subst (λ (n : ℕ). AreOf later less new_end
    (cond (n == end_of places) (taken (class_of block.size) block ∷ places) (placed_at n block places))) next
    (by (address == end_of places) refl
    (grown ∙ ap (λ (n : ℕ). cond (address == n) (n + class_of block.size) n) of.end_is))
  where
    gone : entry_in places block.thread block.id ≡ None
    gone = sym (of.live_blocks block.thread block.id) ∙ none

    by : (b : Bool) → (address == end_of places) ≡ b
        → new_end ≡ cond b (end_of places + class_of block.size) (end_of places)
        → AreOf later less new_end
        (cond b (taken (class_of block.size) block ∷ places) (placed_at address block places))
    by true is ends =
        let here : address ≡ end_of places = grind (arith, nat_tests, is) in
        record {
          live_blocks = λ t i.
              put t i
              ∙ ap
              (λ (x : Option LiveEntry). cond (same block.thread block.id t i)
              (Some (record { address = address; class = class_of block.size })) x)
              (of.live_blocks t i)
              ∙ ap
              (λ (n : ℕ). cond (same block.thread block.id t i)
              (Some (record { address = n; class = class_of block.size })) (entry_in places t i))
              here;
          free_places =
              λ c a. took c a
              ∙ ap (λ (x : Bool). cond (class_of block.size == c && address == a) false x) (of.free_places c a)
              ∙ fresh here c a (class_of block.size == c && address == a) refl;
          end_is = ends;
          only = (class-some block.size, refl, gone, of.only);
        }
      where
        fresh : address ≡ end_of places → (c a : ℕ) (m : Bool) → (class_of block.size == c && address == a) ≡ m
            → cond m false (is_free places c a) ≡ is_free places c a
        fresh here c a true q =
            let same_address : address ≡ a = grind (arith, nat_tests, q) in
            sym (free-end places c a of.only (omega (arith, here, same_address)))
        fresh here c a false q = refl
    by false is ends =
        let free_there : is_free places (class_of block.size) address ≡ true =
        elim (least-in (end_of places) (class_of block.size) places) [
          | inl end ↦ absurd (grind (arith, nat_tests, is, next, end))
          | inr free ↦ ap (λ (n : ℕ). is_free places (class_of block.size) n) next ∙ free
        ]
        in
        record {
          live_blocks = λ t i.
              put t i
              ∙ ap
              (λ (x : Option LiveEntry). cond (same block.thread block.id t i)
              (Some (record { address = address; class = class_of block.size })) x)
              (of.live_blocks t i)
              ∙ sym (entry-placed_at address block places t i of.only gone free_there);
          free_places = λ c a.
              took c a ∙ ap (λ (x : Bool). cond (class_of block.size == c && address == a) false x) (of.free_places c a)
              ∙ sym (free-placed_at address block places (class_of block.size) c a of.only free_there);
          end_is = ends ∙ sym (end-placed_at address block places);
          only = only-placed_at address block places of.only gone free_there;
        }

-- a block is freed once
pub released-twice : (thread id : ℕ) (places : List Place)
    → released thread id (released thread id places) ≡ released thread id places
released-twice thread id [] = refl
released-twice thread id (empty class ∷ older) =
    ap (λ (more : List Place). empty class ∷ more) (released-twice thread id older)
released-twice thread id (taken class block ∷ older) = by (released-twice thread id older) (is_of thread id block) refl
  where
    by : released thread id (released thread id older) ≡ released thread id older → (b : Bool)
        → is_of thread id block ≡ b
        → released thread id (cond b (empty class) (taken class block) ∷ released thread id older)
        ≡ cond b (empty class) (taken class block) ∷ released thread id older
    by more true p = ap (λ (rest : List Place). empty class ∷ rest) more
    by more false p = ap₂ (λ (x : Bool) (rest : List Place). cond x (empty class) (taken class block) ∷ rest) p more
