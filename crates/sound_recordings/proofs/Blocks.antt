-- What the pointers of a recorded trace stand for: the live blocks of the scripts.
use Rattle.std.proofs.Common.{◌≡◌, ℕ, ◌==◌, Bool, true, false, cond, List, [], ◌∷◌, ◌++◌, length, Option, None, Some}
use Rattle.std.proofs.Common.{refl, sym, ap, ◌∙◌, subst, arith, true≢false}
use Rattle.std.proofs.lemmas.Bool.Decides.{nat_tests}
use Rattle.ht_lines.specs.Content.{Content, raw_allocation_line, raw_free_line}
use Rattle.interpret.specs.Eventless.{IsEventless}
use Rattle.interpret.specs.RawBlocks.{RawBlock, held}
use Rattle.interpret.proofs.Laws.{held-alloc, held-free, held-none}
use Rattle.record_scripts.specs.Events.{allocation}
use Rattle.record_book.specs.declared.live_blocks.LiveEntry.{LiveEntry}
use Rattle.record_book.specs.Figures.{Held, without}
use Rattle.record_book.specs.HeapPlaces.{Place, address_of, class_of, next_address, places_with, released}
use Rattle.record_book.specs.HeapState.{AreOnly, entry_in}
use Rattle.record_book.proofs.Laws.{address-some, entry-allocated, entry-apart, entry-next, entry-released}
use Rattle.record_book.proofs.Laws.{held-without, held_in, same}

-- where a live block lies: its address stands for a raw block of its size, whose node has its
-- stack. Where none lies, there is none
abbrev pub StandsAt : (ℕ → List ℕ) → List Content → Option LiveEntry → Option Held → Type 0
StandsAt stack_at said None None = Unit {0}
StandsAt stack_at said (Some entry) (Some own) =
    (block : RawBlock) × (held said entry.address ≡ Some block) × (block.info.size ≡ own.size)
    × (stack_at block.info.trace ≡ own.ips)
StandsAt stack_at said _ _ = ⊥

-- the same of the block of each thread's ID
pub record AreLive (stack_at : ℕ → List ℕ) (said : List Content) (places : List Place) (blocks : List Held) : Type 0
  where
    pub each : (t i : ℕ) → StandsAt stack_at said (entry_in places t i) (held_in blocks t i)
    pub only : AreOnly places

stands-still : (stack_at : ℕ → List ℕ) (said more : List Content) (entry : Option LiveEntry) (own : Option Held)
    → ((e : LiveEntry) → entry ≡ Some e → held more e.address ≡ held said e.address) → StandsAt stack_at said entry own
    → StandsAt stack_at more entry own
stands-still stack_at said more None None same at = tt
stands-still stack_at said more (Some e) (Some own) same at = (at.0, same e refl ∙ at.1, at.2, at.3)
stands-still stack_at said more None (Some own) same at = absurd at
stands-still stack_at said more (Some e) None same at = absurd at

-- lines without an event
pub live-none : (stack_at : ℕ → List ℕ) (said : List Content) (c : Content) (places : List Place) (blocks : List Held)
    → IsEventless c → AreLive stack_at said places blocks → AreLive stack_at (said ++ c ∷ []) places blocks
live-none stack_at said c places blocks none live = record {
  each =
      λ t i. stands-still stack_at said (said ++ c ∷ []) (entry_in places t i) (held_in blocks t i)
      (λ e is. held-none said c e.address none) (live.each t i);
  only = live.only;
}

-- the block of a live ID
pub record IsThere (stack_at : ℕ → List ℕ) (said : List Content) (places : List Place) (thread id : ℕ)
    (own : Held) : Type 0 where
  pub entry : LiveEntry
  pub block : RawBlock
  pub lies : entry_in places thread id ≡ Some entry
  pub stands : held said (address_of thread id places) ≡ Some block
  pub size_is : block.info.size ≡ own.size
  pub stack_is : stack_at block.info.trace ≡ own.ips

pub there : (stack_at : ℕ → List ℕ) (said : List Content) (places : List Place) (blocks : List Held) (thread id : ℕ)
    (own : Held)
    → AreLive stack_at said places blocks → held_in blocks thread id ≡ Some own
    → IsThere stack_at said places thread id own
there stack_at said places blocks thread id own live is =
    by (entry_in places thread id) refl
    (subst (λ (o : Option Held). StandsAt stack_at said (entry_in places thread id) o) is (live.each thread id))
  where
    by : (o : Option LiveEntry) → entry_in places thread id ≡ o → StandsAt stack_at said o (Some own)
        → IsThere stack_at said places thread id own
    by None lies at = absurd at
    by (Some entry) lies at = record {
      entry = entry;
      block = at.0;
      lies = lies;
      stands = ap (λ (a : ℕ). held said a) (address-some places thread id entry lies) ∙ at.1;
      size_is = at.2;
      stack_is = at.3;
    }

-- a free of it
pub live-freed : (stack_at : ℕ → List ℕ) (said : List Content) (places : List Place) (blocks : List Held)
    (thread id : ℕ) (own : Held)
    → AreLive stack_at said places blocks → AreOnly (released thread id places)
    → IsThere stack_at said places thread id own
    → AreLive stack_at (said ++ raw_free_line (address_of thread id places) ∷ []) (released thread id places)
    (without thread id blocks)
live-freed stack_at said places blocks thread id own live only here = record {
  each = λ t i.
      subst (λ (o : Option Held). StandsAt stack_at (said ++ raw_free_line (address_of thread id places) ∷ [])
      (entry_in (released thread id places) t i) o) (sym
      (held-without thread id blocks t i))
      (subst (λ (o : Option LiveEntry). StandsAt stack_at (said ++ raw_free_line (address_of thread id places) ∷ []) o
      (cond (same thread id t i) None (held_in blocks t i))) (sym
      (entry-released thread id places t i)) (by t i (same thread id t i) refl));
  only = only;
}
  where
    still : (t i : ℕ) → same thread id t i ≡ false → (e : LiveEntry) → entry_in places t i ≡ Some e
        → held (said ++ raw_free_line (address_of thread id places) ∷ []) e.address ≡ held said e.address
    still t i other e is =
        held-free said (address_of thread id places) e.address ∙ pick (address_of thread id places == e.address) refl
      where
        pick : (b : Bool) → (address_of thread id places == e.address) ≡ b
            → cond {A = Option RawBlock} b None (held said e.address) ≡ held said e.address
        pick false p = refl
        pick true p =
            let at_it : address_of thread id places ≡ e.address = grind (arith, nat_tests, p) in
            let first : here.entry.address ≡ e.address =
            sym (address-some places thread id here.entry here.lies) ∙ at_it in
            absurd
            (true≢false (sym (entry-apart places thread id t i here.entry e live.only here.lies is first) ∙ other))

    by : (t i : ℕ) (b : Bool) → same thread id t i ≡ b
        → StandsAt stack_at (said ++ raw_free_line (address_of thread id places) ∷ [])
        (cond b None (entry_in places t i))
        (cond b None (held_in blocks t i))
    by t i true p = tt
    by t i false p =
        stands-still stack_at said (said ++ raw_free_line (address_of thread id places) ∷ []) (entry_in places t i)
        (held_in blocks t i) (still t i p) (live.each t i)

-- an allocation
pub live-allocated : (stack_at : ℕ → List ℕ) (said : List Content) (places : List Place) (blocks : List Held)
    (thread id size trace : ℕ) (ips : List ℕ)
    → AreLive stack_at said places blocks → stack_at trace ≡ ips
    → AreOnly (released thread id places) → AreOnly (places_with thread (allocation id size ips) places)
    → AreLive stack_at
    (said ++ raw_allocation_line size trace (next_address (class_of size) (released thread id places)) ∷ [])
    (places_with thread (allocation id size ips) places)
    (record { thread = thread; id = id; size = size; ips = ips } ∷ without thread id blocks)
live-allocated stack_at said places blocks thread id size trace ips live named left only = record {
  each = λ t i.
      subst (λ (o : Option Held). StandsAt stack_at
      (said ++ raw_allocation_line size trace (next_address (class_of size) (released thread id places)) ∷ [])
      (entry_in (places_with thread (allocation id size ips) places) t i)
      (cond (same thread id t i) (Some (record { thread = thread; id = id; size = size; ips = ips })) o)) (sym
      (held-without thread id blocks t i))
      (subst (λ (o : Option LiveEntry). StandsAt stack_at
      (said ++ raw_allocation_line size trace (next_address (class_of size) (released thread id places)) ∷ []) o
      (cond (same thread id t i) (Some (record { thread = thread; id = id; size = size; ips = ips }))
      (cond (same thread id t i) None (held_in blocks t i))))
      (sym
      (entry-allocated thread id size ips places t i live.only))
      (by t i (same thread id t i) refl));
  only = only;
}
  where
    own : (block : RawBlock) (b : Bool) → b ≡ true
        → cond {A = Option RawBlock} b (Some block)
        (held said (next_address (class_of size) (released thread id places)))
        ≡ Some block
    own block true p = refl
    own block false p = absurd (true≢false (sym p))

    still : (t i : ℕ) → same thread id t i ≡ false → (e : LiveEntry) → entry_in places t i ≡ Some e
        → held (said ++ raw_allocation_line size trace (next_address (class_of size) (released thread id places)) ∷ [])
        e.address
        ≡ held said e.address
    still t i other e is =
        held-alloc said size trace (next_address (class_of size) (released thread id places)) e.address
        ∙ pick (next_address (class_of size) (released thread id places) == e.address) refl _
      where
        lies : entry_in (released thread id places) t i ≡ Some e
        lies = entry-released thread id places t i ∙ (ap (λ (b : Bool). cond b None (entry_in places t i)) other ∙ is)

        pick : (b : Bool) → (next_address (class_of size) (released thread id places) == e.address) ≡ b
            → (new : Option RawBlock) → cond {A = Option RawBlock} b new (held said e.address) ≡ held said e.address
        pick false p new = refl
        pick true p new =
            let at_it : next_address (class_of size) (released thread id places) ≡ e.address =
            grind (arith, nat_tests, p) in
            absurd (entry-next (released thread id places) t i (class_of size) e left lies (sym at_it))

    by : (t i : ℕ) (b : Bool) → same thread id t i ≡ b
        → StandsAt stack_at
        (said ++ raw_allocation_line size trace (next_address (class_of size) (released thread id places)) ∷ [])
        (cond b
        (Some
        (record { address = next_address (class_of size) (released thread id places); class = class_of size }))
        (entry_in places t i))
        (cond b (Some (record { thread = thread; id = id; size = size; ips = ips }))
        (cond b None (held_in blocks t i)))
    by t i true p =
        let equal : (next_address (class_of size) (released thread id places) == next_address (class_of size)
        (released thread id places))
        ≡ true = grind (arith, nat_tests) in
        let block : RawBlock = record { place = length said; info = record { size = size; trace = trace } } in (
          block,
          held-alloc said size trace (next_address (class_of size) (released thread id places))
              (next_address (class_of size) (released thread id places))
              ∙ own block _ equal,
          refl,
          named,
        )
    by t i false p =
        stands-still stack_at said
        (said ++ raw_allocation_line size trace (next_address (class_of size) (released thread id places)) ∷ [])
        (entry_in places t i) (held_in blocks t i) (still t i p) (live.each t i)
