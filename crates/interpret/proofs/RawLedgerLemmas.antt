-- The blocks of a raw trace: no block is freed twice, so that what is live and what was freed are all.
use Rattle.std.proofs.Common.{◌≡◌, ◌≢◌, ℕ, ◌+◌, ◌<◌, ◌≤◌, Bool, true, false, not, cond, ◌||◌, List, [], ◌∷◌, ◌++◌}
use Rattle.std.proofs.Common.{length, filter, Option, Some, None, refl, sym, ap, ◌∙◌, arith, append_assoc, append-nil}
use Rattle.std.proofs.Common.{length-append, subst}
use Rattle.std.specs.Prelude.{◌==◌, sum_by}
use Rattle.std.specs.List.{AllByRecursion}
use Rattle.std.specs.Option.{option_to_list}
use Rattle.std.proofs.lemmas.Bool.Decides.{nat_tests}
use Rattle.std.proofs.lemmas.List.{length-reverse}
use Rattle.std.proofs.lemmas.List.Elements.{filter-append}
use Rattle.std.proofs.lemmas.List.Folds.{list_any-append}
use Rattle.std.proofs.lemmas.List.Sums.{sum_by-append}
use Rattle.ht_lines.specs.Content.{Content, raw_allocation_line, raw_free_line}
use Rattle.ht_trace.proofs.Laws.{all-push, gathered-push}
use Rattle.interpret.specs.RawBlocks.{RawBlock, freed_by, held}
use Rattle.interpret.specs.RawLedger.{block_in, blocks, freed, is_freed, live_blocks}
use Rattle.interpret.proofs.PointerLemmas.{held-push}

-- a block stands once among others, and no other has its place
pub record IsOnce (block : RawBlock) (all : List RawBlock) : Type 0 where
  pub front : List RawBlock
  pub back : List RawBlock
  pub split : all ≡ front ++ block ∷ back
  pub front_apart : AllByRecursion (λ x. (block.place == x.place) ≡ false) front
  pub back_apart : AllByRecursion (λ x. (block.place == x.place) ≡ false) back

-- what pointers stand for: blocks that stand once, aren't freed, and are those of one pointer alone
pub record AreHeld (said : List Content) : Type 0 where
  pub once : (ptr : ℕ) (block : RawBlock) → held said ptr ≡ Some block → IsOnce block (blocks said)
  pub unfreed : (ptr : ℕ) (block : RawBlock) → held said ptr ≡ Some block → is_freed (freed said) block ≡ false
  pub below : (ptr : ℕ) (block : RawBlock) → held said ptr ≡ Some block → block.place < length said
  pub apart : (p q : ℕ) (x y : RawBlock) → p ≢ q → held said p ≡ Some x → held said q ≡ Some y → x.place ≢ y.place
  pub freed_below : AllByRecursion (λ block. block.place < length said) (freed said)
  pub blocks_below : AllByRecursion (λ block. block.place < length said) (blocks said)
  pub balance : (w : RawBlock → ℕ) → sum_by w (live_blocks said) + sum_by w (freed said) ≡ sum_by w (blocks said)

blocks-push : (said : List Content) (c : Content)
    → blocks (said ++ c ∷ []) ≡ blocks said ++ option_to_list (block_in said c)
unfolding blocks
blocks-push said c = gathered-push block_in [] said c

freed-push : (said : List Content) (c : Content)
    → freed (said ++ c ∷ []) ≡ freed said ++ option_to_list (freed_by said c)
unfolding freed
freed-push said c = gathered-push freed_by [] said c

all-more : {X : Type 0} (P Q : X → Type 0) (xs : List X) → ((x : X) → P x → Q x) → AllByRecursion P xs
    → AllByRecursion Q xs
all-more P Q [] f all = tt
all-more P Q (x ∷ xs) f all = (f x all.0, all-more P Q xs f all.1)

below-more : (xs : List RawBlock) (m n : ℕ) → m ≤ n → AllByRecursion (λ (x : RawBlock). x.place < m) xs
    → AllByRecursion (λ (x : RawBlock). x.place < n) xs
below-more xs m n few all =
    all-more (λ (x : RawBlock). x.place < m) (λ (x : RawBlock). x.place < n) xs (λ x below. omega arith) all

-- a block whose place is past all isn't freed
past-unfreed : (gone : List RawBlock) (block : RawBlock) → AllByRecursion (λ (x : RawBlock). x.place < block.place) gone
    → is_freed gone block ≡ false
past-unfreed [] block all = refl
past-unfreed (x ∷ gone) block all =
    let here : (x.place == block.place) ≡ false =
    grind (arith, nat_tests, all.0) in rw (here, past-unfreed gone block all.1) refl

-- with one more block freed
is_freed-push : (gone : List RawBlock) (block x : RawBlock)
    → is_freed (gone ++ block ∷ []) x ≡ (is_freed gone x || (block.place == x.place))
is_freed-push gone block x =
    list_any-append (λ (other : RawBlock). other.place == x.place) gone (block ∷ [])
    ∙ ap (λ (b : Bool). is_freed gone x || b) (or-false (block.place == x.place))
  where
    or-false : (b : Bool) → (b || false) ≡ b
    or-false true = refl
    or-false false = refl

-- blocks of other places stay
filter-stays : (gone : List RawBlock) (block : RawBlock) (xs : List RawBlock)
    → AllByRecursion (λ (x : RawBlock). (block.place == x.place) ≡ false) xs
    → filter (λ x. not (is_freed (gone ++ block ∷ []) x)) xs ≡ filter (λ x. not (is_freed gone x)) xs
filter-stays gone block [] apart = refl
filter-stays gone block (x ∷ xs) apart =
    ap (λ (b : Bool). cond (not b) (x ∷ filter (λ y. not (is_freed (gone ++ block ∷ []) y)) xs)
    (filter (λ y. not (is_freed (gone ++ block ∷ []) y)) xs)) (is_freed-push
    gone block x
    ∙ ap (λ (b : Bool). is_freed gone x || b) apart.0 ∙ or-false (is_freed gone x))
    ∙ ap (λ (ys : List RawBlock). cond (not (is_freed gone x)) (x ∷ ys) ys) (filter-stays gone block xs apart.1)
  where
    or-false : (b : Bool) → (b || false) ≡ b
    or-false true = refl
    or-false false = refl

-- what one freed block takes from the live ones
pub frees-once : (w : RawBlock → ℕ) (gone all : List RawBlock) (block : RawBlock) → IsOnce block all
    → is_freed gone block ≡ false
    → sum_by w (filter (λ x. not (is_freed (gone ++ block ∷ []) x)) all) + w block
    ≡ sum_by w (filter (λ x. not (is_freed gone x)) all)
frees-once w gone all block once live =
    let now = λ (x : RawBlock). not (is_freed (gone ++ block ∷ []) x) in
    let old = λ (x : RawBlock). not (is_freed gone x) in
    let same : (block.place == block.place) ≡ true = grind (arith, nat_tests) in
    let here : is_freed (gone ++ block ∷ []) block ≡ true =
    is_freed-push gone block block ∙ ap (λ (b : Bool). is_freed gone block || b) same
    ∙ ap (λ (b : Bool). b || true) live in
    let new_split : filter now all ≡ filter old once.front ++ filter old once.back =
    ap (λ (l : List RawBlock). filter now l) once.split ∙ filter-append now once.front (block ∷ once.back)
    ∙ ap (λ (l : List RawBlock). l ++ filter now (block ∷ once.back))
    (filter-stays gone block once.front once.front_apart)
    ∙ ap (λ (b : Bool). filter old once.front ++ cond (not b) (block ∷ filter now once.back) (filter now once.back))
    here
    ∙ ap (λ (l : List RawBlock). filter old once.front ++ l) (filter-stays gone block once.back once.back_apart) in
    let old_split : filter old all ≡ filter old once.front ++ block ∷ filter old once.back =
    ap (λ (l : List RawBlock). filter old l) once.split ∙ filter-append old once.front (block ∷ once.back)
    ∙ ap (λ (b : Bool). filter old once.front ++ cond (not b) (block ∷ filter old once.back) (filter old once.back))
    live in
    let a =
    ap (λ (l : List RawBlock). sum_by w l) new_split
    ∙ sum_by-append w (filter old once.front) (filter old once.back) in
    let b =
    ap (λ (l : List RawBlock). sum_by w l) old_split
    ∙ sum_by-append w (filter old once.front) (block ∷ filter old once.back) in
    let c = sum_by-append w (block ∷ []) (filter old once.back) in
    omega (arith, a, b, c)

once-more : (block new : RawBlock) (all : List RawBlock) → IsOnce block all → (block.place == new.place) ≡ false
    → IsOnce block (all ++ new ∷ [])
once-more block new all once apart = record {
  front = once.front;
  back = once.back ++ new ∷ [];
  split = ap (λ (l : List RawBlock). l ++ new ∷ []) once.split ∙ append_assoc once.front (block ∷ once.back) (new ∷ []);
  front_apart = once.front_apart;
  back_apart = all-push (λ (x : RawBlock). (block.place == x.place) ≡ false) once.back new once.back_apart apart;
}

once-new : (new : RawBlock) (all : List RawBlock) → AllByRecursion (λ (x : RawBlock). x.place < new.place) all
    → IsOnce new (all ++ new ∷ [])
once-new new all below = record {
  front = all;
  back = [];
  split = refl;
  front_apart =
      all-more (λ (x : RawBlock). x.place < new.place) (λ (x : RawBlock). (new.place == x.place) ≡ false) all
      (λ x less. grind (arith, nat_tests, less)) below;
  back_apart = tt;
}

pub some-is : {X : Type 0} (x y : X) → Some x ≡ Some y → x ≡ y
some-is x y is = cc

-- the block of an allocation behind the lines
abbrev pub new_block : List Content → ℕ → ℕ → RawBlock
new_block said size trace = record { place = length said; info = record { size = size; trace = trace } }

-- what a pointer stands for behind an allocation, and behind a free
pub held-alloc : (said : List Content) (size trace named ptr : ℕ)
    → held (said ++ raw_allocation_line size trace named ∷ []) ptr
    ≡ cond {A = Option RawBlock} (named == ptr) (Some (new_block said size trace)) (held said ptr)
unfolding held
held-alloc said size trace named ptr =
    held-push said (raw_allocation_line size trace named) ptr
    ∙ ap (λ (n : ℕ). cond {A = Option RawBlock} (named == ptr)
    (Some (record { place = n; info = record { size = size; trace = trace } })) (held said ptr)) (length-reverse
    said)

pub held-free : (said : List Content) (named ptr : ℕ)
    → held (said ++ raw_free_line named ∷ []) ptr ≡ cond {A = Option RawBlock} (named == ptr) None (held said ptr)
unfolding held
held-free said named ptr = held-push said (raw_free_line named) ptr

-- what a pointer stands for after an allocation: its block, or what it stood for
data AllocCase (said : List Content) (size trace named ptr : ℕ) (block : RawBlock) : Type 0 where
  is_new : named ≡ ptr → block ≡ new_block said size trace → AllocCase said size trace named ptr block
  is_old : named ≢ ptr → held said ptr ≡ Some block → AllocCase said size trace named ptr block

alloc-case : (said : List Content) (size trace named ptr : ℕ) (block : RawBlock)
    → held (said ++ raw_allocation_line size trace named ∷ []) ptr ≡ Some block
    → AllocCase said size trace named ptr block
alloc-case said size trace named ptr block is = by (named == ptr) refl (sym (held-alloc said size trace named ptr) ∙ is)
  where
    by : (b : Bool) → (named == ptr) ≡ b
        → cond {A = Option RawBlock} b (Some (new_block said size trace)) (held said ptr) ≡ Some block
        → AllocCase said size trace named ptr block
    by true e is = is_new (grind (arith, nat_tests, e)) (sym (some-is (new_block said size trace) block is))
    by false e is = is_old (λ same. absurd (grind (arith, nat_tests, e, same))) is

free-case : (said : List Content) (named ptr : ℕ) (block : RawBlock)
    → held (said ++ raw_free_line named ∷ []) ptr ≡ Some block → (named ≢ ptr) × (held said ptr ≡ Some block)
free-case said named ptr block is = by (named == ptr) refl (sym (held-free said named ptr) ∙ is)
  where
    by : (b : Bool) → (named == ptr) ≡ b → cond {A = Option RawBlock} b None (held said ptr) ≡ Some block
        → (named ≢ ptr) × (held said ptr ≡ Some block)
    by true e is = absurd (cc)
    by false e is = (λ same. absurd (grind (arith, nat_tests, e, same)), is)

-- the blocks and what pointers stand for, with an allocation more
held-after-alloc : (said : List Content) (size trace named : ℕ) → AreHeld said
    → AreHeld (said ++ raw_allocation_line size trace named ∷ [])
unfolding live_blocks
held-after-alloc said size trace named are =
    let c = raw_allocation_line size trace named in
    let new = new_block said size trace in
    let count : length (said ++ c ∷ []) ≡ length said + 1 = length-append said (c ∷ []) in
    let all : blocks (said ++ c ∷ []) ≡ blocks said ++ new ∷ [] = blocks-push said c in
    let gone : freed (said ++ c ∷ []) ≡ freed said = freed-push said c ∙ append-nil (freed said) in
    let unfreed : is_freed (freed said) new ≡ false = past-unfreed (freed said) new are.freed_below in
    record {
      once =
          λ ptr block is. subst (λ (l : List RawBlock). IsOnce block l) (sym all)
          (once_of ptr block (alloc-case said size trace named ptr block is));
      unfreed =
          λ ptr block is. ap (λ (l : List RawBlock). is_freed l block) gone
          ∙ unfreed_of unfreed ptr block (alloc-case said size trace named ptr block is);
      below =
          λ ptr block is. let here = below_of ptr block (alloc-case said size trace named ptr block is) in omega
          (arith, count, here);
      apart =
          λ p q x y other one two. apart_of p q x y other (alloc-case said size trace named p x one)
          (alloc-case said size trace named q y two);
      freed_below =
          subst (λ (l : List RawBlock). AllByRecursion (λ (x : RawBlock). x.place < length (said ++ c ∷ [])) l)
          (sym gone)
          (below-more (freed said) (length said) (length (said ++ c ∷ [])) (omega (arith, count)) are.freed_below);
      blocks_below =
          subst (λ (l : List RawBlock). AllByRecursion (λ (x : RawBlock). x.place < length (said ++ c ∷ [])) l)
          (sym all)
          (all-push (λ (x : RawBlock). x.place < length (said ++ c ∷ [])) (blocks said) new
          (below-more (blocks said) (length said) (length (said ++ c ∷ [])) (omega (arith, count)) are.blocks_below)
          (omega (arith, count)));
      balance = λ w.
          let live : filter (λ x. not (is_freed (freed said) x)) (blocks said ++ new ∷ [])
          ≡ filter (λ x. not (is_freed (freed said) x)) (blocks said) ++ new ∷ [] =
          filter-append (λ x. not (is_freed (freed said) x)) (blocks said) (new ∷ [])
          ∙ ap (λ (b : Bool). filter (λ x. not (is_freed (freed said) x)) (blocks said) ++ cond (not b) (new ∷ []) [])
          unfreed in
          let a =
          ap (λ (l : List RawBlock). sum_by w l)
          (ap (λ (l : List RawBlock). filter (λ x. not (is_freed l x)) (blocks (said ++ c ∷ []))) gone
          ∙ ap (λ (l : List RawBlock). filter (λ x. not (is_freed (freed said) x)) l) all ∙ live)
          ∙ sum_by-append w (filter (λ x. not (is_freed (freed said) x)) (blocks said)) (new ∷ []) in
          let b = ap (λ (l : List RawBlock). sum_by w l) gone in
          let d = ap (λ (l : List RawBlock). sum_by w l) all ∙ sum_by-append w (blocks said) (new ∷ []) in
          omega (arith, a, b, d, are.balance w);
    }
  where
    once_of : (ptr : ℕ) (block : RawBlock) → AllocCase said size trace named ptr block
        → IsOnce block (blocks said ++ new_block said size trace ∷ [])
    once_of ptr block (is_new e is) =
        subst (λ (b : RawBlock). IsOnce b (blocks said ++ new_block said size trace ∷ [])) (sym is)
        (once-new (new_block said size trace) (blocks said) are.blocks_below)
    once_of ptr block (is_old e is) =
        let below =
        are.below ptr block is in once-more block (new_block said size trace) (blocks said) (are.once ptr block is)
        (grind (arith, nat_tests, below))

    unfreed_of : is_freed (freed said) (new_block said size trace) ≡ false → (ptr : ℕ) (block : RawBlock)
        → AllocCase said size trace named ptr block → is_freed (freed said) block ≡ false
    unfreed_of unfreed ptr block (is_new e is) = ap (λ (b : RawBlock). is_freed (freed said) b) is ∙ unfreed
    unfreed_of unfreed ptr block (is_old e is) = are.unfreed ptr block is

    below_of : (ptr : ℕ) (block : RawBlock) → AllocCase said size trace named ptr block → block.place < length said + 1
    below_of ptr block (is_new e is) = let here = ap (λ (b : RawBlock). b.place) is in omega (arith, here)
    below_of ptr block (is_old e is) = let here = are.below ptr block is in omega (arith, here)

    apart_of : (p q : ℕ) (x y : RawBlock) → p ≢ q → AllocCase said size trace named p x
        → AllocCase said size trace named q y → x.place ≢ y.place
    apart_of p q x y other (is_new e is) (is_new f it) = λ same. other (sym e ∙ f)
    apart_of p q x y other (is_new e is) (is_old f it) =
        λ same. let here = ap (λ (b : RawBlock). b.place) is in let below = are.below q y it in absurd
        (omega (arith, here, below, same))
    apart_of p q x y other (is_old e is) (is_new f it) =
        λ same. let here = ap (λ (b : RawBlock). b.place) it in let below = are.below p x is in absurd
        (omega (arith, here, below, same))
    apart_of p q x y other (is_old e is) (is_old f it) = are.apart p q x y other is it

-- with a line more that frees nothing and allocates nothing
held-after-same : (said : List Content) (c : Content)
    → ((ptr : ℕ) (block : RawBlock) → held (said ++ c ∷ []) ptr ≡ Some block → held said ptr ≡ Some block)
    → blocks (said ++ c ∷ []) ≡ blocks said → freed (said ++ c ∷ []) ≡ freed said → AreHeld said
    → AreHeld (said ++ c ∷ [])
unfolding live_blocks
held-after-same said c old all gone are =
    let count : length (said ++ c ∷ []) ≡ length said + 1 = length-append said (c ∷ []) in
    record {
      once =
          λ ptr block is. subst (λ (l : List RawBlock). IsOnce block l) (sym all)
          (are.once ptr block (old ptr block is));
      unfreed =
          λ ptr block is. ap (λ (l : List RawBlock). is_freed l block) gone ∙ are.unfreed ptr block (old ptr block is);
      below = λ ptr block is. let here = are.below ptr block (old ptr block is) in omega (arith, count, here);
      apart = λ p q x y other one two. are.apart p q x y other (old p x one) (old q y two);
      freed_below =
          subst (λ (l : List RawBlock). AllByRecursion (λ (x : RawBlock). x.place < length (said ++ c ∷ [])) l)
          (sym gone)
          (below-more (freed said) (length said) (length (said ++ c ∷ [])) (omega (arith, count)) are.freed_below);
      blocks_below =
          subst (λ (l : List RawBlock). AllByRecursion (λ (x : RawBlock). x.place < length (said ++ c ∷ [])) l)
          (sym all)
          (below-more (blocks said) (length said) (length (said ++ c ∷ [])) (omega (arith, count)) are.blocks_below);
      balance = λ w.
          let a =
          ap (λ (l : List RawBlock). sum_by w l)
          (ap (λ (l : List RawBlock). filter (λ x. not (is_freed l x)) (blocks (said ++ c ∷ []))) gone
          ∙ ap (λ (l : List RawBlock). filter (λ x. not (is_freed (freed said) x)) l) all) in
          let b = ap (λ (l : List RawBlock). sum_by w l) gone in
          let d = ap (λ (l : List RawBlock). sum_by w l) all in
          omega (arith, a, b, d, are.balance w);
    }

-- with a block freed
held-after-freed : (said : List Content) (named : ℕ) (block : RawBlock) → held said named ≡ Some block → AreHeld said
    → AreHeld (said ++ raw_free_line named ∷ [])
unfolding live_blocks
held-after-freed said named block here are =
    let c = raw_free_line named in
    let count : length (said ++ c ∷ []) ≡ length said + 1 = length-append said (c ∷ []) in
    let all : blocks (said ++ c ∷ []) ≡ blocks said = blocks-push said c ∙ append-nil (blocks said) in
    let gone : freed (said ++ c ∷ []) ≡ freed said ++ block ∷ [] =
    freed-push said c ∙ ap (λ (o : Option RawBlock). freed said ++ option_to_list o) here in
    let below = are.below named block here in
    record {
      once =
          λ ptr x is. subst (λ (l : List RawBlock). IsOnce x l) (sym all)
          (are.once ptr x (free-case said named ptr x is).1);
      unfreed = λ ptr x is.
          let old = free-case said named ptr x is in
          let other = are.apart named ptr block x old.0 here old.1 in
          let test : (block.place == x.place) ≡ false = grind (arith, nat_tests, other) in
          ap (λ (l : List RawBlock). is_freed l x) gone ∙ is_freed-push (freed said) block x
          ∙ ap (λ (b : Bool). b || (block.place == x.place)) (are.unfreed ptr x old.1) ∙ test;
      below = λ ptr x is. let less = are.below ptr x (free-case said named ptr x is).1 in omega (arith, count, less);
      apart =
          λ p q x y other one two. are.apart p q x y other (free-case said named p x one).1
          (free-case said named q y two).1;
      freed_below =
          subst (λ (l : List RawBlock). AllByRecursion (λ (x : RawBlock). x.place < length (said ++ c ∷ [])) l)
          (sym gone)
          (all-push (λ (x : RawBlock). x.place < length (said ++ c ∷ [])) (freed said) block
          (below-more (freed said) (length said) (length (said ++ c ∷ [])) (omega (arith, count)) are.freed_below)
          (omega (arith, count, below)));
      blocks_below =
          subst (λ (l : List RawBlock). AllByRecursion (λ (x : RawBlock). x.place < length (said ++ c ∷ [])) l)
          (sym all)
          (below-more (blocks said) (length said) (length (said ++ c ∷ [])) (omega (arith, count)) are.blocks_below);
      balance = λ w.
          let a =
          ap (λ (l : List RawBlock). sum_by w l)
          (ap (λ (l : List RawBlock). filter (λ x. not (is_freed l x)) (blocks (said ++ c ∷ []))) gone
          ∙ ap (λ (l : List RawBlock). filter (λ x. not (is_freed (freed said ++ block ∷ []) x)) l) all) in
          let b = ap (λ (l : List RawBlock). sum_by w l) gone ∙ sum_by-append w (freed said) (block ∷ []) in
          let d = ap (λ (l : List RawBlock). sum_by w l) all in
          let taken =
          frees-once w (freed said) (blocks said) block (are.once named block here) (are.unfreed named block here) in
          omega (arith, a, b, d, taken, are.balance w);
    }

held-after-free : (said : List Content) (named : ℕ) (o : Option RawBlock) → held said named ≡ o → AreHeld said
    → AreHeld (said ++ raw_free_line named ∷ [])
held-after-free said named (Some block) here are = held-after-freed said named block here are
held-after-free said named None here are =
    held-after-same said (raw_free_line named) (λ ptr block is. (free-case said named ptr block is).1)
    (blocks-push said (raw_free_line named) ∙ append-nil (blocks said))
    (freed-push said (raw_free_line named) ∙ ap (λ (o : Option RawBlock). freed said ++ option_to_list o) here
    ∙ append-nil (freed said))
    are

-- with any line more
pub held-step : (said : List Content) (c : Content) → AreHeld said → AreHeld (said ++ c ∷ [])
unfolding held
held-step said (raw_allocation_line size trace named) are = held-after-alloc said size trace named are
held-step said (raw_free_line named) are = held-after-free said named (held said named) refl are
held-step said c are =
    held-after-same said c (λ ptr block is. sym (held-push said c ptr) ∙ is)
    (blocks-push said c ∙ append-nil (blocks said)) (freed-push said c ∙ append-nil (freed said)) are

pub held-none : AreHeld []
unfolding held blocks freed live_blocks
held-none = record {
  once = λ ptr block is. absurd (cc);
  unfreed = λ ptr block is. absurd (cc);
  below = λ ptr block is. absurd (cc);
  apart = λ p q x y other one two. absurd (cc);
  freed_below = tt;
  blocks_below = tt;
  balance = λ w. refl;
}
