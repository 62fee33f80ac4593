-- Stacks that cost nothing, behind others: they change no tree.
use Rattle.std.proofs.Common.{◌≡◌, ℕ, zero, suc, ◌+◌, ◌<◌, ◌≤◌, List, [], ◌∷◌, ◌++◌, length, map, take, eqb, Bool, true}
use Rattle.std.proofs.Common.{false, cond, refl, ap, sym, ◌∙◌, inl, inr, arith, append-nil, length-append}
use Rattle.std.specs.Prelude.{◌&&◌, filter, not, nat_lt, sum_by}
use Rattle.std.specs.List.{AllByRecursion, flat_map, position_or_len, range_with_len}
use Rattle.std.proofs.Math.Path.{fun_ext}
use Rattle.std.proofs.lemmas.List.Elements.{filter-append}
use Rattle.std.proofs.lemmas.List.Folds.{prefix_len-append}
use Rattle.std.proofs.lemmas.List.Sums.{prefix_len-le-length, sum_by-append, sum_by-cons}
use Rattle.std.proofs.lemmas.Bool.Decides.{eqb_tells, nat_tests}
use Rattle.cost_tree.specs.declared.scale.Scale.{Scale}
use Rattle.cost_tree.specs.Costed.{Costed}
use Rattle.cost_tree.specs.CostLines.{FrontLine, a_front, gathered, cost_lines, cost_of, front_lines, gathered_lines}
use Rattle.cost_tree.specs.CostLines.{is_small, kept_fronts, small_fronts}
use Rattle.cost_tree.specs.Inclusive.{has_front, inclusive, least}
use Rattle.cost_tree.specs.NextFronts.{longer_front, next_fronts, opens, texts_at}
use Rattle.cost_tree.specs.Order.{by_cost}
use Rattle.massif_tree.specs.declared.options.TreeOptions.{TreeOptions}
use Rattle.massif_tree.specs.MassifTree.{massif_line, massif_tree, scale_of}

-- each costs nothing
abbrev pub AreIdle : List Costed → Type 0
AreIdle stacks = AllByRecursion (λ (stack : Costed). stack.cost ≡ 0) stacks

none-inclusive : (front : List (List ℕ)) (idle : List Costed) → AreIdle idle → inclusive front idle ≡ 0
unfolding inclusive
none-inclusive front [] idle = refl
none-inclusive front (stack ∷ stacks) idle =
    let here : cond {A = ℕ} (has_front front stack.texts) stack.cost 0 ≡ 0 =
    by_flag (has_front front stack.texts) stack.cost idle.0 in
    let rest = none-inclusive front stacks idle.1 in
    let whole = sum_by-cons (λ (s : Costed). cond {A = ℕ} (has_front front s.texts) s.cost 0) stack stacks in
    omega arith
  where
    by_flag : (b : Bool) (n : ℕ) → n ≡ 0 → cond {A = ℕ} b n 0 ≡ 0
    by_flag true n is = is
    by_flag false n is = refl

inclusive-idle : (front : List (List ℕ)) (stacks idle : List Costed) → AreIdle idle
    → inclusive front (stacks ++ idle) ≡ inclusive front stacks
unfolding inclusive
inclusive-idle front stacks idle none =
    let whole = sum_by-append (λ (s : Costed). cond {A = ℕ} (has_front front s.texts) s.cost 0) stacks idle in
    let rest = none-inclusive front idle none in
    omega arith

-- no front costs more
costs-idle : (stacks idle : List Costed) → AreIdle idle → cost_of (stacks ++ idle) ≡ cost_of stacks
costs-idle stacks idle none = fun_ext (λ front. inclusive-idle front stacks idle none)

-- whether it costs something and begins with the front
abbrev bears : List (List ℕ) → Costed → Bool
bears front stack = nat_lt 0 stack.cost && has_front front stack.texts

no-place : (front : List (List ℕ)) (idle : List Costed) → AreIdle idle
    → position_or_len (bears front) idle ≡ length idle
no-place front [] none = refl
no-place front (s ∷ ss) none =
    ap (λ (n : ℕ). cond {A = ℕ} (not (nat_lt 0 n && has_front front s.texts)) (1 + position_or_len (bears front) ss) 0)
    none.0
    ∙ (let rest = no-place front ss none.1 in let e : 1 + position_or_len (bears front) ss
    ≡ length (s ∷ ss) = omega arith in e)

-- the least stack of a front, where others follow that cost nothing
least-idle : (front : List (List ℕ)) (stacks idle : List Costed) → AreIdle idle
    → least front (stacks ++ idle)
    ≡ cond {A = ℕ} (eqb (least front stacks) (length stacks)) (length stacks + length idle) (least front stacks)
unfolding least
least-idle front stacks idle none =
    prefix_len-append (λ s. not (bears front s)) stacks idle
    ∙ ap (λ (n : ℕ). cond {A = ℕ} (eqb (least front stacks) (length stacks)) (length stacks + n) (least front stacks))
    (no-place front idle none)

least-within : (front : List (List ℕ)) (stacks : List Costed) → least front stacks ≤ length stacks
unfolding least
least-within front stacks = prefix_len-le-length (λ s. not (bears front s)) stacks

-- it is one of the stacks where it was
place-stays : (l len extra n : ℕ) → l ≤ len → n < len → eqb (cond {A = ℕ} (eqb l len) (len + extra) l) n ≡ eqb l n
place-stays l len extra n within below =
    elim (eqb_tells l len) [
      | inl same ↦ ap (λ (b : Bool). eqb (cond {A = ℕ} b (len + extra) l) n) same.0
          ∙ (let last = same.1 in grind (arith, nat_tests))
      | inr other ↦ ap (λ (b : Bool). eqb (cond {A = ℕ} b (len + extra) l) n) other.0
    ]

-- and none of those that follow
place-before : (l len extra n : ℕ) → l ≤ len → len ≤ n → n < len + extra
    → eqb (cond {A = ℕ} (eqb l len) (len + extra) l) n ≡ false
place-before l len extra n within above below =
    elim (eqb_tells l len) [
      | inl same ↦ ap (λ (b : Bool). eqb (cond {A = ℕ} b (len + extra) l) n) same.0 ∙ grind (arith, nat_tests)
      | inr other ↦ ap (λ (b : Bool). eqb (cond {A = ℕ} b (len + extra) l) n) other.0
          ∙ (let apart = other.1 in grind (arith, nat_tests))
    ]

texts-stay : (stacks idle : List Costed) (n : ℕ) → n < length stacks → texts_at (stacks ++ idle) n ≡ texts_at stacks n
texts-stay [] idle n within = absurd (omega arith)
texts-stay (s ∷ ss) idle zero within = refl
texts-stay (s ∷ ss) idle (suc n) within = texts-stay ss idle n (omega arith)

longer-stays : (front : List (List ℕ)) (stacks idle : List Costed) (n : ℕ) → n < length stacks
    → longer_front front (stacks ++ idle) n ≡ longer_front front stacks n
longer-stays front stacks idle n within =
    ap (λ (texts : List (List ℕ)). take (length front + 1) texts) (texts-stay stacks idle n within)

opens-stays : (front : List (List ℕ)) (stacks idle : List Costed) (n : ℕ) → AreIdle idle → n < length stacks
    → opens front (stacks ++ idle) n ≡ opens front stacks n
opens-stays front stacks idle n none within =
    let longer : List (List ℕ) = longer_front front stacks n in
    ap (λ (texts : List (List ℕ)). has_front front texts && nat_lt (length front) (length texts) && eqb
    (least (take (length front + 1) texts) (stacks ++ idle)) n) (texts-stay
    stacks idle n within)
    ∙ ap (λ (b : Bool). has_front front (texts_at stacks n) && nat_lt (length front) (length (texts_at stacks n)) && b)
    (ap (λ (l : ℕ). eqb l n) (least-idle longer stacks idle none)
    ∙ place-stays (least longer stacks) (length stacks) (length idle) n (least-within longer stacks) within)

no-third : (a b : Bool) → (a && b && false) ≡ false
no-third true true = refl
no-third true false = refl
no-third false b = refl

opens-none : (front : List (List ℕ)) (stacks idle : List Costed) (n : ℕ) → AreIdle idle → length stacks ≤ n
    → n < length stacks + length idle → opens front (stacks ++ idle) n ≡ false
opens-none front stacks idle n none above below =
    let whole : List Costed = stacks ++ idle in
    let longer : List (List ℕ) = longer_front front whole n in
    ap (λ (b : Bool). has_front front (texts_at whole n) && nat_lt (length front) (length (texts_at whole n)) && b)
    (ap (λ (l : ℕ). eqb l n) (least-idle longer stacks idle none)
    ∙ place-before (least longer stacks) (length stacks) (length idle) n (least-within longer stacks) above below)
    ∙ no-third (has_front front (texts_at whole n)) (nat_lt (length front) (length (texts_at whole n)))

-- numbers in a row, of which the later ones are left out
picked-same : {X : Type 0} (p q : ℕ → Bool) (f g : ℕ → X) (a n : ℕ)
    → ((k : ℕ) → a ≤ k → k < a + n → (p k ≡ q k) × (f k ≡ g k))
    → map f (filter p (range_with_len a n)) ≡ map g (filter q (range_with_len a n))
picked-same p q f g a zero same = refl
picked-same {X} p q f g a (suc n) same =
    let here = same a (omega arith) (omega arith) in
    let rest = picked-same p q f g (a + 1) n (λ k low high. same k (omega arith) (omega arith)) in
    by_flag f (p a) a (filter p (range_with_len (a + 1) n))
    ∙ ap (λ (b : Bool). cond b (f a ∷ map f (filter p (range_with_len (a + 1) n)))
    (map f (filter p (range_with_len (a + 1) n)))) here.0
    ∙ ap (λ (x : X). cond (q a) (x ∷ map f (filter p (range_with_len (a + 1) n)))
    (map f (filter p (range_with_len (a + 1) n)))) here.1
    ∙ ap (λ (xs : List X). cond (q a) (g a ∷ xs) xs) rest
    ∙ sym (by_flag g (q a) a (filter q (range_with_len (a + 1) n)))
  where
    by_flag : (h : ℕ → X) (b : Bool) (k : ℕ) (ks : List ℕ)
        → map h (cond b (k ∷ ks) ks) ≡ cond b (h k ∷ map h ks) (map h ks)
    by_flag h true k ks = refl
    by_flag h false k ks = refl

picked-none : (p : ℕ → Bool) (a n : ℕ) → ((k : ℕ) → a ≤ k → k < a + n → p k ≡ false)
    → filter p (range_with_len a n) ≡ []
picked-none p a zero none = refl
picked-none p a (suc n) none =
    ap (λ (b : Bool). cond b (a ∷ filter p (range_with_len (a + 1) n)) (filter p (range_with_len (a + 1) n)))
    (none a (omega arith) (omega arith))
    ∙ picked-none p (a + 1) n (λ k low high. none k (omega arith) (omega arith))

pub range-parts : (a m n : ℕ) → range_with_len a (m + n) ≡ range_with_len a m ++ range_with_len (a + m) n
range-parts a zero n =
    ap (range_with_len a) (let e : 0 + n ≡ n = omega arith in e)
    ∙ ap (λ (b : ℕ). range_with_len b n) (let e : a ≡ a + 0 = omega arith in e)
range-parts a (suc m) n =
    ap (range_with_len a) (let e : suc m + n ≡ suc (m + n) = omega arith in e)
    ∙ ap (λ (ks : List ℕ). a ∷ ks)
    (range-parts (a + 1) m n
    ∙ ap (λ (b : ℕ). range_with_len (a + 1) m ++ range_with_len b n)
    (let e : a + 1 + m ≡ a + suc m = omega arith in e))

next-idle : (front : List (List ℕ)) (stacks idle : List Costed) → AreIdle idle
    → next_fronts front (stacks ++ idle) ≡ next_fronts front stacks
unfolding next_fronts
next-idle front stacks idle none =
    let whole : List Costed = stacks ++ idle in
    let count : length whole ≡ length stacks + length idle = length-append stacks idle in
    let first : List ℕ = filter (opens front whole) (range_with_len 0 (length stacks)) in
    ap (λ (n : ℕ). map (longer_front front whole) (filter (opens front whole) (range_with_len 0 n))) count
    ∙ ap (λ (ks : List ℕ). map (longer_front front whole) (filter (opens front whole) ks))
    (range-parts 0 (length stacks) (length idle))
    ∙ ap (λ (ks : List ℕ). map (longer_front front whole) ks)
    (filter-append (opens front whole) (range_with_len 0 (length stacks))
    (range_with_len (0 + length stacks) (length idle))
    ∙ ap (λ (ks : List ℕ). first ++ ks)
    (picked-none (opens front whole) (0 + length stacks) (length idle)
    (λ k low high. opens-none front stacks idle k none (omega arith) (omega arith)))
    ∙ append-nil first)
    ∙ picked-same (opens front whole) (opens front stacks) (longer_front front whole) (longer_front front stacks) 0
    (length stacks)
    (λ k low high. (opens-stays front stacks idle k none (omega arith), longer-stays front stacks idle k (omega arith)))

kept-idle : (scale : Scale) (stacks idle : List Costed) (front : List (List ℕ)) → AreIdle idle
    → kept_fronts scale (stacks ++ idle) front ≡ kept_fronts scale stacks front
unfolding kept_fronts
kept-idle scale stacks idle front none =
    ap (λ (cost : List (List ℕ) → ℕ). by_cost cost
    (filter (λ next. not (is_small scale (cost next))) (next_fronts front (stacks ++ idle)))) (costs-idle
    stacks idle none)
    ∙ ap (λ (fronts : List (List (List ℕ))). by_cost (cost_of stacks)
    (filter (λ next. not (is_small scale (cost_of stacks next))) fronts)) (next-idle
    front stacks idle none)

small-idle : (scale : Scale) (stacks idle : List Costed) (front : List (List ℕ)) → AreIdle idle
    → small_fronts scale (stacks ++ idle) front ≡ small_fronts scale stacks front
unfolding small_fronts
small-idle scale stacks idle front none =
    ap (λ (cost : List (List ℕ) → ℕ). filter (λ next. is_small scale (cost next)) (next_fronts front (stacks ++ idle)))
    (costs-idle stacks idle none)
    ∙ ap (λ (fronts : List (List (List ℕ))). filter (λ next. is_small scale (cost_of stacks next)) fronts)
    (next-idle front stacks idle none)

-- the line of a front
abbrev line : List (List ℕ) → ℕ → ℕ → FrontLine
line front children cost = record { level = length front; children = children; cost = cost; shown = a_front front }

gathered-idle : (stacks idle : List Costed) (level : ℕ) (fronts : List (List (List ℕ))) → AreIdle idle
    → gathered_lines (stacks ++ idle) level fronts ≡ gathered_lines stacks level fronts
unfolding gathered_lines
gathered-idle stacks idle level [] none = refl
gathered-idle stacks idle level (next ∷ more) none =
    ap (λ (cost : List (List ℕ) → ℕ). record {
      level = level;
      children = 0;
      cost = sum_by cost (next ∷ more);
      shown = gathered (length (next ∷ more));
    }
    ∷ []) (costs-idle
    stacks idle none)

front-idle : (more : ℕ) (scale : Scale) (stacks idle : List Costed) → AreIdle idle
    → front_lines more scale (stacks ++ idle) ≡ front_lines more scale stacks
unfolding front_lines
front-idle zero scale stacks idle none =
    fun_ext (λ front. ap (λ (cost : List (List ℕ) → ℕ). line front 0 (cost front) ∷ []) (costs-idle stacks idle none))
front-idle (suc more) scale stacks idle none =
    let whole : List Costed = stacks ++ idle in
    fun_ext (λ front.
    let few : gathered_lines whole (length front + 1) (small_fronts scale whole front)
    ≡ gathered_lines stacks (length front + 1) (small_fronts scale stacks front) =
    gathered-idle stacks idle (length front + 1) (small_fronts scale whole front) none
    ∙ ap (λ (fronts : List (List (List ℕ))). gathered_lines stacks (length front + 1) fronts)
    (small-idle scale stacks idle front none) in
    let lines : (List (List ℕ) → List FrontLine) → List (List (List ℕ)) → List FrontLine → ℕ → List FrontLine =
    λ below kept last cost. line front (length kept + length last) cost ∷ (flat_map below kept ++ last) in
    ap (λ (cost : List (List ℕ) → ℕ). lines (front_lines more scale whole) (kept_fronts scale whole front)
    (gathered_lines whole (length front + 1) (small_fronts scale whole front)) (cost front)) (costs-idle
    stacks idle none)
    ∙ ap (λ (below : List (List ℕ) → List FrontLine). lines below (kept_fronts scale whole front)
    (gathered_lines whole (length front + 1) (small_fronts scale whole front)) (cost_of stacks front)) (front-idle
    more scale stacks idle none)
    ∙ ap (λ (kept : List (List (List ℕ))). lines (front_lines more scale stacks) kept
    (gathered_lines whole (length front + 1) (small_fronts scale whole front)) (cost_of stacks front)) (kept-idle
    scale stacks idle front none)
    ∙ ap (λ (last : List FrontLine). lines (front_lines more scale stacks) (kept_fronts scale stacks front) last
    (cost_of stacks front)) few)

-- the tree stays
pub tree-idle : (options : TreeOptions) (total : ℕ) (stacks idle : List Costed) → AreIdle idle
    → massif_tree options total (stacks ++ idle) ≡ massif_tree options total stacks
unfolding massif_tree cost_lines
tree-idle options total stacks idle none =
    ap (λ (lines : List (List ℕ) → List FrontLine). map (massif_line options.threshold) (lines []))
    (front-idle options.depth (scale_of options total) stacks idle none)
