-- Where a generator stands behind a line, and the live blocks behind an event.
use Rattle.std.proofs.Common.{◌≡◌, ◌≢◌, cond, inl, inr, ◌&&◌, not, slice_index_or, slice_set, ℕ, zero, suc, ◌+◌, ◌*◌}
use Rattle.std.proofs.Common.{◌<◌, ◌≤◌, ◌==◌, nat_lt, Bool, true, false, List, [], ◌∷◌, ◌++◌, length, refl, ap, sym}
use Rattle.std.proofs.Common.{subst, ◌∙◌, length-append, length-set, arith}
use Rattle.std.proofs.lemmas.Bool.{false_from_ne_true, lt-ltb, ltb-true}
use Rattle.std.proofs.lemmas.Bool.Decides.{eqb_tells}
use Rattle.std.proofs.lemmas.List.{get_or-set_other, get_or-set_same}
use Rattle.std.proofs.lemmas.List.Sums.{count_by-le-length, sum_by-append}
use Rattle.std.specs.List.{count_by}
use Rattle.trace_gen.specs.Sizes.{Sizes}
use Rattle.trace_gen.specs.declared.generator.Group.TheVariants.{Events}
use Rattle.trace_gen.specs.Draws.{next_state, state_after}
use Rattle.trace_gen.specs.Moves.{Move, allocated, freed, moves, next_move}
use Rattle.trace_gen.specs.GeneratorState.{Stands}

-- so many events are so many
pub move_count : (sizes : Sizes) (number : ℕ) → length (moves sizes number) ≡ number
move_count sizes zero = refl
move_count sizes (suc number) =
    length-append (moves sizes number) (next_move sizes number (moves sizes number) ∷ [])
    ∙ (ap (λ n. n + 1) (move_count sizes number) ∙ omega arith)

-- no info has more live blocks than there were events
pub few_blocks : (sizes : Sizes) (number info blocks : ℕ)
    → blocks + freed info (moves sizes number) ≡ allocated info (moves sizes number) → blocks ≤ number
few_blocks sizes number info blocks is =
    let most = count_by-le-length (λ move. (move.info == info) && not move.frees) (moves sizes number) in
    omega (arith, is, most, move_count sizes number)

-- one draw more
pub drawn : (seed draws more state : ℕ) → more ≡ draws + 1 → state ≡ state_after seed draws
    → next_state state ≡ state_after seed more
drawn seed draws more state more_is is =
    let one : suc draws ≡ more = omega (arith, more_is) in ap next_state is ∙ ap (state_after seed) one

-- one event more
count_push : (test : Move → Bool) (earlier : List Move) (move : Move)
    → count_by test (earlier ++ move ∷ []) ≡ count_by test earlier + cond {A = ℕ} (test move) 1 0
count_push test earlier move =
    sum_by-append (λ m. cond {A = ℕ} (test m) 1 0) earlier (move ∷ [])
    ∙ ap (λ n. count_by test earlier + n) (omega arith)

module _ (live : List ℕ) (earlier : List Move) (move : Move) (new info : ℕ) (within : move.info < length live)
    (before : slice_index_or live info 0 + freed info earlier ≡ allocated info earlier) where
  counted : (frees allocates : ℕ) → cond {A = ℕ} ((move.info == info) && move.frees) 1 0 ≡ frees
      → cond {A = ℕ} ((move.info == info) && not move.frees) 1 0 ≡ allocates
      → slice_index_or (slice_set live move.info new) info 0 + frees ≡ slice_index_or live info 0 + allocates
      → slice_index_or (slice_set live move.info new) info 0 + freed info (earlier ++ move ∷ [])
      ≡ allocated info (earlier ++ move ∷ [])
  counted frees allocates one two step =
      omega (
        arith,
        before,
        count_push (λ m. (m.info == info) && m.frees) earlier move,
        count_push (λ m. (m.info == info) && not m.frees) earlier move,
      )

  other_info : (move.info == info) ≡ false → info ≢ move.info
      → slice_index_or (slice_set live move.info new) info 0 + freed info (earlier ++ move ∷ [])
      ≡ allocated info (earlier ++ move ∷ [])
  other_info test other =
      counted 0 0 (rw test refl) (rw test refl) (ap (λ n. n + 0) (get_or-set_other live move.info info new 0 other))

  freed_here : (move.info == info) ≡ true → move.frees ≡ true
      → slice_index_or (slice_set live move.info new) info 0 ≡ new → new + 1 ≡ slice_index_or live info 0
      → slice_index_or (slice_set live move.info new) info 0 + freed info (earlier ++ move ∷ [])
      ≡ allocated info (earlier ++ move ∷ [])
  freed_here test kind set less = counted 1 0 (rw (test, kind) refl) (rw (test, kind) refl) (omega arith)

  allocated_here : (move.info == info) ≡ true → move.frees ≡ false
      → slice_index_or (slice_set live move.info new) info 0 ≡ new → new ≡ slice_index_or live info 0 + 1
      → slice_index_or (slice_set live move.info new) info 0 + freed info (earlier ++ move ∷ [])
      ≡ allocated info (earlier ++ move ∷ [])
  allocated_here test kind set more = counted 0 1 (rw (test, kind) refl) (rw (test, kind) refl) (omega arith)

  by_kind : (kind : Bool) → move.frees ≡ kind → (move.info == info) ≡ true → move.info ≡ info
      → (move.frees ≡ false → new ≡ slice_index_or live move.info 0 + 1)
      → (move.frees ≡ true → new + 1 ≡ slice_index_or live move.info 0)
      → slice_index_or (slice_set live move.info new) info 0 + freed info (earlier ++ move ∷ [])
      ≡ allocated info (earlier ++ move ∷ [])
  by_kind true kind test same more less =
      freed_here test kind
      (ap (λ i. slice_index_or (slice_set live move.info new) i 0) (sym same)
      ∙ get_or-set_same live move.info new 0 within)
      (less kind ∙ ap (λ i. slice_index_or live i 0) same)
  by_kind false kind test same more less =
      allocated_here test kind
      (ap (λ i. slice_index_or (slice_set live move.info new) i 0) (sym same)
      ∙ get_or-set_same live move.info new 0 within)
      (more kind ∙ ap (λ i. slice_index_or live i 0 + 1) same)

  pub blocks_behind : (move.frees ≡ false → new ≡ slice_index_or live move.info 0 + 1)
      → (move.frees ≡ true → new + 1 ≡ slice_index_or live move.info 0)
      → slice_index_or (slice_set live move.info new) info 0 + freed info (earlier ++ move ∷ [])
      ≡ allocated info (earlier ++ move ∷ [])
  blocks_behind more less =
      elim (eqb_tells move.info info) [
        | inl same ↦ by_kind move.frees refl same.0 same.1 more less
        | inr other ↦ other_info other.0 (λ is. other.1 (sym is))
      ]

-- an info has a live block where it was allocated more often than freed
pub has_block : (blocks freed_blocks all : ℕ) → blocks + freed_blocks ≡ all → nat_lt 0 blocks ≡ nat_lt freed_blocks all
has_block blocks freed_blocks all is =
    elim (nat_lt 0 blocks) as (λ b. nat_lt 0 blocks ≡ b → b ≡ nat_lt freed_blocks all) [
      | true ↦
          λ test. let some : 0 < blocks = ltb-true _ _ test in let less : freed_blocks
          < all = omega (arith, is, some) in sym (lt-ltb _ _ less)
      | false ↦
          λ test. sym
          (false_from_ne_true _
          (λ less. let fewer : freed_blocks < all = ltb-true _ _ less in let some : 0
          < blocks = omega (arith, is, fewer) in let other : nat_lt 0 blocks
          ≡ true = lt-ltb _ _ some in absurd (cc)))
    ] refl

-- where a generator stands behind an event
pub moved : (sizes : Sizes) (next state new_state : ℕ) (live : List ℕ) (info new : ℕ) (frees : Bool)
    → Stands sizes Events next state live → next < sizes.events
    → info ≡ (next_move sizes next (moves sizes next)).info → frees ≡ (next_move sizes next (moves sizes next)).frees
    → info < sizes.stacks
    → (frees ≡ false → new ≡ slice_index_or live info 0 + 1) → (frees ≡ true → new + 1 ≡ slice_index_or live info 0)
    → new_state ≡ state_after sizes.seed (2 * sizes.stacks + 2 * (next + 1)) → new_state < 2147483648
    → Stands sizes Events (next + 1) new_state (slice_set live info new)
moved sizes next state new_state live info new frees stands some info_is frees_is below more less state_is small =
    let earlier : List Move = moves sizes next in
    let move : Move = next_move sizes next earlier in
    let all : moves sizes (next + 1) ≡ earlier ++ move ∷ [] =
    let one : next + 1 ≡ suc next = omega arith in ap (moves sizes) one in
    record {
      within = omega (arith, some);
      state_is = state_is;
      small = small;
      infos = length-set live info new ∙ stands.infos;
      blocks = λ i within.
          let held : move.info < length live = omega (arith, below, info_is, stands.infos) in
          let here = blocks_behind live earlier move new i held (stands.blocks i within)
          (λ kind. more (frees_is ∙ kind) ∙ ap (λ n. slice_index_or live n 0 + 1) info_is)
          (λ kind. less (frees_is ∙ kind) ∙ ap (λ n. slice_index_or live n 0) info_is) in
          subst (λ list. slice_index_or (slice_set live info new) i 0 + freed i list ≡ allocated i list) (sym all)
          (subst
          (λ n. slice_index_or (slice_set live n new) i 0 + freed i (earlier ++ move ∷ [])
          ≡ allocated i (earlier ++ move ∷ []))
          (sym info_is) here);
    }
