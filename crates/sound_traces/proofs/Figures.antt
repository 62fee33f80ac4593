-- The events of a generated trace beside its moves.
use Rattle.std.proofs.Common.{◌≡◌, ℕ, suc, ◌+◌, ◌*◌, ◌≤◌, ◌==◌, ◌&&◌, not, cond, Bool, true, false, List, [], ◌∷◌, ◌++◌}
use Rattle.std.proofs.Common.{refl, ap, ◌∙◌, arith}
use Rattle.std.proofs.lemmas.List.Sums.{sum_by-append}
use Rattle.std.specs.List.{count_by}
use Rattle.live_ledger.specs.declared.event.Event.{Event}
use Rattle.live_ledger.specs.declared.event.Event.TheVariants.{Alloc, Free}
use Rattle.live_ledger.specs.InfoBlocks.{allocs_of, frees_of, is_alloc_of, is_free_of}
use Rattle.live_ledger.specs.LiveBytes.{alloc_size, allocated_bytes}
use Rattle.trace_gen.specs.Moves.{Move, allocated, freed, moves, next_move}
use Rattle.trace_gen.specs.Sizes.{Sizes}

-- an info is allocated and freed as often as by the moves, and no allocation has more than 4,096 bytes
pub record Figures (sizes : Sizes) (number : ℕ) (taken : List Event) : Type 0 where
  pub allocs : (info : ℕ) → allocs_of info taken ≡ allocated info (moves sizes number)
  pub frees : (info : ℕ) → frees_of info taken ≡ freed info (moves sizes number)
  pub bytes : allocated_bytes taken ≤ 4096 * number

pub no_figures : (sizes : Sizes) → Figures sizes 0 []
no_figures sizes = record { allocs = λ info. refl; frees = λ info. refl; bytes = omega arith }

count_push : {X : Type 0} (test : X → Bool) (earlier : List X) (last : X)
    → count_by test (earlier ++ last ∷ []) ≡ count_by test earlier + cond {A = ℕ} (test last) 1 0
count_push test earlier last =
    sum_by-append (λ x. cond {A = ℕ} (test x) 1 0) earlier (last ∷ [])
    ∙ ap (λ n. count_by test earlier + n) (omega arith)

of_other_kind : (test : Bool) → cond {A = ℕ} (test && false) 1 0 ≡ 0
of_other_kind true = refl
of_other_kind false = refl

of_kind : (test : Bool) → cond {A = ℕ} (test && true) 1 0 ≡ cond {A = ℕ} test 1 0
of_kind true = refl
of_kind false = refl

next_moves : (sizes : Sizes) (number : ℕ)
    → moves sizes (number + 1) ≡ moves sizes number ++ next_move sizes number (moves sizes number) ∷ []
next_moves sizes number = let one : number + 1 ≡ suc number = omega arith in ap (moves sizes) one

-- whether a move allocates from an info, and whether it frees of it
abbrev allocates : ℕ → Move → Bool
allocates info move = (move.info == info) && not move.frees

abbrev frees_info : ℕ → Move → Bool
frees_info info move = (move.info == info) && move.frees

-- a count over events that is one over moves, with one event and one move more
counts_more : (sizes : Sizes) (number : ℕ) (taken : List Event) (event : Event) (test : Event → Bool)
    (moved : Move → Bool)
    → count_by test taken ≡ count_by moved (moves sizes number)
    → cond {A = ℕ} (moved (next_move sizes number (moves sizes number))) 1 0 ≡ cond {A = ℕ} (test event) 1 0
    → count_by test (taken ++ event ∷ []) ≡ count_by moved (moves sizes (number + 1))
counts_more sizes number taken event test moved was same =
    omega (
      arith,
      count_push test taken event,
      ap (count_by moved) (next_moves sizes number),
      count_push moved (moves sizes number) (next_move sizes number (moves sizes number)),
    )

-- an event more, of the next move's kind and info
figures_more : (sizes : Sizes) (number : ℕ) (taken : List Event) (event : Event)
    → ((i : ℕ) → cond {A = ℕ} (allocates i (next_move sizes number (moves sizes number))) 1 0
    ≡ cond {A = ℕ} (is_alloc_of i event) 1 0)
    → ((i : ℕ) → cond {A = ℕ} (frees_info i (next_move sizes number (moves sizes number))) 1 0
    ≡ cond {A = ℕ} (is_free_of i event) 1 0)
    → alloc_size event ≤ 4096 → Figures sizes number taken → Figures sizes (number + 1) (taken ++ event ∷ [])
figures_more sizes number taken event allocs frees fits figures = record {
  allocs = λ i. counts_more sizes number taken event (is_alloc_of i) (allocates i) (figures.allocs i) (allocs i);
  frees = λ i. counts_more sizes number taken event (is_free_of i) (frees_info i) (figures.frees i) (frees i);
  bytes = omega (arith, sum_by-append alloc_size taken (event ∷ []), figures.bytes);
}

-- a free more
pub figures_freed : (sizes : Sizes) (number stack size : ℕ) (taken : List Event)
    → (next_move sizes number (moves sizes number)).frees ≡ true → Figures sizes number taken
    → Figures sizes (number + 1) (taken ++ Free (next_move sizes number (moves sizes number)).info stack size ∷ [])
figures_freed sizes number stack size taken kind figures =
    let move : Move = next_move sizes number (moves sizes number) in
    figures_more sizes number taken (Free move.info stack size)
    (λ i. ap (λ b. cond {A = ℕ} ((move.info == i) && not b) 1 0) kind ∙ of_other_kind (move.info == i))
    (λ i. ap (λ b. cond {A = ℕ} ((move.info == i) && b) 1 0) kind ∙ of_kind (move.info == i)) (omega arith) figures

-- an allocation more
pub figures_allocated : (sizes : Sizes) (number stack size : ℕ) (taken : List Event)
    → (next_move sizes number (moves sizes number)).frees ≡ false → size ≤ 4096 → Figures sizes number taken
    → Figures sizes (number + 1) (taken ++ Alloc (next_move sizes number (moves sizes number)).info stack size ∷ [])
figures_allocated sizes number stack size taken kind fits figures =
    let move : Move = next_move sizes number (moves sizes number) in
    figures_more sizes number taken (Alloc move.info stack size)
    (λ i. ap (λ b. cond {A = ℕ} ((move.info == i) && not b) 1 0) kind ∙ of_kind (move.info == i))
    (λ i. ap (λ b. cond {A = ℕ} ((move.info == i) && b) 1 0) kind ∙ of_other_kind (move.info == i)) fits figures
