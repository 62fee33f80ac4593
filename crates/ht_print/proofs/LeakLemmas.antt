-- Lemmas on the figures of stacks that are suppressed, and of those that aren't.
use Rattle.std.proofs.Common.{◌≡◌, ℕ, zero, suc, ◌+◌, ◌<◌, Bool, true, false, cond, List, [], ◌∷◌, ◌++◌, length, take}
use Rattle.std.proofs.Common.{get_or, refl, sym, ap, ◌∙◌, arith, add-one}
use Rattle.std.specs.Prelude.{sum}
use Rattle.std.proofs.lemmas.List.Sums.{sum_by-cons}
use Rattle.std.proofs.lemmas.List.FromFn.{length-map-range_with_len}
use Rattle.ht_trace.specs.TableState.{TableState}
use Rattle.ht_print.specs.Suppressed.{is_suppressed, suppressed_stacks}
use Rattle.ht_print.specs.ReportText.{suppressed_figures, unsuppressed}

-- one stack more
more : (suppressed : List Bool) (figures : List ℕ) (k : ℕ) (b : Bool) (n : ℕ) → k < length suppressed
    → k < length figures
    → unsuppressed (take (suc k) suppressed) (take (suc k) figures)
    ≡ unsuppressed (take k suppressed) (take k figures) ++ cond (get_or suppressed k b) 0 (get_or figures k n) ∷ []
more [] figures k b n within inside = absurd (omega arith)
more (is ∷ suppressed) [] k b n within inside = absurd (omega arith)
more (is ∷ suppressed) (figure ∷ figures) zero b n within inside = refl
more (is ∷ suppressed) (figure ∷ figures) (suc k) b n within inside =
    ap (λ (rest : List ℕ). cond is 0 figure ∷ rest) (more suppressed figures k b n (omega arith) (omega arith))

pub unsuppressed-more : (suppressed : List Bool) (figures : List ℕ) (k : ℕ) (b : Bool) (n : ℕ) → k < length suppressed
    → k < length figures
    → unsuppressed (take (k + 1) suppressed) (take (k + 1) figures)
    ≡ unsuppressed (take k suppressed) (take k figures) ++ cond (get_or suppressed k b) 0 (get_or figures k n) ∷ []
unsuppressed-more suppressed figures k b n within inside = rw add-one (more suppressed figures k b n within inside)

-- there is a figure for each stack
pub unsuppressed-count : (suppressed : List Bool) (figures : List ℕ) → length figures ≡ length suppressed
    → length (unsuppressed suppressed figures) ≡ length figures
unsuppressed-count [] [] same = refl
unsuppressed-count [] (figure ∷ figures) same = absurd (omega arith)
unsuppressed-count (is ∷ suppressed) [] same = refl
unsuppressed-count (is ∷ suppressed) (figure ∷ figures) same =
    ap suc (unsuppressed-count suppressed figures (omega arith))

parted : (is : Bool) (figure : ℕ) → figure ≡ cond is 0 figure + cond is figure 0
parted true figure = omega arith
parted false figure = omega arith

-- and the two parts sum to the whole
pub parts-sum : (suppressed : List Bool) (figures : List ℕ) → length figures ≡ length suppressed
    → sum figures ≡ sum (unsuppressed suppressed figures) + sum (suppressed_figures suppressed figures)
parts-sum [] [] same = refl
parts-sum [] (figure ∷ figures) same = absurd (omega arith)
parts-sum (is ∷ suppressed) [] same = absurd (omega arith)
parts-sum (is ∷ suppressed) (figure ∷ figures) same =
    let rest = parts-sum suppressed figures (omega arith) in
    let here = parted is figure in
    let one = sum_by-cons (λ (n : ℕ). n) figure figures in
    let two = sum_by-cons (λ (n : ℕ). n) (cond is 0 figure) (unsuppressed suppressed figures) in
    let three = sum_by-cons (λ (n : ℕ). n) (cond is figure 0) (suppressed_figures suppressed figures) in
    omega (arith, rest, here, one, two, three)

-- there is a figure for each answer
pub as-many : (tables : TableState) (suppressed : List Bool) (figures : List ℕ) → suppressed ≡ suppressed_stacks tables
    → length figures ≡ length tables.nodes + 1 → length figures ≡ length suppressed
as-many tables suppressed figures are count =
    count
    ∙ sym (ap (λ (bs : List Bool). length bs) are
    ∙ length-map-range_with_len (is_suppressed tables) 0 (length tables.nodes + 1))
