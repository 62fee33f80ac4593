-- How many turns each thread has taken, where one thread takes one more.
use Rattle.std.proofs.Common.{◌≡◌, ◌≢◌, ℕ, zero, suc, ◌<◌, List, [], ◌∷◌, length, refl, ap, arith}
use Rattle.std.specs.Prelude.{slice_set}
use Rattle.record_book.specs.StreamState.{done_at}

pub done-here : (done : List ℕ) (thread count : ℕ) → thread < length done
    → done_at (slice_set done thread count) thread ≡ count
done-here [] thread count within = absurd (omega (arith, within))
done-here (n ∷ done) zero count within = refl
done-here (n ∷ done) (suc thread) count within = done-here done thread count (omega (arith, within))

pub done-other : (done : List ℕ) (thread other count : ℕ) → thread ≢ other
    → done_at (slice_set done thread count) other ≡ done_at done other
done-other [] thread other count apart = refl
done-other (n ∷ done) zero zero count apart = absurd (apart refl)
done-other (n ∷ done) zero (suc other) count apart = refl
done-other (n ∷ done) (suc thread) zero count apart = refl
done-other (n ∷ done) (suc thread) (suc other) count apart =
    done-other done thread other count (λ same. apart (ap (λ (k : ℕ). suc k) same))

pub length-slice_set : (done : List ℕ) (thread count : ℕ) → length (slice_set done thread count) ≡ length done
length-slice_set [] thread count = refl
length-slice_set (n ∷ done) zero count = refl
length-slice_set (n ∷ done) (suc thread) count = ap (λ (k : ℕ). suc k) (length-slice_set done thread count)
