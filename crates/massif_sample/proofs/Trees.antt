-- The tree of the present place, and when one is taken.
use Rattle.std.proofs.Common.{◌≡◌, ◌≢◌, ◌+◌, Bool, true, false, cond, refl, subst, ◌∙◌}
use Rattle.std.specs.Prelude.{◌==◌, ◌%◌, nat_le, nat_lt, Result, Ok, Err, IfOk, OnErr, OnOk}
use Rattle.massif_cull.specs.declared.snapshot.Offer.{Offer}
use Rattle.massif_cull.specs.declared.snapshot.Taken.{Taken}
use Rattle.massif_cull.specs.declared.snapshot.Taken.TheVariants.{No, Normal, Detailed, Peak}
use Rattle.massif_cull.specs.Kept.{Kept, Settings}
use Rattle.massif_cull.specs.TakenAs.{next_time_after, peak_bound, taken_as}
use Rattle.massif_sample.specs.Due.{with_tree}

-- what is taken, and not as a normal snapshot, has a tree: a peak where it was offered as one, and else it is detailed
pub taken-with_tree : (settings : Settings) (kept : Kept) (offer : Offer) (taken : Taken)
    → taken ≡ taken_as settings kept offer → taken ≢ No → taken ≢ Normal
    → taken_as settings kept offer ≡ with_tree offer.peak
taken-with_tree settings kept offer taken is some no_normal =
    by_tests offer.peak (nat_lt (peak_bound settings kept) offer.total)
    (nat_le (next_time_after kept.entries kept.interval) offer.time)
    ((kept.normals + 1) % settings.detailed_freq == 0)
    (λ none. some (is ∙ none)) (λ normal. no_normal (is ∙ normal))
  where
    taken_by : Bool → Bool → Bool → Bool → Taken
    taken_by peak above late freq = cond peak (cond above Peak No) (cond late (cond freq Detailed Normal) No)

    by_tests : (peak above late freq : Bool) → (taken_by peak above late freq ≢ No)
        → (taken_by peak above late freq ≢ Normal) → taken_by peak above late freq ≡ cond peak Peak Detailed
    by_tests true true late freq some no_normal = refl
    by_tests true false late freq some no_normal = absurd (some refl)
    by_tests false above true true some no_normal = refl
    by_tests false above true false some no_normal = absurd (no_normal refl)
    by_tests false above false freq some no_normal = absurd (some refl)

-- what holds holds at an error too
pub at_err : {T E : Type 0} (r : Result T E) {P : Type 0} → P → OnErr r P
at_err (Ok answer) p = tt
at_err (Err error) p = p

-- two facts at an answer
pub both_ok : {T E : Type 0} (r : Result T E) {P Q R : Type 0} → (P → Q → R) → OnOk r P → OnOk r Q → OnOk r R
both_ok (Ok answer) f p q = f p q
both_ok (Err error) f p q = tt

-- what holds at an error holds where there is one
pub of_err : {T E : Type 0} (r : Result T E) (error : E) {P : Type 0} → r ≡ Err error → OnErr r P → P
of_err {T} {E} r error {P} is p = subst (λ (x : Result T E). OnErr x P) is p

-- a fact at an answer, and one of the answer
pub both_if_ok : {T E : Type 0} (r : Result T E) {P : Type 0} (Q R : T → Type 0)
    → ((answer : T) → P → Q answer → R answer) → OnOk r P → IfOk r Q → IfOk r R
both_if_ok (Ok answer) Q R f p q = f answer p q
both_if_ok (Err error) Q R f p q = tt
