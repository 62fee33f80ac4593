-- What the code does with a line, and how lines are followed.
use Rattle.std.proofs.Common.{◌≡◌, ℕ, zero, suc, ◌+◌, ◌≤◌, ◌==◌, ◌&&◌, Bool, true, false, cond, eqb, List, [], ◌∷◌}
use Rattle.std.proofs.Common.{◌++◌, length, take, drop, Option, None, Some, Result, Ok, Err, refl, sym, ap, ap₂, ◌∙◌}
use Rattle.std.proofs.Common.{subst, arith}
use Rattle.std.specs.Prelude.{OnOk, codes, is_some}
use Rattle.std.specs.Borrow.{Bor}
use Rattle.std.specs.Cmp.Lexicographic.{pointwise}
use Rattle.std.proofs.lemmas.Slice.Eq.{strip_prefix_is}
use Rattle.std.proofs.lemmas.Bool.Decides.{Decides-eqb}
use Rattle.std.proofs.Math.Bool.{and-false}
use Rattle.std.proofs.Math.Dec.{eqb-suc-suc, eqb-zero-suc}
use Rattle.hp_num.specs.ParsedDec.{parsed_dec}
use Rattle.record_scripts.specs.Job.{Job}
use Rattle.record_book.specs.BookState.{stepped}
use Rattle.record_book.specs.Spelled.{behind, named, number_of}
use Rattle.order_check.specs.declared.verdict.CheckRefusal.{CheckRefusal}
use Rattle.order_check.specs.CheckState.{CheckState, HasTaken, following_of}
use Rattle.order_check.specs.Following.{Following, are_done, events_at_end, followed, is_empty, is_front, whole_events}
use Rattle.order_check.specs.Following.{with_line}
use Rattle.order_check.proofs.FollowLemmas.{followed-push}
use Rattle.order_check.proofs.LineTexts.{behind-front, front-behind}

-- nothing is to come
pub empty-is : (coming : List ℕ) → is_empty coming ≡ true → coming ≡ []
empty-is [] is = refl
empty-is (byte ∷ coming) is = absurd (cc)

-- whether nothing is to come, by the bytes that were compared
pub compared-is : (text : List ℕ) (count : ℕ) → count ≤ length text
    → (count == length text) ≡ is_empty (drop count text)
compared-is [] zero within = refl
compared-is [] (suc count) within = absurd (omega (arith, within))
compared-is (b ∷ text) zero within = eqb-zero-suc (length text)
compared-is (b ∷ text) (suc count) within =
    eqb-suc-suc count (length text) ∙ compared-is text count (omega (arith, within))

-- a line that is taken, or refused
pub taken-line : (result : Result (Unit {0}) CheckRefusal) (old new : CheckState) (line : List ℕ)
    → OnOk result (with_line old.job (following_of old) line ≡ Some (following_of new)) → new.job ≡ old.job
    → OnOk result ((lines : List (List ℕ)) → HasTaken old lines → HasTaken new (lines ++ line ∷ []))
taken-line (Ok all) old new line stepped job = λ lines has.
    subst (λ (j : Job). followed j (lines ++ line ∷ []) ≡ Some (following_of new)) (sym job)
    (followed-push old.job lines line (following_of old) has ∙ stepped)
taken-line (Err refusal) old new line stepped job = tt

pub front-line : (result : Result (Unit {0}) CheckRefusal) (old new : CheckState) (line : List ℕ)
    → OnOk result (with_line old.job (following_of old) line ≡ Some (following_of new))
    → OnOk result ((lines : List (List ℕ)) → HasTaken old lines → is_front old.job (lines ++ line ∷ []) ≡ true)
front-line (Ok all) old new line stepped =
    λ lines has. ap is_some (followed-push old.job lines line (following_of old) has ∙ stepped)
front-line (Err refusal) old new line stepped = tt

pub refused-line : (old : CheckState) (line : List ℕ) → with_line old.job (following_of old) line ≡ None
    → (lines : List (List ℕ)) → HasTaken old lines → is_front old.job (lines ++ line ∷ []) ≡ false
refused-line old line refused lines has = ap is_some (followed-push old.job lines line (following_of old) has ∙ refused)

-- the end
pub open-end : (check : CheckState) (lines : List (List ℕ)) (ended : Bool) → HasTaken check lines
    → are_done 0 check.job.scripts check.order ≡ false → None ≡ whole_events check.job lines ended
open-end check lines ended has is =
    sym (ap (λ (found : Option Following). events_at_end check.job ended found) has
    ∙ ap (λ (t : Bool). cond t (Some (length check.order)) None)
    (ap (λ (t : Bool). (ended && is_empty check.coming) && t) is ∙ and-false (ended && is_empty check.coming)))

pub done-end : (check : CheckState) (lines : List (List ℕ)) (ended : Bool) → HasTaken check lines → ended ≡ true
    → is_empty check.coming ≡ true → are_done 0 check.job.scripts check.order ≡ true
    → Some (length check.order) ≡ whole_events check.job lines ended
done-end check lines ended has is none done =
    sym (ap₂ (λ (e : Bool) (found : Option Following). events_at_end check.job e found) is has
    ∙ ap₂ (λ (t d : Bool). cond ((true && t) && d) (Some (length check.order)) None) none done)

-- the thread that a line names, by its digits behind the front
pub stripped-some : (line : List ℕ) (digits : Bor (List ℕ))
    → (pointwise eqb (take (length (codes "# thread ")) line) (codes "# thread ") ≡ true)
    × (digits.now ≡ drop (length (codes "# thread ")) line)
    × (length digits.now + length (codes "# thread ") ≡ length line)
    → named line ≡ parsed_dec digits.now
unfolding named
stripped-some line digits cases =
    let is : line ≡ codes "# thread " ++ digits.now =
    strip_prefix_is Decides-eqb line (codes "# thread ") (Some digits) cases in
    ap (λ (text : List ℕ). number_of (behind (codes "# thread ") text)) is
    ∙ ap number_of (behind-front (codes "# thread ") digits.now)

pub stripped-none : (line : List ℕ) → pointwise eqb (take (length (codes "# thread ")) line) (codes "# thread ") ≡ false
    → named line ≡ None
unfolding named
stripped-none line cases = by (behind (codes "# thread ") line) refl
  where
    by : (found : Option (List ℕ)) → behind (codes "# thread ") line ≡ found
        → number_of (behind (codes "# thread ") line) ≡ None
    by None is = ap number_of is
    by (Some rest) is =
        absurd (strip_prefix_is Decides-eqb line (codes "# thread ") None cases rest
        (front-behind (codes "# thread ") line rest is))
