-- A file has one answer.
use Rattle.std.proofs.Common.{◌≡◌, ℕ, zero, suc, ◌+◌, ◌<◌, ◌≤◌, ◌⊎◌, inl, inr, List, [], ◌∷◌, ◌++◌, take, drop, Option}
use Rattle.std.proofs.Common.{Result, Ok, Err, refl, sym, ap, ◌∙◌, subst, arith, append_assoc}
use Rattle.std.proofs.lemmas.Bool.{cases_lt}
use Rattle.std.proofs.lemmas.List.{take-append-drop}
use Rattle.hp_outside.specs.Lines.{lines_of}
use Rattle.record_scripts.specs.Job.{Job}
use Rattle.order_check.specs.declared.verdict.CheckFault.{CheckFault}
use Rattle.order_check.specs.declared.verdict.CheckFault.TheVariants.{InputTooLong, LineTooLong, NoMemory, ReadFailed}
use Rattle.order_check.specs.declared.verdict.Verdict.{Verdict}
use Rattle.order_check.specs.declared.verdict.Verdict.TheVariants.{No, Yes}
use Rattle.order_check.specs.CheckAnswer.{CheckAnswer, IsCutAt, IsRefusedAt, Tells}
use Rattle.order_check.specs.Fronts.{IsFront}
use Rattle.order_check.specs.LengthFaults.{HasNoLengthFault, InputTooLongAt, LineTooLongAt}

-- fewer lines are a front, too
take_take : {X : Type 0} (m n : ℕ) (xs : List X) → m ≤ n → take m (take n xs) ≡ take m xs
take_take zero n xs less = refl
take_take (suc m) zero xs less = absurd (omega (arith, less))
take_take (suc m) (suc n) [] less = refl
take_take {X} (suc m) (suc n) (x ∷ xs) less = ap (λ (ys : List X). x ∷ ys) (take_take m n xs (omega (arith, less)))

take-of : (m n : ℕ) (lines : List (List ℕ)) → m ≤ n → take n lines ≡ take m lines ++ drop m (take n lines)
take-of m n lines less =
    sym (take-append-drop m (take n lines))
    ∙ ap (λ (front : List (List ℕ)). front ++ drop m (take n lines)) (take_take m n lines less)

front-shorter : (job : Job) (lines : List (List ℕ)) (m n : ℕ) → m ≤ n → IsFront job (take n lines)
    → IsFront job (take m lines)
front-shorter job lines m n less front = (
  front.0,
  front.1,
  (
    drop m (take n lines) ++ front.2.0,
    front.2.1 ∙ ap (λ (all : List (List ℕ)). all ++ front.2.0) (take-of m n lines less)
        ∙ append_assoc (take m lines) (drop m (take n lines)) front.2.0,
  ),
)

-- a file that is refused has no earlier fault of a length
before-refused : (input line : ℕ) (job : Job) (bytes : List ℕ) (count at : ℕ) (Fault : Type 0)
    → IsRefusedAt input line job bytes count → IsCutAt input line job bytes at Fault
    → ((HasNoLengthFault input line bytes (at + 1)) → ⊥) → ⊥
before-refused input line job bytes count at Fault refused cut faulty = by (cases_lt at (count + 1))
  where
    by : (at < count + 1) ⊎ (count + 1 ≤ at) → ⊥
    by (inl below) =
        let there = cut.there in
        faulty (λ before less. refused.lengths before (omega (arith, less, below, there)))
    by (inr past) =
        let within = cut.before.within in
        refused.breaks.no_front (omega (arith, past, within))
        (front-shorter job (lines_of bytes) (count + 1) at past cut.before.front)

long-faulty : (input line : ℕ) (bytes : List ℕ) (at : ℕ) → LineTooLongAt input line bytes at
    → HasNoLengthFault input line bytes (at + 1) → ⊥
long-faulty input line bytes at fault none = (none at (omega arith)).0 fault

past-faulty : (input line : ℕ) (bytes : List ℕ) (at : ℕ) → InputTooLongAt input line bytes at
    → HasNoLengthFault input line bytes (at + 1) → ⊥
past-faulty input line bytes at fault none = (none at (omega arith)).1 fault

same-refused : (input line : ℕ) (job : Job) (bytes : List ℕ) (count other : ℕ) → IsRefusedAt input line job bytes count
    → IsRefusedAt input line job bytes other → count ≤ other
same-refused input line job bytes count other refused another = by (cases_lt other count)
  where
    by : (other < count) ⊎ (count ≤ other) → count ≤ other
    by (inr within) = within
    by (inl below) =
        let within = refused.breaks.within in
        absurd
        (another.breaks.no_front (omega (arith, below, within))
        (front-shorter job (lines_of bytes) (other + 1) count (omega (arith, below)) refused.breaks.front))

one-length : (input line : ℕ) (job : Job) (bytes : List ℕ) (at other : ℕ)
    → IsCutAt input line job bytes at (LineTooLongAt input line bytes at)
    → IsCutAt input line job bytes other (InputTooLongAt input line bytes other) → ⊥
one-length input line job bytes at other long past = by (cases_lt at other) (cases_lt other at)
  where
    by : (at < other) ⊎ (other ≤ at) → (other < at) ⊎ (at ≤ other) → ⊥
    by (inl below) second = (past.before.lengths at below).0 long.fault
    by (inr within) (inl below) = (long.before.lengths other below).1 past.fault
    by (inr within) (inr back) =
        let same : at ≡ other = omega (arith, within, back) in
        past.fault.2 (subst (LineTooLongAt input line bytes) same long.fault)

pub one-answer : (input line : ℕ) (job : Job) (bytes : List ℕ) (left other_left : Option (List ℕ))
    (result other : Result Verdict CheckFault)
    → Tells result → Tells other
    → CheckAnswer input line job bytes left result → CheckAnswer input line job bytes other_left other → result ≡ other
one-answer input line job bytes left other_left (Ok (Yes events)) (Ok (Yes count)) t u x y =
    ap (λ (n : ℕ). Ok (Yes n)) (x.count ∙ sym y.count)
one-answer input line job bytes left other_left (Ok (Yes events)) (Ok (No number)) t u x y =
    absurd (y.2.breaks.no_recording x.recording)
one-answer input line job bytes left other_left (Ok (Yes events)) (Err LineTooLong) t u x y =
    absurd ((x.lengths y.0 y.1.there).0 y.1.fault)
one-answer input line job bytes left other_left (Ok (Yes events)) (Err InputTooLong) t u x y =
    absurd ((x.lengths y.0 y.1.there).1 y.1.fault)
one-answer input line job bytes left other_left (Ok (No number)) (Ok (Yes count)) t u x y =
    absurd (x.2.breaks.no_recording y.recording)
one-answer input line job bytes left other_left (Ok (No number)) (Ok (No count)) t u x y =
    let less = same-refused input line job bytes x.0 y.0 x.2 y.2 in
    let more = same-refused input line job bytes y.0 x.0 y.2 x.2 in
    let first = x.1 in
    let second = y.1 in
    ap (λ (n : ℕ). Ok (No n)) (omega (arith, less, more, first, second))
one-answer input line job bytes left other_left (Ok (No number)) (Err LineTooLong) t u x y =
    absurd (before-refused input line job bytes x.0 y.0 (LineTooLongAt input line bytes y.0) x.2 y.1
    (long-faulty input line bytes y.0 y.1.fault))
one-answer input line job bytes left other_left (Ok (No number)) (Err InputTooLong) t u x y =
    absurd (before-refused input line job bytes x.0 y.0 (InputTooLongAt input line bytes y.0) x.2 y.1
    (past-faulty input line bytes y.0 y.1.fault))
one-answer input line job bytes left other_left (Err LineTooLong) (Ok (Yes count)) t u x y =
    absurd ((y.lengths x.0 x.1.there).0 x.1.fault)
one-answer input line job bytes left other_left (Err LineTooLong) (Ok (No number)) t u x y =
    absurd (before-refused input line job bytes y.0 x.0 (LineTooLongAt input line bytes x.0) y.2 x.1
    (long-faulty input line bytes x.0 x.1.fault))
one-answer input line job bytes left other_left (Err LineTooLong) (Err LineTooLong) t u x y = refl
one-answer input line job bytes left other_left (Err LineTooLong) (Err InputTooLong) t u x y =
    absurd (one-length input line job bytes x.0 y.0 x.1 y.1)
one-answer input line job bytes left other_left (Err InputTooLong) (Ok (Yes count)) t u x y =
    absurd ((y.lengths x.0 x.1.there).1 x.1.fault)
one-answer input line job bytes left other_left (Err InputTooLong) (Ok (No number)) t u x y =
    absurd (before-refused input line job bytes y.0 x.0 (InputTooLongAt input line bytes x.0) y.2 x.1
    (past-faulty input line bytes x.0 x.1.fault))
one-answer input line job bytes left other_left (Err InputTooLong) (Err LineTooLong) t u x y =
    absurd (one-length input line job bytes y.0 x.0 y.1 x.1)
one-answer input line job bytes left other_left (Err InputTooLong) (Err InputTooLong) t u x y = refl
one-answer input line job bytes left other_left (Err ReadFailed) other t u x y = absurd t
one-answer input line job bytes left other_left (Err NoMemory) other t u x y = absurd t
one-answer input line job bytes left other_left result (Err ReadFailed) t u x y = absurd u
one-answer input line job bytes left other_left result (Err NoMemory) t u x y = absurd u
