-- Appends of frames, one after another, and which fault they have together.
use Rattle.std.proofs.Common.{◌≡◌, ◌≢◌, ℕ, ◌+◌, ◌%◌, ◌≤◌, Bool, true, false, cond, eqb, List, [], ◌∷◌, ◌++◌, length}
use Rattle.std.proofs.Common.{take, drop, Option, Some, None, refl, sym, ap, ◌∙◌, arith}
use Rattle.std.specs.Prelude.{◌&&◌}
use Rattle.std.specs.Option.{option_or}
use Rattle.std.proofs.lemmas.List.{take-append-le, length-take, take-append-drop}
use Rattle.std.proofs.lemmas.Bool.Decides.{nat_tests}
use Rattle.std.proofs.Math.Seq.{take-append_seam, take-length}
use Rattle.ht_trace.specs.declared.frame.Frame.{Frame}
use Rattle.ht_trace.specs.declared.error.LineError.{LineError}
use Rattle.ht_trace.specs.declared.error.LineError.TheVariants.{UnknownString}
use Rattle.ht_trace.specs.FramesSaid.{frames_said, triples, without_file}
use Rattle.ht_trace.specs.KeepsFrames.{KeepsFrames}
use Rattle.ht_trace.specs.LineFault.{Tells, frames_held, held_fault}

pub keeps_same : (old new : List Frame) → new ≡ old → KeepsFrames old new
keeps_same old new e = record { kept = ap (take (length old)) e ∙ take-length old }

pub keeps_more : (old new more : List Frame) → new ≡ old ++ more → KeepsFrames old new
keeps_more old new more e = record { kept = ap (take (length old)) e ∙ take-append_seam old more }

pub keeps_trans : (old mid new : List Frame) → KeepsFrames old mid → KeepsFrames mid new → KeepsFrames old new
keeps_trans old mid new a b =
    let small : length old ≤ length mid = omega (arith, ap length a.kept, length-take (length old) mid) in
    let whole : new ≡ mid ++ drop (length mid) new =
    sym (take-append-drop (length mid) new) ∙ ap (λ (l : List Frame). l ++ drop (length mid) new) b.kept in
    record {
      kept = ap (take (length old)) whole ∙ take-append-le (length old) mid (drop (length mid) new) small
          ∙ a.kept;
    }

fault_of_tests : (b c : Bool)
    → cond {A = Option LineError} (b && c) None (Some UnknownString)
    ≡ option_or (cond {A = Option LineError} (b && true) None (Some UnknownString))
    (cond {A = Option LineError} c None (Some UnknownString))
fault_of_tests true c = refl
fault_of_tests false c = refl

-- the fault of some frames is that of the first, or else that of the others
pub held_fault-cons : (count : ℕ) (frame : Frame) (more : List Frame)
    → held_fault count (frame ∷ more) ≡ option_or (held_fault count (frame ∷ [])) (held_fault count more)
held_fault-cons count frame more = fault_of_tests _ (frames_held count more)

-- a first frame that is held adds no fault
pub held_fault-held : (count : ℕ) (frame : Frame) (more : List Frame) → held_fault count (frame ∷ []) ≡ None
    → held_fault count (frame ∷ more) ≡ held_fault count more
held_fault-held count frame more none =
    held_fault-cons count frame more ∙ ap (λ (first : Option LineError). option_or first (held_fault count more)) none

-- a first frame's fault is that of all
pub tells-first : (error : LineError) (count : ℕ) (frame : Frame) (more : List Frame)
    → Tells error (held_fault count (frame ∷ [])) → Tells error (held_fault count (frame ∷ more))
tells-first error count frame more told =
    λ wanting. held_fault-cons count frame more
    ∙ ap (λ (first : Option LineError). option_or first (held_fault count more)) (told wanting)

-- a first function that stands alone, or with its file
pub frames_said-alone : (function : ℕ) (more : List ℕ) → length more % 3 ≡ 0
    → frames_said (function ∷ more) ≡ without_file function ∷ triples more
frames_said-alone function more rest = rw rest refl

pub frames_said-triples : (function : ℕ) (more : List ℕ) → length more % 3 ≢ 0
    → frames_said (function ∷ more) ≡ triples (function ∷ more)
frames_said-triples function more rest = grind (arith, nat_tests)

length-triples : (ns : List ℕ) → length (triples ns) ≤ length ns
length-triples [] = omega arith
length-triples (function ∷ []) = omega arith
length-triples (function ∷ file ∷ []) = omega arith
length-triples (function ∷ file ∷ line ∷ more) = omega (arith, length-triples more)

length-of_test : (b : Bool) (one other : List Frame) (n : ℕ) → length one ≤ n → length other ≤ n
    → length (cond b one other) ≤ n
length-of_test true one other n a b = a
length-of_test false one other n a b = b

-- there are at most as many frames as numbers, and one
pub length-frames_said : (ns : List ℕ) → length (frames_said ns) ≤ length ns + 1
length-frames_said [] = omega arith
length-frames_said (function ∷ more) =
    length-of_test (eqb (length more % 3) 0) (without_file function ∷ triples more) (triples (function ∷ more)) _
    (omega (arith, length-triples more)) (omega (arith, length-triples (function ∷ more)))
