-- What was written is a front of what is to be written.
use Rattle.std.proofs.Common.{◌≡◌, ℕ, ◌+◌, ◌-◌, ◌≤◌, List, [], ◌∷◌, ◌++◌, length, take, Option, Some, None, refl, ap}
use Rattle.std.proofs.Common.{ap₂, sym, ◌∙◌, append-nil, append_assoc, length-append, arith}
use Rattle.std.proofs.Math.Seq.{take-append-add, take-append_seam}
use Rattle.std.specs.Option.{option_map, option_or}
use Rattle.hp_outside.specs.Lines.{lines_of}
use Rattle.command_frame.specs.Told.{Told}
use Rattle.command_frame.specs.Report.{Report, gains_from, written}
use Rattle.command_frame.specs.FirstFault.{Bounds, Refusal, end_refusal, file_fault, first_fault, is_ended, line_fault}
use Rattle.command_frame.specs.FirstFault.{line_faults}
use Rattle.command_frame.specs.Texts.{Texts}
use Rattle.command_frame.specs.Answer.{Answer, lines_answer}
use Rattle.command_frame.specs.FileRead.{GoodFront}
use Rattle.command_frame.proofs.FaultLemmas.{fault_found, fault_passes}

-- what lines and those after them give
pub gains_append : (report : Report) (earlier lines more : List (List ℕ))
    → gains_from report earlier (lines ++ more)
    ≡ gains_from report earlier lines ++ gains_from report (earlier ++ lines) more
gains_append report earlier [] more = ap (λ before. gains_from report before more) (sym (append-nil earlier))
gains_append report earlier (line ∷ lines) more =
    ap (λ rest. report.gains earlier line ++ rest) (gains_append report (earlier ++ line ∷ []) lines more)
    ∙ (sym
    (append_assoc (report.gains earlier line) (gains_from report (earlier ++ line ∷ []) lines)
    (gains_from report ((earlier ++ line ∷ []) ++ lines) more))
    ∙ ap (λ before. (report.gains earlier line ++ gains_from report (earlier ++ line ∷ []) lines)
    ++ gains_from report before more) (append_assoc
    earlier (line ∷ []) lines))

-- the number of a first fault is not before that of the first line
number_behind : (number : ℕ) (faults : List (Option Told)) (refusal : Refusal)
    → first_fault number faults ≡ Some refusal → number ≤ refusal.number
number_behind number [] refusal is = absurd (cc)
number_behind number (None ∷ faults) refusal is =
    let later = number_behind (number + 1) faults refusal is in omega (arith, later)
number_behind number (Some told ∷ faults) refusal is =
    let first : Some (record { number = number; told = told }) ≡ Some refusal = is in
    let same : number ≡ refusal.number = ap (λ (found : Option Refusal). number_in number found) first in
    omega (arith, same)
  where
    number_in : ℕ → Option Refusal → ℕ
    number_in other None = other
    number_in other (Some found) = found.number

-- lines without a fault put the first one off
behind_step : (found : Option Told) (bounds : Bounds) (report : Report) (total number : ℕ) (earlier : List (List ℕ))
    (line : List ℕ) (lines more : List (List ℕ))
    → line_fault bounds report total earlier line ≡ found
    → first_fault number (line_faults bounds report total earlier (line ∷ lines)) ≡ None
    → (first_fault (number + 1) (line_faults bounds report total (earlier ++ line ∷ []) lines) ≡ None
    → first_fault (number + 1) (line_faults bounds report total (earlier ++ line ∷ []) (lines ++ more))
    ≡ first_fault (number + 1 + length lines) (line_faults bounds report total ((earlier ++ line ∷ []) ++ lines) more))
    → first_fault number (line_faults bounds report total earlier ((line ∷ lines) ++ more))
    ≡ first_fault (number + length (line ∷ lines)) (line_faults bounds report total (earlier ++ line ∷ lines) more)
behind_step (Some told) bounds report total number earlier line lines more is good later =
    let one : first_fault number (line_faults bounds report total earlier (line ∷ lines))
    ≡ Some (record { number = number; told = told }) =
    fault_found bounds report total number earlier line lines told is in
    absurd (cc)
behind_step None bounds report total number earlier line lines more is good later =
    fault_passes bounds report total number earlier line (lines ++ more) is
    ∙ (later (sym (fault_passes bounds report total number earlier line lines is) ∙ good)
    ∙ ap₂ (λ n before. first_fault n (line_faults bounds report total before more)) (omega arith)
    (append_assoc earlier (line ∷ []) lines))

fault_behind : (bounds : Bounds) (report : Report) (total number : ℕ) (earlier lines more : List (List ℕ))
    → first_fault number (line_faults bounds report total earlier lines) ≡ None
    → first_fault number (line_faults bounds report total earlier (lines ++ more))
    ≡ first_fault (number + length lines) (line_faults bounds report total (earlier ++ lines) more)
fault_behind bounds report total number earlier [] more good =
    ap₂ (λ n before. first_fault n (line_faults bounds report total before more)) (omega arith)
    (sym (append-nil earlier))
fault_behind bounds report total number earlier (line ∷ lines) more good =
    behind_step (line_fault bounds report total earlier line) bounds report total number earlier line lines more refl
    good
    (fault_behind bounds report total (number + 1) (earlier ++ line ∷ []) lines more)

-- the end stands behind all lines
end_behind : (report : Report) (lines : List (List ℕ)) (found : Option Told) (refusal : Refusal)
    → option_map (λ told. record { number = length lines + 1; told = told }) found ≡ Some refusal
    → length lines + 1 ≤ refusal.number
end_behind report lines None refusal is = absurd (cc)
end_behind report lines (Some told) refusal is =
    let same : length lines + 1 ≡ refusal.number = ap (λ (found : Option Refusal). number_in found) is in
    omega (arith, same)
  where
    number_in : Option Refusal → ℕ
    number_in None = 0
    number_in (Some found) = found.number

-- lines without a fault at the front of a file stand before its refusal
pub refused_behind : (first : Option Refusal) (bounds : Bounds) (report : Report) (bytes : List ℕ)
    (taken : List (List ℕ)) (refusal : Refusal)
    → (front : GoodFront bounds report bytes taken)
    → first_fault 1 (line_faults bounds report (length bytes) [] (lines_of bytes)) ≡ first
    → option_or first (end_refusal report (length bytes) (lines_of bytes)) ≡ Some refusal
    → length taken + 1 ≤ refusal.number
refused_behind None bounds report bytes taken refusal front first is =
    let behind =
    end_behind report (lines_of bytes) (report.end_fault (lines_of bytes) (is_ended (length bytes) (lines_of bytes)))
    refusal is in
    let all : length (lines_of bytes) ≡ length taken + length front.more =
    ap length front.lines_are ∙ length-append taken front.more in
    omega (arith, behind, all)
refused_behind (Some found) bounds report bytes taken refusal front first is =
    let same : first_fault (1 + length taken) (line_faults bounds report (length bytes) ([] ++ taken) front.more)
    ≡ Some refusal =
    sym (fault_behind bounds report (length bytes) 1 [] taken front.more front.no_fault)
    ∙ (ap (λ ls. first_fault 1 (line_faults bounds report (length bytes) [] ls)) (sym front.lines_are)
    ∙ (first ∙ is)) in
    let behind =
    number_behind (1 + length taken) (line_faults bounds report (length bytes) ([] ++ taken) front.more) refusal
    same in
    omega (arith, behind)

-- what lines gave at the front of a file is a front of what the file gives
front_by : (found : Option Refusal) (texts : Texts) (bounds : Bounds) (name : List ℕ) (report : Report) (bytes : List ℕ)
    (taken : List (List ℕ)) (rest : Answer)
    → GoodFront bounds report bytes taken → file_fault bounds report bytes ≡ found
    → written report taken
    ≡ take (length (written report taken)) (lines_answer texts name report (lines_of bytes) found rest).output
front_by None texts bounds name report bytes taken rest front is =
    let all : written report (lines_of bytes) ≡ written report taken ++ gains_from report taken front.more =
    ap (written report) front.lines_are ∙ gains_append report [] taken front.more in
    sym (ap (λ given. take (length (written report taken)) (given ++ rest.output)) all
    ∙ (ap (take (length (written report taken)))
    (append_assoc (written report taken) (gains_from report taken front.more) rest.output)
    ∙ take-append_seam (written report taken) (gains_from report taken front.more ++ rest.output)))
front_by (Some refusal) texts bounds name report bytes taken rest front is =
    let behind =
    refused_behind (first_fault 1 (line_faults bounds report (length bytes) [] (lines_of bytes))) bounds report bytes
    taken refusal front refl is in
    let count : refusal.number - 1 ≡ length taken + (refusal.number - 1 - length taken) = omega (arith, behind) in
    let lines : take (refusal.number - 1) (lines_of bytes)
    ≡ taken ++ take (refusal.number - 1 - length taken) front.more =
    ap₂ take count front.lines_are ∙ take-append-add taken front.more (refusal.number - 1 - length taken) in
    let all : written report (take (refusal.number - 1) (lines_of bytes))
    ≡ written report taken ++ gains_from report taken (take (refusal.number - 1 - length taken) front.more) =
    ap (written report) lines ∙ gains_append report [] taken (take (refusal.number - 1 - length taken) front.more) in
    sym (ap (λ given. take (length (written report taken)) (given ++ [])) all
    ∙ (ap (take (length (written report taken)))
    (append-nil (written report taken ++ gains_from report taken (take (refusal.number - 1 - length taken) front.more)))
    ∙ take-append_seam (written report taken)
    (gains_from report taken (take (refusal.number - 1 - length taken) front.more))))

pub front_of_answer : (texts : Texts) (bounds : Bounds) (name : List ℕ) (report : Report) (bytes : List ℕ)
    (taken : List (List ℕ)) (rest : Answer)
    → GoodFront bounds report bytes taken
    → written report taken
    ≡ take (length (written report taken))
    (lines_answer texts name report (lines_of bytes) (file_fault bounds report bytes) rest).output
front_of_answer texts bounds name report bytes taken rest front =
    front_by (file_fault bounds report bytes) texts bounds name report bytes taken rest front refl
