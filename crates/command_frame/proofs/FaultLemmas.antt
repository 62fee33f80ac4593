-- The faults of lines, one line after another.
use Rattle.std.proofs.Common.{◌≡◌, ℕ, ◌+◌, List, [], ◌∷◌, ◌++◌, length, Option, Some, None, refl, ap, sym, ◌∙◌}
use Rattle.std.proofs.Common.{append-nil, append_assoc, arith}
use Rattle.std.proofs.lemmas.List.Sums.{sum_by-append}
use Rattle.command_frame.specs.Told.{Told}
use Rattle.command_frame.specs.Report.{Report}
use Rattle.command_frame.specs.FirstFault.{Bounds, bytes_of_lines, first_fault, length_fault, line_fault, line_faults}

-- a line without a fault passes
pub fault_passes : (bounds : Bounds) (report : Report) (total number : ℕ) (earlier : List (List ℕ)) (line : List ℕ)
    (rest : List (List ℕ))
    → line_fault bounds report total earlier line ≡ None
    → first_fault number (line_faults bounds report total earlier (line ∷ rest))
    ≡ first_fault (number + 1) (line_faults bounds report total (earlier ++ line ∷ []) rest)
fault_passes bounds report total number earlier line rest none =
    ap (λ found. first_fault number (found ∷ line_faults bounds report total (earlier ++ line ∷ []) rest)) none

-- a line with a fault is the first
pub fault_found : (bounds : Bounds) (report : Report) (total number : ℕ) (earlier : List (List ℕ)) (line : List ℕ)
    (rest : List (List ℕ)) (told : Told)
    → line_fault bounds report total earlier line ≡ Some told
    → first_fault number (line_faults bounds report total earlier (line ∷ rest))
    ≡ Some (record { number = number; told = told })
fault_found bounds report total number earlier line rest told found =
    ap (λ one. first_fault number (one ∷ line_faults bounds report total (earlier ++ line ∷ []) rest)) found

-- the first line of several has a fault or not
good_step : (found : Option Told) (bounds : Bounds) (report : Report) (total number : ℕ) (earlier : List (List ℕ))
    (first : List ℕ) (lines : List (List ℕ)) (line : List ℕ)
    → line_fault bounds report total earlier first ≡ found
    → first_fault number (line_faults bounds report total earlier (first ∷ lines)) ≡ None
    → line_fault bounds report total (earlier ++ first ∷ lines) line ≡ None
    → (first_fault (number + 1) (line_faults bounds report total (earlier ++ first ∷ []) lines) ≡ None
    → line_fault bounds report total ((earlier ++ first ∷ []) ++ lines) line ≡ None
    → first_fault (number + 1) (line_faults bounds report total (earlier ++ first ∷ []) (lines ++ line ∷ [])) ≡ None)
    → first_fault number (line_faults bounds report total earlier ((first ∷ lines) ++ line ∷ [])) ≡ None
good_step (Some told) bounds report total number earlier first lines line is good none later =
    let one : first_fault number (line_faults bounds report total earlier (first ∷ lines))
    ≡ Some (record { number = number; told = told }) =
    fault_found bounds report total number earlier first lines told is in
    absurd (cc)
good_step None bounds report total number earlier first lines line is good none later =
    fault_passes bounds report total number earlier first (lines ++ line ∷ []) is
    ∙ later (sym (fault_passes bounds report total number earlier first lines is) ∙ good)
    (ap (λ before. line_fault bounds report total before line) (append_assoc earlier (first ∷ []) lines) ∙ none)

-- one more line without a fault, behind lines without
pub good_push : (bounds : Bounds) (report : Report) (total number : ℕ) (earlier lines : List (List ℕ)) (line : List ℕ)
    → first_fault number (line_faults bounds report total earlier lines) ≡ None
    → line_fault bounds report total (earlier ++ lines) line ≡ None
    → first_fault number (line_faults bounds report total earlier (lines ++ line ∷ [])) ≡ None
good_push bounds report total number earlier [] line good none =
    fault_passes bounds report total number earlier line []
    (ap (λ before. line_fault bounds report total before line) (sym (append-nil earlier)) ∙ none)
good_push bounds report total number earlier (first ∷ lines) line good none =
    good_step (line_fault bounds report total earlier first) bounds report total number earlier first lines line refl
    good none
    (good_push bounds report total (number + 1) (earlier ++ first ∷ []) lines line)

-- both faults are none
pub line_is_good : (bounds : Bounds) (report : Report) (total : ℕ) (earlier : List (List ℕ)) (line : List ℕ)
    → length_fault bounds total (bytes_of_lines earlier) (length line) ≡ None → report.line_fault earlier line ≡ None
    → line_fault bounds report total earlier line ≡ None
line_is_good bounds report total earlier line short good = rw short good

-- a fault of the length, and one of the content behind a good length
pub line_has_length_fault : (bounds : Bounds) (report : Report) (total : ℕ) (earlier : List (List ℕ)) (line : List ℕ)
    (told : Told)
    → length_fault bounds total (bytes_of_lines earlier) (length line) ≡ Some told
    → line_fault bounds report total earlier line ≡ Some told
line_has_length_fault bounds report total earlier line told found = rw found refl

pub line_has_content_fault : (bounds : Bounds) (report : Report) (total : ℕ) (earlier : List (List ℕ)) (line : List ℕ)
    (told : Told)
    → length_fault bounds total (bytes_of_lines earlier) (length line) ≡ None
    → report.line_fault earlier line ≡ Some told → line_fault bounds report total earlier line ≡ Some told
line_has_content_fault bounds report total earlier line told short found = rw short found

-- the bytes of one line more
pub bytes_of_lines-push : (lines : List (List ℕ)) (line : List ℕ)
    → bytes_of_lines (lines ++ line ∷ []) ≡ bytes_of_lines lines + (length line + 1)
bytes_of_lines-push lines line =
    sum_by-append (λ each. length each + 1) lines (line ∷ []) ∙ ap (λ n. bytes_of_lines lines + n) (omega arith)
