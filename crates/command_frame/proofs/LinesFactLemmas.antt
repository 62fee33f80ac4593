-- The facts of a run whose next file is read by lines.
use Rattle.std.proofs.Common.{◌≡◌, ◌≢◌, ℕ, ◌+◌, List, [], ◌∷◌, ◌++◌, length, min, take, take_all, Option, Some, None}
use Rattle.std.proofs.Common.{refl, ap, sym, subst, ◌∙◌, append-nil, arith}
use Rattle.hp_outside.specs.Folder.{Folder, file_of}
use Rattle.hp_outside.specs.Lines.{lines_of}
use Rattle.command_frame.specs.Told.{Told}
use Rattle.command_frame.specs.Report.{Report, gains_from, written}
use Rattle.command_frame.specs.FirstFault.{Bounds}
use Rattle.command_frame.specs.Plan.{Lines, Plan}
use Rattle.command_frame.specs.Texts.{Texts}
use Rattle.command_frame.specs.Answer.{Answer, absent_answer, after, line_answer, lines_answer, named_answer}
use Rattle.command_frame.specs.Answer.{plan_answer}
use Rattle.command_frame.specs.Moment.{Moment}
use Rattle.command_frame.specs.FileRead.{Absent, CannotOpen, CannotRead, EndsIn, FileEnd, FileRead, GoodFront, Passed}
use Rattle.command_frame.specs.FileRead.{Refused, Unopened, Unwritten, Wanting}
use Rattle.command_frame.specs.Run.{GoesOn, Ran}
use Rattle.command_frame.specs.RunFacts.{RunFacts}
use Rattle.command_frame.specs.Silent.{IsSilent}
use Rattle.command_frame.proofs.EndLemmas.{stopped_front, take_take}
use Rattle.command_frame.proofs.FrontLemmas.{front_of_answer}
use Rattle.command_frame.proofs.StatusFactLemmas.{fault_facts, unreadable_facts, unwritten_facts, wanting_facts}
use Rattle.command_frame.proofs.NotReadLemmas.{absent_not_read, closed_not_read, unread_not_read}
use Rattle.command_frame.proofs.BehindFactLemmas.{behind_facts}

-- the answers at the ends of a file
refused_answer : (texts : Texts) (bounds : Bounds) (name : List ℕ) (report : Report) (file left : Option (List ℕ))
    (taken : List (List ℕ)) (number : ℕ) (told : Told) (rest : List (List ℕ) → Answer)
    → EndsIn bounds report file left (Refused taken number told)
    → after (written report taken) (line_answer texts name number told)
    ≡ named_answer texts bounds name report file rest
refused_answer texts bounds name report None left taken number told rest ends = absurd ends
refused_answer texts bounds name report (Some bytes) left taken number told rest ends =
    ap (λ ls. after (written report ls) (line_answer texts name number told)) ends.before
    ∙ ap (λ found. lines_answer texts name report (lines_of bytes) found (rest (lines_of bytes))) (sym ends.refusal)

absent_is : (texts : Texts) (bounds : Bounds) (name : List ℕ) (report : Report) (file left : Option (List ℕ))
    (rest : List (List ℕ) → Answer)
    → EndsIn bounds report file left Absent
    → (file ≡ None) × (absent_answer texts name ≡ named_answer texts bounds name report file rest)
absent_is texts bounds name report None left rest ends = (refl, refl)
absent_is texts bounds name report (Some bytes) left rest ends = absurd ends

passed_answer : (texts : Texts) (bounds : Bounds) (name : List ℕ) (report : Report) (file left : Option (List ℕ))
    (taken : List (List ℕ)) (rest : List (List ℕ) → Answer)
    → EndsIn bounds report file left (Passed taken)
    → after (written report taken) (rest taken) ≡ named_answer texts bounds name report file rest
passed_answer texts bounds name report None left taken rest ends = absurd ends
passed_answer texts bounds name report (Some bytes) left taken rest ends =
    ap (λ ls. after (written report ls) (rest ls)) ends.lines_are
    ∙ ap (λ found. lines_answer texts name report (lines_of bytes) found (rest (lines_of bytes))) (sym ends.no_fault)

-- the file is there, where it couldn't be opened or read
opened_is_there : (bounds : Bounds) (report : Report) (file left : Option (List ℕ))
    → EndsIn bounds report file left CannotOpen → file ≢ None
opened_is_there bounds report None left ends = absurd ends
opened_is_there bounds report (Some bytes) left ends = λ none. absurd (cc)

read_is_there : (bounds : Bounds) (report : Report) (file left : Option (List ℕ)) (taken : List (List ℕ))
    → EndsIn bounds report file left (CannotRead taken) → file ≢ None
read_is_there bounds report None left taken ends = absurd ends
read_is_there bounds report (Some bytes) left taken ends = λ none. absurd (cc)

-- the fronts at the ends of a file
front_in : (texts : Texts) (bounds : Bounds) (name : List ℕ) (report : Report) (file left : Option (List ℕ))
    (taken : List (List ℕ)) (rest : List (List ℕ) → Answer)
    → (end : FileEnd)
    → ((bytes : List ℕ) → EndsIn bounds report (Some bytes) left end → GoodFront bounds report bytes taken)
    → (EndsIn bounds report None left end → taken ≡ [])
    → EndsIn bounds report file left end
    → (count : ℕ) × (written report taken ≡ take count (named_answer texts bounds name report file rest).output)
front_in texts bounds name report None left taken rest end front none ends = (0, ap (written report) (none ends))
front_in texts bounds name report (Some bytes) left taken rest end front none ends = (
  length (written report taken),
  front_of_answer texts bounds name report bytes taken (rest (lines_of bytes)) (front bytes ends),
)

-- nothing more is a front too
no_more : {bytes all : List ℕ} → (count : ℕ) × (bytes ≡ take count all) → (count : ℕ) × (bytes ++ [] ≡ take count all)
no_more {bytes} {all} front = (front.0, append-nil bytes ∙ front.1)

cut_more : {bytes all : List ℕ} (most : ℕ) → (count : ℕ) × (bytes ≡ take count all)
    → (count : ℕ) × (take most bytes ++ [] ≡ take count all)
cut_more {bytes} {all} most front =
    (min most front.0, append-nil (take most bytes) ∙ (ap (take most) front.1 ∙ take_take most front.0 all))

-- lines of a silent plan give nothing
pub gives_nothing : (report : Report) (earlier lines : List (List ℕ))
    → ((earlier : List (List ℕ)) (line : List ℕ) → report.gains earlier line ≡ [])
    → gains_from report earlier lines ≡ []
gives_nothing report earlier [] none = refl
gives_nothing report earlier (line ∷ lines) none =
    ap (λ bytes. bytes ++ gains_from report (earlier ++ line ∷ []) lines) (none earlier line)
    ∙ gives_nothing report (earlier ++ line ∷ []) lines none

written_nothing : (name : List ℕ) (report : Report) (next : List (List ℕ) → Plan) (taken : List (List ℕ))
    (given : Answer)
    → given.output ≡ written report taken ++ [] → IsSilent (Lines name report next) → given.output ≡ []
written_nothing name report next taken given is silent =
    is ∙ ap (λ bytes. bytes ++ []) (gives_nothing report [] taken silent.0)

cut_nothing : (name : List ℕ) (report : Report) (next : List (List ℕ) → Plan) (taken : List (List ℕ)) (count : ℕ)
    (given : Answer)
    → given.output ≡ take count (written report taken) ++ [] → IsSilent (Lines name report next) → given.output ≡ []
cut_nothing name report next taken count given is silent =
    is
    ∙ (ap (λ bytes. take count bytes ++ []) (gives_nothing report [] taken silent.0)
    ∙ ap (λ bytes. bytes ++ []) (take_all count [] (omega arith)))

-- at each end of a file
pub lines_facts : (texts : Texts) (bounds : Bounds) (files : Option Folder) (last name wanted : List ℕ)
    (names : List (List ℕ)) (report : Report) (next : List (List ℕ) → Plan) (before mid now : Moment) (given : Answer)
    (end : FileEnd)
    → name ≡ wanted → FileRead bounds files wanted report before mid end
    → GoesOn texts wanted report end (λ lines answer. Ran texts bounds files wanted names (next lines) mid now answer)
    mid now given
    → ((taken : List (List ℕ)) (answer : Answer) → Ran texts bounds files wanted names (next taken) mid now answer
    → RunFacts texts bounds files wanted names (next taken) mid now answer)
    → RunFacts texts bounds files last (name ∷ names) (Lines wanted report next) before now given
lines_facts texts bounds files last name wanted names report next before mid now given Unopened named read goes later =
    let opens : now.opens ≡ before.opens = ap (λ (m : Moment). m.opens) (goes.1 ∙ read.calls) in
    wanting_facts texts bounds files last (name ∷ names) (Lines wanted report next) before now given
    (ap (λ (a : Answer). a.status) goes.0) (ap (λ (a : Answer). a.message) goes.0)
    (λ folder known. (0, ap (λ (a : Answer). a.output) goes.0)) (λ quiet. ap (λ (a : Answer). a.output) goes.0)
    (λ none. absurd (cc)) (omega (arith, opens)) (omega (arith, opens))
lines_facts texts bounds files last name wanted names report next before mid now given Absent named read goes later =
    let opens : now.opens ≡ before.opens + 1 = ap (λ (m : Moment). m.opens) goes.1 ∙ read.calls.0.opens in
    let here = subst (λ m. FileRead bounds files wanted report before m Absent) (sym goes.1) read in
    let rest : (folder : Folder) → List (List ℕ) → Answer =
    λ folder lines. plan_answer texts bounds folder wanted (next lines) in
    unreadable_facts texts bounds files last (name ∷ names) (Lines wanted report next) before now given
    (ap (λ (a : Answer). a.status) goes.0)
    (absent_not_read texts files name wanted names before now given named (ap (λ (a : Answer). a.message) goes.0)
    here.calls.0
    (λ folder known. (absent_is texts bounds wanted report (file_of folder wanted) mid.left (rest folder)
    (read.told folder known)).0)
    here.calls.1)
    (λ folder known quiet. goes.0
    ∙ (absent_is texts bounds wanted report (file_of folder wanted) mid.left (rest folder)
    (read.told folder known)).1)
    (λ folder known. (0, ap (λ (a : Answer). a.output) goes.0)) (λ quiet. ap (λ (a : Answer). a.output) goes.0)
    (λ none. absurd (cc)) (omega (arith, opens)) (omega (arith, opens))
lines_facts texts bounds files last name wanted names report next before mid now given CannotOpen named read goes
    later =
    let opens : now.opens ≡ before.opens + 1 = ap (λ (m : Moment). m.opens) goes.1 ∙ read.calls.0.opens in
    let here = subst (λ m. FileRead bounds files wanted report before m CannotOpen) (sym goes.1) read in
    unreadable_facts texts bounds files last (name ∷ names) (Lines wanted report next) before now given
    (ap (λ (a : Answer). a.status) goes.0)
    (closed_not_read texts files name wanted names before now given named (ap (λ (a : Answer). a.message) goes.0)
    here.calls.0
    (λ folder known. opened_is_there bounds report (file_of folder wanted) mid.left (read.told folder known))
    here.calls.1)
    (λ folder known quiet. absurd (quiet here.calls.1))
    (λ folder known. (0, ap (λ (a : Answer). a.output) goes.0)) (λ quiet. ap (λ (a : Answer). a.output) goes.0)
    (λ none. absurd (cc)) (omega (arith, opens)) (omega (arith, opens))
lines_facts texts bounds files last name wanted names report next before mid now given (CannotRead taken) named read
    goes later =
    let opens : now.opens ≡ before.opens + 1 = ap (λ (m : Moment). m.opens) goes.1 ∙ read.calls.0.opens in
    let here = subst (λ m. FileRead bounds files wanted report before m (CannotRead taken)) (sym goes.1) read in
    let output : given.output ≡ written report taken ++ [] = ap (λ (a : Answer). a.output) goes.0 in
    unreadable_facts texts bounds files last (name ∷ names) (Lines wanted report next) before now given
    (ap (λ (a : Answer). a.status) goes.0)
    (unread_not_read texts files name wanted names before now given named (ap (λ (a : Answer). a.message) goes.0)
    here.calls.0
    (λ folder known. read_is_there bounds report (file_of folder wanted) mid.left taken (read.told folder known))
    here.calls.1)
    (λ folder known quiet. absurd (quiet here.calls.1))
    (λ folder known.
    let front =
    no_more (front_in texts bounds wanted report (file_of folder wanted) mid.left taken
    (λ lines. plan_answer texts bounds folder wanted (next lines)) (CannotRead taken)
    (λ bytes ends. stopped_front ends) (λ ends. absurd ends) (read.told folder known)) in
    (front.0, output ∙ front.1))
    (written_nothing wanted report next taken given output) (λ none. absurd (cc)) (omega (arith, opens))
    (omega (arith, opens))
lines_facts texts bounds files last name wanted names report next before mid now given (Refused taken number told) named
    read goes later =
    let opens : now.opens ≡ before.opens + 1 = ap (λ (m : Moment). m.opens) goes.1 ∙ read.calls.0.opens in
    let output : given.output ≡ written report taken ++ [] = ap (λ (a : Answer). a.output) goes.0 in
    fault_facts texts bounds files last (name ∷ names) (Lines wanted report next) before now given told.status
    (ap (λ (a : Answer). a.status) goes.0)
    (λ folder known. goes.0
    ∙ refused_answer texts bounds wanted report (file_of folder wanted) mid.left taken number told
    (λ lines. plan_answer texts bounds folder wanted (next lines)) (read.told folder known))
    (ap (λ (m : Moment). m.faults) goes.1 ∙ read.calls.1) (written_nothing wanted report next taken given output)
    (λ none. absurd (cc)) (omega (arith, opens)) (omega (arith, opens))
lines_facts texts bounds files last name wanted names report next before mid now given (Wanting taken) named read goes
    later =
    let opens : now.opens ≡ before.opens + 1 = ap (λ (m : Moment). m.opens) goes.1 ∙ read.calls in
    let output : given.output ≡ written report taken ++ [] = ap (λ (a : Answer). a.output) goes.0 in
    wanting_facts texts bounds files last (name ∷ names) (Lines wanted report next) before now given
    (ap (λ (a : Answer). a.status) goes.0) (ap (λ (a : Answer). a.message) goes.0)
    (λ folder known.
    let front =
    no_more (front_in texts bounds wanted report (file_of folder wanted) mid.left taken
    (λ lines. plan_answer texts bounds folder wanted (next lines)) (Wanting taken)
    (λ bytes ends. ends) (λ ends. ends) (read.told folder known)) in
    (front.0, output ∙ front.1))
    (written_nothing wanted report next taken given output) (λ none. absurd (cc)) (omega (arith, opens))
    (omega (arith, opens))
lines_facts texts bounds files last name wanted names report next before mid now given (Unwritten taken count) named
    read goes later =
    let opens : now.opens ≡ before.opens + 1 = ap (λ (m : Moment). m.opens) goes.1 ∙ read.calls in
    let output : given.output ≡ take count (written report taken) ++ [] = ap (λ (a : Answer). a.output) goes.0 in
    unwritten_facts texts bounds files last (name ∷ names) (Lines wanted report next) before now given
    (ap (λ (a : Answer). a.status) goes.0) (ap (λ (a : Answer). a.message) goes.0)
    (λ folder known.
    let front =
    cut_more count
    (front_in texts bounds wanted report (file_of folder wanted) mid.left taken
    (λ lines. plan_answer texts bounds folder wanted (next lines)) (Unwritten taken count)
    (λ bytes ends. ends) (λ ends. absurd ends) (read.told folder known)) in
    (front.0, output ∙ front.1))
    (cut_nothing wanted report next taken count given output) (λ none. absurd (cc)) (omega (arith, opens))
    (omega (arith, opens))
lines_facts texts bounds files last name wanted names report next before mid now given (Passed taken) named read goes
    later =
    behind_facts texts bounds files last name wanted names (Lines wanted report next) (next taken) before mid now
    (written report taken) given goes.0 read.calls.0 read.calls.1 read.calls.2 goes.1
    (λ folder known. passed_answer texts bounds wanted report (file_of folder wanted) mid.left taken
    (λ lines. plan_answer texts bounds folder wanted (next lines)) (read.told folder known))
    (λ quiet. (gives_nothing report [] taken quiet.0, quiet.1 taken)) (later taken goes.0 goes.2)
