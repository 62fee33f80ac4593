-- The facts of a run whose next file is read whole.
use Rattle.std.proofs.Common.{◌≡◌, ◌≢◌, ℕ, ◌+◌, List, [], ◌∷◌, Option, Some, None, refl, ap, sym, subst, ◌∙◌, arith}
use Rattle.hp_outside.specs.Folder.{Folder, file_of}
use Rattle.command_frame.specs.declared.fault.FaultStatus.TheVariants.{PastLimit}
use Rattle.command_frame.specs.FirstFault.{Bounds, input_too_long}
use Rattle.command_frame.specs.Plan.{Document, Plan}
use Rattle.command_frame.specs.Texts.{Texts}
use Rattle.command_frame.specs.Answer.{Answer, absent_answer, document_answer, file_answer, plan_answer, whole_answer}
use Rattle.command_frame.specs.Moment.{Moment}
use Rattle.command_frame.specs.DocumentRead.{Absent, CannotOpen, CannotRead, DocumentEnd, DocumentRead, EndsWhere}
use Rattle.command_frame.specs.DocumentRead.{TooLong, Unopened, Wanting, Whole}
use Rattle.command_frame.specs.Run.{GoesOnWith, Ran}
use Rattle.command_frame.specs.RunFacts.{RunFacts}
use Rattle.command_frame.proofs.StatusFactLemmas.{fault_facts, unreadable_facts, wanting_facts}
use Rattle.command_frame.proofs.NotReadLemmas.{absent_not_read, closed_not_read, unread_not_read}
use Rattle.command_frame.proofs.BehindFactLemmas.{behind_facts}

-- the answers at the ends of a document
absent_is : (texts : Texts) (bounds : Bounds) (name : List ℕ) (file : Option (List ℕ)) (rest : List ℕ → Answer)
    → EndsWhere bounds file Absent
    → (file ≡ None) × (absent_answer texts name ≡ document_answer texts bounds name file rest)
absent_is texts bounds name None rest ends = (refl, refl)
absent_is texts bounds name (Some bytes) rest ends = absurd ends

long_answer : (texts : Texts) (bounds : Bounds) (name : List ℕ) (file : Option (List ℕ)) (rest : List ℕ → Answer)
    → EndsWhere bounds file TooLong
    → file_answer texts name input_too_long ≡ document_answer texts bounds name file rest
long_answer texts bounds name None rest ends = absurd ends
long_answer texts bounds name (Some bytes) rest ends =
    ap (λ found. whole_answer texts name found (rest bytes)) (sym ends)

whole_is : (texts : Texts) (bounds : Bounds) (name : List ℕ) (file : Option (List ℕ)) (taken : List ℕ)
    (rest : List ℕ → Answer)
    → EndsWhere bounds file (Whole taken)
    → rest taken ≡ document_answer texts bounds name file rest
whole_is texts bounds name None taken rest ends = absurd ends
whole_is texts bounds name (Some bytes) taken rest ends =
    ap rest ends.0 ∙ ap (λ found. whole_answer texts name found (rest bytes)) (sym ends.1)

-- the document is there, where it couldn't be opened or read
opened_is_there : (bounds : Bounds) (file : Option (List ℕ)) → EndsWhere bounds file CannotOpen → file ≢ None
opened_is_there bounds None ends = absurd ends
opened_is_there bounds (Some bytes) ends = λ none. absurd (cc)

read_is_there : (bounds : Bounds) (file : Option (List ℕ)) → EndsWhere bounds file CannotRead → file ≢ None
read_is_there bounds None ends = absurd ends
read_is_there bounds (Some bytes) ends = λ none. absurd (cc)

-- at each end of a document
pub document_facts : (texts : Texts) (bounds : Bounds) (files : Option Folder) (last name wanted : List ℕ)
    (names : List (List ℕ)) (next : List ℕ → Plan) (before mid now : Moment) (given : Answer) (end : DocumentEnd)
    → name ≡ wanted → DocumentRead bounds files wanted before mid end
    → GoesOnWith texts wanted end (λ bytes answer. Ran texts bounds files wanted names (next bytes) mid now answer) mid
    now given
    → ((taken : List ℕ) (answer : Answer) → Ran texts bounds files wanted names (next taken) mid now answer
    → RunFacts texts bounds files wanted names (next taken) mid now answer)
    → RunFacts texts bounds files last (name ∷ names) (Document wanted next) before now given
document_facts texts bounds files last name wanted names next before mid now given Unopened named read goes later =
    let opens : now.opens ≡ before.opens = ap (λ (m : Moment). m.opens) (goes.1 ∙ read.calls) in
    wanting_facts texts bounds files last (name ∷ names) (Document wanted next) before now given
    (ap (λ (a : Answer). a.status) goes.0) (ap (λ (a : Answer). a.message) goes.0)
    (λ folder known. (0, ap (λ (a : Answer). a.output) goes.0)) (λ quiet. ap (λ (a : Answer). a.output) goes.0)
    (λ none. absurd (cc)) (omega (arith, opens)) (omega (arith, opens))
document_facts texts bounds files last name wanted names next before mid now given Absent named read goes later =
    let opens : now.opens ≡ before.opens + 1 = ap (λ (m : Moment). m.opens) goes.1 ∙ read.calls.0.opens in
    let here = subst (λ m. DocumentRead bounds files wanted before m Absent) (sym goes.1) read in
    let rest : (folder : Folder) → List ℕ → Answer =
    λ folder bytes. plan_answer texts bounds folder wanted (next bytes) in
    unreadable_facts texts bounds files last (name ∷ names) (Document wanted next) before now given
    (ap (λ (a : Answer). a.status) goes.0)
    (absent_not_read texts files name wanted names before now given named (ap (λ (a : Answer). a.message) goes.0)
    here.calls.0
    (λ folder known. (absent_is texts bounds wanted (file_of folder wanted) (rest folder) (read.told folder known)).0)
    here.calls.1)
    (λ folder known quiet. goes.0
    ∙ (absent_is texts bounds wanted (file_of folder wanted) (rest folder) (read.told folder known)).1)
    (λ folder known. (0, ap (λ (a : Answer). a.output) goes.0)) (λ quiet. ap (λ (a : Answer). a.output) goes.0)
    (λ none. absurd (cc)) (omega (arith, opens)) (omega (arith, opens))
document_facts texts bounds files last name wanted names next before mid now given CannotOpen named read goes later =
    let opens : now.opens ≡ before.opens + 1 = ap (λ (m : Moment). m.opens) goes.1 ∙ read.calls.0.opens in
    let here = subst (λ m. DocumentRead bounds files wanted before m CannotOpen) (sym goes.1) read in
    unreadable_facts texts bounds files last (name ∷ names) (Document wanted next) before now given
    (ap (λ (a : Answer). a.status) goes.0)
    (closed_not_read texts files name wanted names before now given named (ap (λ (a : Answer). a.message) goes.0)
    here.calls.0
    (λ folder known. opened_is_there bounds (file_of folder wanted) (read.told folder known)) here.calls.1)
    (λ folder known quiet. absurd (quiet here.calls.1))
    (λ folder known. (0, ap (λ (a : Answer). a.output) goes.0)) (λ quiet. ap (λ (a : Answer). a.output) goes.0)
    (λ none. absurd (cc)) (omega (arith, opens)) (omega (arith, opens))
document_facts texts bounds files last name wanted names next before mid now given CannotRead named read goes later =
    let opens : now.opens ≡ before.opens + 1 = ap (λ (m : Moment). m.opens) goes.1 ∙ read.calls.0.opens in
    let here = subst (λ m. DocumentRead bounds files wanted before m CannotRead) (sym goes.1) read in
    unreadable_facts texts bounds files last (name ∷ names) (Document wanted next) before now given
    (ap (λ (a : Answer). a.status) goes.0)
    (unread_not_read texts files name wanted names before now given named (ap (λ (a : Answer). a.message) goes.0)
    here.calls.0
    (λ folder known. read_is_there bounds (file_of folder wanted) (read.told folder known)) here.calls.1)
    (λ folder known quiet. absurd (quiet here.calls.1))
    (λ folder known. (0, ap (λ (a : Answer). a.output) goes.0)) (λ quiet. ap (λ (a : Answer). a.output) goes.0)
    (λ none. absurd (cc)) (omega (arith, opens)) (omega (arith, opens))
document_facts texts bounds files last name wanted names next before mid now given TooLong named read goes later =
    let opens : now.opens ≡ before.opens + 1 = ap (λ (m : Moment). m.opens) goes.1 ∙ read.calls.0.opens in
    fault_facts texts bounds files last (name ∷ names) (Document wanted next) before now given PastLimit
    (ap (λ (a : Answer). a.status) goes.0)
    (λ folder known. goes.0
    ∙ long_answer texts bounds wanted (file_of folder wanted)
    (λ bytes. plan_answer texts bounds folder wanted (next bytes)) (read.told folder known))
    (ap (λ (m : Moment). m.faults) goes.1 ∙ read.calls.1) (λ quiet. ap (λ (a : Answer). a.output) goes.0)
    (λ none. absurd (cc)) (omega (arith, opens)) (omega (arith, opens))
document_facts texts bounds files last name wanted names next before mid now given Wanting named read goes later =
    let opens : now.opens ≡ before.opens + 1 = ap (λ (m : Moment). m.opens) goes.1 ∙ read.calls in
    wanting_facts texts bounds files last (name ∷ names) (Document wanted next) before now given
    (ap (λ (a : Answer). a.status) goes.0) (ap (λ (a : Answer). a.message) goes.0)
    (λ folder known. (0, ap (λ (a : Answer). a.output) goes.0)) (λ quiet. ap (λ (a : Answer). a.output) goes.0)
    (λ none. absurd (cc)) (omega (arith, opens)) (omega (arith, opens))
document_facts texts bounds files last name wanted names next before mid now given (Whole taken) named read goes later =
    behind_facts texts bounds files last name wanted names (Document wanted next) (next taken) before mid now [] given
    given read.calls.0 read.calls.1 read.calls.2 refl
    (λ folder known. whole_is texts bounds wanted (file_of folder wanted) taken
    (λ bytes. plan_answer texts bounds folder wanted (next bytes)) (read.told folder known))
    (λ quiet. (refl, quiet taken)) (later taken given goes)
