-- No fault was reached where a call of the store failed.
use Rattle.std.proofs.Common.{◌≡◌, ◌≢◌, ◌⊎◌, ℕ, zero, suc, ◌+◌, ◌-◌, ◌<◌, ◌≤◌, Bool, true, false, List, [], ◌∷◌, ◌++◌}
use Rattle.std.proofs.Common.{length, take, Option, Some, None, refl, ap, ap₂, sym, subst, ◌∙◌, inl, inr, length-append}
use Rattle.std.proofs.Common.{arith}
use Rattle.std.proofs.Math.Seq.{take-append-add}
use Rattle.std.proofs.lemmas.List.Sums.{sum_by-append, sum_by-cons}
use Rattle.std.specs.List.{position_or_len}
use Rattle.hp_outside.specs.Folder.{Folder, file_of}
use Rattle.hp_outside.specs.Lines.{is_line_feed, lines_of, put_first}
use Rattle.command_frame.specs.declared.fault.FaultStatus.{FaultStatus}
use Rattle.command_frame.specs.declared.fault.FaultStatus.TheVariants.{Malformed, PastLimit}
use Rattle.command_frame.specs.Told.{Told, code_of}
use Rattle.command_frame.specs.Report.{Report}
use Rattle.command_frame.specs.FirstFault.{Bounds, Refusal, bytes_of_lines, file_fault, first_fault, line_faults}
use Rattle.command_frame.specs.WholeFault.{whole_fault}
use Rattle.command_frame.specs.Plan.{Document, Ends, Lines, Pieces, Plan}
use Rattle.command_frame.specs.Texts.{Texts}
use Rattle.command_frame.specs.Answer.{Answer}
use Rattle.command_frame.specs.Moment.{Moment}
use Rattle.command_frame.specs.Outside.{Outside}
use Rattle.command_frame.specs.FileRead as ending
use Rattle.command_frame.specs.FileRead.{EndsIn, FileEnd, FileRead, GoodFront, StoppedBefore}
use Rattle.command_frame.specs.DocumentRead as document
use Rattle.command_frame.specs.DocumentRead.{DocumentEnd, DocumentRead, EndsWhere}
use Rattle.command_frame.specs.Run.{GoesOn, GoesOnWith, Ran}
use Rattle.command_frame.specs.Reached.{DocumentReached, FileReached, IsReached, PlanReached, RefusalReached}
use Rattle.command_frame.specs.Reached.{ShowsRefusal, WholeReached, taken_of}
use Rattle.command_frame.specs.Task.{Task}
use Rattle.command_frame.specs.WordsRan.{WordsRan}
use Rattle.command_frame.proofs.EndsLemmas.{TaskEnded, told_by}
use Rattle.command_frame.proofs.FrontLemmas.{refused_behind}
use Rattle.command_frame.proofs.LineLemmas.{place_before, put_before}

-- the first of some lines
abbrev first_of : List (List ℕ) → List ℕ
first_of [] = []
first_of (line ∷ lines) = line

put_longer : (byte : ℕ) (lines : List (List ℕ))
    → length (first_of (put_first byte lines)) ≡ suc (length (first_of lines))
put_longer byte [] = refl
put_longer byte (line ∷ lines) = refl

-- bytes without a line feed stand in the first line
first_step : (test : Bool) (byte : ℕ) (kept unread : List ℕ) → is_line_feed byte ≡ test
    → position_or_len is_line_feed (byte ∷ kept) ≡ length (byte ∷ kept)
    → (position_or_len is_line_feed kept ≡ length kept → length kept ≤ length (first_of (lines_of (kept ++ unread))))
    → length (byte ∷ kept) ≤ length (first_of (lines_of (byte ∷ kept ++ unread)))
first_step true byte kept unread is none later =
    let here : position_or_len is_line_feed (byte ∷ kept) ≡ 0 = rw is refl in
    absurd (omega (arith, here, none))
first_step false byte kept unread is none later =
    let reaches = later (omega (arith, place_before byte kept is, none)) in
    omega (
      arith,
      reaches,
      ap (λ ls. length (first_of ls)) (put_before byte (kept ++ unread) is),
      put_longer byte (lines_of (kept ++ unread)),
    )

first_reaches : (kept unread : List ℕ) → position_or_len is_line_feed kept ≡ length kept
    → length kept ≤ length (first_of (lines_of (kept ++ unread)))
first_reaches [] unread none = omega arith
first_reaches (byte ∷ kept) unread none =
    first_step (is_line_feed byte) byte kept unread refl none (λ later. first_reaches kept unread later)

-- lines of which there are some have the bytes of the first one and its line feed
first_counts : (count : ℕ) (lines : List (List ℕ)) → 0 < count → 0 < length lines
    → length (first_of lines) + 1 ≤ bytes_of_lines (take count lines)
first_counts zero lines some there = absurd (omega (arith, some))
first_counts (suc count) [] some there = absurd (omega (arith, there))
first_counts (suc count) (line ∷ lines) some there =
    omega (arith, sum_by-cons (λ each. length each + 1) line (take count lines))

-- the bytes of so many lines, of which the first ones are known
known_first : (number : ℕ) (taken more lines : List (List ℕ)) → lines ≡ taken ++ more → length taken ≤ number
    → bytes_of_lines (take number lines) ≡ bytes_of_lines taken + bytes_of_lines (take (number - length taken) more)
known_first number taken more lines is least =
    let count : number ≡ length taken + (number - length taken) = omega (arith, least) in
    ap₂ (λ n ls. bytes_of_lines (take n ls)) count is
    ∙ (ap bytes_of_lines (take-append-add taken more (number - length taken))
    ∙ sum_by-append (λ each. length each + 1) taken (take (number - length taken) more))

-- the bytes of good lines and of kept ones that are undecided show no refusal behind the lines
shows_none : (bounds : Bounds) (bytes : List ℕ) (taken : List (List ℕ)) (kept unread : List ℕ) (refusal : Refusal)
    (count : ℕ)
    → lines_of bytes ≡ taken ++ lines_of (kept ++ unread) → length taken + 1 ≤ refusal.number
    → position_or_len is_line_feed kept ≡ length kept → length kept ≤ bounds.line
    → count ≤ bytes_of_lines taken + length kept → count ≤ bounds.input
    → ShowsRefusal bounds (lines_of bytes) refusal count → ⊥
shows_none bounds bytes taken kept unread refusal count is behind none short most within (inl whole) =
    let more = lines_of (kept ++ unread) in
    let all : length (lines_of bytes) ≡ length taken + length more = ap length is ∙ length-append taken more in
    let first =
    first_counts (refusal.number - length taken) more (omega (arith, behind)) (omega (arith, all, whole.0, behind)) in
    omega (
      arith,
      known_first refusal.number taken more (lines_of bytes) is (omega (arith, behind)),
      first,
      first_reaches kept unread none,
      whole.1,
      most,
    )
shows_none bounds bytes taken kept unread refusal count is behind none short most within (inr (inl long)) =
    omega (
      arith,
      known_first (refusal.number - 1) taken (lines_of (kept ++ unread)) (lines_of bytes) is (omega (arith, behind)),
      long.1,
      most,
      short,
    )
shows_none bounds bytes taken kept unread refusal count is behind none short most within (inr (inr past)) =
    omega (arith, past.1, within)

-- a refusal stands behind good lines
behind_front : (bounds : Bounds) (report : Report) (bytes : List ℕ) (taken : List (List ℕ)) (refusal : Refusal)
    → GoodFront bounds report bytes taken → file_fault bounds report bytes ≡ Some refusal
    → length taken + 1 ≤ refusal.number
behind_front bounds report bytes taken refusal front is =
    refused_behind (first_fault 1 (line_faults bounds report (length bytes) [] (lines_of bytes))) bounds report bytes
    taken refusal front refl is

-- what was taken before a failed read shows no refusal
stopped_shows_none : (bounds : Bounds) (report : Report) (bytes : List ℕ) (left : Option (List ℕ))
    (taken : List (List ℕ)) (refusal : Refusal) (now : Moment)
    → StoppedBefore bounds report bytes left taken → file_fault bounds report bytes ≡ Some refusal → now.current ≡ true
    → now.left ≡ left
    → ShowsRefusal bounds (lines_of bytes) refusal (taken_of now bytes) → ⊥
stopped_shows_none bounds report bytes left taken refusal now before is current same shown =
    let unread : now.left ≡ Some before.unread = same ∙ before.left_is in
    let count : taken_of now bytes ≡ length bytes - length before.unread = rw (current, unread) refl in
    let sizes : length (before.kept ++ before.unread) ≡ length before.kept + length before.unread =
    length-append before.kept before.unread in
    let front : GoodFront bounds report bytes taken =
    record {
      more = lines_of (before.kept ++ before.unread);
      lines_are = before.lines_are;
      no_fault = before.no_fault;
    } in
    shows_none bounds bytes taken before.kept before.unread refusal (taken_of now bytes) before.lines_are
    (behind_front bounds report bytes taken refusal front is)
    before.undecided.0 before.undecided.1 (omega (arith, count, before.reached, sizes))
    (omega (arith, count, before.undecided.2, sizes)) shown

-- nothing was taken of a file that couldn't be opened
closed_shows_none : (bounds : Bounds) (report : Report) (bytes : List ℕ) (refusal : Refusal) (now : Moment)
    → file_fault bounds report bytes ≡ Some refusal → now.current ≡ false
    → ShowsRefusal bounds (lines_of bytes) refusal (taken_of now bytes) → ⊥
closed_shows_none bounds report bytes refusal now is current shown =
    let count : taken_of now bytes ≡ 0 = rw current refl in
    let front : GoodFront bounds report bytes [] =
    record { more = lines_of bytes; lines_are = refl; no_fault = refl } in
    shows_none bounds bytes [] [] bytes refusal (taken_of now bytes) refl
    (behind_front bounds report bytes [] refusal front is) refl (omega arith) (omega (arith, count))
    (omega (arith, count)) shown

-- a file with a refusal that wasn't reached, or without one
refusal_unreached : (bounds : Bounds) (bytes : List ℕ) (opened : ℕ) (now : Moment) (later : Type 0)
    (found : Option Refusal)
    → ((refusal : Refusal) → found ≡ Some refusal
    → (1 < opened) ⊎ ((opened ≡ 1) × ShowsRefusal bounds (lines_of bytes) refusal (taken_of now bytes)) → ⊥)
    → (found ≡ None → later → ⊥) → RefusalReached bounds bytes opened now later found → ⊥
refusal_unreached bounds bytes opened now later (Some refusal) faulty good = faulty refusal refl
refusal_unreached bounds bytes opened now later None faulty good = good refl

file_unreached : (bounds : Bounds) (report : Report) (opened : ℕ) (now : Moment) (later : List (List ℕ) → Type 0)
    (file : Option (List ℕ))
    → ((bytes : List ℕ) → file ≡ Some bytes → (refusal : Refusal) → file_fault bounds report bytes ≡ Some refusal
    → (1 < opened) ⊎ ((opened ≡ 1) × ShowsRefusal bounds (lines_of bytes) refusal (taken_of now bytes)) → ⊥)
    → ((bytes : List ℕ) → file ≡ Some bytes → file_fault bounds report bytes ≡ None → later (lines_of bytes) → ⊥)
    → FileReached bounds report opened now later file → ⊥
file_unreached bounds report opened now later None faulty good reached = absurd reached
file_unreached bounds report opened now later (Some bytes) faulty good reached =
    refusal_unreached bounds bytes opened now (later (lines_of bytes)) (file_fault bounds report bytes)
    (faulty bytes refl) (good bytes refl) reached

whole_unreached : (opened : ℕ) (later : Type 0) (found : Option Told)
    → (1 < opened → (told : Told) → found ≡ Some told → ⊥) → (found ≡ None → later → ⊥)
    → WholeReached opened later found → ⊥
whole_unreached opened later (Some told) faulty good reached = faulty reached told refl
whole_unreached opened later None faulty good reached = good refl reached

document_unreached : (bounds : Bounds) (opened : ℕ) (later : List ℕ → Type 0) (file : Option (List ℕ))
    → ((bytes : List ℕ) → file ≡ Some bytes → 1 < opened → (told : Told) → whole_fault bounds bytes ≡ Some told → ⊥)
    → ((bytes : List ℕ) → file ≡ Some bytes → whole_fault bounds bytes ≡ None → later bytes → ⊥)
    → DocumentReached bounds opened later file → ⊥
document_unreached bounds opened later None faulty good reached = absurd reached
document_unreached bounds opened later (Some bytes) faulty good reached =
    whole_unreached opened (later bytes) (whole_fault bounds bytes) (faulty bytes refl) (good bytes refl) reached

-- where no file of a plan was opened, none of its faults was reached
none_opened : (bounds : Bounds) (folder : Folder) (now : Moment) (plan : Plan) (opened : ℕ) → opened ≡ 0
    → PlanReached bounds folder now plan opened → ⊥
none_opened bounds folder now (Ends verdict) opened none reached = reached
none_opened bounds folder now (Pieces text) opened none reached = reached
none_opened bounds folder now (Lines name report next) opened none reached =
    file_unreached bounds report opened now (λ lines. PlanReached bounds folder now (next lines) (opened - 1))
    (file_of folder name)
    (λ bytes is refusal fault. not_first)
    (λ bytes is fault. none_opened bounds folder now (next (lines_of bytes)) (opened - 1) (omega (arith, none))) reached
  where
    not_first : {A : Type 0} → (1 < opened) ⊎ ((opened ≡ 1) × A) → ⊥
    not_first (inl more) = omega (arith, none, more)
    not_first (inr one) = omega (arith, none, one.0)
none_opened bounds folder now (Document name next) opened none reached =
    document_unreached bounds opened (λ bytes. PlanReached bounds folder now (next bytes) (opened - 1))
    (file_of folder name)
    (λ bytes is more told fault. omega (arith, none, more))
    (λ bytes is fault. none_opened bounds folder now (next bytes) (opened - 1) (omega (arith, none))) reached

-- a fault has another status
fault_isnt_three : (status : FaultStatus) → code_of status ≡ 3 → ⊥
fault_isnt_three Malformed is = omega (arith, is)
fault_isnt_three PastLimit is = omega (arith, is)

-- what is known of the rest of a run
abbrev Later : Bounds → Folder → (mid now : Moment) → Plan → (Answer → Type 0) → Type 0
Later bounds folder mid now plan ran =
    (answer : Answer) → ran answer → answer.status ≡ 3 → PlanReached bounds folder now plan (now.opens - mid.opens) → ⊥

-- at each end of a file
lines_unreached : (texts : Texts) (bounds : Bounds) (files : Option Folder) (folder : Folder) → files ≡ Some folder
    → (wanted : List ℕ) (names : List (List ℕ)) (report : Report) (next : List (List ℕ) → Plan)
    (before mid now : Moment) (given : Answer) (end : FileEnd)
    → FileRead bounds files wanted report before mid end
    → GoesOn texts wanted report end (λ lines answer. Ran texts bounds files wanted names (next lines) mid now answer)
    mid now given
    → given.status ≡ 3
    → ((taken : List (List ℕ))
    → Later bounds folder mid now (next taken) (Ran texts bounds files wanted names (next taken) mid now))
    → FileReached bounds report (now.opens - before.opens) now
    (λ lines. PlanReached bounds folder now (next lines) (now.opens - before.opens - 1)) (file_of folder wanted)
    → ⊥
lines_unreached texts bounds files folder known wanted names report next before mid now given ending.Unopened read goes
    three later reached =
    omega (arith, three, ap (λ (a : Answer). a.status) goes.0)
lines_unreached texts bounds files folder known wanted names report next before mid now given ending.Absent read goes
    three later reached =
    file_unreached bounds report (now.opens - before.opens) now
    (λ lines. PlanReached bounds folder now (next lines) (now.opens - before.opens - 1)) (file_of folder wanted)
    (λ bytes is refusal fault shown. subst (λ f. EndsIn bounds report f mid.left ending.Absent) is
    (read.told folder known))
    (λ bytes is fault behind. subst (λ f. EndsIn bounds report f mid.left ending.Absent) is (read.told folder known))
    reached
lines_unreached texts bounds files folder known wanted names report next before mid now given ending.CannotOpen read
    goes three later reached =
    let opens : now.opens ≡ before.opens + 1 = ap (λ (m : Moment). m.opens) goes.1 ∙ read.calls.0.opens in
    let current : now.current ≡ false = ap (λ (m : Moment). m.current) goes.1 ∙ read.calls.0.current_is in
    file_unreached bounds report (now.opens - before.opens) now
    (λ lines. PlanReached bounds folder now (next lines) (now.opens - before.opens - 1)) (file_of folder wanted)
    (λ bytes is refusal fault shown. elim shown [
      | inl more ↦ omega (arith, opens, more)
      | inr one ↦ closed_shows_none bounds report bytes refusal now fault current one.1
    ])
    (λ bytes is fault. none_opened bounds folder now (next (lines_of bytes)) (now.opens - before.opens - 1)
    (omega (arith, opens)))
    reached
lines_unreached texts bounds files folder known wanted names report next before mid now given (ending.CannotRead taken)
    read goes three later reached =
    let opens : now.opens ≡ before.opens + 1 = ap (λ (m : Moment). m.opens) goes.1 ∙ read.calls.0.opens in
    let current : now.current ≡ true = ap (λ (m : Moment). m.current) goes.1 ∙ read.calls.0.current_is in
    file_unreached bounds report (now.opens - before.opens) now
    (λ lines. PlanReached bounds folder now (next lines) (now.opens - before.opens - 1)) (file_of folder wanted)
    (λ bytes is refusal fault shown. elim shown [
      | inl more ↦ omega (arith, opens, more)
      | inr one ↦ stopped_shows_none bounds report bytes mid.left taken refusal now
          (subst (λ f. EndsIn bounds report f mid.left (ending.CannotRead taken)) is (read.told folder known)) fault
          current (ap (λ (m : Moment). m.left) goes.1) one.1
    ])
    (λ bytes is fault. none_opened bounds folder now (next (lines_of bytes)) (now.opens - before.opens - 1)
    (omega (arith, opens)))
    reached
lines_unreached texts bounds files folder known wanted names report next before mid now given
    (ending.Refused taken number told) read goes three later reached =
    fault_isnt_three told.status (sym (ap (λ (a : Answer). a.status) goes.0) ∙ three)
lines_unreached texts bounds files folder known wanted names report next before mid now given (ending.Wanting taken)
    read goes three later reached =
    omega (arith, three, ap (λ (a : Answer). a.status) goes.0)
lines_unreached texts bounds files folder known wanted names report next before mid now given
    (ending.Unwritten taken count) read goes three later reached =
    omega (arith, three, ap (λ (a : Answer). a.status) goes.0)
lines_unreached texts bounds files folder known wanted names report next before mid now given (ending.Passed taken) read
    goes three later reached =
    let opens : mid.opens ≡ before.opens + 1 = read.calls.0.opens in
    let rest : now.opens - before.opens - 1 ≡ now.opens - mid.opens = omega (arith, opens) in
    file_unreached bounds report (now.opens - before.opens) now
    (λ lines. PlanReached bounds folder now (next lines) (now.opens - before.opens - 1)) (file_of folder wanted)
    (λ bytes is refusal fault shown.
    let whole = subst (λ f. EndsIn bounds report f mid.left (ending.Passed taken)) is (read.told folder known) in
    let none : file_fault bounds report bytes ≡ None = whole.no_fault in
    absurd (cc))
    (λ bytes is fault behind.
    let whole = subst (λ f. EndsIn bounds report f mid.left (ending.Passed taken)) is (read.told folder known) in
    later taken goes.0 goes.2 (sym (ap (λ (a : Answer). a.status) goes.1) ∙ three)
    (subst (λ lines. PlanReached bounds folder now (next lines) (now.opens - mid.opens)) (sym whole.lines_are)
    (subst (λ opened. PlanReached bounds folder now (next (lines_of bytes)) opened) rest behind))) reached

-- at each end of a document
whole_file_unreached : (texts : Texts) (bounds : Bounds) (files : Option Folder) (folder : Folder) → files ≡ Some folder
    → (wanted : List ℕ) (names : List (List ℕ)) (next : List ℕ → Plan) (before mid now : Moment) (given : Answer)
    (end : DocumentEnd)
    → DocumentRead bounds files wanted before mid end
    → GoesOnWith texts wanted end (λ bytes answer. Ran texts bounds files wanted names (next bytes) mid now answer) mid
    now given
    → given.status ≡ 3
    → ((taken : List ℕ)
    → Later bounds folder mid now (next taken) (Ran texts bounds files wanted names (next taken) mid now))
    → DocumentReached bounds (now.opens - before.opens)
    (λ bytes. PlanReached bounds folder now (next bytes) (now.opens - before.opens - 1)) (file_of folder wanted)
    → ⊥
whole_file_unreached texts bounds files folder known wanted names next before mid now given document.Unopened read goes
    three later reached =
    omega (arith, three, ap (λ (a : Answer). a.status) goes.0)
whole_file_unreached texts bounds files folder known wanted names next before mid now given document.Absent read goes
    three later reached =
    document_unreached bounds (now.opens - before.opens)
    (λ bytes. PlanReached bounds folder now (next bytes) (now.opens - before.opens - 1)) (file_of folder wanted)
    (λ bytes is more told fault. subst (λ f. EndsWhere bounds f document.Absent) is (read.told folder known))
    (λ bytes is fault behind. subst (λ f. EndsWhere bounds f document.Absent) is (read.told folder known)) reached
whole_file_unreached texts bounds files folder known wanted names next before mid now given document.CannotOpen read
    goes three later reached =
    let opens : now.opens ≡ before.opens + 1 = ap (λ (m : Moment). m.opens) goes.1 ∙ read.calls.0.opens in
    document_unreached bounds (now.opens - before.opens)
    (λ bytes. PlanReached bounds folder now (next bytes) (now.opens - before.opens - 1)) (file_of folder wanted)
    (λ bytes is more told fault. omega (arith, opens, more))
    (λ bytes is fault. none_opened bounds folder now (next bytes) (now.opens - before.opens - 1) (omega (arith, opens)))
    reached
whole_file_unreached texts bounds files folder known wanted names next before mid now given document.CannotRead read
    goes three later reached =
    let opens : now.opens ≡ before.opens + 1 = ap (λ (m : Moment). m.opens) goes.1 ∙ read.calls.0.opens in
    document_unreached bounds (now.opens - before.opens)
    (λ bytes. PlanReached bounds folder now (next bytes) (now.opens - before.opens - 1)) (file_of folder wanted)
    (λ bytes is more told fault. omega (arith, opens, more))
    (λ bytes is fault. none_opened bounds folder now (next bytes) (now.opens - before.opens - 1) (omega (arith, opens)))
    reached
whole_file_unreached texts bounds files folder known wanted names next before mid now given document.TooLong read goes
    three later reached =
    omega (arith, three, ap (λ (a : Answer). a.status) goes.0)
whole_file_unreached texts bounds files folder known wanted names next before mid now given document.Wanting read goes
    three later reached =
    omega (arith, three, ap (λ (a : Answer). a.status) goes.0)
whole_file_unreached texts bounds files folder known wanted names next before mid now given (document.Whole taken) read
    goes three later reached =
    let opens : mid.opens ≡ before.opens + 1 = read.calls.0.opens in
    let rest : now.opens - before.opens - 1 ≡ now.opens - mid.opens = omega (arith, opens) in
    document_unreached bounds (now.opens - before.opens)
    (λ bytes. PlanReached bounds folder now (next bytes) (now.opens - before.opens - 1)) (file_of folder wanted)
    (λ bytes is more told fault.
    let whole = subst (λ f. EndsWhere bounds f (document.Whole taken)) is (read.told folder known) in
    let none : whole_fault bounds bytes ≡ None = whole.1 in
    absurd (cc))
    (λ bytes is fault behind.
    let whole = subst (λ f. EndsWhere bounds f (document.Whole taken)) is (read.told folder known) in
    later taken given goes three
    (subst (λ each. PlanReached bounds folder now (next each) (now.opens - mid.opens)) (sym whole.0)
    (subst (λ opened. PlanReached bounds folder now (next bytes) opened) rest behind))) reached

-- of a run at status 3
plan_unreached : (texts : Texts) (bounds : Bounds) (files : Option Folder) (folder : Folder) → files ≡ Some folder
    → (last : List ℕ) (names : List (List ℕ)) (plan : Plan) (before now : Moment) (given : Answer)
    → Ran texts bounds files last names plan before now given → given.status ≡ 3
    → PlanReached bounds folder now plan (now.opens - before.opens) → ⊥
plan_unreached texts bounds files folder known last [] (Ends verdict) before now given ran three reached = reached
plan_unreached texts bounds files folder known last (name ∷ names) (Ends verdict) before now given ran three
    reached = reached
plan_unreached texts bounds files folder known last [] (Pieces text) before now given ran three reached = reached
plan_unreached texts bounds files folder known last (name ∷ names) (Pieces text) before now given ran three
    reached = reached
plan_unreached texts bounds files folder known last [] (Lines wanted report next) before now given ran three
    reached = ran
plan_unreached texts bounds files folder known last (name ∷ names) (Lines wanted report next) before now given ran three
    reached =
    lines_unreached texts bounds files folder known wanted names report next before ran.1.1.0 now given ran.1.0
    ran.1.1.1 ran.1.1.2 three
    (λ taken answer rest. plan_unreached texts bounds files folder known wanted names (next taken) ran.1.1.0 now answer
    rest)
    reached
plan_unreached texts bounds files folder known last [] (Document wanted next) before now given ran three reached = ran
plan_unreached texts bounds files folder known last (name ∷ names) (Document wanted next) before now given ran three
    reached =
    whole_file_unreached texts bounds files folder known wanted names next before ran.1.1.0 now given ran.1.0 ran.1.1.1
    ran.1.1.2 three
    (λ taken answer rest. plan_unreached texts bounds files folder known wanted names (next taken) ran.1.1.0 now answer
    rest)
    reached

words_unreached : (texts : Texts) (bounds : Bounds) (files : Option Folder) (folder : Folder) → files ≡ Some folder
    → (task : Option Task) (before now : Moment) (given : Answer)
    → WordsRan texts bounds files task before now given → given.status ≡ 3 → IsReached bounds folder task before now → ⊥
words_unreached texts bounds files folder known None before now given ran three reached = reached
words_unreached texts bounds files folder known (Some task) before now given (inl memory) three reached =
    omega (arith, three, ap (λ (a : Answer). a.status) memory.1)
words_unreached texts bounds files folder known (Some task) before now given (inr ran) three reached =
    plan_unreached texts bounds files folder known [] task.names task.plan before now given ran three reached

-- at status 3 no fault was reached
pub unreached_by : {texts : Texts} {bounds : Bounds} {task : Option Task} {before
    now : Outside} {status : ℕ} {given : Answer}
    → TaskEnded texts bounds task before now status given
    → (folder : Folder) → before.store.files ≡ Some folder
    → IsReached bounds folder task before.store.moment now.store.moment → status ≢ 3
unreached_by {texts} {bounds} {task} {before} {now} {status} {given} e folder known reached = λ three.
    words_unreached texts bounds before.store.files folder known task before.store.moment now.store.moment given e.ran
    (sym (told_by e (λ four. omega (arith, three, four))) ∙ three) reached
