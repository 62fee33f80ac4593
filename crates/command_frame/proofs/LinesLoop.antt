-- What holds while the lines of a file are taken.
use Rattle.std.proofs.Common.{◌≡◌, ◌≢◌, ℕ, Bool, true, false, if◌then◌else◌, nat_le, ◌+◌, ◌-◌, ◌<◌, ◌≤◌, List, [], ◌∷◌}
use Rattle.std.proofs.Common.{◌++◌, length, Option, Some, None, Result, Ok, Err, refl, ap, sym, subst, ◌∙◌, append-nil}
use Rattle.std.proofs.Common.{append_assoc, arith}
use Rattle.std.proofs.lemmas.Bool.{le-leb, lt-leb}
use Rattle.std.proofs.lemmas.List.{length_push}
use Rattle.std.specs.Option.{option_map, option_or}
use Rattle.std.specs.Io.KnownBytes.{append_known, prepend_known}
use Rattle.hp_outside.specs.declared.span.Span.{Span}
use Rattle.hp_outside.specs.declared.span.LineFault.{LineFault}
use Rattle.hp_outside.specs.declared.span.LineFault.TheVariants as reading
use Rattle.hp_outside.specs.LineReaderState.{LineReaderState}
use Rattle.hp_outside.specs.Lines.{after_line, first_line, lines_of}
use Rattle.hp_outside.specs.NextLine.{GivesLine, IsInputTooLong, IsLineTooLong, IsUndecided, NextAnswer}
use Rattle.hp_outside.specs.Taken.{WhereTold}
use Rattle.command_frame.specs.Told.{Told}
use Rattle.command_frame.specs.Report.{Report, written}
use Rattle.command_frame.specs.FirstFault.{Bounds, Refusal, bytes_of_lines, end_refusal, first_fault, input_too_long}
use Rattle.command_frame.specs.FirstFault.{is_ended, length_fault, line_fault, line_faults, line_too_long}
use Rattle.command_frame.specs.LinesRun.{Gained}
use Rattle.command_frame.specs.FileRead.{GoodFront, PassedWhole, RefusedAt, StoppedBefore}
use Rattle.command_frame.proofs.FaultLemmas.{bytes_of_lines-push, fault_found, fault_passes, good_push}
use Rattle.command_frame.proofs.FaultLemmas.{line_has_content_fault, line_has_length_fault, line_is_good}
use Rattle.command_frame.proofs.LineLemmas.{after_line_length, first_line_reaches, input_is_too_long, length_is_good}
use Rattle.command_frame.proofs.LineLemmas.{line_is_too_long, lines_of_first}
use Rattle.command_frame.proofs.OutputLemmas.{gained_more, take_front}

-- a fault at a line
abbrev refusal : ℕ → Told → Refusal
refusal number told = record { number = number; told = told }

-- bounds by their numbers
abbrev pub bounds_with : ℕ → ℕ → Bounds
bounds_with input line = record { input = input; line = line }

-- the bounds that a reader of lines keeps
abbrev pub bounds_at : LineReaderState → Bounds
bounds_at reader = record { input = reader.input; line = reader.line_limit }

-- where the file's bytes are told: what is left of them, behind the lines that were taken, which have no fault
pub record ToldReading (bounds : Bounds) (report : Report) (reader : LineReaderState) (bytes : List ℕ)
    (taken : List (List ℕ)) (left : Option (List ℕ)) : Type 0 where
  pub rest : List ℕ
  pub rest_is : prepend_known reader.kept left ≡ Some rest
  pub lines_are : lines_of bytes ≡ taken ++ lines_of rest
  pub faults : first_fault 1 (line_faults bounds report (length bytes) [] (lines_of bytes))
      ≡ first_fault (length taken + 1) (line_faults bounds report (length bytes) taken (lines_of rest))
  pub good : first_fault 1 (line_faults bounds report (length bytes) [] taken) ≡ None
  pub passed : reader.passed + length rest ≡ length bytes
  pub before : 0 < length rest → reader.passed ≡ bytes_of_lines taken
  pub reached : reader.passed ≤ bytes_of_lines taken
  pub ended : reader.line_ended ≡ is_ended reader.passed taken

-- the lines that were taken so far, and what they gave
pub record Reading (bounds : Bounds) (report : Report) (has : List (List ℕ) → Type 0) (reader : LineReaderState)
    (start left old now : Option (List ℕ)) (kept_back : List ℕ) : Type 0 where
  pub taken : List (List ℕ)
  pub has_taken : has taken
  pub number : reader.number ≡ length taken
  pub told : WhereTold start (λ bytes. ToldReading bounds report reader bytes taken left)
  pub gained : Gained old now kept_back (written report taken)

-- nothing was taken
pub reading_new : (bounds : Bounds) (report : Report) (has : List (List ℕ) → Type 0) (reader : LineReaderState)
    (start old : Option (List ℕ)) (kept_back : List ℕ)
    → reader.kept ≡ [] → reader.passed ≡ 0 → reader.number ≡ 0 → reader.line_ended ≡ true → has [] → kept_back ≡ []
    → old ≡ append_known old [] → Reading bounds report has reader start start old old kept_back
reading_new bounds report has reader start old kept_back kept passed number ended nothing empty same = record {
  taken = [];
  has_taken = nothing;
  number = number;
  told = λ bytes is. record {
    rest = bytes;
    rest_is = ap (λ k. prepend_known k start) kept ∙ ap (prepend_known []) is;
    lines_are = refl;
    faults = refl;
    good = refl;
    passed = omega (arith, passed);
    before = λ some. passed;
    reached = omega (arith, passed);
    ended = ended ∙ sym (le-leb _ _ (omega arith));
  };
  gained = record { early = []; written = same; all = empty };
}

-- the bytes that are known behind others
pub left_behind : (kept : List ℕ) (left : Option (List ℕ)) (rest : List ℕ) → prepend_known kept left ≡ Some rest
    → (unread : List ℕ) × (left ≡ Some unread) × (rest ≡ kept ++ unread)
left_behind kept None rest is = absurd (cc)
left_behind kept (Some unread) rest is = (unread, refl, cc)

-- a first line that isn't empty is within the bytes
first_line_within : (rest : List ℕ) → 0 < length (first_line rest) → 0 < length rest
first_line_within [] some = absurd (omega arith)
first_line_within (byte ∷ rest) some = omega arith

-- the length of the next line has no fault where the reader gives it
next_length : (bounds : Bounds) (passed before : ℕ) (bytes rest : List ℕ) → passed + length rest ≡ length bytes
    → passed ≡ before
    → ¬ IsLineTooLong bounds.input bounds.line passed rest → ¬ IsInputTooLong bounds.input bounds.line passed rest
    → length_fault bounds (length bytes) before (length (first_line rest)) ≡ None
next_length bounds passed before bytes rest total same short within =
    length_is_good bounds (length bytes) before (length (first_line rest))
    (λ long. short (long.0, omega (arith, long.1, same)))
    (λ past. within (omega (arith, past.0, total), omega (arith, past.1, same), short))

-- whether a line behind others that end with their line feeds ends with its own
line_ends : (passed before size next : ℕ) (ends : Bool) → passed ≡ before
    → next ≡ passed + size + (if ends then 1 else 0) → ends ≡ nat_le (before + (size + 1)) next
line_ends passed before size next true same step = sym (le-leb _ _ (omega (arith, same, step)))
line_ends passed before size next false same step = sym (lt-leb _ _ (omega (arith, same, step)))

-- one line more
pub told_more : (bounds : Bounds) (report : Report) (reader next : LineReaderState) (bytes : List ℕ)
    (taken : List (List ℕ)) (left new_left : Option (List ℕ)) (line : List ℕ)
    → (before : ToldReading bounds report reader bytes taken left)
    → 0 < length before.rest → ¬ IsLineTooLong bounds.input bounds.line reader.passed before.rest
    → ¬ IsInputTooLong bounds.input bounds.line reader.passed before.rest
    → line ≡ first_line before.rest → prepend_known next.kept new_left ≡ Some (after_line before.rest)
    → lines_of before.rest ≡ line ∷ lines_of (after_line before.rest)
    → next.passed + length (after_line before.rest) ≡ reader.passed + length before.rest
    → next.passed ≡ reader.passed + length line + (if next.line_ended then 1 else 0)
    → report.line_fault taken line ≡ None → ToldReading bounds report next bytes (taken ++ line ∷ []) new_left
told_more bounds report reader next bytes taken left new_left line before some short within is rest_is lines_are passed
    step good =
    let length_good : length_fault bounds (length bytes) (bytes_of_lines taken) (length line) ≡ None =
    ap (λ l. length_fault bounds (length bytes) (bytes_of_lines taken) (length l)) is
    ∙ next_length bounds reader.passed (bytes_of_lines taken) bytes before.rest before.passed (before.before some) short
    within in
    let line_good : line_fault bounds report (length bytes) taken line ≡ None =
    line_is_good bounds report (length bytes) taken line length_good good in
    let count : length (taken ++ line ∷ []) ≡ length taken + 1 = length_push taken line in
    record {
      rest = after_line before.rest;
      rest_is = rest_is;
      lines_are =
          before.lines_are
          ∙ (ap (λ ls. taken ++ ls) lines_are
          ∙ sym (append_assoc taken (line ∷ []) (lines_of (after_line before.rest))));
      faults = before.faults
          ∙ (ap (λ ls. first_fault (length taken + 1) (line_faults bounds report (length bytes) taken ls)) lines_are
          ∙ (fault_passes bounds report (length bytes) (length taken + 1) taken line (lines_of (after_line before.rest))
          line_good
          ∙ ap
          (λ n. first_fault (n + 1)
          (line_faults bounds report (length bytes) (taken ++ line ∷ []) (lines_of (after_line before.rest))))
          (sym count)));
      good = good_push bounds report (length bytes) 1 [] taken line before.good line_good;
      passed = omega (arith, passed, before.passed);
      before = λ more.
          let size : length before.rest ≡ length (first_line before.rest) + 1 + length (after_line before.rest) =
          after_line_length before.rest more in
          let same : length line ≡ length (first_line before.rest) = ap length is in
          omega (arith, passed, size, same, before.before some, bytes_of_lines-push taken line);
      reached =
          let same : length line ≡ length (first_line before.rest) = ap length is in
          omega
          (arith, passed, first_line_reaches before.rest, same, before.before some, bytes_of_lines-push taken line);
      ended =
          line_ends reader.passed (bytes_of_lines taken) (length line) next.passed next.line_ended (before.before some)
          step
          ∙ ap (λ n. nat_le n next.passed) (sym (bytes_of_lines-push taken line));
    }

-- the lines that were taken are a front without a fault
told_front : (bounds : Bounds) (report : Report) (reader : LineReaderState) (bytes : List ℕ) (taken : List (List ℕ))
    (left : Option (List ℕ))
    → ToldReading bounds report reader bytes taken left
    → GoodFront bounds report bytes taken
told_front bounds report reader bytes taken left before =
    record { more = lines_of before.rest; lines_are = before.lines_are; no_fault = before.good }

-- the refusal of a file whose next line has a fault
refused_at : (bounds : Bounds) (report : Report) (reader : LineReaderState) (bytes : List ℕ) (taken : List (List ℕ))
    (left : Option (List ℕ)) (line : List ℕ) (more : List (List ℕ)) (number : ℕ) (told : Told)
    → (before : ToldReading bounds report reader bytes taken left) → lines_of before.rest ≡ line ∷ more
    → number ≡ length taken + 1
    → line_fault bounds report (length bytes) taken line ≡ Some told → RefusedAt bounds report bytes taken number told
refused_at bounds report reader bytes taken left line more number told before lines_are number_is found = record {
  refusal =
      let first : first_fault 1 (line_faults bounds report (length bytes) [] (lines_of bytes))
      ≡ Some (refusal number told) =
      before.faults
      ∙ (ap (λ ls. first_fault (length taken + 1) (line_faults bounds report (length bytes) taken ls)) lines_are
      ∙ (ap (λ n. first_fault n (line_faults bounds report (length bytes) taken (line ∷ more))) (sym number_is)
      ∙ fault_found bounds report (length bytes) number taken line more told found)) in
      ap (λ one. option_or one (end_refusal report (length bytes) (lines_of bytes))) first;
  before = take_front taken (lines_of before.rest) (lines_of bytes) number before.lines_are number_is;
  front = told_front bounds report reader bytes taken left before;
}

-- what the line says has a fault
told_content_fault : (bounds : Bounds) (report : Report) (reader : LineReaderState) (bytes : List ℕ)
    (taken : List (List ℕ)) (left : Option (List ℕ)) (line : List ℕ) (number : ℕ) (told : Told)
    → (before : ToldReading bounds report reader bytes taken left)
    → 0 < length before.rest → ¬ IsLineTooLong bounds.input bounds.line reader.passed before.rest
    → ¬ IsInputTooLong bounds.input bounds.line reader.passed before.rest
    → line ≡ first_line before.rest → lines_of before.rest ≡ line ∷ lines_of (after_line before.rest)
    → number ≡ length taken + 1
    → report.line_fault taken line ≡ Some told → RefusedAt bounds report bytes taken number told
told_content_fault bounds report reader bytes taken left line number told before some short within is lines_are
    number_is found =
    let length_good : length_fault bounds (length bytes) (bytes_of_lines taken) (length line) ≡ None =
    ap (λ l. length_fault bounds (length bytes) (bytes_of_lines taken) (length l)) is
    ∙ next_length bounds reader.passed (bytes_of_lines taken) bytes before.rest before.passed (before.before some) short
    within in
    refused_at bounds report reader bytes taken left line (lines_of (after_line before.rest)) number told before
    lines_are number_is
    (line_has_content_fault bounds report (length bytes) taken line told length_good found)

-- the line is too long
told_line_too_long : (bounds : Bounds) (report : Report) (reader : LineReaderState) (bytes : List ℕ)
    (taken : List (List ℕ)) (left : Option (List ℕ)) (number : ℕ)
    → (before : ToldReading bounds report reader bytes taken left)
    → IsLineTooLong bounds.input bounds.line reader.passed before.rest → number ≡ length taken + 1
    → RefusedAt bounds report bytes taken number line_too_long
told_line_too_long bounds report reader bytes taken left number before long number_is =
    let some : 0 < length before.rest = first_line_within before.rest (omega (arith, long.0)) in
    refused_at bounds report reader bytes taken left (first_line before.rest) (lines_of (after_line before.rest)) number
    line_too_long before (lines_of_first before.rest some) number_is
    (line_has_length_fault bounds report (length bytes) taken (first_line before.rest) line_too_long
    (line_is_too_long bounds (length bytes) (bytes_of_lines taken) (length (first_line before.rest)) long.0
    (omega (arith, long.1, before.before some))))

-- the file is too long
told_input_too_long : (bounds : Bounds) (report : Report) (reader : LineReaderState) (bytes : List ℕ)
    (taken : List (List ℕ)) (left : Option (List ℕ)) (number : ℕ)
    → (before : ToldReading bounds report reader bytes taken left)
    → IsInputTooLong bounds.input bounds.line reader.passed before.rest → reader.passed ≤ bounds.input
    → number ≡ length taken + 1
    → RefusedAt bounds report bytes taken number input_too_long
told_input_too_long bounds report reader bytes taken left number before long passed number_is =
    let some : 0 < length before.rest = omega (arith, long.0, passed) in
    refused_at bounds report reader bytes taken left (first_line before.rest) (lines_of (after_line before.rest)) number
    input_too_long before (lines_of_first before.rest some) number_is
    (line_has_length_fault bounds report (length bytes) taken (first_line before.rest) input_too_long
    (input_is_too_long bounds (length bytes) (bytes_of_lines taken) (length (first_line before.rest))
    (λ short. long.2 (short.0, omega (arith, short.1, before.before some))) (omega (arith, long.0, before.passed))
    (omega (arith, long.1, before.before some))))

-- all lines were taken
all_taken : (bounds : Bounds) (report : Report) (reader : LineReaderState) (bytes : List ℕ) (taken : List (List ℕ))
    (left : Option (List ℕ))
    → (before : ToldReading bounds report reader bytes taken left) → before.rest ≡ []
    → (lines_of bytes ≡ taken) × (first_fault 1 (line_faults bounds report (length bytes) [] (lines_of bytes)) ≡ None)
all_taken bounds report reader bytes taken left before none =
    let lines : lines_of bytes ≡ taken =
    before.lines_are ∙ (ap (λ rest. taken ++ lines_of rest) none ∙ append-nil taken) in
    (lines, ap (λ ls. first_fault 1 (line_faults bounds report (length bytes) [] ls)) lines ∙ before.good)

-- the end is judged by what the reader says of the last line
end_known : (bounds : Bounds) (report : Report) (reader : LineReaderState) (bytes : List ℕ) (taken : List (List ℕ))
    (left : Option (List ℕ))
    → (before : ToldReading bounds report reader bytes taken left) → before.rest ≡ []
    → report.end_fault taken (is_ended (length bytes) taken) ≡ report.end_fault taken reader.line_ended
end_known bounds report reader bytes taken left before none =
    ap (report.end_fault taken)
    (ap (λ total. is_ended total taken) (omega (arith, before.passed, ap length none)) ∙ sym before.ended)

told_passed : (bounds : Bounds) (report : Report) (reader : LineReaderState) (bytes : List ℕ) (taken : List (List ℕ))
    (left : Option (List ℕ))
    → (before : ToldReading bounds report reader bytes taken left) → before.rest ≡ []
    → report.end_fault taken reader.line_ended ≡ None → PassedWhole bounds report bytes taken
told_passed bounds report reader bytes taken left before none ends =
    let all = all_taken bounds report reader bytes taken left before none in
    let end_none : end_refusal report (length bytes) (lines_of bytes) ≡ None =
    ap (end_refusal report (length bytes)) all.0
    ∙ ap (option_map (refusal (length taken + 1)))
    (end_known bounds report reader bytes taken left before none ∙ ends) in
    record {
      no_fault = ap (λ one. option_or one (end_refusal report (length bytes) (lines_of bytes))) all.1 ∙ end_none;
      lines_are = sym all.0;
    }

told_end_fault : (bounds : Bounds) (report : Report) (reader : LineReaderState) (bytes : List ℕ) (taken : List (List ℕ))
    (left : Option (List ℕ)) (number : ℕ) (told : Told)
    → (before : ToldReading bounds report reader bytes taken left) → before.rest ≡ []
    → number ≡ length taken + 1 → report.end_fault taken reader.line_ended ≡ Some told
    → RefusedAt bounds report bytes taken number told
told_end_fault bounds report reader bytes taken left number told before none number_is ends =
    let all = all_taken bounds report reader bytes taken left before none in
    let end_is : end_refusal report (length bytes) taken ≡ Some (refusal number told) =
    ap (option_map (refusal (length taken + 1))) (end_known bounds report reader bytes taken left before none ∙ ends)
    ∙ ap (λ n. Some (refusal n told)) (sym number_is) in
    record {
      refusal =
          ap (λ one. option_or one (end_refusal report (length bytes) (lines_of bytes))) all.1
          ∙ (ap (end_refusal report (length bytes)) all.0 ∙ end_is);
      before = take_front taken (lines_of before.rest) (lines_of bytes) number before.lines_are number_is;
      front = told_front bounds report reader bytes taken left before;
    }

-- a read failed
told_stopped : (bounds : Bounds) (report : Report) (reader next : LineReaderState) (bytes : List ℕ)
    (taken : List (List ℕ)) (left new_left : Option (List ℕ))
    → (before : ToldReading bounds report reader bytes taken left)
    → next.passed ≡ reader.passed → prepend_known next.kept new_left ≡ prepend_known reader.kept left
    → IsUndecided bounds.input bounds.line next.passed next.kept → StoppedBefore bounds report bytes new_left taken
told_stopped bounds report reader next bytes taken left new_left before passed same undecided =
    let unread = left_behind next.kept new_left before.rest (same ∙ before.rest_is) in
    let place : next.passed ≡ length bytes - length (next.kept ++ unread.0) =
    omega (arith, passed, before.passed, ap length unread.2) in
    record {
      kept = next.kept;
      unread = unread.0;
      left_is = unread.1;
      lines_are = before.lines_are ∙ ap (λ rest. taken ++ lines_of rest) unread.2;
      reached = omega (arith, before.reached, before.passed, ap length unread.2);
      no_fault = before.good;
      undecided = subst (λ n. IsUndecided bounds.input bounds.line n next.kept) place undecided;
    }

-- what the next call answers, at the bounds
answer_at : (bounds : Bounds) (reader : LineReaderState) (rest : List ℕ) (result other : Result (Option Span) LineFault)
    → reader.input ≡ bounds.input → reader.line_limit ≡ bounds.line → result ≡ other
    → NextAnswer reader.input reader.line_limit reader.passed rest result
    → NextAnswer bounds.input bounds.line reader.passed rest other
answer_at bounds reader rest result other input line is answers =
    subst (λ r. NextAnswer bounds.input bounds.line reader.passed rest r) is
    (subst (λ l. NextAnswer bounds.input l reader.passed rest result) line
    (subst (λ i. NextAnswer i reader.line_limit reader.passed rest result) input answers))

-- a byte is left
some_left : (rest : List ℕ) → rest ≢ [] → 0 < length rest
some_left [] some = absurd (some refl)
some_left (byte ∷ rest) some = omega arith

-- what the reader's answers are about
abbrev Answers : LineReaderState → Option (List ℕ) → Result (Option Span) LineFault → Type 0
Answers reader left result =
    WhereTold (prepend_known reader.kept left)
    (λ rest. NextAnswer reader.input reader.line_limit reader.passed rest result)

abbrev Gives : LineReaderState → LineReaderState → Option (List ℕ) → Option (List ℕ) → Result (Option Span) LineFault
    → Type 0
Gives reader next left new_left result =
    WhereTold (prepend_known reader.kept left)
    (λ rest. GivesLine reader.passed rest next.passed (prepend_known next.kept new_left) next.line result)

-- a line was given and taken
pub read_more : (bounds : Bounds) (report : Report) (has new_has : List (List ℕ) → Type 0)
    (reader next : LineReaderState) (start left new_left old now new : Option (List ℕ)) (kept_back added kept : List ℕ)
    (result : Result (Option Span) LineFault) (span : Span)
    → Reading bounds report has reader start left old now kept_back → reader.input ≡ bounds.input
    → reader.line_limit ≡ bounds.line → result ≡ Ok (Some span)
    → Answers reader left result → Gives reader next left new_left result
    → next.passed ≡ reader.passed + length next.line + (if next.line_ended then 1 else 0)
    → next.number ≡ reader.number + 1 → ((lines : List (List ℕ)) → has lines → new_has (lines ++ next.line ∷ []))
    → ((lines : List (List ℕ)) → has lines → report.line_fault lines next.line ≡ None)
    → ((lines : List (List ℕ)) → has lines → added ≡ kept_back ++ report.gains lines next.line)
    → ((early : List ℕ) × ((new ≡ append_known now early) × (early ++ kept ≡ added)))
    → Reading bounds report new_has next start new_left old new kept
read_more bounds report has new_has reader next start left new_left old now new kept_back added kept result span before
    input line is answers gives step number takes good gives_bytes passed_on = record {
      taken = before.taken ++ next.line ∷ [];
      has_taken = takes before.taken before.has_taken;
      number = number ∙ (ap (λ n. n + 1) before.number ∙ sym (length_push before.taken next.line));
      told = λ bytes known.
          let told = before.told bytes known in
          let answer =
          answer_at bounds reader told.rest result (Ok (Some span)) input line is (answers told.rest told.rest_is) in
          let given : GivesLine reader.passed told.rest next.passed (prepend_known next.kept new_left) next.line
          (Ok (Some span)) =
          subst (λ r. GivesLine reader.passed told.rest next.passed (prepend_known next.kept new_left) next.line r) is
          (gives told.rest told.rest_is) in
          told_more bounds report reader next bytes before.taken left new_left next.line told
          (some_left told.rest answer.0)
          answer.1 answer.2
          given.0 given.1 given.2 given.3 step (good before.taken before.has_taken);
      gained =
          gained_more report before.taken next.line old now new kept_back added kept before.gained
          (gives_bytes before.taken before.has_taken) passed_on.0 passed_on.1.0 passed_on.1.1;
    }

-- a line was given, and what it says has a fault
pub read_fault : (bounds : Bounds) (report : Report) (has : List (List ℕ) → Type 0) (reader next : LineReaderState)
    (start left new_left old now : Option (List ℕ)) (kept_back : List ℕ)
    (result : Result (Option Span) LineFault) (span : Span) (number : ℕ) (told : Told)
    → (before : Reading bounds report has reader start left old now kept_back) → reader.input ≡ bounds.input
    → reader.line_limit ≡ bounds.line → result ≡ Ok (Some span)
    → Answers reader left result → Gives reader next left new_left result
    → number ≡ reader.number + 1 → ((lines : List (List ℕ)) → has lines → report.line_fault lines next.line ≡ Some told)
    → WhereTold start (λ bytes. RefusedAt bounds report bytes before.taken number told)
read_fault bounds report has reader next start left new_left old now kept_back result span number told before input line
    is answers gives number_is found bytes known =
    let reads = before.told bytes known in
    let answer =
    answer_at bounds reader reads.rest result (Ok (Some span)) input line is (answers reads.rest reads.rest_is) in
    let given : GivesLine reader.passed reads.rest next.passed (prepend_known next.kept new_left) next.line
    (Ok (Some span)) =
    subst (λ r. GivesLine reader.passed reads.rest next.passed (prepend_known next.kept new_left) next.line r) is
    (gives reads.rest reads.rest_is) in
    told_content_fault bounds report reader bytes before.taken left next.line number told reads
    (some_left reads.rest answer.0) answer.1 answer.2
    given.0 given.2 (number_is ∙ ap (λ n. n + 1) before.number) (found before.taken before.has_taken)

-- the next line or the file is too long
pub read_line_too_long : (bounds : Bounds) (report : Report) (has : List (List ℕ) → Type 0) (reader : LineReaderState)
    (start left old now : Option (List ℕ)) (kept_back : List ℕ) (result : Result (Option Span) LineFault) (number : ℕ)
    → (before : Reading bounds report has reader start left old now kept_back) → reader.input ≡ bounds.input
    → reader.line_limit ≡ bounds.line → result ≡ Err reading.LineTooLong
    → Answers reader left result → number ≡ reader.number + 1
    → WhereTold start (λ bytes. RefusedAt bounds report bytes before.taken number line_too_long)
read_line_too_long bounds report has reader start left old now kept_back result number before input line is answers
    number_is bytes known =
    let told = before.told bytes known in
    told_line_too_long bounds report reader bytes before.taken left number told
    (answer_at bounds reader told.rest result (Err reading.LineTooLong) input line is (answers told.rest told.rest_is))
    (number_is ∙ ap (λ n. n + 1) before.number)

pub read_input_too_long : (bounds : Bounds) (report : Report) (has : List (List ℕ) → Type 0) (reader : LineReaderState)
    (start left old now : Option (List ℕ)) (kept_back : List ℕ) (result : Result (Option Span) LineFault) (number : ℕ)
    → (before : Reading bounds report has reader start left old now kept_back) → reader.input ≡ bounds.input
    → reader.line_limit ≡ bounds.line → reader.passed ≤ bounds.input → result ≡ Err reading.InputTooLong
    → Answers reader left result → number ≡ reader.number + 1
    → WhereTold start (λ bytes. RefusedAt bounds report bytes before.taken number input_too_long)
read_input_too_long bounds report has reader start left old now kept_back result number before input line within is
    answers number_is bytes known =
    let told = before.told bytes known in
    told_input_too_long bounds report reader bytes before.taken left number told
    (answer_at bounds reader told.rest result (Err reading.InputTooLong) input line is (answers told.rest told.rest_is))
    within (number_is ∙ ap (λ n. n + 1) before.number)

-- the end was seen
pub read_end : (bounds : Bounds) (report : Report) (has : List (List ℕ) → Type 0) (reader : LineReaderState)
    (start left old now : Option (List ℕ)) (kept_back : List ℕ) (result : Result (Option Span) LineFault)
    → (before : Reading bounds report has reader start left old now kept_back) → reader.input ≡ bounds.input
    → reader.line_limit ≡ bounds.line → result ≡ Ok None
    → Answers reader left result
    → ((lines : List (List ℕ)) → has lines → report.end_fault lines reader.line_ended ≡ None)
    → WhereTold start (λ bytes. PassedWhole bounds report bytes before.taken)
read_end bounds report has reader start left old now kept_back result before input line is answers ends bytes known =
    let told = before.told bytes known in
    told_passed bounds report reader bytes before.taken left told
    (answer_at bounds reader told.rest result (Ok None) input line is (answers told.rest told.rest_is))
    (ends before.taken before.has_taken)

pub read_end_fault : (bounds : Bounds) (report : Report) (has : List (List ℕ) → Type 0) (reader : LineReaderState)
    (start left old now : Option (List ℕ)) (kept_back : List ℕ) (result : Result (Option Span) LineFault) (number : ℕ)
    (told : Told)
    → (before : Reading bounds report has reader start left old now kept_back) → reader.input ≡ bounds.input
    → reader.line_limit ≡ bounds.line → result ≡ Ok None
    → Answers reader left result → number ≡ reader.number + 1
    → ((lines : List (List ℕ)) → has lines → report.end_fault lines reader.line_ended ≡ Some told)
    → WhereTold start (λ bytes. RefusedAt bounds report bytes before.taken number told)
read_end_fault bounds report has reader start left old now kept_back result number told before input line is answers
    number_is ends bytes known =
    let reads = before.told bytes known in
    told_end_fault bounds report reader bytes before.taken left number told reads
    (answer_at bounds reader reads.rest result (Ok None) input line is (answers reads.rest reads.rest_is))
    (number_is ∙ ap (λ n. n + 1) before.number) (ends before.taken before.has_taken)

-- a read failed
pub read_stopped : (bounds : Bounds) (report : Report) (has : List (List ℕ) → Type 0) (reader next : LineReaderState)
    (start left new_left old now : Option (List ℕ)) (kept_back : List ℕ)
    → (before : Reading bounds report has reader start left old now kept_back)
    → next.input ≡ bounds.input → next.line_limit ≡ bounds.line → next.passed ≡ reader.passed
    → prepend_known next.kept new_left ≡ prepend_known reader.kept left
    → IsUndecided next.input next.line_limit next.passed next.kept
    → WhereTold start (λ bytes. StoppedBefore bounds report bytes new_left before.taken)
read_stopped bounds report has reader next start left new_left old now kept_back before input line passed same undecided
    bytes known =
    told_stopped bounds report reader next bytes before.taken left new_left (before.told bytes known) passed same
    (subst (λ l. IsUndecided bounds.input l next.passed next.kept) line
    (subst (λ i. IsUndecided i next.line_limit next.passed next.kept) input undecided))

-- memory was wanting, or a write failed
pub read_front : (bounds : Bounds) (report : Report) (has : List (List ℕ) → Type 0) (reader : LineReaderState)
    (start left old now : Option (List ℕ)) (kept_back : List ℕ)
    → (before : Reading bounds report has reader start left old now kept_back)
    → WhereTold start (λ bytes. GoodFront bounds report bytes before.taken)
read_front bounds report has reader start left old now kept_back before bytes known =
    told_front bounds report reader bytes before.taken left (before.told bytes known)

-- bounds of the same numbers
pub same_bounds : {input line other_input other_line : ℕ} → input ≡ other_input → line ≡ other_line
    → bounds_with input line ≡ bounds_with other_input other_line
same_bounds {input} {line} {other_input} {other_line} same_input same_line =
    ap (λ i. bounds_with i line) same_input ∙ ap (λ l. bounds_with other_input l) same_line
