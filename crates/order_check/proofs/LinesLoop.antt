-- What holds while the lines of a file are compared.
use Rattle.std.proofs.Common.{◌≡◌, ◌≢◌, ℕ, ◌+◌, ◌<◌, ◌≤◌, ◌==◌, Bool, true, false, cond, List, [], ◌∷◌, ◌++◌, length}
use Rattle.std.proofs.Common.{take, drop, min, Option, None, Some, Result, Ok, Err, refl, sym, ap, ◌∙◌, subst, arith}
use Rattle.std.proofs.Common.{append_assoc, append-nil, add-one, length-append, length-take, true≢false}
use Rattle.std.specs.Prelude.{All, IfOk, IfSome, is_some}
use Rattle.std.specs.List.{position_or_len}
use Rattle.std.specs.Io.KnownBytes.{prepend_known}
use Rattle.std.proofs.lemmas.List.{length_push, take-append-drop}
use Rattle.std.proofs.Math.Seq.{take-append_seam}
use Rattle.std.proofs.lemmas.List.Elements.{All-take}
use Rattle.hp_outside.specs.LineReaderState.{LineReaderState}
use Rattle.hp_outside.specs.Lines.{after_line, first_line, is_line_feed, lines_of, put_first}
use Rattle.hp_outside.specs.NextLine.{GivesLine, IsInputTooLong, IsLineTooLong, IsUndecided, NextAnswer, has_line_feed}
use Rattle.hp_outside.specs.declared.span.LineFault.{LineFault}
use Rattle.hp_outside.specs.declared.span.LineFault.TheVariants as reading
use Rattle.hp_outside.specs.declared.span.Span.{Span}
use Rattle.hp_outside.specs.Taken.{WhereTold}
use Rattle.hp_outside.specs.WholeLines.{IsLineText, text_of_lines}
use Rattle.record_scripts.specs.Job.{Job}
use Rattle.record_book.specs.Spelled.{spelled}
use Rattle.order_check.specs.declared.verdict.CheckFault.TheVariants.{InputTooLong, LineTooLong, ReadFailed}
use Rattle.order_check.specs.declared.verdict.Verdict.TheVariants.{No}
use Rattle.order_check.specs.CheckAnswer.{CheckAnswer, IsGoodFront, IsRefusedAt, IsStoppedAt, IsWhole}
use Rattle.order_check.specs.CheckState.{CheckState, HasTaken}
use Rattle.order_check.specs.CheckedLines.{end_verdict}
use Rattle.order_check.specs.Following.{is_front, whole_events}
use Rattle.order_check.specs.Fronts.{IsFront, IsRecording}
use Rattle.order_check.specs.LengthFaults.{HasNoLengthFault, InputTooLongAt, LineTooLongAt, behind_lines, length_before}
use Rattle.order_check.specs.Spelling.{IsSpelling}
use Rattle.order_check.proofs.LengthLemmas.{cut-text, lengths-more, with-feed, without-feed}
use Rattle.order_check.proofs.LineTexts.{text-push}
use Rattle.order_check.proofs.WholeLemmas.{front-is, is-front, lines-texts, only-whole, whole-is}

-- where the file's bytes are told: what is left of them behind the lines that were taken, whose lengths have no fault
pub record ToldReading (input line : ℕ) (passed : ℕ) (line_ended : Bool) (kept : List ℕ) (bytes : List ℕ)
    (taken : List (List ℕ)) (left : Option (List ℕ)) : Type 0 where
  pub rest : List ℕ
  pub rest_is : prepend_known kept left ≡ Some rest
  pub behind_is : behind_lines bytes (length taken) ≡ rest
  pub lines_are : lines_of bytes ≡ taken ++ lines_of rest
  pub lengths : HasNoLengthFault input line bytes (length taken)
  pub passed_is : passed + length rest ≡ length bytes
  pub whole : line_ended ≡ true → bytes ≡ text_of_lines taken ++ rest
  pub cut : line_ended ≡ false → (rest ≡ []) × (bytes ≢ text_of_lines taken)

-- the lines that were taken so far
pub record Reading (input line : ℕ) (check : CheckState) (reader : LineReaderState)
    (start left : Option (List ℕ)) : Type 0 where
  pub taken : List (List ℕ)
  pub has_taken : HasTaken check taken
  pub number : reader.number ≡ length taken
  pub told : WhereTold start
      (λ bytes. ToldReading input line reader.passed reader.line_ended reader.kept bytes taken left)

-- nothing was taken
pub reading-new : (input line : ℕ) (check : CheckState) (reader : LineReaderState) (start : Option (List ℕ))
    → HasTaken check [] → reader.kept ≡ [] → reader.passed ≡ 0 → reader.number ≡ 0
    → reader.line_ended ≡ true → Reading input line check reader start start
reading-new input line check reader start has kept passed number ended = record {
  taken = [];
  has_taken = has;
  number = number;
  told = λ bytes is. record {
    rest = bytes;
    rest_is = ap (λ (k : List ℕ). prepend_known k start) kept ∙ ap (prepend_known []) is;
    behind_is = refl;
    lines_are = refl;
    lengths = λ before less. absurd (omega (arith, less));
    passed_is = omega (arith, passed);
    whole = λ e. refl;
    cut = λ e. absurd (true≢false (sym ended ∙ e));
  };
}

-- the place of the next line
before-is : (input line passed : ℕ) (line_ended : Bool) (kept bytes : List ℕ) (taken : List (List ℕ))
    (left : Option (List ℕ))
    → (before : ToldReading input line passed line_ended kept bytes taken left)
    → (length_before bytes (length taken) ≡ passed) × (behind_lines bytes (length taken) ≡ before.rest)
before-is input line passed line_ended kept bytes taken left before =
    (omega (arith, before.passed_is, ap length before.behind_is), before.behind_is)

pub long-at : (input line passed : ℕ) (line_ended : Bool) (kept bytes : List ℕ) (taken : List (List ℕ))
    (left : Option (List ℕ))
    → (before : ToldReading input line passed line_ended kept bytes taken left)
    → (IsLineTooLong input line passed before.rest → LineTooLongAt input line bytes (length taken))
    × (IsInputTooLong input line passed before.rest → InputTooLongAt input line bytes (length taken))
    × (LineTooLongAt input line bytes (length taken) → IsLineTooLong input line passed before.rest)
    × (InputTooLongAt input line bytes (length taken) → IsInputTooLong input line passed before.rest)
long-at input line passed line_ended kept bytes taken left before =
    let is = before-is input line passed line_ended kept bytes taken left before in
    let P : ℕ → List ℕ → Type 0 = λ n rest. IsLineTooLong input line n rest in
    let Q : ℕ → List ℕ → Type 0 = λ n rest. IsInputTooLong input line n rest in (
      λ long. subst (λ (n : ℕ). P n (behind_lines bytes (length taken))) (sym is.0) (subst (P passed) (sym is.1) long),
      λ long. subst (λ (n : ℕ). Q n (behind_lines bytes (length taken))) (sym is.0) (subst (Q passed) (sym is.1) long),
      λ long. subst (P passed) is.1 (subst (λ (n : ℕ). P n (behind_lines bytes (length taken))) is.0 long),
      λ long. subst (Q passed) is.1 (subst (λ (n : ℕ). Q n (behind_lines bytes (length taken))) is.0 long),
    )

-- one line more
pub told-more : (input line passed new_passed : ℕ) (line_ended new_ended : Bool) (kept new_kept bytes : List ℕ)
    (taken : List (List ℕ)) (left new_left : Option (List ℕ)) (next : List ℕ)
    → (before : ToldReading input line passed line_ended kept bytes taken left) → before.rest ≢ []
    → ¬ (IsLineTooLong input line passed before.rest) → ¬ (IsInputTooLong input line passed before.rest)
    → next ≡ first_line before.rest → prepend_known new_kept new_left ≡ Some (after_line before.rest)
    → lines_of before.rest ≡ next ∷ lines_of (after_line before.rest)
    → new_passed + length (after_line before.rest) ≡ passed + length before.rest → new_ended ≡ has_line_feed before.rest
    → ToldReading input line new_passed new_ended new_kept bytes (taken ++ next ∷ []) new_left
told-more input line passed new_passed line_ended new_ended kept new_kept bytes taken left new_left next before some
    short within is rest_is lines_are passed_is ended = record {
      rest = after_line before.rest;
      rest_is = rest_is;
      behind_is =
          ap (λ (n : ℕ). behind_lines bytes n) (length_push taken next ∙ add-one (length taken))
          ∙ ap after_line before.behind_is;
      lines_are =
          before.lines_are
          ∙ (ap (λ (ls : List (List ℕ)). taken ++ ls) lines_are
          ∙ sym (append_assoc taken (next ∷ []) (lines_of (after_line before.rest))));
      lengths = subst (HasNoLengthFault input line bytes) (sym (length_push taken next))
          (lengths-more input line bytes (length taken) before.lengths
          (λ long. short ((long-at input line passed line_ended kept bytes taken left before).2 long))
          (λ long. within ((long-at input line passed line_ended kept bytes taken left before).3 long)));
      passed_is = omega (arith, passed_is, before.passed_is);
      whole = λ e.
          text ∙ ap (λ (rest : List ℕ). text_of_lines taken ++ rest) (with-feed before.rest (sym ended ∙ e))
          ∙ ap (λ (l : List ℕ). text_of_lines taken ++ (l ++ (10 ∷ after_line before.rest))) (sym is)
          ∙ sym (text-push taken next (after_line before.rest));
      cut = λ e.
          let end = without-feed before.rest (sym ended ∙ e) in (
            end.1,
            cut-text taken next bytes (text ∙ ap (λ (rest : List ℕ). text_of_lines taken ++ rest) (sym end.0 ∙ sym is)),
          );
    }
  where
    text : bytes ≡ text_of_lines taken ++ before.rest
    text = by line_ended refl
      where
        by : (e : Bool) → line_ended ≡ e → bytes ≡ text_of_lines taken ++ before.rest
        by true p = before.whole p
        by false p = absurd (some (before.cut p).0)

-- the lines that were taken stand at the front
take-front : (bytes : List ℕ) (taken more : List (List ℕ)) → lines_of bytes ≡ taken ++ more
    → take (length taken) (lines_of bytes) ≡ taken
take-front bytes taken more are = ap (take (length taken)) are ∙ take-append_seam taken more

taken-texts : (bytes : List ℕ) (taken more : List (List ℕ)) → lines_of bytes ≡ taken ++ more → All IsLineText taken
taken-texts bytes taken more are =
    subst (All IsLineText) (take-front bytes taken more are)
    (All-take IsLineText (length taken) (lines_of bytes) (lines-texts bytes))

pub good-front : (input line passed : ℕ) (line_ended : Bool) (kept bytes : List ℕ) (taken : List (List ℕ))
    (left : Option (List ℕ)) (check : CheckState)
    → IsSpelling check.job → HasTaken check taken
    → ToldReading input line passed line_ended kept bytes taken left
    → IsGoodFront input line check.job bytes (length taken)
good-front input line passed line_ended kept bytes taken left check spelling has told = record {
  within = omega (arith, ap length told.lines_are, length-append taken (lines_of told.rest));
  lengths = told.lengths;
  front = subst (IsFront check.job) (sym (take-front bytes taken (lines_of told.rest) told.lines_are))
      (front-is check.job taken spelling (taken-texts bytes taken (lines_of told.rest) told.lines_are)
      (ap is_some has));
}

-- a recording begins with each front of its lines
recording-front : (job : Job) (bytes : List ℕ) (count : ℕ) → IsRecording job bytes
    → IsFront job (take count (lines_of bytes))
recording-front job bytes count recording = (
  spelled bytes,
  recording.all.under,
  (drop count (lines_of bytes), ap lines_of (sym recording.trace) ∙ sym (take-append-drop count (lines_of bytes))),
)

-- a line with which no recording goes on
pub refused-at : (input line passed : ℕ) (line_ended : Bool) (kept bytes : List ℕ) (taken : List (List ℕ))
    (left : Option (List ℕ)) (check : CheckState) (next : List ℕ) (more : List (List ℕ))
    → IsSpelling check.job → HasTaken check taken
    → (before : ToldReading input line passed line_ended kept bytes taken left)
    → ¬ (IsLineTooLong input line passed before.rest) → ¬ (IsInputTooLong input line passed before.rest)
    → lines_of before.rest ≡ next ∷ more
    → is_front check.job (taken ++ next ∷ []) ≡ false → IsRefusedAt input line check.job bytes (length taken)
refused-at input line passed line_ended kept bytes taken left check next more spelling has before short within lines_are
    refused = record {
      breaks = record {
        within = good.within;
        front = good.front;
        no_front = λ less. no_front;
        no_recording = λ recording. no_front (recording-front check.job bytes (length taken + 1) recording);
      };
      lengths =
          subst (HasNoLengthFault input line bytes) (sym fits)
          (lengths-more input line bytes (length taken) before.lengths
          (λ long. short ((long-at input line passed line_ended kept bytes taken left before).2 long))
          (λ long. within ((long-at input line passed line_ended kept bytes taken left before).3 long)));
    }
  where
    good : IsGoodFront input line check.job bytes (length taken)
    good = good-front input line passed line_ended kept bytes taken left check spelling has before

    all : lines_of bytes ≡ (taken ++ next ∷ []) ++ more
    all =
        before.lines_are ∙ ap (λ (ls : List (List ℕ)). taken ++ ls) lines_are ∙ sym
        (append_assoc taken (next ∷ []) more)

    fits : min (length taken + 1) (length (lines_of bytes)) ≡ length taken + 1
    fits = omega (arith, ap length all, length-append (taken ++ next ∷ []) more, length_push taken next)

    front : take (length taken + 1) (lines_of bytes) ≡ taken ++ next ∷ []
    front =
        ap (λ (n : ℕ). take n (lines_of bytes)) (sym (length_push taken next))
        ∙ take-front bytes (taken ++ next ∷ []) more all

    no_front : ¬ (IsFront check.job (take (length taken + 1) (lines_of bytes)))
    no_front is =
        true≢false
        (sym
        (is-front check.job (taken ++ next ∷ []) spelling (taken-texts bytes (taken ++ next ∷ []) more all)
        (subst (IsFront check.job) front is))
        ∙ refused)

-- all lines were taken
all-lines : (bytes rest : List ℕ) (taken : List (List ℕ)) → lines_of bytes ≡ taken ++ lines_of rest → rest ≡ []
    → lines_of bytes ≡ taken
all-lines bytes rest taken are none = are ∙ ap (λ (r : List ℕ). taken ++ lines_of r) none ∙ append-nil taken

pub whole-at : (input line passed : ℕ) (line_ended : Bool) (kept bytes : List ℕ) (taken : List (List ℕ))
    (left : Option (List ℕ)) (check : CheckState) (events : ℕ)
    → IsSpelling check.job → HasTaken check taken
    → (before : ToldReading input line passed line_ended kept bytes taken left) → before.rest ≡ []
    → whole_events check.job taken line_ended ≡ Some events → IsWhole input line check.job bytes events
whole-at input line passed line_ended kept bytes taken left check events spelling has before none whole =
    let all = all-lines bytes before.rest taken before.lines_are none in
    let is = whole-is check.job taken line_ended events bytes spelling all
    (λ e. before.whole e ∙ ap (λ (rest : List ℕ). text_of_lines taken ++ rest) none ∙ append-nil (text_of_lines taken))
    whole in
    record {
      lengths = subst (HasNoLengthFault input line bytes) (sym (ap length all)) before.lengths;
      recording = is.0;
      count = is.1;
    }

pub refused-end : (input line passed : ℕ) (line_ended : Bool) (kept bytes : List ℕ) (taken : List (List ℕ))
    (left : Option (List ℕ)) (check : CheckState)
    → IsSpelling check.job → HasTaken check taken
    → (before : ToldReading input line passed line_ended kept bytes taken left) → before.rest ≡ []
    → whole_events check.job taken line_ended ≡ None → IsRefusedAt input line check.job bytes (length taken)
refused-end input line passed line_ended kept bytes taken left check spelling has before none whole = record {
  breaks = record {
    within = good.within;
    front = good.front;
    no_front = λ less. absurd (omega (arith, less, ap length all));
    no_recording = λ recording.
        let found = only-whole check.job taken line_ended bytes spelling all (λ e. (before.cut e).1) recording in
        let both : None ≡ Some (length (spelled bytes)) = sym whole ∙ found in
        absurd (cc);
  };
  lengths = subst (HasNoLengthFault input line bytes) (sym fits) before.lengths;
}
  where
    good : IsGoodFront input line check.job bytes (length taken)
    good = good-front input line passed line_ended kept bytes taken left check spelling has before

    all : lines_of bytes ≡ taken
    all = all-lines bytes before.rest taken before.lines_are none

    fits : min (length taken + 1) (length (lines_of bytes)) ≡ length taken
    fits = omega (arith, ap length all)

-- the bytes that are known behind others
left-behind : (kept : List ℕ) (left : Option (List ℕ)) (rest : List ℕ) → prepend_known kept left ≡ Some rest
    → (unread : List ℕ) × (left ≡ Some unread) × (rest ≡ kept ++ unread)
left-behind kept None rest is = absurd (cc)
left-behind kept (Some unread) rest is = (unread, refl, cc)

-- a read failed
pub stopped-at : (input line passed : ℕ) (line_ended : Bool) (kept new_kept bytes : List ℕ) (taken : List (List ℕ))
    (left new_left : Option (List ℕ)) (check : CheckState)
    → IsSpelling check.job → HasTaken check taken → ToldReading input line passed line_ended kept bytes taken left
    → prepend_known new_kept new_left ≡ prepend_known kept left → IsUndecided input line passed new_kept
    → IsStoppedAt input line check.job bytes new_left (length taken)
stopped-at input line passed line_ended kept new_kept bytes taken left new_left check spelling has before same
    undecided =
    let found = left-behind new_kept new_left before.rest (same ∙ before.rest_is) in
    let is = before-is input line passed line_ended kept bytes taken left before in
    record {
      before = good-front input line passed line_ended kept bytes taken left check spelling has before;
      kept = new_kept;
      unread = found.0;
      left_is = found.1;
      rest_is = before.behind_is ∙ found.2;
      undecided = subst (λ (n : ℕ). IsUndecided input line n new_kept) (sym is.0) undecided;
    }

-- what a reader of lines says of its next line
abbrev pub Answers : LineReaderState → Option (List ℕ) → Result (Option Span) LineFault → Type 0
Answers reader left result =
    WhereTold (prepend_known reader.kept left)
    (λ rest. NextAnswer reader.input reader.line_limit reader.passed rest result)

abbrev pub Gives : LineReaderState → LineReaderState → Option (List ℕ) → Option (List ℕ)
    → Result (Option Span) LineFault → Type 0
Gives reader next left new_left result =
    WhereTold (prepend_known reader.kept left)
    (λ rest. GivesLine reader.passed rest next.passed (prepend_known next.kept new_left) next.line result)

abbrev pub Feeds : LineReaderState → LineReaderState → Option (List ℕ) → Result (Option Span) LineFault → Type 0
Feeds reader next left result =
    WhereTold (prepend_known reader.kept left)
    (λ rest. IfOk result (λ place. IfSome place (λ span. next.line_ended ≡ has_line_feed rest)))

answer-at : (input line : ℕ) (reader : LineReaderState) (rest : List ℕ) (result answer : Result (Option Span) LineFault)
    → reader.input ≡ input → reader.line_limit ≡ line → result ≡ answer
    → NextAnswer reader.input reader.line_limit reader.passed rest result
    → NextAnswer input line reader.passed rest answer
answer-at input line reader rest result answer input_is line_is is says =
    subst (λ (n : ℕ). NextAnswer n line reader.passed rest answer) input_is
    (subst (λ (n : ℕ). NextAnswer reader.input n reader.passed rest answer) line_is
    (subst (λ (r : Result (Option Span) LineFault). NextAnswer reader.input reader.line_limit reader.passed rest r) is
    says))

-- one line more was taken
pub read-more : (input line : ℕ) (check next_check : CheckState) (reader next : LineReaderState)
    (start left new_left : Option (List ℕ)) (result : Result (Option Span) LineFault) (span : Span)
    → Reading input line check reader start left → reader.input ≡ input → reader.line_limit ≡ line
    → result ≡ Ok (Some span)
    → Answers reader left result → Gives reader next left new_left result → Feeds reader next left result
    → next.number ≡ reader.number + 1
    → ((lines : List (List ℕ)) → HasTaken check lines → HasTaken next_check (lines ++ next.line ∷ []))
    → Reading input line next_check next start new_left
read-more input line check next_check reader next start left new_left result span before input_is line_is is answers
    gives feeds number takes = record {
      taken = before.taken ++ next.line ∷ [];
      has_taken = takes before.taken before.has_taken;
      number = number ∙ (ap (λ (n : ℕ). n + 1) before.number ∙ sym (length_push before.taken next.line));
      told = λ bytes known.
          let told = before.told bytes known in
          let answer =
          answer-at input line reader told.rest result (Ok (Some span)) input_is line_is is
          (answers told.rest told.rest_is) in
          let given : GivesLine reader.passed told.rest next.passed (prepend_known next.kept new_left) next.line
          (Ok (Some span)) =
          subst (λ (r : Result (Option Span) LineFault). GivesLine reader.passed told.rest next.passed
          (prepend_known next.kept new_left) next.line r) is (gives
          told.rest told.rest_is) in
          let fed : next.line_ended ≡ has_line_feed told.rest =
          subst (λ (r : Result (Option Span) LineFault). IfOk r
          (λ place. IfSome place (λ span. next.line_ended ≡ has_line_feed told.rest))) is (feeds
          told.rest told.rest_is) in
          told-more input line reader.passed next.passed reader.line_ended next.line_ended reader.kept next.kept bytes
          before.taken left new_left next.line told
          answer.0 answer.1 answer.2 given.0 given.1 given.2 given.3 fed;
    }

-- no recording goes on so
pub read-refused : (input line : ℕ) (check : CheckState) (reader next : LineReaderState)
    (start left new_left : Option (List ℕ)) (result : Result (Option Span) LineFault) (span : Span) (number : ℕ)
    → Reading input line check reader start left → IsSpelling check.job → reader.input ≡ input
    → reader.line_limit ≡ line → result ≡ Ok (Some span)
    → Answers reader left result → Gives reader next left new_left result → number ≡ reader.number + 1
    → ((lines : List (List ℕ)) → HasTaken check lines → is_front check.job (lines ++ next.line ∷ []) ≡ false)
    → WhereTold start (λ bytes. CheckAnswer input line check.job bytes new_left (Ok (No number)))
read-refused input line check reader next start left new_left result span number before spelling input_is line_is is
    answers gives number_is refuses bytes known =
    let told = before.told bytes known in
    let answer =
    answer-at input line reader told.rest result (Ok (Some span)) input_is line_is is
    (answers told.rest told.rest_is) in
    let given : GivesLine reader.passed told.rest next.passed (prepend_known next.kept new_left) next.line
    (Ok (Some span)) =
    subst (λ (r : Result (Option Span) LineFault). GivesLine reader.passed told.rest next.passed
    (prepend_known next.kept new_left) next.line r) is (gives
    told.rest told.rest_is) in (
      length before.taken,
      number_is ∙ ap (λ (n : ℕ). n + 1) before.number,
      refused-at input line reader.passed reader.line_ended reader.kept bytes before.taken left check next.line
          (lines_of (after_line told.rest)) spelling before.has_taken told
          answer.1 answer.2 given.2 (refuses before.taken before.has_taken),
    )

-- all lines were taken
pub read-end : (input line : ℕ) (check : CheckState) (reader : LineReaderState) (start left new_left : Option (List ℕ))
    (result : Result (Option Span) LineFault) (events : Option ℕ) (number : ℕ)
    → Reading input line check reader start left → IsSpelling check.job → reader.input ≡ input
    → reader.line_limit ≡ line → result ≡ Ok None
    → Answers reader left result → number ≡ reader.number + 1
    → ((lines : List (List ℕ)) → HasTaken check lines → events ≡ whole_events check.job lines reader.line_ended)
    → WhereTold start (λ bytes. CheckAnswer input line check.job bytes new_left (Ok (end_verdict events number)))
read-end input line check reader start left new_left result None number before spelling input_is line_is is answers
    number_is tells bytes known =
    let told = before.told bytes known in
    let none =
    answer-at input line reader told.rest result (Ok None) input_is line_is is (answers told.rest told.rest_is) in (
      length before.taken,
      number_is ∙ ap (λ (n : ℕ). n + 1) before.number,
      refused-end input line reader.passed reader.line_ended reader.kept bytes before.taken left check spelling
          before.has_taken told none (sym (tells before.taken before.has_taken)),
    )
read-end input line check reader start left new_left result (Some events) number before spelling input_is line_is is
    answers number_is tells bytes known =
    let told = before.told bytes known in
    let none =
    answer-at input line reader told.rest result (Ok None) input_is line_is is (answers told.rest told.rest_is) in
    whole-at input line reader.passed reader.line_ended reader.kept bytes before.taken left check events spelling
    before.has_taken told none (sym (tells before.taken before.has_taken))

-- a line's length has a fault
some-line : (rest : List ℕ) → 0 < length rest → 0 < length (lines_of rest)
some-line [] some = absurd (omega (arith, some))
some-line (b ∷ rest) some = by (b == 10)
  where
    put : (lines : List (List ℕ)) → 0 < length (put_first b lines)
    put [] = omega arith
    put (line ∷ lines) = omega arith

    by : (t : Bool) → 0 < length (cond t ([] ∷ lines_of rest) (put_first b (lines_of rest)))
    by true = omega arith
    by false = put (lines_of rest)

line-there : (input line passed : ℕ) (line_ended : Bool) (kept bytes : List ℕ) (taken : List (List ℕ))
    (left : Option (List ℕ))
    → (before : ToldReading input line passed line_ended kept bytes taken left)
    → 0 < length before.rest → length taken < length (lines_of bytes)
line-there input line passed line_ended kept bytes taken left before some =
    omega (arith, ap length before.lines_are, length-append taken (lines_of before.rest), some-line before.rest some)

pub read-too-long : (input line : ℕ) (check : CheckState) (reader : LineReaderState)
    (start left new_left : Option (List ℕ)) (result : Result (Option Span) LineFault)
    → Reading input line check reader start left → IsSpelling check.job → reader.input ≡ input
    → reader.line_limit ≡ line → result ≡ Err reading.LineTooLong
    → Answers reader left result
    → WhereTold start (λ bytes. CheckAnswer input line check.job bytes new_left (Err LineTooLong))
read-too-long input line check reader start left new_left result before spelling input_is line_is is answers bytes
    known =
    let told = before.told bytes known in
    let long =
    answer-at input line reader told.rest result (Err reading.LineTooLong) input_is line_is is
    (answers told.rest told.rest_is) in
    let some : 0 < length told.rest =
    omega (arith, long.0, length-take (position_or_len is_line_feed told.rest) told.rest) in (
      length before.taken,
      record {
        before =
            good-front input line reader.passed reader.line_ended reader.kept bytes before.taken left check spelling
            before.has_taken told;
        there = line-there input line reader.passed reader.line_ended reader.kept bytes before.taken left told some;
        fault = (long-at input line reader.passed reader.line_ended reader.kept bytes before.taken left told).0 long;
      },
    )

pub read-past : (input line : ℕ) (check : CheckState) (reader : LineReaderState) (start left new_left : Option (List ℕ))
    (result : Result (Option Span) LineFault)
    → Reading input line check reader start left → IsSpelling check.job → reader.input ≡ input
    → reader.line_limit ≡ line → reader.passed ≤ input → result ≡ Err reading.InputTooLong
    → Answers reader left result
    → WhereTold start (λ bytes. CheckAnswer input line check.job bytes new_left (Err InputTooLong))
read-past input line check reader start left new_left result before spelling input_is line_is within is answers bytes
    known =
    let told = before.told bytes known in
    let long =
    answer-at input line reader told.rest result (Err reading.InputTooLong) input_is line_is is
    (answers told.rest told.rest_is) in
    let some : 0 < length told.rest = omega (arith, long.0, within) in (
      length before.taken,
      record {
        before =
            good-front input line reader.passed reader.line_ended reader.kept bytes before.taken left check spelling
            before.has_taken told;
        there = line-there input line reader.passed reader.line_ended reader.kept bytes before.taken left told some;
        fault = (long-at input line reader.passed reader.line_ended reader.kept bytes before.taken left told).1 long;
      },
    )

-- a read failed
pub read-stopped : (input line : ℕ) (check : CheckState) (reader next : LineReaderState)
    (start left new_left : Option (List ℕ))
    → Reading input line check reader start left → IsSpelling check.job → next.input ≡ input → next.line_limit ≡ line
    → next.passed ≡ reader.passed
    → prepend_known next.kept new_left ≡ prepend_known reader.kept left
    → IsUndecided next.input next.line_limit next.passed next.kept
    → WhereTold start (λ bytes. CheckAnswer input line check.job bytes new_left (Err ReadFailed))
read-stopped input line check reader next start left new_left before spelling input_is line_is passed same undecided
    bytes known =
    let here = subst (λ (n : ℕ). IsUndecided input line n next.kept) passed
    (subst (λ (n : ℕ). IsUndecided n line next.passed next.kept) input_is
    (subst (λ (n : ℕ). IsUndecided next.input n next.passed next.kept) line_is undecided)) in (
      length before.taken,
      stopped-at input line reader.passed reader.line_ended reader.kept next.kept bytes before.taken left new_left check
          spelling before.has_taken (before.told bytes known) same here,
    )
