-- What holds of a file when whole lines at the front of what is kept were taken at once.
use Rattle.std.proofs.Common.{◌≡◌, ◌≢◌, ℕ, Bool, if◌then◌else◌, nat_le, ◌+◌, ◌<◌, ◌≤◌, List, [], ◌∷◌, ◌++◌, length}
use Rattle.std.proofs.Common.{drop, All, Option, Some, None, refl, ap, sym, subst, ◌∙◌, append-nil, append_assoc}
use Rattle.std.proofs.Common.{length-append, length-take, arith}
use Rattle.std.proofs.lemmas.Bool.{le-leb, ne_eqb}
use Rattle.std.proofs.lemmas.List.{take-append-drop}
use Rattle.std.proofs.lemmas.List.Elements.{All-head, All-nil, All-tail}
use Rattle.std.specs.Prelude.{Vec}
use Rattle.std.specs.Io.KnownBytes.{prepend_known}
use Rattle.hp_outside.specs.LineReaderState.{LineReaderState}
use Rattle.hp_outside.specs.Lines.{after_line, first_line, lines_of}
use Rattle.hp_outside.specs.WholeLines.{IsLineText, text_of_lines}
use Rattle.command_frame.specs.Batch.{AreGood, HasGivenFront, HasTakenKept, IsShortLine}
use Rattle.command_frame.specs.FirstFault.{Bounds, bytes_of_lines}
use Rattle.command_frame.specs.LinesRun.{Gained}
use Rattle.command_frame.specs.Report.{Report, gains_from, written}
use Rattle.command_frame.specs.TakenReady.{HasTakenReady}
use Rattle.command_frame.specs.declared.taker.LineTaker as taker
use Rattle.command_frame.proofs.FrontLemmas.{gains_append}
use Rattle.command_frame.proofs.LineLemmas.{after_before, first_before, lines_of_first}
use Rattle.command_frame.proofs.LinesLoop.{Reading, ToldReading, left_behind, told_more}

-- nothing was taken
pub nothing_taken : {output : List ℕ} (report : Report) (has : List (List ℕ) → Type 0) (ready : List ℕ)
    → HasGivenFront report has has ready 0 0 output output
nothing_taken {output} report has ready = record {
  lines = [];
  texts = All-nil IsLineText;
  short = All-nil IsShortLine;
  text = refl;
  count = refl;
  good = λ earlier old. tt;
  gained = λ earlier old. sym (append-nil output);
  taken = λ earlier old. subst has (sym (append-nil earlier)) old;
}

-- where nothing is kept that may be taken, nothing was taken of it
pub nothing_kept : {output : List ℕ} (report : Report) (has : List (List ℕ) → Type 0) (reader : LineReaderState)
    → reader.passed ≤ reader.input → HasTakenKept report has has reader reader output output
nothing_kept report has reader within = record {
  bytes = 0;
  lines = 0;
  front = nothing_taken report has reader.kept;
  held = omega arith;
  within = omega (arith, within);
  short = λ some. absurd (omega (arith, some));
  kept = refl;
  passed = omega arith;
  number = omega arith;
  line_ended = refl;
}

-- and the reader and the taker stay as they are
pub nothing_ready : {T F Z : Type 0} (g : taker.Ghosts T F) (reader : LineReaderState) (old : T) (buffer : Vec ℕ Z)
    → reader.passed ≤ reader.input → g.is_sound old → g.measure old ≤ reader.given → reader.given ≤ reader.input + 1
    → HasTakenReady g reader reader old old buffer buffer
nothing_ready g reader old buffer within sound measure bounded = record {
  taken = nothing_kept (g.report old) (g.has_taken old) reader within;
  sound = sound;
  measure = measure;
  report = refl;
  given = omega arith;
  bounded = bounded;
  input = refl;
  limit = refl;
  ended = refl;
  fault = refl;
}

-- the first line, and what stands behind it
first_line_is : (line more : List ℕ) → IsLineText line → first_line (line ++ (10 ∷ more)) ≡ line
first_line_is [] more text = refl
first_line_is (byte ∷ line) more text =
    let other : byte ≢ 10 = All-head (λ b. b ≢ 10) byte line text in
    first_before byte (line ++ (10 ∷ more)) (ne_eqb byte 10 other)
    ∙ ap (λ l. byte ∷ l) (first_line_is line more (All-tail (λ b. b ≢ 10) byte line text))

after_line_is : (line more : List ℕ) → IsLineText line → after_line (line ++ (10 ∷ more)) ≡ more
after_line_is [] more text = refl
after_line_is (byte ∷ line) more text =
    let other : byte ≢ 10 = All-head (λ b. b ≢ 10) byte line text in
    after_before byte (line ++ (10 ∷ more)) (ne_eqb byte 10 other)
    ∙ after_line_is line more (All-tail (λ b. b ≢ 10) byte line text)

-- a reader that has passed and keeps so much
abbrev moved : LineReaderState → ℕ → List ℕ → LineReaderState
moved reader passed kept = record reader { passed = passed; kept = kept }

-- the same of a reader and lines that are the same
told_as : (bounds : Bounds) (report : Report) (reader next : LineReaderState) (bytes : List ℕ)
    (taken same : List (List ℕ)) (left : Option (List ℕ))
    → ToldReading bounds report reader bytes taken left → reader.kept ≡ next.kept → reader.passed ≡ next.passed
    → reader.line_ended ≡ next.line_ended → taken ≡ same
    → ToldReading bounds report next bytes same left
told_as bounds report reader next bytes taken same left told kept passed ended is =
    subst (λ ls. ToldReading bounds report next bytes ls left) is (record {
      rest = told.rest;
      rest_is = ap (λ k. prepend_known k left) (sym kept) ∙ told.rest_is;
      lines_are = told.lines_are;
      faults = told.faults;
      good = told.good;
      passed = omega (arith, told.passed, passed);
      before = λ some. sym passed ∙ told.before some;
      reached = omega (arith, told.reached, passed);
      ended = sym ended ∙ (told.ended ∙ ap (nat_le (bytes_of_lines taken)) passed);
    })

-- the first of the lines was taken
told_line : (bounds : Bounds) (report : Report) (reader : LineReaderState) (bytes : List ℕ) (taken : List (List ℕ))
    (left : Option (List ℕ)) (line more : List ℕ)
    → (told : ToldReading bounds report reader bytes taken left)
    → reader.kept ≡ line ++ (10 ∷ more) → IsLineText line → length line ≤ bounds.line
    → reader.passed + length line + 1 ≤ bounds.input
    → report.line_fault taken line ≡ None
    → ToldReading bounds report (moved reader (reader.passed + length line + 1) more) bytes (taken ++ line ∷ []) left
told_line bounds report reader bytes taken left line more told kept text short within good =
    let unread = left_behind reader.kept left told.rest told.rest_is in
    let rest_is : told.rest ≡ line ++ (10 ∷ (more ++ unread.0)) =
    unread.2 ∙ (ap (λ k. k ++ unread.0) kept ∙ append_assoc line (10 ∷ more) unread.0) in
    let first : first_line told.rest ≡ line = ap first_line rest_is ∙ first_line_is line (more ++ unread.0) text in
    let after : after_line told.rest ≡ more ++ unread.0 =
    ap after_line rest_is ∙ after_line_is line (more ++ unread.0) text in
    let some : 0 < length told.rest = omega (arith, ap length rest_is, length-append line (10 ∷ (more ++ unread.0))) in
    let size : length (first_line told.rest) ≡ length line = ap length first in
    told_more bounds report reader (moved reader (reader.passed + length line + 1) more) bytes taken left left line told
    some
    (λ long. absurd (omega (arith, long.0, size, short)))
    (λ past. absurd (omega (arith, past.1, size, within)))
    (sym first)
    (ap (prepend_known more) unread.1 ∙ ap Some (sym after))
    (lines_of_first told.rest some ∙ ap (λ l. l ∷ lines_of (after_line told.rest)) first)
    (omega (arith, ap length after, ap length rest_is, length-append line (10 ∷ (more ++ unread.0))))
    (ap (λ (e : Bool). reader.passed + length line + (if e then 1 else 0))
    (sym (told.ended ∙ le-leb _ _ (omega (arith, told.before some)))))
    good

-- all of them were taken
told_batch : (bounds : Bounds) (report : Report) (reader : LineReaderState) (bytes : List ℕ)
    (taken lines : List (List ℕ)) (left : Option (List ℕ)) (more : List ℕ)
    → ToldReading bounds report reader bytes taken left
    → reader.kept ≡ text_of_lines lines ++ more → All IsLineText lines → All IsShortLine lines
    → (0 < length (text_of_lines lines) → 64 ≤ bounds.line)
    → reader.passed + length (text_of_lines lines) ≤ bounds.input → AreGood report taken lines
    → ToldReading bounds report (moved reader (reader.passed + length (text_of_lines lines)) more) bytes
    (taken ++ lines) left
told_batch bounds report reader bytes taken [] left more told kept texts short long within good =
    told_as bounds report reader (moved reader (reader.passed + 0) more) bytes taken (taken ++ []) left told kept
    (omega arith) refl (sym (append-nil taken))
told_batch bounds report reader bytes taken (line ∷ lines) left more told kept texts short long within good =
    let size : length (text_of_lines (line ∷ lines)) ≡ length line + 1 + length (text_of_lines lines) =
    length-append line (10 ∷ text_of_lines lines) ∙ omega arith in
    let few : length line < 64 = All-head IsShortLine line lines short in
    let line_bound : 64 ≤ bounds.line = long (omega (arith, size)) in
    let next : LineReaderState = moved reader (reader.passed + length line + 1) (text_of_lines lines ++ more) in
    let one : ToldReading bounds report next bytes (taken ++ line ∷ []) left =
    told_line bounds report reader bytes taken left line (text_of_lines lines ++ more) told
    (kept ∙ append_assoc line (10 ∷ text_of_lines lines) more)
    (All-head IsLineText line lines texts) (omega (arith, few, line_bound)) (omega (arith, size, within)) good.0 in
    told_as bounds report (moved next (next.passed + length (text_of_lines lines)) more)
    (moved reader (reader.passed + length (text_of_lines (line ∷ lines))) more) bytes
    ((taken ++ line ∷ []) ++ lines) (taken ++ line ∷ lines) left
    (told_batch bounds report next bytes (taken ++ line ∷ []) lines left more one refl
    (All-tail IsLineText line lines texts) (All-tail IsShortLine line lines short)
    (λ some. line_bound) (omega (arith, size, within)) good.1)
    refl (omega (arith, size)) refl (append_assoc taken (line ∷ []) lines)

-- what they give is kept back
gained_batch : (report : Report) (taken lines : List (List ℕ)) (old now : Option (List ℕ)) (kept_back after : List ℕ)
    → Gained old now kept_back (written report taken)
    → after ≡ kept_back ++ gains_from report taken lines → Gained old now after (written report (taken ++ lines))
gained_batch report taken lines old now kept_back after before more = record {
  early = before.early;
  written = before.written;
  all = ap (λ l. before.early ++ l) more ∙ (sym (append_assoc before.early kept_back (gains_from report taken lines))
      ∙ (ap (λ l. l ++ gains_from report taken lines) before.all ∙ sym (gains_append report [] taken lines)));
}

-- the lines that were taken at once, behind those before
pub read_batch : (bounds : Bounds) (report : Report) (has new_has : List (List ℕ) → Type 0)
    (reader next : LineReaderState) (start left old now : Option (List ℕ)) (kept_back after : List ℕ)
    → Reading bounds report has reader start left old now kept_back
    → reader.input ≡ bounds.input → reader.line_limit ≡ bounds.line
    → HasTakenKept report has new_has reader next kept_back after
    → Reading bounds report new_has next start left old now after
read_batch bounds report has new_has reader next start left old now kept_back after before input line_limit more =
    let front = more.front in
    let good : AreGood report before.taken front.lines = front.good before.taken before.has_taken in
    let text : reader.kept ≡ text_of_lines front.lines ++ next.kept =
    sym (take-append-drop more.bytes reader.kept)
    ∙ (ap (λ l. l ++ drop more.bytes reader.kept) front.text
    ∙ ap (λ l. text_of_lines front.lines ++ l) (sym more.kept)) in
    let size : length (text_of_lines front.lines) ≡ more.bytes =
    ap length (sym front.text) ∙ (length-take more.bytes reader.kept ∙ omega (arith, more.held)) in
    record {
      taken = before.taken ++ front.lines;
      has_taken = front.taken before.taken before.has_taken;
      number =
          more.number
          ∙ (ap (λ n. n + more.lines) before.number
          ∙ (ap (λ n. length before.taken + n) (sym front.count) ∙ sym (length-append before.taken front.lines)));
      told = λ bytes known.
          told_as bounds report (moved reader (reader.passed + length (text_of_lines front.lines)) next.kept) next bytes
          (before.taken ++ front.lines) (before.taken ++ front.lines) left
          (told_batch bounds report reader bytes before.taken front.lines left next.kept (before.told bytes known) text
          front.texts front.short
          (λ some. omega (arith, more.short (omega (arith, some, size)), line_limit))
          (omega (arith, size, more.within, input)) good)
          refl (omega (arith, size, more.passed)) (sym more.line_ended) refl;
      gained =
          gained_batch report before.taken front.lines old now kept_back after before.gained
          (front.gained before.taken before.has_taken);
    }
