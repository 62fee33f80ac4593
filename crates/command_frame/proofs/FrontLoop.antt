-- Lines at the front of bytes, one more each time.
use Rattle.std.proofs.Common.{◌≡◌, ℕ, ◌+◌, ◌-◌, ◌<◌, ◌≤◌, List, [], ◌∷◌, ◌++◌, length, take, drop, refl, ap, sym, subst}
use Rattle.std.proofs.Common.{◌∙◌, append-nil, append_assoc, length-append, length-drop, arith}
use Rattle.std.proofs.lemmas.List.{drop-drop, length_push, take_all}
use Rattle.std.proofs.lemmas.List.Elements.{All-append, All-nil, All-cons}
use Rattle.std.proofs.Math.Seq.{take-add, take-append-add}
use Rattle.hp_outside.specs.WholeLines.{IsLineText, text_of_lines}
use Rattle.command_frame.specs.Batch.{AreGood, HasGivenFront, HasGivenLine, HasGivenNone, IsShortLine}
use Rattle.command_frame.specs.Report.{Report, gains_from}
use Rattle.command_frame.proofs.OutputLemmas.{gains_push}

-- the rest is what is left of the bytes
pub record IsLeft (ready rest : List ℕ) : Type 0 where
  pub held : length rest ≤ length ready
  pub is : rest ≡ drop (length ready - length rest) ready

-- before anything is passed
pub all_left : (ready : List ℕ) → IsLeft ready ready
all_left ready =
    let none : 0 ≡ length ready - length ready = omega arith in
    record { held = omega arith; is = ap (λ n. drop n ready) none }

-- so many bytes of the rest are passed
pub record PassesMore (ready rest left : List ℕ) (more : ℕ) : Type 0 where
  pub is_left : IsLeft ready left
  pub size : length ready - length left ≡ (length ready - length rest) + more

pub passes_more : (ready rest : List ℕ) (more : ℕ) → IsLeft ready rest → more ≤ length rest
    → PassesMore ready rest (take (length rest - more) (drop more rest)) more
passes_more ready rest more before within =
    let left : take (length rest - more) (drop more rest) ≡ drop more rest =
    take_all (length rest - more) (drop more rest) (omega (arith, length-drop more rest)) in
    let size : length (take (length rest - more) (drop more rest)) ≡ length rest - more =
    ap length left ∙ length-drop more rest in
    let passed : length ready - length (take (length rest - more) (drop more rest))
    ≡ (length ready - length rest) + more = omega (arith, size, within, before.held) in
    record {
      is_left = record {
        held = omega (arith, size, before.held);
        is =
            left
            ∙ (ap (drop more) before.is
            ∙ (drop-drop more (length ready - length rest) ready ∙ ap (λ n. drop n ready) (sym passed)));
      };
      size = passed;
    }

-- the bytes of one line more
text_of_lines-push : (lines : List (List ℕ)) (line : List ℕ)
    → text_of_lines (lines ++ line ∷ []) ≡ text_of_lines lines ++ (line ++ (10 ∷ []))
text_of_lines-push [] line = refl
text_of_lines-push (first ∷ lines) line =
    ap (λ rest. first ++ (10 ∷ rest)) (text_of_lines-push lines line)
    ∙ sym (append_assoc first (10 ∷ text_of_lines lines) (line ++ (10 ∷ [])))

-- more lines, without a fault
pub good_append : (report : Report) (earlier lines more : List (List ℕ)) → AreGood report earlier lines
    → AreGood report (earlier ++ lines) more → AreGood report earlier (lines ++ more)
good_append report earlier [] more good behind =
    subst (λ before. AreGood report before more) (append-nil earlier) behind
good_append report earlier (first ∷ lines) more good behind = (
  good.0,
  good_append report (earlier ++ first ∷ []) lines more good.1
      (subst (λ before. AreGood report before more) (sym (append_assoc earlier (first ∷ []) lines)) behind),
)

-- one line more was taken
pub line_more : {before mid after : List ℕ} (report : Report) (initial old new : List (List ℕ) → Type 0)
    (ready : List ℕ) (bytes number more : ℕ)
    → HasGivenFront report initial old ready bytes number before mid
    → HasGivenLine report old new (drop bytes ready) more mid after
    → HasGivenFront report initial new ready (bytes + more) (number + 1) before after
line_more {before} report initial old new ready bytes number more front one =
    let line_text : take more (drop bytes ready) ≡ one.line ++ (10 ∷ []) =
    ap (λ n. take n (drop bytes ready)) one.size
    ∙ (ap (take (length one.line + 1)) one.split ∙ take-append-add one.line (10 ∷ one.rest) 1) in
    record {
      lines = front.lines ++ one.line ∷ [];
      texts =
          All-append IsLineText front.lines (one.line ∷ []) front.texts
          (All-cons IsLineText one.line [] one.one_line (All-nil IsLineText));
      short =
          All-append IsShortLine front.lines (one.line ∷ []) front.short
          (All-cons IsShortLine one.line [] one.short (All-nil IsShortLine));
      text = take-add bytes more ready ∙ (ap (λ front. front ++ take more (drop bytes ready)) front.text
          ∙ (ap (λ last. text_of_lines front.lines ++ last) line_text ∙ sym (text_of_lines-push front.lines one.line)));
      count = length_push front.lines one.line ∙ ap (λ n. n + 1) front.count;
      good =
          λ earlier has. good_append report earlier front.lines (one.line ∷ []) (front.good earlier has)
          (one.no_fault (earlier ++ front.lines) (front.taken earlier has), tt);
      gained = λ earlier has.
          one.gained (earlier ++ front.lines) (front.taken earlier has)
          ∙ (ap (λ l. l ++ report.gains (earlier ++ front.lines) one.line) (front.gained earlier has)
          ∙ (append_assoc before (gains_from report earlier front.lines)
          (report.gains (earlier ++ front.lines) one.line)
          ∙ ap (λ l. before ++ l) (sym (gains_push report earlier front.lines one.line))));
      taken =
          λ earlier has. subst new (append_assoc earlier front.lines (one.line ∷ []))
          (one.taken (earlier ++ front.lines) (front.taken earlier has));
    }

-- a line stands within the bytes
pub line_within : {before after : List ℕ} (report : Report) (old new : List (List ℕ) → Type 0) (ready : List ℕ)
    (bytes : ℕ)
    → HasGivenLine report old new ready bytes before after → bytes ≤ length ready
line_within report old new ready bytes one =
    omega (arith, one.size, ap length one.split, length-append one.line (10 ∷ one.rest))

-- nothing more was taken
pub front_kept : {before mid after : List ℕ} (report : Report) (initial old new : List (List ℕ) → Type 0)
    (ready : List ℕ) (bytes number : ℕ)
    → HasGivenFront report initial old ready bytes number before mid
    → HasGivenNone old new mid after → HasGivenFront report initial new ready bytes number before after
front_kept report initial old new ready bytes number front none = record {
  lines = front.lines;
  texts = front.texts;
  short = front.short;
  text = front.text;
  count = front.count;
  good = front.good;
  gained = λ earlier has. none.same ∙ front.gained earlier has;
  taken = λ earlier has. none.kept (earlier ++ front.lines) (front.taken earlier has);
}

-- a line has a byte at least
pub line_some : {before after : List ℕ} (report : Report) (old new : List (List ℕ) → Type 0) (ready : List ℕ)
    (bytes : ℕ)
    → HasGivenLine report old new ready bytes before after → 0 < bytes
line_some report old new ready bytes one = omega (arith, one.size)

-- a line was taken, and then a front of what stands behind it
pub line_first : {before mid after : List ℕ} (report : Report) (initial old new : List (List ℕ) → Type 0)
    (ready : List ℕ) (bytes more number : ℕ)
    → HasGivenLine report initial old ready bytes before mid
    → HasGivenFront report old new (drop bytes ready) more number mid after
    → HasGivenFront report initial new ready (bytes + more) (number + 1) before after
line_first {before} report initial old new ready bytes more number one front =
    let line_text : take bytes ready ≡ one.line ++ (10 ∷ []) =
    ap (λ n. take n ready) one.size
    ∙ (ap (take (length one.line + 1)) one.split ∙ take-append-add one.line (10 ∷ one.rest) 1) in
    let behind = λ (earlier : List (List ℕ)). earlier ++ one.line ∷ [] in
    record {
      lines = one.line ∷ front.lines;
      texts = All-cons IsLineText one.line front.lines one.one_line front.texts;
      short = All-cons IsShortLine one.line front.lines one.short front.short;
      text = take-add bytes more ready ∙ (ap (λ l. l ++ take more (drop bytes ready)) line_text
          ∙ (ap (λ l. (one.line ++ (10 ∷ [])) ++ l) front.text
          ∙ append_assoc one.line (10 ∷ []) (text_of_lines front.lines)));
      count = omega (arith, front.count);
      good = λ earlier has. (one.no_fault earlier has, front.good (behind earlier) (one.taken earlier has));
      gained = λ earlier has.
          front.gained (behind earlier) (one.taken earlier has)
          ∙ (ap (λ l. l ++ gains_from report (behind earlier) front.lines) (one.gained earlier has)
          ∙ append_assoc before (report.gains earlier one.line) (gains_from report (behind earlier) front.lines));
      taken =
          λ earlier has. subst new (append_assoc earlier (one.line ∷ []) front.lines)
          (front.taken (behind earlier) (one.taken earlier has));
    }
