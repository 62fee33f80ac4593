-- A line of a file that is taken at the front of bytes.
use Rattle.std.proofs.Common.{◌≡◌, ℕ, ◌+◌, ◌<◌, List, [], ◌∷◌, ◌++◌, length, take, drop, get_or, None, Some, IfSome}
use Rattle.std.proofs.Common.{IfNone, Option, refl, ap, sym, subst, ◌∙◌, append-nil, append_assoc, arith}
use Rattle.std.proofs.lemmas.List.{length-take-le, take-append-drop, take_more}
use Rattle.std.specs.Option.{option_map}
use Rattle.hp_outside.specs.WholeLines.{IsLineText}
use Rattle.command_frame.specs.Batch.{HasGivenLine, TakesFirst}
use Rattle.record_scripts.specs.Job.{Job}
use Rattle.heaprec_commands.specs.declared.reader.InputKind.{InputKind}
use Rattle.heaprec_commands.specs.FaultTold.{told}
use Rattle.heaprec_commands.specs.FileLines.{file_report, one_fault, with_lines, with_one}
use Rattle.heaprec_commands.specs.FrontTaken.{TakesFront}
use Rattle.heaprec_commands.proofs.LineLemmas.{lines-push}

-- a line that ends where a line feed is
pub front-taken : (kind : InputKind) (old new : Job) (ready line : List ℕ) (end : ℕ) → line ≡ take end ready
    → end < length ready → end < 64 → IsLineText (take end ready) → get_or ready end 0 ≡ 10
    → one_fault kind old line ≡ None → new ≡ with_one kind old line → TakesFront kind old new ready (end + 1)
front-taken kind old new ready line end line_is within short text feed none is =
    let size : length line ≡ end = ap length line_is ∙ length-take-le end ready (omega (arith, within)) in
    let one : take (end + 1) ready ≡ line ++ (10 ∷ []) =
    take_more ready end 0 within
    ∙ (ap (λ l. l ++ get_or ready end 0 ∷ []) (sym line_is) ∙ ap (λ b. line ++ b ∷ []) feed) in
    record {
      line = line;
      one_line = subst IsLineText (sym line_is) text;
      short = omega (arith, size, short);
      rest = drop (end + 1) ready;
      split =
          sym (take-append-drop (end + 1) ready)
          ∙ (ap (λ l. l ++ drop (end + 1) ready) one ∙ append_assoc line (10 ∷ []) (drop (end + 1) ready));
      size = omega (arith, size);
      no_fault = none;
      new_is = is;
    }

-- as the frame has it: a line of a script gives nothing
given : {output : List ℕ} (kind : InputKind) (start old new : Job) (ready : List ℕ) (bytes : ℕ)
    → TakesFront kind old new ready bytes
    → HasGivenLine (file_report kind start) (λ lines. old ≡ with_lines kind start lines)
    (λ lines. new ≡ with_lines kind start lines) ready bytes output output
given {output} kind start old new ready bytes front = record {
  line = front.line;
  one_line = front.one_line;
  short = front.short;
  rest = front.rest;
  split = front.split;
  size = front.size;
  no_fault = λ earlier is. ap (option_map told) (ap (λ job. one_fault kind job front.line) (sym is) ∙ front.no_fault);
  gained = λ earlier is. sym (append-nil output);
  taken =
      λ earlier is. front.new_is
      ∙ (ap (λ job. with_one kind job front.line) is ∙ sym (lines-push kind start earlier front.line));
}

-- whether or not one is taken
pub given-first : (output : List ℕ) (kind : InputKind) (start old new : Job) (ready : List ℕ) (answer : Option ℕ)
    → IfSome answer (λ bytes. TakesFront kind old new ready bytes) → IfNone answer (new ≡ old)
    → TakesFirst (file_report kind start) (λ lines. old ≡ with_lines kind start lines)
    (λ lines. new ≡ with_lines kind start lines) ready output output answer
given-first output kind start old new ready (Some bytes) front same = given kind start old new ready bytes front
given-first output kind start old new ready None front same = record { kept = λ lines is. same ∙ is; same = refl }
