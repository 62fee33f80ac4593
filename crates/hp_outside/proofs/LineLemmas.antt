-- Where the first line feed stands, and what that says of the next line of a file.
use Rattle.std.proofs.Common.{◌≡◌, ◌≢◌, ◌+◌, ◌-◌, ◌<◌, ◌≤◌, ℕ, zero, suc, Bool, true, false, cond, not, List, [], ◌∷◌}
use Rattle.std.proofs.Common.{◌++◌, Option, None, Some, length, take, drop, zero-add, refl, ap, sym, subst, ◌∙◌, arith}
use Rattle.std.proofs.Common.{length-append, length-drop, add-one, append-nil, drop_of_length-le, IsSome, IfSome, ◌↔◌}
use Rattle.std.proofs.Common.{lt-ltb, le-ltb}
use Rattle.std.proofs.lemmas.Bool.{false≢true}
use Rattle.std.proofs.Math.Seq.{take-length}
use Rattle.std.proofs.lemmas.List.{take-append-drop, take-append-le, drop-append-le}
use Rattle.std.proofs.lemmas.List.Folds.{length-prefix_len}
use Rattle.std.specs.Prelude.{Ok, Err, Result}
use Rattle.std.specs.List.{prefix_len, position_or_len}
use Rattle.std.specs.Io.KnownBytes.{prepend_known}
use Rattle.hp_outside.specs.Lines.{is_line_feed, put_first, lines_of, first_line, after_line}
use Rattle.hp_outside.specs.Judgement.{IsJudgement}
use Rattle.hp_outside.specs.NextLine.{has_line_feed, IsLineTooLong, IsInputTooLong, NextAnswer, GivesLine}
use Rattle.hp_outside.specs.declared.span.Span.{Span}
use Rattle.hp_outside.specs.declared.line_end.Judgement.{Judgement}
use Rattle.hp_outside.specs.declared.line_end.Judgement.TheVariants.{Line, TooLong, Open}
use Rattle.hp_outside.specs.declared.span.LineFault.{LineFault}
use Rattle.hp_outside.specs.declared.span.LineFault.TheVariants.{ReadFailed, LineTooLong, InputTooLong}

-- a front that passes is left out
pub prefix_len-drop : (test : ℕ → Bool) (bytes : List ℕ) (count : ℕ) → count ≤ prefix_len test bytes
    → count + prefix_len test (drop count bytes) ≡ prefix_len test bytes
prefix_len-drop test bytes zero within = zero-add _
prefix_len-drop test [] (suc count) within = absurd (omega arith)
prefix_len-drop test (byte ∷ bytes) (suc count) within =
    elim (test byte) as
    (λ b. suc count ≤ cond b (1 + prefix_len test bytes) 0
    → suc count + prefix_len test (drop count bytes) ≡ cond b (1 + prefix_len test bytes) 0) [
      | true ↦ λ h. omega (arith, prefix_len-drop test bytes count (omega arith))
      | false ↦ λ h. absurd (omega arith)
    ] within

-- more bytes make the front that passes no shorter
prefix_len-append : (test : ℕ → Bool) (xs ys : List ℕ) → prefix_len test xs ≤ prefix_len test (xs ++ ys)
prefix_len-append test [] ys = omega arith
prefix_len-append test (x ∷ xs) ys =
    elim (test x) as (λ b. cond b (1 + prefix_len test xs) 0 ≤ cond b (1 + prefix_len test (xs ++ ys)) 0) [
      | true ↦ omega (arith, prefix_len-append test xs ys)
      | false ↦ omega arith
    ]

-- nor longer, where it had ended
prefix_len-append_ended : (test : ℕ → Bool) (xs ys : List ℕ) → prefix_len test xs < length xs
    → prefix_len test (xs ++ ys) ≡ prefix_len test xs
prefix_len-append_ended test [] ys h = absurd (omega arith)
prefix_len-append_ended test (x ∷ xs) ys h =
    elim (test x) as
    (λ b. cond b (1 + prefix_len test xs) 0 < suc (length xs)
    → cond b (1 + prefix_len test (xs ++ ys)) 0 ≡ cond b (1 + prefix_len test xs) 0) [
      | true ↦ λ h. ap (λ n. 1 + n) (prefix_len-append_ended test xs ys (omega arith))
      | false ↦ λ h. refl
    ] h

-- bytes of which the front is known have the first line feed no earlier
pub position_or_len-grown : (old new : List ℕ) → take (length old) new ≡ old
    → position_or_len is_line_feed old ≤ position_or_len is_line_feed new
position_or_len-grown old new front =
    let whole : old ++ drop (length old) new ≡ new =
    ap (λ l. l ++ drop (length old) new) (sym front) ∙ take-append-drop (length old) new in
    subst (λ (l : List ℕ). position_or_len is_line_feed old ≤ position_or_len is_line_feed l) whole
    (prefix_len-append (λ x. not (is_line_feed x)) old (drop (length old) new))

-- the rest of a file that is told: what is kept and what is left
pub told_rest : (left : Option (List ℕ)) (kept rest : List ℕ) → prepend_known kept left ≡ Some rest
    → (bytes : List ℕ) × (left ≡ Some bytes) × (rest ≡ kept ++ bytes)
told_rest None kept rest is = absurd (cc)
told_rest (Some bytes) kept rest is = (bytes, refl, cc)

-- the first line of a byte that is no line feed and others
put_first_line : (byte : ℕ) (bytes : List ℕ)
    → ((bytes ≢ []) → lines_of bytes ≡ first_line bytes ∷ lines_of (after_line bytes)) → (n : ℕ)
    → n ≡ position_or_len is_line_feed bytes
    → put_first byte (lines_of bytes) ≡ take (suc n) (byte ∷ bytes) ∷ lines_of (drop (suc n + 1) (byte ∷ bytes))
put_first_line byte [] step n is = rw is refl
put_first_line byte (next ∷ bytes) step n is =
    let nonempty : next ∷ bytes ≢ [] = λ e. absurd (cc) in
    let later : drop (suc n + 1) (byte ∷ next ∷ bytes) ≡ after_line (next ∷ bytes) =
    rw add-one (ap (λ m. drop m (next ∷ bytes)) (sym (add-one n) ∙ ap (λ m. m + 1) is)) in
    ap (put_first byte) (step nonempty) ∙ (λ i. (byte ∷ take (sym is i) (next ∷ bytes)) ∷ lines_of (sym later i))

-- the lines of bytes are the first one and those of what stands behind it
pub lines_of-step : (bytes : List ℕ) → (bytes ≢ []) → lines_of bytes ≡ first_line bytes ∷ lines_of (after_line bytes)
lines_of-step [] some = absurd (some refl)
lines_of-step (byte ∷ bytes) some =
    elim (is_line_feed byte) as (λ b. cond b ([] ∷ lines_of bytes) (put_first byte (lines_of bytes))
    ≡ take (cond (not b) (1 + position_or_len is_line_feed bytes) 0) (byte ∷ bytes)
    ∷ lines_of (drop (cond (not b) (1 + position_or_len is_line_feed bytes) 0 + 1) (byte ∷ bytes))) [
      | true ↦ refl
      | false ↦
          let e : suc (position_or_len is_line_feed bytes) ≡ 1 + position_or_len is_line_feed bytes = omega arith in
          put_first_line byte bytes (lines_of-step bytes) (position_or_len is_line_feed bytes) refl
          ∙ ap (λ m. take m (byte ∷ bytes) ∷ lines_of (drop (m + 1) (byte ∷ bytes))) e
    ]

-- how long the first line is
length-first_line : (rest : List ℕ) → length (first_line rest) ≡ position_or_len is_line_feed rest
length-first_line rest = length-prefix_len (λ x. not (is_line_feed x)) rest

-- a line that is judged to stand within the limits is the next one
pub line_answer : (input limit passed : ℕ) (kept left rest : List ℕ) (count : ℕ) (span : Span)
    → IsJudgement limit (input - passed) kept (Line count) → passed ≤ input → rest ≡ kept ++ left
    → NextAnswer input limit passed rest (Ok (Some span))
line_answer input limit passed kept left rest count span judged within is =
    let long : length rest ≡ length kept + length left = ap length is ∙ length-append kept left in
    let place : length (first_line rest) ≡ count =
    length-first_line rest ∙ ap (position_or_len is_line_feed) is
    ∙ prefix_len-append_ended (λ x. not (is_line_feed x)) kept left (omega (arith, judged.0, judged.1))
    ∙ judged.0 in (
      λ none. omega (arith, judged.1, ap length none),
      λ too_long. omega (arith, judged.2, too_long.0),
      λ too_long. omega (arith, judged.3, too_long.1),
    )

-- and it is given, with what stands behind it left
pub line_given : (input limit passed : ℕ) (kept left rest : List ℕ) (count : ℕ) (span : Span) (new_passed : ℕ)
    (new_kept line : List ℕ)
    → IsJudgement limit (input - passed) kept (Line count) → rest ≡ kept ++ left
    → line ≡ take count kept → new_kept ≡ drop (count + 1) kept → new_passed ≡ passed + count + 1
    → GivesLine passed rest new_passed (prepend_known new_kept (Some left)) line (Ok (Some span))
line_given input limit passed kept left rest count span new_passed new_kept line judged is line_is kept_is passed_is =
    let place : position_or_len is_line_feed rest ≡ count =
    ap (position_or_len is_line_feed) is
    ∙ prefix_len-append_ended (λ x. not (is_line_feed x)) kept left (omega (arith, judged.0, judged.1)) ∙ judged.0 in
    let low : count ≤ length kept = omega (arith, judged.1) in
    let high : count + 1 ≤ length kept = omega (arith, judged.1) in
    let line_as : take count kept ≡ first_line rest =
    sym (take-append-le count kept left low) ∙ ap (take count) (sym is) ∙ ap (λ n. take n rest) (sym place) in
    let rest_as : drop (count + 1) kept ++ left ≡ after_line rest =
    sym (drop-append-le (count + 1) kept left high) ∙ ap (drop (count + 1)) (sym is)
    ∙ ap (λ n. drop (n + 1) rest) (sym place) in
    let long : length rest ≡ length kept + length left = ap length is ∙ length-append kept left in (
      line_is ∙ line_as,
      ap (λ l. Some (l ++ left)) kept_is ∙ ap Some rest_as,
      lines_of-step rest (λ none. omega (arith, judged.1, ap length none))
          ∙ ap (λ l. l ∷ lines_of (after_line rest)) (sym (line_is ∙ line_as)),
      omega (
        arith,
        passed_is,
        ap length rest_as,
        length-append (drop (count + 1) kept) left,
        length-drop (count + 1) kept,
      ),
    )

-- and its line feed stands behind it
pub line_has_feed : (kept left rest : List ℕ) (count : ℕ) → position_or_len is_line_feed kept ≡ count
    → count < length kept → rest ≡ kept ++ left → has_line_feed rest ≡ true
line_has_feed kept left rest count place within is =
    let found : length (first_line rest) ≡ count =
    length-first_line rest
    ∙ (ap (position_or_len is_line_feed) is
    ∙ (prefix_len-append_ended (λ x. not (is_line_feed x)) kept left (omega (arith, place, within)) ∙ place)) in
    lt-ltb (length (first_line rest)) (length rest)
    (omega (arith, found, within, ap length is, length-append kept left))

-- behind the last line none stands, where none stands among the bytes that are left
pub last_has_none : (kept left rest : List ℕ) → position_or_len is_line_feed kept ≡ length kept → rest ≡ kept ++ left
    → left ≡ [] → has_line_feed rest ≡ false
last_has_none kept left rest none is end =
    let whole : rest ≡ kept = is ∙ (ap (λ l. kept ++ l) end ∙ append-nil kept) in
    le-ltb (length (first_line rest)) (length rest)
    (omega (arith, length-first_line rest, ap (position_or_len is_line_feed) whole, none, ap length whole))

-- a line that is judged too long is too long
line_too_long : (input limit passed : ℕ) (kept left rest : List ℕ)
    → IsJudgement limit (input - passed) kept (TooLong LineTooLong) → rest ≡ kept ++ left
    → IsLineTooLong input limit passed rest
line_too_long input limit passed kept left rest judged is =
    let more : position_or_len is_line_feed kept ≤ position_or_len is_line_feed (kept ++ left) =
    prefix_len-append (λ x. not (is_line_feed x)) kept left in (
      omega (arith, judged.0, more, length-first_line rest, ap (position_or_len is_line_feed) is),
      omega (arith, judged.1),
    )

-- a file that is judged too long is too long
input_too_long : (input limit passed : ℕ) (kept left rest : List ℕ)
    → IsJudgement limit (input - passed) kept (TooLong InputTooLong) → passed ≤ input → rest ≡ kept ++ left
    → IsInputTooLong input limit passed rest
input_too_long input limit passed kept left rest judged within is =
    let more : position_or_len is_line_feed kept ≤ position_or_len is_line_feed (kept ++ left) =
    prefix_len-append (λ x. not (is_line_feed x)) kept left in
    let place = length-first_line rest in
    let same = ap (position_or_len is_line_feed) is in
    let long : length rest ≡ length kept + length left = ap length is ∙ length-append kept left in (
      omega (arith, judged.0),
      omega (arith, judged.1, more, place, same),
      λ too_long. omega (arith, judged.1, judged.2 (omega (arith, too_long.1)), too_long.1),
    )

-- what is judged too long is the answer
pub too_long_answer : (input limit passed : ℕ) (kept left rest : List ℕ) (fault : LineFault)
    → IsJudgement limit (input - passed) kept (TooLong fault) → passed ≤ input → rest ≡ kept ++ left
    → NextAnswer input limit passed rest (Err fault)
too_long_answer input limit passed kept left rest ReadFailed judged within is = tt
too_long_answer input limit passed kept left rest LineTooLong judged within is =
    line_too_long input limit passed kept left rest judged is
too_long_answer input limit passed kept left rest InputTooLong judged within is =
    input_too_long input limit passed kept left rest judged within is

-- and no failed read
pub too_long_read : (limit room : ℕ) (kept : List ℕ) (fault given : LineFault)
    → IsJudgement limit room kept (TooLong fault) → given ≡ fault
    → ¬ (◌≡◌ {A = Result (Option Span) LineFault} (Err given) (Err ReadFailed))
too_long_read limit room kept ReadFailed given judged is failed = judged
too_long_read limit room kept LineTooLong given judged is failed = cc
too_long_read limit room kept InputTooLong given judged is failed = cc

-- a judgement at other names of the same numbers and bytes
pub judged_at : (limit limit' room room' : ℕ) (kept kept' : List ℕ) (judgement : Judgement) → limit ≡ limit'
    → room ≡ room' → kept ≡ kept' → IsJudgement limit room kept judgement
    → IsJudgement limit' room' kept' judgement
judged_at limit limit' room room' kept kept' judgement l r k judged =
    subst (λ (x : ℕ). IsJudgement x room' kept' judgement) l
    (subst (λ (x : ℕ). IsJudgement limit x kept' judgement) r
    (subst (λ (x : List ℕ). IsJudgement limit room x judgement) k judged))

-- all bytes that are left are the last line, where there are any and no line feed stands among them
last_told : (passed new_passed : ℕ) (kept left rest line new_kept : List ℕ) (place : Option Span)
    → position_or_len is_line_feed kept ≡ length kept → rest ≡ kept ++ left → left ≡ []
    → IsSome place ↔ (0 < length kept) → IfSome place (λ span. line ≡ kept) → new_kept ≡ []
    → new_passed ≡ passed + length kept
    → GivesLine passed rest new_passed (prepend_known new_kept (Some left)) line (Ok place)
last_told passed new_passed kept left rest line new_kept None none is end some line_is kept_is passed_is =
    λ i. Some (kept_is i ++ end i)
last_told passed new_passed kept left rest line new_kept (Some span) none is end some line_is kept_is passed_is =
    let whole : rest ≡ kept = is ∙ ap (λ l. kept ++ l) end ∙ append-nil kept in
    let first : first_line rest ≡ kept = ap first_line whole ∙ ap (λ n. take n kept) none ∙ take-length kept in
    let after : after_line rest ≡ [] =
    ap after_line whole ∙ ap (λ n. drop (n + 1) kept) none ∙ drop_of_length-le kept (omega arith) in
    let long : 0 < length rest = omega (arith, some.0 refl, ap length whole) in (
      line_is ∙ sym first,
      (λ i. Some (kept_is i ++ end i)) ∙ ap Some (sym after),
      lines_of-step rest (λ empty. omega (arith, long, ap length empty))
          ∙ ap (λ l. l ∷ lines_of (after_line rest)) (first ∙ sym line_is),
      omega (arith, passed_is, ap length after, ap length whole),
    )

-- the same, where the store tells that nothing is left
pub last_given : (passed new_passed : ℕ) (kept left rest line new_kept : List ℕ) (place : Option Span)
    (store_left : Option (List ℕ))
    → store_left ≡ Some left
    → position_or_len is_line_feed kept ≡ length kept → rest ≡ kept ++ left → left ≡ []
    → IsSome place ↔ (0 < length kept) → IfSome place (λ span. line ≡ kept) → new_kept ≡ []
    → new_passed ≡ passed + length kept
    → GivesLine passed rest new_passed (prepend_known new_kept store_left) line (Ok place)
last_given passed new_passed kept left rest line new_kept place store_left told none is end some line_is kept_is
    passed_is =
    subst (λ (o : Option (List ℕ)). GivesLine passed rest new_passed (prepend_known new_kept o) line (Ok place))
    (sym told)
    (last_told passed new_passed kept left rest line new_kept place none is end some line_is kept_is passed_is)

-- and it, or that there is none, is the answer
pub last_answer : (input limit passed : ℕ) (kept left rest : List ℕ) (place : Option Span)
    → IsJudgement limit (input - passed) kept Open → passed ≤ input → rest ≡ kept ++ left → left ≡ []
    → IsSome place ↔ (0 < length kept) → NextAnswer input limit passed rest (Ok place)
last_answer input limit passed [] left rest None judged within is end some = is ∙ end
last_answer input limit passed (byte ∷ kept) left rest None judged within is end some =
    absurd (false≢true (some.1 (omega arith)))
last_answer input limit passed kept left rest (Some span) judged within is end some =
    let whole : rest ≡ kept = is ∙ ap (λ l. kept ++ l) end ∙ append-nil kept in
    let first = length-first_line rest ∙ ap (position_or_len is_line_feed) whole ∙ judged.0 in (
      λ none. omega (arith, some.0 refl, ap length whole, ap length none),
      λ too_long. omega (arith, too_long.0, first, judged.1),
      λ too_long. omega (arith, too_long.0, ap length whole, judged.2, within),
    )

-- it is no longer than the bytes that were judged
pub last_short : (place : Option Span) (line kept : List ℕ) (limit new : ℕ) → IfSome place (λ span. line ≡ kept)
    → length kept ≤ limit → new ≡ limit → IfSome place (λ span. length line ≤ new)
last_short None line kept limit new is within same = tt
last_short (Some span) line kept limit new is within same = omega (arith, ap length is)
