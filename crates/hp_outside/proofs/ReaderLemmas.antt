-- What a reader of lines says of itself where it gives a line, and where it gives none.
use Rattle.std.proofs.Common.{◌≡◌, ◌≢◌, ◌⊎◌, inl, inr, if◌then◌else◌, ◌+◌, ◌<◌, ◌≤◌, ℕ, Bool, true, false, List, []}
use Rattle.std.proofs.Common.{◌∷◌, Option, None, Some, Result, Ok, Err, ◌++◌, length, length-append, take, length-take}
use Rattle.std.proofs.Common.{refl, sym, ap, subst, ◌-◌, ◌∙◌, arith, is_some, is_ok}
use Rattle.std.proofs.lemmas.Bool.{false≢true}
use Rattle.std.proofs.Math.Seq.{take-length}
use Rattle.std.specs.Io.KnownBytes.{prepend_known}
use Rattle.hp_outside.specs.Taken.{WhereTold}
use Rattle.hp_outside.specs.Judgement.{IsJudgement}
use Rattle.hp_outside.specs.NextLine.{IsUndecided}
use Rattle.hp_outside.specs.LineReaderState.{LineReaderState}
use Rattle.hp_outside.specs.ReaderCalls.{StandsAt}
use Rattle.hp_outside.specs.declared.span.LineFault.{LineFault}
use Rattle.hp_outside.specs.declared.span.LineFault.TheVariants.{ReadFailed}
use Rattle.hp_outside.specs.declared.span.Span.{Span}
use Rattle.hp_outside.specs.declared.line_end.Judgement.{Judgement}
use Rattle.hp_outside.specs.declared.line_end.Judgement.TheVariants.{Open}
use Rattle.hp_outside.proofs.LineLemmas.{judged_at}

-- what is the same where no line is given
pub stands_still : (reader : LineReaderState) → StandsAt reader reader
stands_still reader =
    record { input = refl; line_limit = refl; passed = refl; number = refl; given = refl; line_ended = refl }

-- and where a fault is kept
pub stands_refused : (old reader new : LineReaderState) (fault : LineFault) → StandsAt old reader
    → new ≡ record reader { fault = Some fault } → StandsAt old new
stands_refused old reader new fault same after = record {
  input = ap (λ s. s.input) after ∙ same.input;
  line_limit = ap (λ s. s.line_limit) after ∙ same.line_limit;
  passed = ap (λ s. s.passed) after ∙ same.passed;
  number = ap (λ s. s.number) after ∙ same.number;
  given = ap (λ s. s.given) after ∙ same.given;
  line_ended = ap (λ s. s.line_ended) after ∙ same.line_ended;
}

-- and where each of these was the same a step before
pub stands_on : {old reader new : LineReaderState} → StandsAt old reader → StandsAt reader new → StandsAt old new
stands_on same more = record {
  input = more.input ∙ same.input;
  line_limit = more.line_limit ∙ same.line_limit;
  passed = more.passed ∙ same.passed;
  number = more.number ∙ same.number;
  given = more.given ∙ same.given;
  line_ended = more.line_ended ∙ same.line_ended;
}

-- a judgement of the bytes that a reader keeps, by what it had at first
pub judged_in : (old reader : LineReaderState) (line input passed : ℕ) (kept bytes : List ℕ) (judgement : Judgement)
    → StandsAt old reader
    → line ≡ reader.line_limit → input ≡ reader.input → passed ≡ reader.passed → kept ≡ reader.kept → bytes ≡ kept
    → IsJudgement line (input - passed) bytes judgement
    → IsJudgement old.line_limit (old.input - old.passed) reader.kept judgement
judged_in old reader line input passed kept bytes judgement same l i p k b judged =
    judged_at _ _ _ _ _ _ judgement (l ∙ same.line_limit) (λ j. (i ∙ same.input) j - (p ∙ same.passed) j) (b ∙ k) judged

-- only a file that has ended, and of which nothing is kept, had a last line without its line feed
abbrev pub IsLastEnded : LineReaderState → Type 0
IsLastEnded reader = reader.line_ended ≡ false → (reader.ended ≡ true) × (reader.kept ≡ [])

pub last_ended : (ended line_ended : Bool) (kept : List ℕ) → (ended ≡ false → line_ended ≡ true)
    → (0 < length kept → line_ended ≡ true)
    → line_ended ≡ false → (ended ≡ true) × (kept ≡ [])
last_ended false line_ended kept unended more last = absurd (false≢true (sym last ∙ unended refl))
last_ended true line_ended [] unended more last = (refl, refl)
last_ended true line_ended (byte ∷ kept) unended more last = absurd (false≢true (sym last ∙ more (omega arith)))

-- and so it is where a fault is kept
pub last_refused : (reader new : LineReaderState) (fault : LineFault) → new ≡ record reader { fault = Some fault }
    → IsLastEnded reader → IsLastEnded new
last_refused reader new fault after last = subst IsLastEnded (sym after) last

-- and where none of this changes
pub last_still : (reader new : LineReaderState) → new.line_ended ≡ reader.line_ended → new.ended ≡ reader.ended
    → new.kept ≡ reader.kept → IsLastEnded reader → IsLastEnded new
last_still reader new line_ended ended kept last now =
    let was = last (sym line_ended ∙ now) in (ended ∙ was.0, kept ∙ was.1)

-- bytes that are open show neither a line nor a fault
pub undecided_still : (old reader new : LineReaderState)
    → IsJudgement old.line_limit (old.input - old.passed) reader.kept Open → StandsAt old new → old.passed ≤ old.input
    → new.kept ≡ reader.kept
    → IsUndecided new.input new.line_limit new.passed new.kept
undecided_still old reader new judged same within kept =
    subst (λ bytes. IsUndecided new.input new.line_limit new.passed bytes) (sym kept)
    (judged.0, omega (arith, judged.1, same.line_limit), omega (arith, judged.2, within, same.passed, same.input))

-- no faults rose before these did
pub rise_from : (old reader new : ℕ) → reader ≡ old → reader ≤ new → old ≤ new
rise_from old reader new same rise = omega arith

-- no faults rose
pub no_more : (old new : ℕ) → new ≡ old → old ≤ new
no_more old new same = omega arith

pub none_is_some : (fault : LineFault) → ¬ (None ≡ Some fault)
none_is_some fault is = false≢true (ap is_some is)

-- bounds of other names of the same numbers
pub stands_bounded : (old new : LineReaderState) → StandsAt old new → old.given ≤ old.input + 1
    → new.given ≤ new.input + 1
stands_bounded old new same bound = omega (arith, same.given, same.input)

pub stands_within : (old new : LineReaderState) → StandsAt old new → old.passed ≤ old.input → new.passed ≤ new.input
stands_within old new same bound = omega (arith, same.passed, same.input)

-- where all that is kept is passed, as much as the file may have is
pub last_within : (old reader new : LineReaderState) (count : ℕ)
    → IsJudgement old.line_limit (old.input - old.passed) reader.kept Open → old.passed ≤ old.input
    → StandsAt old reader
    → count ≡ length reader.kept → new.passed ≡ reader.passed + count → new.input ≡ reader.input
    → new.passed ≤ new.input
last_within old reader new count judged within same all passed input =
    omega (arith, judged.2, within, same.passed, same.input, all, passed, input)

-- a line that was given is no failed read
pub given_read : (place : Option Span) → ¬ (◌≡◌ {A = Result (Option Span) LineFault} (Ok place) (Err ReadFailed))
given_read place is = false≢true (sym (ap is_ok is))

-- how long a line is that is the front of more bytes
pub length-taken : (line kept : List ℕ) (count : ℕ) → line ≡ take count kept → count < length kept → length line ≡ count
length-taken line kept count is within = omega (arith, ap length is, length-take count kept)

-- what is passed with a line, or given with one
pub passed_on : (old reader new count len skipped : ℕ) → reader ≡ old → new ≡ reader + count + skipped → len ≡ count
    → new ≡ old + len + skipped
passed_on old reader new count len skipped same passed is = omega arith

pub no_longer : (len count limit new : ℕ) → len ≡ count → count ≤ limit → new ≡ limit → len ≤ new
no_longer len count limit new is within same = omega arith

-- what was scanned stands in what is kept, and no line feed in it
pub front_within : (seen : ℕ) (old new : List ℕ) → seen ≡ length old → take (length old) new ≡ old → seen ≤ length new
front_within seen old new is front = omega (arith, ap length front, length-take (length old) new)

pub seen_within : (seen len place later : ℕ) → seen ≡ len → place ≡ len → place ≤ later → seen ≤ later
seen_within seen len place later is none grown = omega arith

-- a read that gave nothing leaves what is kept
pub kept_whole : (kept more : List ℕ) (count : ℕ) → count ≡ 0 → take (length kept) more ≡ kept
    → length more ≡ length kept + count → more ≡ kept
kept_whole kept more count none front long =
    let same : length more ≡ length kept = omega arith in
    sym (take-length more) ∙ ap (λ n. take n more) same ∙ front

empty : (bytes : List ℕ) → length bytes ≡ 0 → bytes ≡ []
empty [] none = refl
empty (byte ∷ bytes) none = absurd (omega arith)

-- and nothing is left behind it, where nothing was left before
pub left_at_end : (old new : Option (List ℕ)) (kept more : List ℕ) (count : ℕ) → count ≡ 0
    → prepend_known kept old ≡ prepend_known more new → length more ≡ length kept + count
    → WhereTold old (λ bytes. bytes ≡ []) → WhereTold new (λ bytes. bytes ≡ [])
left_at_end old None kept more count none rest long ended value told = absurd (cc)
left_at_end None (Some left) kept more count none rest long ended value told = absurd (cc)
left_at_end (Some was) (Some left) kept more count none rest long ended value told =
    let whole : kept ++ was ≡ more ++ value = cc in
    let at_end : was ≡ [] = ended was refl in
    empty value (omega (arith, ap length whole, ap length at_end, length-append kept was, length-append more value))

-- a read that gave something leaves more
pub longer_by : (old kept new count : ℕ) → kept ≡ old → new ≡ kept + count → (count ≢ 0) → old < new
longer_by old kept new count same long some = omega arith

-- a reader moves behind a line and its line feed, or behind the last line of its file
pub law_moved : (old new : LineReaderState)
    → new.passed ≡ old.passed + length new.line + (if new.line_ended then 1 else 0)
    → (new.line_ended ≡ false → (new.ended ≡ true) × (new.kept ≡ []))
    → (new.passed ≡ old.passed + length new.line + 1)
    ⊎ ((new.passed ≡ old.passed + length new.line) × (new.ended ≡ true))
law_moved old new step last = by new.line_ended refl
  where
    by : (b : Bool) → new.line_ended ≡ b
        → (new.passed ≡ old.passed + length new.line + 1)
        ⊎ ((new.passed ≡ old.passed + length new.line) × (new.ended ≡ true))
    by true fed = inl (step ∙ ap (λ b. old.passed + length new.line + (if b then 1 else 0)) fed)
    by false unfed =
        inr (omega (arith, step ∙ ap (λ b. old.passed + length new.line + (if b then 1 else 0)) unfed), (last unfed).0)
