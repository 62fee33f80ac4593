-- The first line of bytes, and the faults of a line's length.
use Rattle.std.proofs.Common.{◌≡◌, ℕ, suc, ◌+◌, ◌<◌, ◌≤◌, ◌&&◌, Bool, true, false, nat_le, nat_lt, List, [], ◌∷◌}
use Rattle.std.proofs.Common.{length, take, drop, Some, None, refl, ap, sym, ◌∙◌, length-take, length-drop, arith}
use Rattle.std.proofs.lemmas.Bool.{false_from_ne_true, ltb-true, leb-true, lt-ltb, le-leb}
use Rattle.std.specs.List.{position_or_len}
use Rattle.command_frame.specs.FirstFault.{Bounds, input_too_long, length_fault, line_too_long}
use Rattle.hp_outside.specs.Lines.{after_line, first_line, is_line_feed, lines_of, put_first}

-- a byte that is no line feed stands at the front of the first line, and behind it is what was
pub place_before : (byte : ℕ) (rest : List ℕ) → is_line_feed byte ≡ false
    → position_or_len is_line_feed (byte ∷ rest) ≡ suc (position_or_len is_line_feed rest)
place_before byte rest is = rw is (omega arith)

pub put_before : (byte : ℕ) (rest : List ℕ) → is_line_feed byte ≡ false
    → lines_of (byte ∷ rest) ≡ put_first byte (lines_of rest)
put_before byte rest is = rw is refl

pub first_before : (byte : ℕ) (rest : List ℕ) → is_line_feed byte ≡ false
    → first_line (byte ∷ rest) ≡ byte ∷ first_line rest
first_before byte rest is = ap (λ k. take k (byte ∷ rest)) (place_before byte rest is)

pub after_before : (byte : ℕ) (rest : List ℕ) → is_line_feed byte ≡ false → after_line (byte ∷ rest) ≡ after_line rest
after_before byte rest is =
    let place : position_or_len is_line_feed (byte ∷ rest) + 1 ≡ suc (position_or_len is_line_feed rest + 1) =
    omega (arith, place_before byte rest is) in
    ap (λ k. drop k (byte ∷ rest)) place

-- whether or not the first byte is a line feed
by_first : (test : Bool) (byte : ℕ) (rest : List ℕ) → is_line_feed byte ≡ test
    → (0 < length rest → lines_of rest ≡ first_line rest ∷ lines_of (after_line rest))
    → lines_of (byte ∷ rest) ≡ first_line (byte ∷ rest) ∷ lines_of (after_line (byte ∷ rest))
by_first true byte rest is later = rw is refl
by_first false byte [] is later = rw is refl
by_first false byte (next ∷ rest) is later =
    put_before byte (next ∷ rest) is
    ∙ (ap (put_first byte) (later (omega arith))
    ∙ (ap (λ line. line ∷ lines_of (after_line (next ∷ rest))) (sym (first_before byte (next ∷ rest) is))
    ∙ ap (λ more. first_line (byte ∷ next ∷ rest) ∷ lines_of more) (sym (after_before byte (next ∷ rest) is))))

-- the first line and the lines behind it are all lines, where a byte is left
pub lines_of_first : (rest : List ℕ) → 0 < length rest → lines_of rest ≡ first_line rest ∷ lines_of (after_line rest)
lines_of_first [] some = absurd (omega arith)
lines_of_first (byte ∷ rest) some = by_first (is_line_feed byte) byte rest refl (λ more. lines_of_first rest more)

-- where something is behind the first line, a line feed is between
pub after_line_length : (rest : List ℕ) → 0 < length (after_line rest)
    → length rest ≡ length (first_line rest) + 1 + length (after_line rest)
after_line_length rest some =
    omega (
      arith,
      length-take (position_or_len is_line_feed rest) rest,
      length-drop (position_or_len is_line_feed rest + 1) rest,
    )

-- with its line feed, the first line reaches to what is behind it
pub first_line_reaches : (rest : List ℕ) → length rest ≤ length (first_line rest) + 1 + length (after_line rest)
first_line_reaches rest =
    omega (
      arith,
      length-take (position_or_len is_line_feed rest) rest,
      length-drop (position_or_len is_line_feed rest + 1) rest,
    )

-- both tests are true
both : (first second : Bool) → (first && second) ≡ true → (first ≡ true) × (second ≡ true)
both true second is = (refl, is)
both false second is = absurd (cc)

-- the faults of a line's length come where they hold, and none where neither does
pub line_is_too_long : (bounds : Bounds) (total before line : ℕ) → bounds.line < line
    → before + bounds.line + 1 ≤ bounds.input → length_fault bounds total before line ≡ Some line_too_long
line_is_too_long bounds total before line long within =
    let first : nat_lt bounds.line line ≡ true = lt-ltb _ _ long in
    let second : nat_le (before + bounds.line + 1) bounds.input ≡ true = le-leb _ _ within in
    rw (first, second) refl

not_too_long : (bounds : Bounds) (before line : ℕ)
    → ¬ ((bounds.line < line) × (before + bounds.line + 1 ≤ bounds.input))
    → (nat_lt bounds.line line && nat_le (before + bounds.line + 1) bounds.input) ≡ false
not_too_long bounds before line short = false_from_ne_true _ (λ is.
    let tests = both (nat_lt bounds.line line) (nat_le (before + bounds.line + 1) bounds.input) is in
    short (ltb-true _ _ tests.0, leb-true _ _ tests.1))

pub input_is_too_long : (bounds : Bounds) (total before line : ℕ)
    → ¬ ((bounds.line < line) × (before + bounds.line + 1 ≤ bounds.input)) → bounds.input < total
    → bounds.input ≤ before + line → length_fault bounds total before line ≡ Some input_too_long
input_is_too_long bounds total before line short past open_end =
    let first : (nat_lt bounds.line line && nat_le (before + bounds.line + 1) bounds.input) ≡ false =
    not_too_long bounds before line short in
    let second : nat_lt bounds.input total ≡ true = lt-ltb _ _ past in
    let third : nat_le bounds.input (before + line) ≡ true = le-leb _ _ open_end in
    rw first (rw (second, third) refl)

pub length_is_good : (bounds : Bounds) (total before line : ℕ)
    → ¬ ((bounds.line < line) × (before + bounds.line + 1 ≤ bounds.input))
    → ¬ ((bounds.input < total) × (bounds.input ≤ before + line)) → length_fault bounds total before line ≡ None
length_is_good bounds total before line short within =
    let first : (nat_lt bounds.line line && nat_le (before + bounds.line + 1) bounds.input) ≡ false =
    not_too_long bounds before line short in
    let second : (nat_lt bounds.input total && nat_le bounds.input (before + line)) ≡ false =
    false_from_ne_true _ (λ is.
    let tests = both (nat_lt bounds.input total) (nat_le bounds.input (before + line)) is in
    within (ltb-true _ _ tests.0, leb-true _ _ tests.1)) in
    rw first (rw second refl)
