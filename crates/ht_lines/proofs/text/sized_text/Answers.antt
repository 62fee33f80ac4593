use Rattle.std.proofs.Common.{◌≡◌, ◌≢◌, ◌<◌, ◌≤◌, ◌-◌, ◌∙◌, ℕ, List, [], ◌∷◌, length, take, drop, take_all, None, Some}
use Rattle.std.proofs.Common.{arith, refl, sym, ap}
use borrow.Author.Tests.{eq-eqb, ne_eqb}
use Rattle.hp_num.specs.ParsedHex.{parsed_hex}
use Rattle.ht_lines.specs.Fields.{before_blank}
use Rattle.ht_lines.specs.SizedText.{of_size, sized_text}
use Rattle.ht_lines.proofs.text.sized_text.Goals as goal

no_bytes : (n : ℕ) (after : List ℕ) → length after < 1 → None ≡ of_size (Some n) after
no_bytes n [] few = refl
no_bytes n (b ∷ bytes) few = absurd (omega arith)

other_bytes : (n : ℕ) (after : List ℕ) → 1 ≤ length after → length (take (length after - 1) (drop 1 after)) ≢ n
    → None ≡ of_size (Some n) after
other_bytes n [] some other = absurd (omega arith)
other_bytes n (b ∷ bytes) some other =
    rw (ne_eqb (length bytes) n
    (λ same. other (ap length (take_all (length (b ∷ bytes) - 1) bytes (omega arith)) ∙ same))) refl

all_bytes : (n : ℕ) (after : List ℕ) → 1 ≤ length after → length (take (length after - 1) (drop 1 after)) ≡ n
    → Some (take (length after - 1) (drop 1 after)) ≡ of_size (Some n) after
all_bytes n [] some all = absurd (omega arith)
all_bytes n (b ∷ bytes) some all =
    let whole : take (length (b ∷ bytes) - 1) bytes ≡ bytes = take_all (length (b ∷ bytes) - 1) bytes (omega arith) in
    rw (eq-eqb (length bytes) n (sym (ap length whole) ∙ all), whole) refl

pub returns-in_err-size : goal.returns-in_err-size
unfolding sized_text
returns-in_err-size c =
    let none : parsed_hex (before_blank c.args.plain.now) ≡ None =
    ap parsed_hex (sym c.split_at_blank.ensures.before) ∙ sym c.parse_hex.ensures.parsed ∙ c.in_err-size.was in
    rw (none, c.from_residual.ensures) refl

pub returns-in_default : goal.returns-in_default
unfolding sized_text
returns-in_default c =
    let size : parsed_hex (before_blank c.args.plain.now) ≡ Some c.in_ok-size.size =
    ap parsed_hex (sym c.split_at_blank.ensures.before) ∙ sym c.parse_hex.ensures.parsed ∙ c.in_ok-size.was in
    rw (size, ← c.split_at_blank.ensures.from)
    (no_bytes c.in_ok-size.size c.split_at_blank.result.1.now c.in_default.len_below)

pub returns-then-bytes-size : goal.returns-then-bytes-size
unfolding sized_text
returns-then-bytes-size c =
    let size : parsed_hex (before_blank c.args.plain.now) ≡ Some c.in_ok-size.size =
    ap parsed_hex (sym c.split_at_blank.ensures.before) ∙ sym c.parse_hex.ensures.parsed ∙ c.in_ok-size.was in
    rw (size, ← c.split_at_blank.ensures.from)
    (other_bytes c.in_ok-size.size c.split_at_blank.result.1.now c.in-len1-up.len_at_least c.if-bytes-size.true)

pub returns : goal.returns
unfolding sized_text
returns c =
    let size : parsed_hex (before_blank c.args.plain.now) ≡ Some c.in_ok-size.size =
    ap parsed_hex (sym c.split_at_blank.ensures.before) ∙ sym c.parse_hex.ensures.parsed ∙ c.in_ok-size.was in
    rw (size, ← c.split_at_blank.ensures.from)
    (all_bytes c.in_ok-size.size c.split_at_blank.result.1.now c.in-len1-up.len_at_least c.if-bytes-size.false)
