use Rattle.std.proofs.Common.{◌≡◌, ℕ, [], Option, None, Some, Result, Ok, Err, refl, sym, ap, ◌∙◌}
use Rattle.hp_num.specs.ParsedHex.{parsed_hex}
use Rattle.ht_lines.specs.Fields.{fields}
use Rattle.ht_lines.specs.Reading.{with_number}
use Rattle.ht_lines.specs.Reading as reading
use Rattle.ht_lines.specs.declared.item.Malformed.{Malformed}
use Rattle.ht_lines.proofs.FieldLemmas.{where_none}
use Rattle.ht_lines.proofs.numbers.three_numbers.Goals as goal
use Rattle.ht_lines.proofs.numbers.three_numbers.Goals.{After-both_numbers}

-- a number in front of two, or their fault
abbrev in_front : ℕ → Result (ℕ × ℕ) Malformed → Result (ℕ × ℕ × ℕ) Malformed
in_front l (Ok x) = Ok (l, x.0, x.1)
in_front l (Err fault) = Err fault

behind : (l : ℕ) (m n : Option ℕ)
    → with_number m (λ m. with_number n (λ n. Ok (l, m, n)))
    ≡ in_front l (with_number m (λ m. with_number n (λ n. Ok (m, n))))
behind l None n = refl
behind l (Some m) None = refl
behind l (Some m) (Some n) = refl

pub returns-in_default : goal.returns-in_default
returns-in_default c = rw c.in_default.ensures.none refl

pub returns-in_default-next_field : goal.returns-in_default-next_field
returns-in_default-next_field c = rw (c.in-Some.ensures.some, c.in_default-next_field.ensures.none) refl

pub returns-in_default-next_field-2 : goal.returns-in_default-next_field-2
returns-in_default-next_field-2 c =
    rw (c.in-Some.ensures.some, c.in-Some-next_field.ensures.some, c.in_default-next_field-2.ensures.none) refl

pub returns-in_default-parse_hex : goal.returns-in_default-parse_hex
returns-in_default-parse_hex c =
    let end : fields c.in-Some-next_field-2.after.now ≡ [] =
    where_none c.next_field-4.result _ c.if-is_some.ensures c.next_field-4.ensures.none in
    let none : parsed_hex c.in-Some.first.now ≡ None = sym c.parse_hex.ensures.parsed ∙ c.in_default-parse_hex.is in
    rw (c.in-Some.ensures.some, c.in-Some-next_field.ensures.some, c.in-Some-next_field-2.ensures.some, end, none) refl

-- the three numbers, or their fault, by those of the last two
read : (c : After-both_numbers)
    → reading.three_numbers (fields c.args.rest.now) ≡ in_front c.in-Some-parse_hex.first c.both_numbers.result
read c =
    let end : fields c.in-Some-next_field-2.after.now ≡ [] =
    where_none c.next_field-4.result _ c.if-is_some.ensures c.next_field-4.ensures.none in
    let first : parsed_hex c.in-Some.first.now ≡ Some c.in-Some-parse_hex.first =
    sym c.parse_hex.ensures.parsed ∙ c.in-Some-parse_hex.is in
    rw (
      c.in-Some.ensures.some,
      c.in-Some-next_field.ensures.some,
      c.in-Some-next_field-2.ensures.some,
      end,
      first,
      behind c.in-Some-parse_hex.first (parsed_hex c.in-Some-next_field.second.now)
          (parsed_hex c.in-Some-next_field-2.third.now),
      sym c.both_numbers.ensures,
    ) refl

pub returns-in-Ok : goal.returns-in-Ok
returns-in-Ok c =
    sym
    (read (goal.at.returns-in-Ok c).After-both_numbers ∙ ap (in_front c.in-Some-parse_hex.first) c.in-Ok.is)

pub returns-in-Err : goal.returns-in-Err
returns-in-Err c =
    sym
    (read (goal.at.returns-in-Err c).After-both_numbers ∙ ap (in_front c.in-Some-parse_hex.first) c.in-Err.is)
