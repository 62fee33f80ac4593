-- What is parsed is the one field.
use Rattle.std.proofs.Common.{◌≡◌, ◌≤◌, ◌-◌, List, ℕ, [], ◌∷◌, Option, Some, None, length, take, drop, get_or, take_all}
use Rattle.std.proofs.Common.{sym, ap, ◌∙◌, arith}
use Rattle.std.specs.Prelude.{IfSome}
use Rattle.hp_num.specs.ParsedHex.{parsed_hex}
use Rattle.ht_lines.specs.Fields.{fields}
use Rattle.ht_lines.proofs.TextLemmas.{fields-lone_number}
use Rattle.ht_lines.proofs.numbers.lone_number.Goals as goal

lone : (text : List ℕ) (o : Option ℕ) → 1 ≤ length text → get_or text 0 0 ≡ 32
    → o ≡ parsed_hex (take (length text - 1) (drop 1 text))
    → IfSome o (λ n. (digits : List ℕ) × (fields text ≡ digits ∷ []) × (parsed_hex digits ≡ Some n))
lone text None some blank is = tt
lone [] (Some n) some blank is = absurd (omega arith)
lone (b ∷ bs) (Some n) some blank is =
    let whole : take (length (b ∷ bs) - 1) bs ≡ bs = take_all (length (b ∷ bs) - 1) bs (omega arith) in
    let parsed : parsed_hex bs ≡ Some n = ap parsed_hex (sym whole) ∙ sym is in
    (bs, ap (λ k. fields (k ∷ bs)) blank ∙ fields-lone_number bs n parsed, parsed)

pub returns : goal.returns
returns c =
    lone c.args.rest.now c.parse_hex.result c.in-len1-up.len_at_least c.if-blank-ne32.false c.parse_hex.ensures.parsed
