-- Among fields that are all numbers, the number of a field is the number at its place.
use Rattle.std.proofs.Common.{◌∙◌, ap}
use Rattle.std.specs.Option.{option_and_then}
use Rattle.hp_num.specs.ParsedHex.{parsed_hex}
use Rattle.ht_lines.specs.Fields.{fields}
use Rattle.ht_lines.proofs.FieldLemmas.{number_at}
use Rattle.ht_lines.proofs.fields.field.Goals as goal

pub returns-in-Some-clause-number : goal.returns-in-Some-clause-number
returns-in-Some-clause-number c h =
    c.parse_hex.ensures.parsed ∙ ap (λ o. option_and_then parsed_hex o) c.in-Some.ensures
    ∙ number_at (fields c.args.tail.now) c.args.k h

pub returns-in-None-clause-number : goal.returns-in-None-clause-number
returns-in-None-clause-number c h =
    ap (λ o. option_and_then parsed_hex o) c.in-None.ensures ∙ number_at (fields c.args.tail.now) c.args.k h
