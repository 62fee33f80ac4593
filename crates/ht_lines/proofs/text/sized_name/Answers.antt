use Rattle.std.proofs.Common.{◌≡◌, ◌∙◌, None, Some, refl, sym, ap}
use Rattle.hp_num.specs.ParsedHex.{parsed_hex}
use Rattle.ht_lines.specs.Fields.{first_field}
use Rattle.ht_lines.specs.ModuleName.{sized_name}
use Rattle.ht_lines.proofs.NumberLemmas.{parsed_nothing}
use Rattle.ht_lines.proofs.text.sized_name.Goals as goal

pub returns-in_default-clause-exact : goal.returns-in_default-clause-exact
unfolding sized_name
returns-in_default-clause-exact c = rw (c.in_default.ensures.no_field, parsed_nothing) refl

pub returns-in-None-clause-exact : goal.returns-in-None-clause-exact
unfolding sized_name
returns-in-None-clause-exact c =
    let none : parsed_hex (first_field c.args.rest.now) ≡ None =
    ap parsed_hex (sym c.in-Some.ensures.field) ∙ sym c.parse_hex.ensures.parsed ∙ c.in-None.is in
    rw none refl

pub returns-in-Some-parse_hex-clause-exact : goal.returns-in-Some-parse_hex-clause-exact
unfolding sized_name
returns-in-Some-parse_hex-clause-exact c =
    let size : parsed_hex (first_field c.args.rest.now) ≡ Some c.in-Some-parse_hex.size =
    ap parsed_hex (sym c.in-Some.ensures.field) ∙ sym c.parse_hex.ensures.parsed ∙ c.in-Some-parse_hex.is in
    rw (size, ← c.in-Some.ensures.after) c.bytes_of_size.ensures.exact
