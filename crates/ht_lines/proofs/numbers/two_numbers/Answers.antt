use Rattle.std.proofs.Common.{◌≡◌, [], refl}
use Rattle.ht_lines.specs.Fields.{fields}
use Rattle.ht_lines.proofs.FieldLemmas.{where_none}
use Rattle.ht_lines.proofs.numbers.two_numbers.Goals as goal

pub returns-in_default : goal.returns-in_default
returns-in_default c = rw c.in_default.ensures.none refl

pub returns-in_default-next_hex : goal.returns-in_default-next_hex
returns-in_default-next_hex c = rw (c.in-Some.ensures.some, c.in_default-next_hex.ensures.none) refl
