use Rattle.std.proofs.Common.{◌≡◌, ◌&&◌, if◌then◌else◌, nat_le, ℕ, Option, [], None, Some, Ok, Err, refl}
use Rattle.hp_num.specs.ParsedHex.{parsed_hex}
use Rattle.ht_lines.specs.Content.{version_line}
use Rattle.ht_lines.specs.Fields.{fields}
use Rattle.ht_lines.specs.Reading.{with_number, version_from}
use Rattle.ht_lines.specs.declared.item.Malformed.TheVariants.{BadVersion}
use Rattle.ht_lines.proofs.FieldLemmas.{where_none}
use Rattle.ht_lines.proofs.numbers.versions.Goals as goal

-- the two versions, one after the other or both at once
both : (m n : Option ℕ)
    → with_number m
    (λ heaptrack. with_number n
    (λ file. if nat_le 1 file && nat_le file 3 then Ok (version_line heaptrack file) else Err BadVersion))
    ≡ version_from (with_number m (λ heaptrack. with_number n (λ file. Ok (heaptrack, file))))
both None n = refl
both (Some m) None = refl
both (Some m) (Some n) = refl

pub returns : goal.returns
returns c =
    let end : fields c.in-Some-next_field.after.now ≡ [] =
    where_none c.next_field-3.result _ c.if-is_some.ensures c.next_field-3.ensures.none in
    rw (c.in-Some.ensures.some, c.in-Some-next_field.ensures.some, end, c.both_numbers.ensures)
    (both (parsed_hex c.in-Some.heaptrack.now) (parsed_hex c.in-Some-next_field.file.now))
