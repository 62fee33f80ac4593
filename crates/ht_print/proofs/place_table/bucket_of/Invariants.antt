use Rattle.std.specs.Prelude.{◌≡◌, ◌<◌, ◌^◌, take}
use Rattle.ht_print.specs.PlaceTable.{hash_from}
use Rattle.ht_print.proofs.place_table.bucket_of.Given as goal

-- the number of the bytes so far
abbrev pub invariant-each_byte : goal.invariant-each_byte
invariant-each_byte l = record {
  is : l.hash ≡ hash_from 0 (take l.byte-index l.text);
  small : l.hash < 2 ^ 32;
}
