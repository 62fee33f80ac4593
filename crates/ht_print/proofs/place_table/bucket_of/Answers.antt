use Rattle.std.proofs.Common.{◌+◌, ◌*◌, ◌%◌, ℕ, List, take_all, ap, ◌∙◌, arith}
use Rattle.ht_print.specs.PlaceTable.{bucket_of, hash_from}
use Rattle.ht_print.proofs.BucketLemmas.{hash-more}
use Rattle.ht_print.proofs.place_table.bucket_of.Goals as goal

pub each_byte-preserved : goal.each_byte-preserved
each_byte-preserved c = record {
  is = ap (λ (byte : ℕ). (c.each_byte.hash * 16777619 + byte) % 4294967296) c.from.ensures
      ∙ hash-more c.args.text.now c.each_byte.byte-index c.each_byte.hash 0 (omega arith) c.each_byte.invariant.is;
  small = omega arith;
}

pub returns-clause-bucket : goal.returns-clause-bucket
unfolding bucket_of
returns-clause-bucket c =
    ap (λ (hash : ℕ). hash % c.args.buckets)
    (c.each_byte.invariant.is
    ∙ ap (λ (bytes : List ℕ). hash_from 0 bytes) (take_all c.each_byte.byte-index c.args.text.now (omega arith)))
