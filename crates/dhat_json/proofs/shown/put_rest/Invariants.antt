use Rattle.std.proofs.Common.{◌≡◌, ◌++◌, map, take, drop, vec_len}
use Rattle.dhat_json.specs.Shown.{shown_byte}
use Rattle.dhat_json.proofs.shown.put_rest.Given as goal

abbrev pub invariant-loop-byte : goal.invariant-loop-byte
invariant-loop-byte l = record {
  kept : take (vec_len l.fn.out) l.out.items ≡ l.fn.out.items;
  shown : l.out.items ++ map shown_byte (drop l.byte-index l.text) ≡ l.fn.out.items ++ map shown_byte l.text;
}
