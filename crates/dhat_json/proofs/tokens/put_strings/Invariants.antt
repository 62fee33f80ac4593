use Rattle.std.proofs.Common.{map, drop}
use Rattle.serde_json.specs.Data.{string}
use Rattle.dhat_json.proofs.Added.{Listed}
use Rattle.dhat_json.proofs.tokens.put_strings.Given as goal

abbrev pub invariant-loop-text : goal.invariant-loop-text
invariant-loop-text l = Listed l.fn.out l.out (map string l.texts) (map string (drop l.text-index l.texts))
