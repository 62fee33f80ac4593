use Rattle.std.proofs.Common.{◌≡◌, ◌≤◌, ◌+◌, map, drop}
use Rattle.heaprec_commands.specs.RecordWords.{inputs}
use Rattle.heaprec_commands.proofs.inputs.inputs.Given as goal

abbrev pub invariant-names : goal.invariant-names
invariant-names l = record {
  count : l.count + inputs (map (λ name. name.now) (drop l.name-index l.names))
      ≡ inputs (map (λ name. name.now) l.names);
  within : l.count ≤ l.name-index;
}
