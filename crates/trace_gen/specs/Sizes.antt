-- The numbers that a trace is generated from.
use Rattle.std.specs.Prelude.{ℕ}
use Rattle.trace_gen.specs.declared.options.GeneratorOptions.{GeneratorOptions}

pub record Sizes : Type 0 where
  pub seed : ℕ
  pub stacks : ℕ
  pub events : ℕ

abbrev pub sizes_of : GeneratorOptions → Sizes
sizes_of options = record { seed = options.seed; stacks = options.stacks; events = options.events }
