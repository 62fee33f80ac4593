use Rattle.std.proofs.Common.{subst, sym}
use Rattle.trace_gen.specs.declared.generator.Generator.{Generator}
use Rattle.trace_gen.specs.declared.generator.Group.TheVariants.{Names, Instructions}
use Rattle.trace_gen.specs.GeneratedTrace.{name_line}
use Rattle.trace_gen.specs.Sizes.{sizes_of}
use Rattle.trace_gen.specs.GeneratorState.{MakesLine, Stands}
use Rattle.trace_gen.proofs.Steps.{has_names, passed}
use Rattle.trace_gen.proofs.generator.Generator.name.Goals as goal

pub returns : goal.returns
returns c =
    let old = c.args.self.now in
    let sizes = sizes_of old.options in
    let stands = subst (λ group. Stands sizes group old.next old.state old.live.items) c.requires.group c.requires.at in
    record {
      made =
          subst (λ (new : Generator). MakesLine old new c.args.line.now.items c.put_name.new.line.items)
          (sym c.pass.ensures.passed)
          (passed old old.state Names Instructions name_line c.args.line.now.items c.put_name.new.line.items
          (has_names sizes old.options.stacks_above_zero) c.requires.group c.requires.at stands.within
          stands.state_is stands.small c.in_ok-put_name.ensures.put);
    }
