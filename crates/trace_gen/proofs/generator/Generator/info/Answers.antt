use Rattle.std.proofs.Common.{◌≡◌, ℕ, List, ◌+◌, ◌++◌, codes, ap, subst, sym, ◌∙◌, arith}
use Rattle.hp_num.specs.Hexadecimal.{hexadecimal}
use Rattle.trace_gen.specs.declared.generator.Generator.{Generator}
use Rattle.trace_gen.specs.declared.generator.Group.TheVariants.{Events, Infos}
use Rattle.trace_gen.specs.Draws.{draw, next_state, number_below}
use Rattle.trace_gen.specs.GeneratedTrace.{info_line}
use Rattle.trace_gen.specs.PutLine.{PutsLine}
use Rattle.trace_gen.specs.Sizes.{sizes_of}
use Rattle.trace_gen.specs.GeneratorState.{MakesLine, Stands}
use Rattle.trace_gen.proofs.Live.{drawn}
use Rattle.trace_gen.proofs.Steps.{has_infos, passed}
use Rattle.trace_gen.proofs.generator.Generator.info.Goals as goal

pub returns : goal.returns
returns c =
    let old = c.args.self.now in
    let sizes = sizes_of old.options in
    let stands = subst (λ group. Stands sizes group old.next old.state old.live.items) c.requires.group c.requires.at in
    let size : c.number_below-size.result ≡ draw sizes.seed (sizes.stacks + old.next) 4096 =
    c.number_below-size.ensures.number
    ∙ ap (number_below 4096) (c.next_state-self.ensures.next ∙ ap next_state stands.state_is) in
    let line : ℕ → List ℕ =
    λ number. codes "a " ++ (hexadecimal (number + 1) ++ (codes " " ++ hexadecimal (old.next + 1))) in
    record {
      made =
          subst (λ (new : Generator). MakesLine old new c.args.line.now.items c.put_pair.new.line.items)
          (sym c.pass.ensures.passed)
          (passed old c.next_state-self.result Infos Events (info_line sizes) c.args.line.now.items
          c.put_pair.new.line.items (has_infos sizes) c.requires.group c.requires.at stands.within
          (c.next_state-self.ensures.next
          ∙ drawn sizes.seed (sizes.stacks + old.next) (sizes.stacks + (old.next + 1)) old.state (omega arith)
          stands.state_is)
          c.next_state-self.ensures.small
          (subst (λ number. PutsLine c.args.line.now.items c.put_pair.new.line.items (line number)) size
          c.in_ok-put_pair.ensures.put));
    }
