use Rattle.std.proofs.Common.{◌≡◌, ℕ, List, ◌+◌, ◌++◌, codes, refl, ap, subst, sym, ◌∙◌}
use Rattle.hp_num.specs.Hexadecimal.{hexadecimal}
use Rattle.trace_gen.specs.declared.generator.Generator.{Generator}
use Rattle.trace_gen.specs.declared.generator.Group.TheVariants.{Infos, Nodes}
use Rattle.trace_gen.specs.Draws.{draw, next_state, number_below}
use Rattle.trace_gen.specs.GeneratedTrace.{node_line}
use Rattle.trace_gen.specs.PutLine.{PutsLine}
use Rattle.trace_gen.specs.Sizes.{sizes_of}
use Rattle.trace_gen.specs.GeneratorState.{MakesLine, Stands}
use Rattle.trace_gen.proofs.Live.{drawn}
use Rattle.trace_gen.proofs.Steps.{has_nodes, passed}
use Rattle.trace_gen.proofs.generator.Generator.node.Goals as goal

pub returns : goal.returns
returns c =
    let old = c.args.self.now in
    let sizes = sizes_of old.options in
    let stands = subst (λ group. Stands sizes group old.next old.state old.live.items) c.requires.group c.requires.at in
    let parent : c.number_below-parent.result ≡ draw sizes.seed old.next (old.next + 1) =
    c.number_below-parent.ensures.number
    ∙ ap (number_below (old.next + 1)) (c.next_state-self.ensures.next ∙ ap next_state stands.state_is) in
    let line : ℕ → List ℕ = λ number. codes "t " ++ (hexadecimal (old.next + 1) ++ (codes " " ++ hexadecimal number)) in
    record {
      made =
          subst (λ (new : Generator). MakesLine old new c.args.line.now.items c.put_pair.new.line.items)
          (sym c.pass.ensures.passed)
          (passed old c.next_state-self.result Nodes Infos (node_line sizes) c.args.line.now.items
          c.put_pair.new.line.items (has_nodes sizes old.options.stacks_above_zero) c.requires.group c.requires.at
          stands.within
          (c.next_state-self.ensures.next ∙ drawn sizes.seed old.next (old.next + 1) old.state refl stands.state_is)
          c.next_state-self.ensures.small
          (subst (λ number. PutsLine c.args.line.now.items c.put_pair.new.line.items (line number)) parent
          c.in_ok-put_pair.ensures.put));
    }
