use Rattle.std.proofs.Common.{◌≡◌, List, Bool, length, ap, sym, subst, arith, ◌∙◌}
use Rattle.massif_sample.specs.FunctionNames.{ignores}
use Rattle.massif_sample.specs.SamplesState.{SamplesState}
use Rattle.massif_sample.specs.StandsFor.{StandsFor}
use Rattle.massif_sample.proofs.Judging.{stands-judged}
use Rattle.massif_sample.proofs.sampler.Sampler.stack.Goals as goal

pub returns-clause-stands : goal.returns-clause-stands
returns-clause-stands g c = λ names events stated stands.
    subst (λ (s : SamplesState). StandsFor c.push.new.self.items s names c.args.tables.now events)
    (sym c.make_room.ensures)
    (subst (λ (flags : List Bool). StandsFor flags c.args.self.now.samples names c.args.tables.now events)
    (sym c.in_ok-push.ensures.items)
    (stands-judged c.args.self.now.judged.items c.args.self.now.samples names c.args.tables.now events
    c.in_ok-ignored.ignored stands c.requires.next
    (c.in_ok-ignored.ensures.ignored names.alloc_fns names.ignore_fns stated.alloc_fns stated.ignore_fns
    ∙ ap (ignores c.args.tables.now names)
    (let same : c.len-stack.result ≡ length c.args.self.now.judged.items = omega arith in same))))
