use Rattle.std.proofs.Common.{◌≡◌, ◌∙◌, [], sym, arith, rules}
use Rattle.massif_sample.specs.FunctionNames.{ignores}
use Rattle.massif_sample.proofs.Costs.{cost-first}
use Rattle.massif_sample.proofs.Judging.{stands-new}
use Rattle.massif_sample.proofs.sampler.Sampler.new.Goals as goal

pub returns : goal.returns
returns g c = record {
  stands = λ names stated.
      stands-new _ c.in_ok-samples.samples c.sample.new.samples names c.args.tables.now
      (c.in_ok-judged.ensures.judged names stated) (omega (arith, c.in_ok-judged.ensures.count))
      c.sample.ensures.offered.options
      (c.in_ok-sample.ensures.sampling names [] [] stated.alloc_fns
      (record {
        said = λ stack says below answered.
            (let none : says ≡ 0 = search rules in
            none ∙ sym (cost-first (ignores c.args.tables.now names) stack));
        none = λ stack beyond. cost-first (ignores c.args.tables.now names) stack;
      })
      (c.in_ok-samples.ensures.sampling names c.args.tables.now))
      c.in_ok-sample.ensures.offered.some;
  judged = search rules;
  options = search rules;
  alloc_fns = search rules;
  ignore_fns = search rules;
}
