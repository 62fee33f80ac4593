use Rattle.std.proofs.Common.{rules}
use Rattle.command_frame.proofs.Laws.{runs_wanting_by}
use Rattle.massif_sample.specs.NameList.{names_in}
use Rattle.trace_profiles.proofs.MassifLemmas.{in-range}
use Rattle.trace_profiles.proofs.massif_run.run_settled.Goals as goal

pub new-alloc_test-requires-clause-stated : goal.new-alloc_test-requires-clause-stated
new-alloc_test-requires-clause-stated g c = (
  names_in c.args.profiled.now.settings.now.alloc_fns.now,
  record {
    answer = λ name answer
        says. (let e = says.shows in let s = says.says in let is = c.in_ok-alloc_fns.ensures.alloc_fns in search rules);
  },
)

pub new-ignore_test-requires-clause-stated : goal.new-ignore_test-requires-clause-stated
new-ignore_test-requires-clause-stated g c = (
  names_in c.args.profiled.now.settings.now.ignore_fns.now,
  record {
    answer = λ name answer
        says. (let e = says.shows in let s = says.says in let is = c.in_ok-alloc_fns.ensures.ignore_fns in search
        rules);
  },
)

pub new-requires-clause-options : goal.new-requires-clause-options
new-requires-clause-options g c =
    in-range c.args.profiled.now.settings.now.options c.args.profiled.now.settings.now.within

pub new-requires-clause-stated : goal.new-requires-clause-stated
new-requires-clause-stated g c = rw (← c.requires.settled) (search rules)

pub returns-in_err-alloc_fns : goal.returns-in_err-alloc_fns
returns-in_err-alloc_fns g c = runs_wanting_by _ _ _ _ _ _ _ _ c.from_residual.ensures.1

pub returns-in_err-sampling : goal.returns-in_err-sampling
returns-in_err-sampling g c = runs_wanting_by _ _ _ _ _ _ _ _ c.from_residual-in_err-sampling.ensures.1
