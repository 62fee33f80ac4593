use Rattle.std.proofs.Common.{◌++◌, ◌∷◌, [], rules}
use Rattle.massif_sample.proofs.Trees.{at_err}
use Rattle.massif_sample.proofs.taking.advance.Goals as goal

pub returns-in_err-sample_ledger-clause-advanced : goal.returns-in_err-sample_ledger-clause-advanced
returns-in_err-sample_ledger-clause-advanced g c =
    let due = rw c.move_to.ensures.samples at c.in_err-sample_ledger.ensures.offered.due in
    record {
      options = search rules;
      some = search rules;
      only = search rules;
      due =
          at_err c.from_residual.result
          (λ names events made was of_stack figures.
          due names (events ++ c.args.event ∷ []) made
          (rw c.move_to.ensures.samples at
          (c.move_to.ensures.sampling names c.args.stacks.now.tables.now events made c.args.event was of_stack
          c.requires.advance.of_stack figures)));
    }

pub returns-clause-sampling : goal.returns-clause-sampling
returns-clause-sampling g c =
    let sampled = rw c.move_to.ensures.samples at c.in_ok-sample_ledger.ensures.sampling in
    λ names events made texts judged stands was of_stack figures.
    sampled names (events ++ c.args.event ∷ []) made texts judged (c.take.ensures.stands events stands)
    (rw c.move_to.ensures.samples at
    (c.move_to.ensures.sampling names c.args.stacks.now.tables.now events made c.args.event was of_stack
    c.requires.advance.of_stack figures))
