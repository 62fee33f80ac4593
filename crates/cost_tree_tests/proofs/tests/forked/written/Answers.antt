use Rattle.std.proofs.Common.{rules, arith, ◌≡◌, ℕ, ◌<◌, List, length, ap, sym, ◌∙◌}
use Rattle.std.specs.Prelude.{Some, slice_index_or}
use Rattle.std.proofs.lemmas.Option.{slice_get-get_or}
use Rattle.cost_tree_tests.proofs.tests.forked.written.Goals as goal

-- the costs are those of the slice
pub take_front_lines-requires-clause-stated : goal.take_front_lines-requires-clause-stated
take_front_lines-requires-clause-stated c = (
  c.args.costs.now,
  c.new-costing.ensures.stated c.args.costs.now (record {
    count = omega arith;
    bound = c.requires.bound;
    callable = λ stack below. search rules;
    cost = λ stack cost below says.
        let within : stack < length c.args.costs.now = omega arith in
        let is : cost ≡ slice_index_or c.args.costs.now stack 0 = search rules in
        slice_get-get_or c.args.costs.now stack 0 within ∙ ap (λ (n : ℕ). Some n) (sym is);
  }),
)
