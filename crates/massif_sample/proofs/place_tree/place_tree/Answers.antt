use Rattle.std.proofs.Common.{◌≡◌, ℕ, ◌≤◌, ◌^◌, List, length, ap, sym, ◌∙◌, arith, rules}
use Rattle.std.specs.Prelude.{Some, slice_index_or, sum}
use Rattle.std.proofs.lemmas.Result.{IfOk-weaker}
use Rattle.cost_tree.specs.Costed.{costed}
use Rattle.ht_trace.specs.TableState.{TableState}
use Rattle.massif_tree.specs.FunctionLists.{trimmed_before}
use Rattle.massif_tree.specs.MassifTree.{massif_tree}
use Rattle.massif_sample.specs.Padded.{padded}
use Rattle.massif_sample.proofs.AtPlace.{padded-at, padded-count, padded-within, tree-shared}
use Rattle.massif_sample.proofs.place_tree.place_tree.Goals as goal
use Rattle.massif_sample.proofs.place_tree.place_tree.Goals.{After-len}

pub new-costing-requires : goal.new-costing-requires
new-costing-requires c =
    let costs : List ℕ = c.args.costs.now in
    let fits : sum costs ≤ 2 ^ 62 = search rules in
    let count = padded-count c.len.result costs in
    record {
      stated = (
        padded c.len.result costs,
        record {
          count = omega arith;
          bound = let within = padded-within c.len.result costs in omega arith;
          callable = λ stack below. search rules;
          cost =
              λ stack cost below says. let is : cost
              ≡ slice_index_or costs stack 0 =
              search rules in padded-at c.len.result costs stack below ∙ ap (λ (n : ℕ). Some n) (sym is);
        },
      );
    }

pub snapshot_tree-requires-clause-stated : goal.snapshot_tree-requires-clause-stated
snapshot_tree-requires-clause-stated c =
    let stated = (new-costing-requires (goal.at.snapshot_tree-requires-clause-stated c).After-len).stated in
    (stated.0, c.new-costing.ensures.stated stated.0 stated.1)

pub returns-clause-lines : goal.returns-clause-lines
unfolding padded new-costing-requires
returns-clause-lines c =
    let costs : List ℕ = c.args.costs.now in
    let stated = (new-costing-requires (goal.at.returns-clause-lines c).After-len).stated in
    let lists : TableState → List (List ℕ) → List (List (List ℕ)) =
    λ tables names. trimmed_before tables names (length c.args.fronts.now.whole) in
    IfOk-weaker c.snapshot_tree.result _ _
    (λ lines is tables names are.
    is tables names (padded c.len.result costs) are (c.new-costing.ensures.stated stated.0 stated.1)
    ∙ ap (λ (t : ℕ). massif_tree c.args.options.now t (costed (lists tables names) (padded c.len.result costs)))
    c.shared_total.ensures
    ∙ tree-shared c.args.options.now c.args.total c.in-Some.live c.len.result (lists tables names) costs
    c.in-Some.ensures.sum
    ∙ ap (λ (n : ℕ). massif_tree c.args.options.now c.args.total (costed (lists tables names) (padded n costs)))
    c.len.ensures.whole)
    c.snapshot_tree.ensures.lines
