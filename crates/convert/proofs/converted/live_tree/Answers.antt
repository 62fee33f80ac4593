use Rattle.std.proofs.Common.{rules, ◌≡◌, ℕ, ◌^◌, ◌<◌, ◌≤◌, List, length, sym, ap, ◌∙◌, arith}
use Rattle.std.specs.Prelude.{sum}
use Rattle.std.proofs.lemmas.Result.{IfOk-weaker}
use Rattle.cost_tree.specs.Costed.{costed}
use Rattle.dhat_view.specs.PointCosts.{point_costs}
use Rattle.massif_tree.specs.MassifTree.{massif_tree}
use Rattle.convert.specs.Converted.{whole_tree}
use Rattle.convert.specs.Items.{point_items}
use Rattle.convert.proofs.PointItems.{costs-count, lists-count}
use Rattle.convert.proofs.converted.live_tree.Goals as goal
use Rattle.convert.proofs.converted.live_tree.Goals.{After-len}

-- there are as many lists as points, and the points' figures sum to at most 2^62
points-fit : (c : After-len)
    → (c.len.result ≡ length c.args.dhat.now.pps) × (sum (point_costs c.args.key c.args.dhat.now) ≤ 2 ^ 62)
points-fit c =
    let total = c.requires.total in
    let most = c.requires.within in (
      c.len.ensures.count ∙ ap (λ (fronts : List (List (List ℕ))). length fronts) c.requires.fronts
          ∙ lists-count c.args.dhat.now,
      omega arith,
    )

pub new-costing-requires : goal.new-costing-requires
new-costing-requires c =
    let fit = points-fit (goal.at.new-costing-requires c).After-len in
    record {
      stated = (
        point_costs c.args.key c.args.dhat.now,
        record {
          count = costs-count c.args.key c.args.dhat.now ∙ sym fit.0;
          bound = fit.1;
          callable = λ stack below. let inside : stack < length c.args.dhat.now.pps = omega arith in search rules;
          cost = λ stack cost below says. search rules;
        },
      );
    }

pub forked_lines-requires-clause-stated : goal.forked_lines-requires-clause-stated
forked_lines-requires-clause-stated c =
    let fit = points-fit (goal.at.forked_lines-requires-clause-stated c).After-len in (
      point_costs c.args.key c.args.dhat.now,
      c.new-costing.ensures.stated (point_costs c.args.key c.args.dhat.now) (record {
        count = costs-count c.args.key c.args.dhat.now ∙ sym fit.0;
        bound = fit.1;
        callable = λ stack below. let inside : stack < length c.args.dhat.now.pps = omega arith in search rules;
        cost = λ stack cost below says. search rules;
      }),
    )

pub returns : goal.returns
returns c =
    let costs : List ℕ = point_costs c.args.key c.args.dhat.now in
    let fit = points-fit (goal.at.returns c).After-len in
    record {
      tree = IfOk-weaker c.forked_lines.result _ _
          (λ lines is. is costs (c.new-costing.ensures.stated costs (record {
            count = costs-count c.args.key c.args.dhat.now ∙ sym fit.0;
            bound = fit.1;
            callable = λ stack below. let inside : stack < length c.args.dhat.now.pps = omega arith in search rules;
            cost = λ stack cost below says. search rules;
          }))
          ∙ ap (λ (fronts : List (List (List ℕ))). massif_tree whole_tree c.args.total (costed fronts costs))
          c.requires.fronts
          ∙ ap (λ (n : ℕ). massif_tree whole_tree n (point_items c.args.key c.args.dhat.now)) c.requires.total)
          c.forked_lines.ensures.lines;
    }
