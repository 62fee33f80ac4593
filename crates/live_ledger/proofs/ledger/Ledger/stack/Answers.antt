use Rattle.std.proofs.Common.{arith, ◌≡◌, ◌∙◌, subst, sym}
use Rattle.live_ledger.specs.declared.figures.Figures.{Figures}
use Rattle.live_ledger.specs.LedgerState.{figures_at}
use Rattle.live_ledger.specs.StandsFor.{AreFiguresOf}
use Rattle.live_ledger.proofs.Entries.{IsOwn}
use Rattle.live_ledger.proofs.Views.{figures-own, sound}
use Rattle.live_ledger.proofs.ledger.Ledger.stack.Goals as goal

pub returns-clause-figures : goal.returns-clause-figures
returns-clause-figures c =
    let own : IsOwn c.self.inside.stacks.items c.args.stack c.index.result.now =
    record {
      within = omega (arith, rw (← c.self.view_is) at c.requires, c.self.invariant.count_is);
      is = c.index.ensures;
    } in
    let value : c.figures.result ≡ figures_at c.args.self.now c.args.stack =
    rw (← c.self.view_is) (c.figures.ensures ∙ figures-own _ c.self.inside.whole _ _ own) in
    λ events stands. subst (λ (f : Figures). AreFiguresOf f c.args.stack events) (sym value)
    (stands.each_stack c.args.stack)

pub returns-clause-sound : goal.returns-clause-sound
returns-clause-sound c = rw (← c.self.view_is) (sound _ _ c.self.invariant)
