use Rattle.std.proofs.Common.{◌≡◌, ◌<◌, length, sym, subst}
use Rattle.std.proofs.lemmas.List.{length-map}
use Rattle.dhat_metrics.specs.declared.figures.LifeFigures.{LifeFigures}
use Rattle.dhat_metrics.specs.LifeState.{figures_at}
use Rattle.dhat_metrics.specs.StandsFor.{AreFiguresOf}
use Rattle.dhat_metrics.proofs.LifeLemmas.{figures-are, read-life, sound-of}
use Rattle.dhat_metrics.proofs.lifetimes.Lifetimes.figures.Goals as goal

pub returns-clause-figures : goal.returns-clause-figures
returns-clause-figures c =
    let held : c.args.stack < length c.self.inside.lives.items = rw (← c.self.view_is, length-map) at c.requires in
    let value : c.figures.result ≡ figures_at c.args.self.now c.args.stack =
    rw (
      ← c.self.view_is,
      figures-are c.self.inside.events c.self.inside.lives.items c.args.stack,
      ← read-life _ _ _ held c.index.ensures,
    ) c.figures.ensures in
    λ events stands. subst (λ (f : LifeFigures). AreFiguresOf f c.args.stack events) (sym value)
    (stands.each_stack c.args.stack)

pub returns-clause-sound : goal.returns-clause-sound
returns-clause-sound c = rw (← c.self.view_is) (sound-of c.self.inside.events _ c.self.invariant)
