use Rattle.std.proofs.Common.{◌+◌, ◌-◌, ◌≤◌, ◌∙◌, ap, drop, arith, length-take}
use Rattle.hp_outside.proofs.WindowLemmas.{part_of-drop}
use Rattle.hp_outside.proofs.window.Window.show.Goals as goal

pub returns-clause-kept : goal.returns-clause-kept
returns-clause-kept c =
    let within = rw (← c.self.view_is) at c.requires in
    let fits : c.args.count + c.args.skipped ≤ c.self.inside.end - c.self.inside.start =
    omega (arith, simp length-take at within) in
    part_of-drop _ _ _ _ fits ∙ ap (λ w. drop (c.args.count + c.args.skipped) w.kept) c.self.view_is
