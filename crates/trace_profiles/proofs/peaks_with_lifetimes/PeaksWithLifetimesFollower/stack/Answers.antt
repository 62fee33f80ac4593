use Rattle.trace_profiles.proofs.LifetimesLemmas.{stack_followed}
use Rattle.trace_profiles.proofs.peaks_with_lifetimes.PeaksWithLifetimesFollower.stack.Goals as goal

pub returns-in-Ok-grow_stack : goal.returns-in-Ok-grow_stack
returns-in-Ok-grow_stack c =
    let peaks = c.in-Ok.ensures in
    let lives = c.in-Ok-grow_stack.ensures in
    stack_followed c.args._tables.now c.args.self.now.peaks c.grow_stack.new.self c.args.self.now.lifetimes
    c.grow_stack-in-Ok.new.self c.requires.sound peaks.grown lives.grown peaks.stands lives.stands
