-- The scripts so far were read, and the run goes on behind them.
use Rattle.std.proofs.Common.{◌≡◌, map, drop}
use Rattle.command_frame.specs.FirstFault.{bounds_of}
use Rattle.command_frame.specs.RunsTo.{shown}
use Rattle.command_frame.specs.Texts.{texts_of}
use Rattle.heaprec_commands.specs.FilesPlan.{scripts_front}
use Rattle.heaprec_commands.specs.FileStart.{HasLimits}
use Rattle.heaprec_commands.specs.FrontRead.{LeadsTo}
use Rattle.heaprec_commands.proofs.files.read_scripts.Given as goal

abbrev pub invariant-each_name : goal.invariant-each_name
invariant-each_name g l = record {
  leads : LeadsTo (texts_of l.context.texts) (bounds_of l.context.limits) (g.S.Store.files l.initial.store)
      (scripts_front (map (λ name. name.now) l.names) l.initial.scripts) (shown g.S.Store l.initial.store).moment
      (scripts_front (map (λ name. name.now) (drop l.name-index l.names)) l.scripts) (shown g.S.Store l.store).moment;
  limits : HasLimits l.lines l.context.limits;
  silent : g.O.Sink.written l.out ≡ g.O.Sink.written l.initial.out;
  files : g.S.Store.files l.store ≡ g.S.Store.files l.initial.store;
  write_faults : g.O.Sink.faults l.out ≡ g.O.Sink.faults l.initial.out;
}
