use Rattle.std.proofs.Common.{ℕ, List, [], sym, subst, arith}
use Rattle.trace_reading.specs.Reading.{HasRead}
use Rattle.trace_reading.proofs.ReadingLemmas.{before_all, new_read, new_sound, new_measure}
use Rattle.trace_reading.proofs.trace_reader.TraceReader.new.Goals as goal

pub returns-clause-no_lines : goal.returns-clause-no_lines
returns-clause-no_lines g c =
    let follower = g.F.Follower.view c.args.follower in
    let all = before_all c.suppressions-given.result c.args.tables c.suppressions-given.ensures.count in
    record {
      sound = record {
        sound = new_sound c.args.tables follower c.requires.nodes c.requires.infos c.requires.new;
        given_held = omega (arith, c.suppressions-given.ensures.count);
      };
      read = λ texts stands.
          subst (λ (before : List (List ℕ)). HasRead c.args.tables follower before []) (sym all)
          (new_read c.args.tables follower texts c.requires.new stands);
      patterns = all;
      measure = new_measure c.args.tables follower c.requires.nodes c.requires.new;
    }
