use Rattle.std.proofs.Common.{ℕ, List, [], ◌∷◌, ◌++◌, ap, sym, subst}
use Rattle.std.proofs.lemmas.Result.{on_ok_weaker}
use Rattle.trace_reading.specs.Reading.{HasRead}
use Rattle.trace_reading.specs.TraceReport.{patterns_before, trace_report}
use Rattle.trace_reading.proofs.ReadingLemmas.{before_stays, held_still}
use Rattle.trace_reading.proofs.trace_reader.TraceReaderLineTaker.line.Goals as goal

pub returns-clause-sound : goal.returns-clause-sound
returns-clause-sound g c =
    let old = c.args.self.now in
    on_ok_weaker c.line.result
    (λ read. record {
      sound = read.sound;
      given_held =
          held_still old.given old.trace.tables.patterns c.line.new.self.tables.patterns
          c.line.ensures.continues.grown.patterns c.requires.sound.given_held;
    })
    c.line.ensures.read

pub returns-clause-taken : goal.returns-clause-taken
returns-clause-taken g c =
    let old = c.args.self.now in
    let new = c.line.new.self in
    on_ok_weaker c.line.result
    (λ read. λ lines has. subst
    (λ (before : List (List ℕ)). HasRead new.tables (g.F.Follower.view new.follower) before
    (lines ++ c.args.line.now ∷ []))
    (sym (before_stays old.given old.trace.tables.patterns new.tables.patterns c.line.ensures.continues.grown.patterns
    c.requires.sound.given_held))
    (read.read (patterns_before old.given old.trace.tables) lines has))
    c.line.ensures.read

pub returns-clause-report : goal.returns-clause-report
returns-clause-report g c =
    let old = c.args.self.now in
    ap (λ before. trace_report g.F.Follower.faults before (g.W.TraceWriter.text old.writer before))
    (before_stays old.given old.trace.tables.patterns c.line.new.self.tables.patterns
    c.line.ensures.continues.grown.patterns c.requires.sound.given_held)
