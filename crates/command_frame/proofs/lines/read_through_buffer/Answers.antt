use Rattle.std.proofs.Common.{◌≡◌, ◌+◌, ◌≤◌, [], ◌∷◌, ◌++◌, length, take, append-nil, Some, None, Ok, Err, IfSome}
use Rattle.std.proofs.Common.{is_some, if◌then◌else◌, ap, sym, subst, refl, ◌∙◌, arith}
use Rattle.hp_outside.specs.declared.span.LineFault.TheVariants as reading
use Rattle.hp_outside.specs.NextLine.{IsLine}
use Rattle.command_frame.specs.Batch.{HasTakenKept}
use Rattle.command_frame.specs.Report.{Report, written}
use Rattle.command_frame.specs.Taker.{Tells}
use Rattle.command_frame.proofs.OutputLemmas.{append_nothing, front_of_all, kept_as}
use Rattle.command_frame.proofs.BatchLemmas.{read_batch}
use Rattle.command_frame.proofs.LinesLoop.{bounds_at, read_end, read_end_fault, read_fault, read_front}
use Rattle.command_frame.proofs.LinesLoop.{read_input_too_long, read_line_too_long, read_more, read_stopped}
use Rattle.command_frame.proofs.LinesLoop.{reading_new}
use Rattle.command_frame.proofs.lines.read_through_buffer.Goals as goal

pub lines-init : goal.lines-init
lines-init g c = record {
  input = refl;
  line_limit = refl;
  no_fault = c.requires.file.new.fault;
  given = omega (arith, c.requires.file.new.given);
  ended = λ ended. absurd (cc);
  sound = c.requires.taker.sound;
  measure = omega (arith, c.requires.taker.no_measure);
  report = refl;
  reading =
      reading_new (bounds_at c.args.lines.now) (g.T.LineTaker.report c.args.taker.now)
      (g.T.LineTaker.has_taken c.args.taker.now) c.args.lines.now (g.S.Store.left c.args.store.now)
      (g.O.Sink.written c.args.out.now) c.args.buffer.now.items c.requires.file.new.kept c.requires.file.new.passed
      c.requires.file.new.number c.requires.file.new.line_ended c.requires.taker.no_lines c.requires.no_output
      (sym (append_nothing (g.O.Sink.written c.args.out.now)));
  files = refl;
  current = refl;
  opens = refl;
  faults = refl;
  write_faults = refl;
}

pub lines-preserved : goal.lines-preserved
lines-preserved g c =
    let held = c.lines.invariant in
    let next = c.next.ensures in
    let is : c.next.result ≡ Ok (Some c.in-Ok-Some.span) = c.in-Ok-Some.is ∙ ap Ok c.in-Ok-Some.field-0-is in
    let taken = c.in-Ok.ensures in
    let report : Report = g.T.LineTaker.report c.args.taker.now in
    let ready = c.take_ready.ensures in
    let given : c.next.new.self.given ≡ c.lines.lines.given + length c.next.new.self.line + 1 =
    subst (λ place. IfSome place
    (λ span. c.next.new.self.given ≡ c.lines.lines.given + length c.next.new.self.line + 1)) c.in-Ok-Some.field-0-is
    c.in-Ok-Some.ensures.reader.line.given in
    let number : c.next.new.self.number ≡ c.lines.lines.number + 1 =
    subst (λ place. c.next.new.self.number ≡ c.lines.lines.number + (if is_some place then 1 else 0))
    c.in-Ok-Some.field-0-is c.in-Ok-Some.ensures.reader.line.number in
    let step : c.next.new.self.passed
    ≡ c.lines.lines.passed + length c.next.new.self.line + (if c.next.new.self.line_ended then 1 else 0) =
    subst (λ place. IfSome place
    (λ span. c.next.new.self.passed
    ≡ c.lines.lines.passed + length c.next.new.self.line + (if c.next.new.self.line_ended then 1 else 0)))
    c.in-Ok-Some.field-0-is c.in-Ok-Some.ensures.reader.line.step in
    let size : length c.line.result.now ≡ length c.next.new.self.line = ap length c.line.ensures in
    record {
      input = ready.input ∙ (next.reader.input ∙ held.input);
      line_limit = ready.limit ∙ (next.reader.limit ∙ held.line_limit);
      no_fault = ready.fault ∙ c.in-Ok-Some.ensures.reader.no_fault;
      given = ready.bounded;
      ended = λ ended. next.store.end (sym ready.ended ∙ ended);
      sound = ready.sound;
      measure = ready.measure;
      report = ready.report ∙ (taken.report ∙ held.report);
      reading =
          read_batch (bounds_at c.args.lines.now) report (g.T.LineTaker.has_taken c.line-in-Ok-Some.new.self)
          (g.T.LineTaker.has_taken c.take_ready.new.taker) c.next.new.self c.take_ready.new.lines
          (g.S.Store.left c.args.store.now) (g.S.Store.left c.next.new.store)
          (g.O.Sink.written c.args.out.now) (g.O.Sink.written c.pass_on_piece.new.out) c.pass_on_piece.new.buffer.items
          c.take_ready.new.buffer.items
          (read_more (bounds_at c.args.lines.now) report (g.T.LineTaker.has_taken c.lines.taker)
          (g.T.LineTaker.has_taken c.line-in-Ok-Some.new.self) c.lines.lines c.next.new.self
          (g.S.Store.left c.args.store.now) (g.S.Store.left c.lines.store) (g.S.Store.left c.next.new.store)
          (g.O.Sink.written c.args.out.now) (g.O.Sink.written c.lines.out) (g.O.Sink.written c.pass_on_piece.new.out)
          c.lines.buffer.items c.line-in-Ok-Some.new.output.items c.pass_on_piece.new.buffer.items c.next.result
          c.in-Ok-Some.span
          held.reading held.input held.line_limit is (λ rest told. (next.next held.no_fault rest told).answer)
          (λ rest told. (next.next held.no_fault rest told).line) step number
          (λ lines has. subst (λ line. g.T.LineTaker.has_taken c.line-in-Ok-Some.new.self (lines ++ line ∷ []))
          c.line.ensures (taken.taken lines has))
          (λ lines has. subst (λ line. report.line_fault lines line ≡ None) c.line.ensures
          (subst (λ (r : Report). r.line_fault lines c.line.result.now ≡ None) held.report
          (taken.no_fault lines has)))
          (λ lines has. subst
          (λ line. c.line-in-Ok-Some.new.output.items ≡ c.lines.buffer.items ++ report.gains lines line)
          c.line.ensures
          (subst
          (λ (r : Report). c.line-in-Ok-Some.new.output.items
          ≡ c.lines.buffer.items ++ r.gains lines c.line.result.now)
          held.report (taken.output lines has)))
          c.in-Ok-pass_on_piece.ensures.passed)
          (next.reader.input ∙ held.input) (next.reader.limit ∙ held.line_limit)
          (subst
          (λ (r : Report). HasTakenKept r (g.T.LineTaker.has_taken c.line-in-Ok-Some.new.self)
          (g.T.LineTaker.has_taken c.take_ready.new.taker) c.next.new.self c.take_ready.new.lines
          c.pass_on_piece.new.buffer.items c.take_ready.new.buffer.items)
          (taken.report ∙ held.report) ready.taken);
      files = next.store.files ∙ held.files;
      current = next.store.current ∙ held.current;
      opens = next.store.opens ∙ held.opens;
      faults = next.store.sound (λ bad. absurd (cc)) ∙ held.faults;
      write_faults = c.in-Ok-pass_on_piece.ensures.sound ∙ held.write_faults;
    }

-- a line was given and not taken
pub returns-in-Err-Fault-clause-run : goal.returns-in-Err-Fault-clause-run
returns-in-Err-Fault-clause-run g c =
    let held = c.lines.invariant in
    let is : c.next.result ≡ Ok (Some c.in-Ok-Some.span) = c.in-Ok-Some.is ∙ ap Ok c.in-Ok-Some.field-0-is in
    let report : Report = g.T.LineTaker.report c.args.taker.now in
    let told = g.T.Fault.Fault.told c.in-Err-Fault.fault in record {
      taken = held.reading.taken;
      count = 0;
      run = record {
        told =
            read_fault (bounds_at c.args.lines.now) report (g.T.LineTaker.has_taken c.lines.taker) c.lines.lines
            c.next.new.self
            (g.S.Store.left c.args.store.now) (g.S.Store.left c.lines.store) (g.S.Store.left c.next.new.store)
            (g.O.Sink.written c.args.out.now) (g.O.Sink.written c.lines.out)
            c.lines.buffer.items c.next.result c.in-Ok-Some.span _ told
            held.reading held.input held.line_limit is
            (λ rest told. (c.next.ensures.next held.no_fault rest told).answer)
            (λ rest told. (c.next.ensures.next held.no_fault rest told).line)
            (ap (λ n. n + 1) c.number-number.ensures.count)
            (λ lines has. subst (λ line. report.line_fault lines line ≡ Some told) c.line.ensures
            (subst (λ (r : Report). r.line_fault lines c.line.result.now ≡ Some told) held.report
            (subst
            (λ refusal. Tells g.T.Fault.Fault.told refusal
            ((g.T.LineTaker.report c.lines.taker).line_fault lines c.line.result.now))
            c.in-Err-Fault.field-0-is (c.in-Err-Fault.ensures.fault lines has))));
        gained = kept_as held.reading.gained c.in-Err-Fault.ensures.no_output;
      };
      has = tt;
    }

pub returns-in-Err-NoMemory-clause-run : goal.returns-in-Err-NoMemory-clause-run
returns-in-Err-NoMemory-clause-run g c =
    let held = c.lines.invariant in record {
      taken = held.reading.taken;
      count = 0;
      run = record {
        told =
            read_front (bounds_at c.args.lines.now) (g.T.LineTaker.report c.args.taker.now)
            (g.T.LineTaker.has_taken c.lines.taker) c.lines.lines (g.S.Store.left c.args.store.now)
            (g.S.Store.left c.lines.store)
            (g.O.Sink.written c.args.out.now) (g.O.Sink.written c.lines.out) c.lines.buffer.items held.reading;
        gained = kept_as held.reading.gained c.in-Err-NoMemory.ensures.no_output;
      };
      has = tt;
    }

-- a write failed
pub returns-in-Err-clause-run : goal.returns-in-Err-clause-run
returns-in-Err-clause-run g c =
    let held = c.lines.invariant in
    let next = c.next.ensures in
    let is : c.next.result ≡ Ok (Some c.in-Ok-Some.span) = c.in-Ok-Some.is ∙ ap Ok c.in-Ok-Some.field-0-is in
    let taken = c.in-Ok.ensures in
    let report : Report = g.T.LineTaker.report c.args.taker.now in
    let number : c.next.new.self.number ≡ c.lines.lines.number + 1 =
    subst (λ place. c.next.new.self.number ≡ c.lines.lines.number + (if is_some place then 1 else 0))
    c.in-Ok-Some.field-0-is c.in-Ok-Some.ensures.reader.line.number in
    let step : c.next.new.self.passed
    ≡ c.lines.lines.passed + length c.next.new.self.line + (if c.next.new.self.line_ended then 1 else 0) =
    subst (λ place. IfSome place
    (λ span. c.next.new.self.passed
    ≡ c.lines.lines.passed + length c.next.new.self.line + (if c.next.new.self.line_ended then 1 else 0)))
    c.in-Ok-Some.field-0-is c.in-Ok-Some.ensures.reader.line.step in
    let reading =
    read_more (bounds_at c.args.lines.now) report (g.T.LineTaker.has_taken c.lines.taker)
    (g.T.LineTaker.has_taken c.line-in-Ok-Some.new.self) c.lines.lines c.next.new.self
    (g.S.Store.left c.args.store.now) (g.S.Store.left c.lines.store) (g.S.Store.left c.next.new.store)
    (g.O.Sink.written c.args.out.now) (g.O.Sink.written c.lines.out) (g.O.Sink.written c.lines.out)
    c.lines.buffer.items c.line-in-Ok-Some.new.output.items c.line-in-Ok-Some.new.output.items c.next.result
    c.in-Ok-Some.span
    held.reading held.input held.line_limit is (λ rest told. (next.next held.no_fault rest told).answer)
    (λ rest told. (next.next held.no_fault rest told).line) step number
    (λ lines has. subst (λ line. g.T.LineTaker.has_taken c.line-in-Ok-Some.new.self (lines ++ line ∷ [])) c.line.ensures
    (taken.taken lines has))
    (λ lines has. subst (λ line. report.line_fault lines line ≡ None) c.line.ensures
    (subst (λ (r : Report). r.line_fault lines c.line.result.now ≡ None) held.report (taken.no_fault lines has)))
    (λ lines has. subst (λ line. c.line-in-Ok-Some.new.output.items ≡ c.lines.buffer.items ++ report.gains lines line)
    c.line.ensures
    (subst (λ (r : Report). c.line-in-Ok-Some.new.output.items
    ≡ c.lines.buffer.items ++ r.gains lines c.line.result.now) held.report (taken.output
    lines has)))
    ([], (sym (append_nothing (g.O.Sink.written c.lines.out)), refl)) in
    let passed_on = c.in-Err.ensures.front in
    let front =
    front_of_all (g.O.Sink.written c.args.out.now) (g.O.Sink.written c.lines.out)
    (g.O.Sink.written c.pass_on_piece.new.out) c.line-in-Ok-Some.new.output.items
    (written report reading.taken) reading.gained passed_on.0 passed_on.1 in record {
      taken = reading.taken;
      count = front.0;
      run = record {
        told =
            read_front (bounds_at c.args.lines.now) report (g.T.LineTaker.has_taken c.line-in-Ok-Some.new.self)
            c.next.new.self (g.S.Store.left c.args.store.now) (g.S.Store.left c.next.new.store)
            (g.O.Sink.written c.args.out.now) (g.O.Sink.written c.lines.out) c.line-in-Ok-Some.new.output.items reading;
        gained =
            record {
              early = take front.0 (written report reading.taken);
              written = front.1;
              all =
                  ap (λ kept. take front.0 (written report reading.taken) ++ kept) c.in-Err.ensures.emptied
                  ∙ append-nil _;
            };
      };
      has = tt;
    }

-- the end was seen
pub returns-in-Ok-end-clause-run : goal.returns-in-Ok-end-clause-run
returns-in-Ok-end-clause-run g c =
    let held = c.lines.invariant in
    let is : c.next.result ≡ Ok None = c.in-Ok-None.is ∙ ap Ok c.in-Ok-None.field-0-is in
    let ended : c.ended.result ≡ c.lines.lines.line_ended =
    c.ended.ensures ∙ (c.next.ensures.unmoved (λ line. subst IsLine is line)).line_ended in
    let report : Report = g.T.LineTaker.report c.args.taker.now in record {
      taken = held.reading.taken;
      count = 0;
      run = record {
        told =
            read_end (bounds_at c.args.lines.now) report (g.T.LineTaker.has_taken c.lines.taker) c.lines.lines
            (g.S.Store.left c.args.store.now) (g.S.Store.left c.lines.store)
            (g.O.Sink.written c.args.out.now) (g.O.Sink.written c.lines.out) c.lines.buffer.items c.next.result
            held.reading held.input held.line_limit is
            (λ rest told. (c.next.ensures.next held.no_fault rest told).answer)
            (λ lines has. ap (report.end_fault lines) (sym ended)
            ∙ subst (λ (r : Report). r.end_fault lines c.ended.result ≡ None) held.report
            (c.in-Ok-end.ensures.no_fault lines has));
        gained = held.reading.gained;
      };
      has = held.reading.has_taken;
    }

pub returns-in-Err-end-clause-run : goal.returns-in-Err-end-clause-run
returns-in-Err-end-clause-run g c =
    let held = c.lines.invariant in
    let is : c.next.result ≡ Ok None = c.in-Ok-None.is ∙ ap Ok c.in-Ok-None.field-0-is in
    let ended : c.ended.result ≡ c.lines.lines.line_ended =
    c.ended.ensures ∙ (c.next.ensures.unmoved (λ line. subst IsLine is line)).line_ended in
    let report : Report = g.T.LineTaker.report c.args.taker.now in
    let told = g.T.Fault.Fault.told c.in-Err-end.fault in record {
      taken = held.reading.taken;
      count = 0;
      run = record {
        told =
            read_end_fault (bounds_at c.args.lines.now) report (g.T.LineTaker.has_taken c.lines.taker) c.lines.lines
            (g.S.Store.left c.args.store.now) (g.S.Store.left c.lines.store)
            (g.O.Sink.written c.args.out.now) (g.O.Sink.written c.lines.out) c.lines.buffer.items c.next.result _ told
            held.reading held.input held.line_limit is
            (λ rest told. (c.next.ensures.next held.no_fault rest told).answer)
            (ap (λ n. n + 1) c.number-number.ensures.count)
            (λ lines has. ap (report.end_fault lines) (sym ended)
            ∙ subst (λ (r : Report). r.end_fault lines c.ended.result ≡ Some told) held.report
            (c.in-Err-end.ensures.fault lines has));
        gained = held.reading.gained;
      };
      has = tt;
    }

-- no line was given
pub returns-in-Err-ReadFailed-clause-run : goal.returns-in-Err-ReadFailed-clause-run
returns-in-Err-ReadFailed-clause-run g c =
    let held = c.lines.invariant in
    let next = c.next.ensures in
    let is : c.next.result ≡ Err reading.ReadFailed = c.in-Err-ReadFailed.is ∙ ap Err c.in-Err-ReadFailed.field-0-is in
    let unmoved = next.unmoved (λ line. subst IsLine is line) in record {
      taken = held.reading.taken;
      count = 0;
      run = record {
        told =
            read_stopped (bounds_at c.args.lines.now) (g.T.LineTaker.report c.args.taker.now)
            (g.T.LineTaker.has_taken c.lines.taker) c.lines.lines c.next.new.self
            (g.S.Store.left c.args.store.now) (g.S.Store.left c.lines.store) (g.S.Store.left c.next.new.store)
            (g.O.Sink.written c.args.out.now) (g.O.Sink.written c.lines.out) c.lines.buffer.items
            held.reading (next.reader.input ∙ held.input) (next.reader.limit ∙ held.line_limit) unmoved.passed
            unmoved.rest (next.reader.place held.no_fault is);
        gained = held.reading.gained;
      };
      has = tt;
    }

pub returns-in-Err-LineTooLong-clause-run : goal.returns-in-Err-LineTooLong-clause-run
returns-in-Err-LineTooLong-clause-run g c =
    let held = c.lines.invariant in
    let is : c.next.result ≡ Err reading.LineTooLong =
    c.in-Err-LineTooLong.is ∙ ap Err c.in-Err-LineTooLong.field-0-is in record {
      taken = held.reading.taken;
      count = 0;
      run = record {
        told =
            read_line_too_long (bounds_at c.args.lines.now) (g.T.LineTaker.report c.args.taker.now)
            (g.T.LineTaker.has_taken c.lines.taker) c.lines.lines
            (g.S.Store.left c.args.store.now) (g.S.Store.left c.lines.store) (g.O.Sink.written c.args.out.now)
            (g.O.Sink.written c.lines.out) c.lines.buffer.items c.next.result _
            held.reading held.input held.line_limit is
            (λ rest told. (c.next.ensures.next held.no_fault rest told).answer)
            (ap (λ n. n + 1) c.number-number.ensures.count);
        gained = held.reading.gained;
      };
      has = tt;
    }

pub returns-in-Err-InputTooLong-clause-run : goal.returns-in-Err-InputTooLong-clause-run
returns-in-Err-InputTooLong-clause-run g c =
    let held = c.lines.invariant in
    let is : c.next.result ≡ Err reading.InputTooLong =
    c.in-Err-InputTooLong.is ∙ ap Err c.in-Err-InputTooLong.field-0-is in
    let next = c.next.ensures in
    let unmoved = next.unmoved (λ line. subst IsLine is line) in
    let within : c.lines.lines.passed ≤ c.args.lines.now.input =
    omega (arith, next.reader.within, unmoved.passed, next.reader.input, held.input) in record {
      taken = held.reading.taken;
      count = 0;
      run = record {
        told =
            read_input_too_long (bounds_at c.args.lines.now) (g.T.LineTaker.report c.args.taker.now)
            (g.T.LineTaker.has_taken c.lines.taker) c.lines.lines
            (g.S.Store.left c.args.store.now) (g.S.Store.left c.lines.store) (g.O.Sink.written c.args.out.now)
            (g.O.Sink.written c.lines.out) c.lines.buffer.items c.next.result _
            held.reading held.input held.line_limit within is
            (λ rest told. (c.next.ensures.next held.no_fault rest told).answer)
            (ap (λ n. n + 1) c.number-number.ensures.count);
        gained = held.reading.gained;
      };
      has = tt;
    }
