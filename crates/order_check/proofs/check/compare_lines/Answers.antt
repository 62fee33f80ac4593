use Rattle.std.proofs.Common.{◌≡◌, ◌+◌, ◌≤◌, ℕ, List, [], ◌∷◌, ◌++◌, Some, None, Ok, Err, Bool, false, ap, sym, subst}
use Rattle.std.proofs.Common.{refl, ◌∙◌, arith}
use Rattle.std.specs.Prelude.{is_some, if◌then◌else◌}
use Rattle.hp_outside.specs.declared.span.LineFault.TheVariants as reading
use Rattle.hp_outside.specs.NextLine.{IsLine}
use Rattle.hp_outside.specs.Taken.{WhereTold}
use Rattle.record_scripts.specs.Job.{Job}
use Rattle.order_check.specs.CheckAnswer.{CheckAnswer}
use Rattle.order_check.specs.CheckState.{HasTaken}
use Rattle.order_check.specs.CheckedLines.{end_verdict}
use Rattle.order_check.specs.declared.verdict.CheckFault.TheVariants.{InputTooLong, LineTooLong, ReadFailed}
use Rattle.order_check.specs.declared.verdict.Verdict.{Verdict}
use Rattle.order_check.specs.declared.verdict.Verdict.TheVariants.{No}
use Rattle.order_check.specs.Following.{is_front, whole_events}
use Rattle.order_check.specs.Spelling.{IsSpelling}
use Rattle.order_check.proofs.LinesLoop.{read-end, read-more, read-past, read-refused, read-stopped, read-too-long}
use Rattle.order_check.proofs.LinesLoop.{reading-new}
use Rattle.order_check.proofs.check.compare_lines.Goals as goal

pub lines-init : goal.lines-init
lines-init g c = record {
  input = refl;
  line_limit = refl;
  no_fault = c.requires.new_lines.fault;
  given = omega (arith, c.requires.new_lines.given);
  ended = λ ended. absurd (cc);
  same_job = refl;
  reading =
      reading-new c.args.lines.now.input c.args.lines.now.line_limit c.args.check.now c.args.lines.now
      (g.S.Store.left c.args.store.now) c.requires.new_check.taken
      c.requires.new_lines.kept c.requires.new_lines.passed c.requires.new_lines.number c.requires.new_lines.line_ended;
  files = refl;
  current = refl;
  opens = refl;
  faults = refl;
}

pub lines-preserved : goal.lines-preserved
lines-preserved g c =
    let held = c.lines.invariant in
    let next = c.next.ensures in
    let is : c.next.result ≡ Ok (Some c.in-Ok-Some.span) = c.in-Ok-Some.is ∙ ap Ok c.in-Ok-Some.field-0-is in
    let number : c.next.new.self.number ≡ c.lines.lines.number + 1 =
    subst (λ place. c.next.new.self.number ≡ c.lines.lines.number + (if is_some place then 1 else 0))
    c.in-Ok-Some.field-0-is c.in-Ok-Some.ensures.reader.line.number in
    record {
      input = next.reader.input ∙ held.input;
      line_limit = next.reader.limit ∙ held.line_limit;
      no_fault = c.in-Ok-Some.ensures.reader.no_fault;
      given = next.reader.bounded;
      ended = next.store.end;
      same_job = c.in-Ok.ensures.job ∙ held.same_job;
      reading =
          read-more c.args.lines.now.input c.args.lines.now.line_limit c.lines.check c.line-in-Ok-Some.new.self
          c.lines.lines c.next.new.self
          (g.S.Store.left c.args.store.now) (g.S.Store.left c.lines.store) (g.S.Store.left c.next.new.store)
          c.next.result c.in-Ok-Some.span
          held.reading held.input held.line_limit is (λ rest told. (next.next held.no_fault rest told).answer)
          (λ rest told. (next.next held.no_fault rest told).line)
          (λ rest told. (next.next held.no_fault rest told).line_ended) number
          (λ lines has. subst (λ line. HasTaken c.line-in-Ok-Some.new.self (lines ++ line ∷ [])) c.line.ensures
          (c.in-Ok.ensures.taken lines has));
      files = next.store.files ∙ held.files;
      current = next.store.current ∙ held.current;
      opens = next.store.opens ∙ held.opens;
      faults = next.store.sound (λ bad. absurd (cc)) ∙ held.faults;
    }

-- no recording goes on with the line
pub returns-in-Err-NotRecorded-clause-answer : goal.returns-in-Err-NotRecorded-clause-answer
returns-in-Err-NotRecorded-clause-answer g c =
    let held = c.lines.invariant in
    let next = c.next.ensures in
    let is : c.next.result ≡ Ok (Some c.in-Ok-Some.span) = c.in-Ok-Some.is ∙ ap Ok c.in-Ok-Some.field-0-is in
    subst (λ (j : Job). WhereTold (g.S.Store.left c.args.store.now)
    (λ bytes. CheckAnswer c.args.lines.now.input c.args.lines.now.line_limit j bytes (g.S.Store.left c.next.new.store)
    (Ok (No (c.number-number.result + 1)))))
    held.same_job
    (read-refused c.args.lines.now.input c.args.lines.now.line_limit c.lines.check c.lines.lines c.next.new.self
    (g.S.Store.left c.args.store.now) (g.S.Store.left c.lines.store) (g.S.Store.left c.next.new.store) c.next.result
    c.in-Ok-Some.span (c.number-number.result + 1)
    held.reading (subst IsSpelling (sym held.same_job) c.requires.new_check.spelling) held.input held.line_limit is
    (λ rest told. (next.next held.no_fault rest told).answer) (λ rest told. (next.next held.no_fault rest told).line)
    (ap (λ (n : ℕ). n + 1) c.number-number.ensures.count)
    (λ lines has. subst (λ (line : List ℕ). is_front c.lines.check.job (lines ++ line ∷ []) ≡ false) c.line.ensures
    (c.in-Err-NotRecorded.ensures.refused (ap Err c.in-Err-NotRecorded.field-0-is) lines has)))

-- the end was seen
pub returns-in-Ok-None-clause-answer : goal.returns-in-Ok-None-clause-answer
returns-in-Ok-None-clause-answer g c =
    let held = c.lines.invariant in
    let next = c.next.ensures in
    let is : c.next.result ≡ Ok None = c.in-Ok-None.is ∙ ap Ok c.in-Ok-None.field-0-is in
    let ended : c.ended.result ≡ c.lines.lines.line_ended =
    c.ended.ensures ∙ (next.unmoved (λ line. subst IsLine is line)).line_ended in
    subst (λ (v : Verdict). WhereTold (g.S.Store.left c.args.store.now)
    (λ bytes. CheckAnswer c.args.lines.now.input c.args.lines.now.line_limit c.args.check.now.job bytes
    (g.S.Store.left c.next.new.store) (Ok v)))
    (sym c.verdict_at_end.ensures)
    (subst (λ (j : Job). WhereTold (g.S.Store.left c.args.store.now)
    (λ bytes. CheckAnswer c.args.lines.now.input c.args.lines.now.line_limit j bytes (g.S.Store.left c.next.new.store)
    (Ok (end_verdict c.end.result (c.number-number.result + 1))))) held.same_job
    (read-end c.args.lines.now.input c.args.lines.now.line_limit c.lines.check c.lines.lines
    (g.S.Store.left c.args.store.now) (g.S.Store.left c.lines.store) (g.S.Store.left c.next.new.store) c.next.result
    c.end.result (c.number-number.result + 1)
    held.reading (subst IsSpelling (sym held.same_job) c.requires.new_check.spelling) held.input held.line_limit is
    (λ rest told. (next.next held.no_fault rest told).answer)
    (ap (λ (n : ℕ). n + 1) c.number-number.ensures.count)
    (λ lines has. c.end.ensures.events lines has ∙ ap (λ (e : Bool). whole_events c.lines.check.job lines e) ended)))

-- no line was given
pub returns-in-Err-ReadFailed-clause-answer : goal.returns-in-Err-ReadFailed-clause-answer
returns-in-Err-ReadFailed-clause-answer g c =
    let held = c.lines.invariant in
    let next = c.next.ensures in
    let is : c.next.result ≡ Err reading.ReadFailed = c.in-Err-ReadFailed.is ∙ ap Err c.in-Err-ReadFailed.field-0-is in
    let unmoved = next.unmoved (λ line. subst IsLine is line) in
    subst (λ (j : Job). WhereTold (g.S.Store.left c.args.store.now)
    (λ bytes. CheckAnswer c.args.lines.now.input c.args.lines.now.line_limit j bytes (g.S.Store.left c.next.new.store)
    (Err ReadFailed)))
    held.same_job
    (read-stopped c.args.lines.now.input c.args.lines.now.line_limit c.lines.check c.lines.lines c.next.new.self
    (g.S.Store.left c.args.store.now) (g.S.Store.left c.lines.store) (g.S.Store.left c.next.new.store)
    held.reading (subst IsSpelling (sym held.same_job) c.requires.new_check.spelling) (next.reader.input ∙ held.input)
    (next.reader.limit ∙ held.line_limit) unmoved.passed unmoved.rest (next.reader.place held.no_fault is))

pub returns-in-Err-LineTooLong-clause-answer : goal.returns-in-Err-LineTooLong-clause-answer
returns-in-Err-LineTooLong-clause-answer g c =
    let held = c.lines.invariant in
    let is : c.next.result ≡ Err reading.LineTooLong =
    c.in-Err-LineTooLong.is ∙ ap Err c.in-Err-LineTooLong.field-0-is in
    subst (λ (j : Job). WhereTold (g.S.Store.left c.args.store.now)
    (λ bytes. CheckAnswer c.args.lines.now.input c.args.lines.now.line_limit j bytes (g.S.Store.left c.next.new.store)
    (Err LineTooLong)))
    held.same_job
    (read-too-long c.args.lines.now.input c.args.lines.now.line_limit c.lines.check c.lines.lines
    (g.S.Store.left c.args.store.now) (g.S.Store.left c.lines.store) (g.S.Store.left c.next.new.store) c.next.result
    held.reading (subst IsSpelling (sym held.same_job) c.requires.new_check.spelling) held.input held.line_limit is
    (λ rest told. (c.next.ensures.next held.no_fault rest told).answer))

pub returns-in-Err-InputTooLong-clause-answer : goal.returns-in-Err-InputTooLong-clause-answer
returns-in-Err-InputTooLong-clause-answer g c =
    let held = c.lines.invariant in
    let next = c.next.ensures in
    let is : c.next.result ≡ Err reading.InputTooLong =
    c.in-Err-InputTooLong.is ∙ ap Err c.in-Err-InputTooLong.field-0-is in
    let unmoved = next.unmoved (λ line. subst IsLine is line) in
    let within : c.lines.lines.passed ≤ c.args.lines.now.input =
    omega (arith, next.reader.within, unmoved.passed, next.reader.input, held.input) in
    subst (λ (j : Job). WhereTold (g.S.Store.left c.args.store.now)
    (λ bytes. CheckAnswer c.args.lines.now.input c.args.lines.now.line_limit j bytes (g.S.Store.left c.next.new.store)
    (Err InputTooLong)))
    held.same_job
    (read-past c.args.lines.now.input c.args.lines.now.line_limit c.lines.check c.lines.lines
    (g.S.Store.left c.args.store.now) (g.S.Store.left c.lines.store) (g.S.Store.left c.next.new.store) c.next.result
    held.reading (subst IsSpelling (sym held.same_job) c.requires.new_check.spelling) held.input held.line_limit within
    is (λ rest told. (next.next held.no_fault rest told).answer))
