use Rattle.std.proofs.Common.{Err, ap, subst, ◌∙◌, arith}
use Rattle.std.specs.Result.{is_ok}
use Rattle.hp_outside.specs.Faults.{Faulted}
use Rattle.hp_outside.specs.Taken.{WhereTold}
use Rattle.hp_outside.specs.Whole.{WholeAnswer}
use Rattle.command_frame.specs.FirstFault.{bounds_of}
use Rattle.command_frame.specs.Outcome.{moment}
use Rattle.command_frame.specs.Texts.{texts_of}
use Rattle.command_frame.proofs.DocumentLemmas.{document_given, document_stopped, document_unopened}
use Rattle.command_frame.proofs.document.read_document.Goals as goal

pub returns-in-Err-clause-read : goal.returns-in-Err-clause-read
returns-in-Err-clause-read g c =
    let store = g.S.Store in
    let opens = c.open.ensures in
    let ended =
    document_unopened (texts_of c.args.context.now.texts) (bounds_of c.args.context.now.limits)
    (store.files c.args.store.now) c.args.name.now
    (moment (store.opens c.args.store.now) (store.current c.args.store.now) (store.left c.args.store.now)
    (store.faults c.args.store.now))
    (moment (store.opens c.open.new.self) (store.current c.open.new.self) (store.left c.open.new.self)
    (store.faults c.open.new.self))
    c.in-Err.fault c.open.result c.unopened.result c.in-Err.is opens.absent
    (record { opens = opens.opens; current_is = opens.current ∙ ap is_ok c.in-Err.is })
    (λ is untold. opens.absent_untold untold (c.in-Err.is ∙ ap Err is)) (λ is. opens.failed (c.in-Err.is ∙ ap Err is))
    c.unopened.ensures.answer c.unopened.ensures.memory in
    record {
      end = ended.0;
      read = ended.1.0;
      gives = ended.1.1;
      files = opens.files;
      no_write = c.unopened.ensures.write;
    }

pub returns-in-Ok-read_whole-clause-read : goal.returns-in-Ok-read_whole-clause-read
returns-in-Ok-read_whole-clause-read g c =
    let store = g.S.Store in
    let opens = c.open.ensures in
    let whole = c.read_whole.ensures in
    let ended =
    document_given (texts_of c.args.context.now.texts) (bounds_of c.args.context.now.limits)
    (store.files c.args.store.now)
    c.args.name.now
    (moment (store.opens c.args.store.now) (store.current c.args.store.now) (store.left c.args.store.now)
    (store.faults c.args.store.now))
    (moment (store.opens c.read_whole.new.store) (store.current c.read_whole.new.store)
    (store.left c.read_whole.new.store) (store.faults c.read_whole.new.store))
    (store.left c.open.new.self) c.in-Ok-read_whole.bytes c.in-Ok.ensures.left c.in-Ok.ensures.found
    (subst (λ result. WhereTold (store.left c.open.new.self)
    (λ bytes. WholeAnswer c.args.context.now.limits.input bytes result)) c.in-Ok-read_whole.is whole.answer)
    (record {
      opens = whole.reads.opens ∙ opens.opens;
      current_is = whole.reads.current ∙
          (opens.current ∙ ap is_ok c.in-Ok.is);
    })
    (whole.sound (λ is. absurd (cc)) ∙ c.in-Ok.ensures.sound) c.in-Ok-read_whole.ensures.ended in
    record {
      end = ended.0;
      read = ended.1.0;
      gives = ended.1.1;
      files = whole.reads.files ∙ opens.files;
      no_write = λ four. omega (arith, four);
    }

pub returns-in-Err-read_whole-clause-read : goal.returns-in-Err-read_whole-clause-read
returns-in-Err-read_whole-clause-read g c =
    let store = g.S.Store in
    let opens = c.open.ensures in
    let whole = c.read_whole.ensures in
    let ended =
    document_stopped (texts_of c.args.context.now.texts) (bounds_of c.args.context.now.limits)
    (store.files c.args.store.now) c.args.name.now
    (moment (store.opens c.args.store.now) (store.current c.args.store.now) (store.left c.args.store.now)
    (store.faults c.args.store.now))
    (moment (store.opens c.read_whole.new.store) (store.current c.read_whole.new.store)
    (store.left c.read_whole.new.store) (store.faults c.read_whole.new.store))
    (store.left c.open.new.self) c.in-Err-read_whole.fault c.unread.result c.in-Ok.ensures.left c.in-Ok.ensures.found
    (subst (λ result. WhereTold (store.left c.open.new.self)
    (λ bytes. WholeAnswer c.args.context.now.limits.input bytes result)) c.in-Err-read_whole.is whole.answer)
    (record {
      opens = whole.reads.opens ∙ opens.opens;
      current_is = whole.reads.current ∙
          (opens.current ∙ ap is_ok c.in-Ok.is);
    })
    (λ is. subst (λ n. Faulted n (store.faults c.read_whole.new.store)) c.in-Ok.ensures.sound
    (whole.failed (c.in-Err-read_whole.is ∙ ap Err is)))
    (λ other. whole.sound (λ is. other (cc)) ∙ c.in-Ok.ensures.sound) c.unread.ensures.answer c.unread.ensures.memory in
    record {
      end = ended.0;
      read = ended.1.0;
      gives = ended.1.1;
      files = whole.reads.files ∙ opens.files;
      no_write = c.unread.ensures.write;
    }
