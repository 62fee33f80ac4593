use Rattle.std.proofs.Common.{map, string_bytes, subst}
use Rattle.command_frame.specs.Answer.{after}
use Rattle.command_frame.specs.Delivers.{DeliversTo}
use Rattle.command_frame.specs.FirstFault.{bounds_of}
use Rattle.command_frame.specs.Outside.{outside}
use Rattle.command_frame.specs.RunsTo.{rest_of, shown, taken}
use Rattle.command_frame.specs.Texts.{Texts}
use Rattle.command_frame.proofs.Laws.{is_delivered}
use Rattle.heaprec_commands.specs.Answer.{task_asked}
use Rattle.heaprec_commands.specs.Texts.{heaprec_texts}
use Rattle.heaprec_commands.proofs.EndLemmas.{heaprec_ran}
use Rattle.heaprec_commands.proofs.run.heaprec_run.Goals as goal

pub returns : goal.returns
returns g c =
    let ran = c.run_words-ran.ensures.run in
    let limit = c.args.limits.now.order in
    let mid = taken g.O.Sink c.run_words-ran.new.out in
    let new = taken g.O.Sink c.deliver.new.out in
    let err_old = taken g.E.Sink c.args.err.now in
    let err_new = taken g.E.Sink c.deliver.new.err in
    let answer = rest_of heaprec_texts c.run_words-ran.result in
    let delivery : DeliversTo heaprec_texts.write_failed answer c.deliver.result mid new err_old err_new =
    subst (λ (texts : Texts). DeliversTo texts.write_failed (rest_of texts c.run_words-ran.result) c.deliver.result mid
    new err_old err_new) c.heaprec_texts.ensures c.deliver.ensures in
    heaprec_ran (bounds_of c.args.limits.now) limit (map string_bytes c.args.words.now)
    (outside g.S.Store g.O.Sink g.E.Sink c.args.store.now c.args.out.now c.args.err.now)
    (outside g.S.Store g.O.Sink g.E.Sink c.run_words-ran.new.store c.deliver.new.out c.deliver.new.err) c.deliver.result
    (record {
      text = ran.text;
      given = after ran.run.early answer;
      ran = ran.run.ran;
      done = ran.done;
      delivered =
          is_delivered heaprec_texts (bounds_of c.args.limits.now) (task_asked limit ran.text _)
          (shown g.S.Store c.args.store.now) (shown g.S.Store c.run_words-ran.new.store)
          (taken g.O.Sink c.args.out.now) mid new err_old err_new c.deliver.result answer ran.run delivery;
    })
    ran.run.files c.run_words-ran.ensures.none ran.faulty
