use Rattle.std.proofs.Common.{◌-◌, Some, rules, sym, ap, ◌∙◌, arith, true≢false}
use Rattle.std.proofs.lemmas.Option.{slice_get-get_or}
use Rattle.record_scripts.specs.declared.script.Script.{Script}
use Rattle.record_scripts.proofs.KeptLemmas.{kept-same, kept-set, on-err, room-at}
use Rattle.record_scripts.proofs.script.push_turn.Goals as goal

pub returns-in_err-push-clause-pushes : goal.returns-in_err-push-clause-pushes
returns-in_err-push-clause-pushes c = record {
  pushed = search rules;
  same = on-err c.from_residual.result _ (λ nodes.
      kept-same nodes _ c.args.scripts.now.items (c.len-last.result - 1) c.index_mut-script.result.now
      (slice_get-get_or c.args.scripts.now.items (c.len-last.result - 1) c.index_mut-script.result.now (omega arith)
      ∙ ap (λ (s : Script). Some s) (sym c.index_mut-script.ensures.value))
      c.in_err-push.ensures.items);
  count = search rules;
}

pub returns-in_err-push-clause-room : goal.returns-in_err-push-clause-room
returns-in_err-push-clause-room c = λ room.
    absurd (true≢false (sym (c.in_err-push.ensures.succeeds
    (room-at c.args.scripts.now.items (c.len-last.result - 1) c.index_mut-script.result.now (omega arith)
    (slice_get-get_or c.args.scripts.now.items (c.len-last.result - 1) c.index_mut-script.result.now (omega arith)
    ∙ ap (λ (s : Script). Some s) (sym c.index_mut-script.ensures.value))
    room))))

pub returns-clause-pushes : goal.returns-clause-pushes
returns-clause-pushes c = record {
  pushed = λ nodes.
      kept-set nodes c.args.turn _ c.args.scripts.now.items (c.len-last.result - 1) c.index_mut-script.result.now
      (omega arith)
      (slice_get-get_or c.args.scripts.now.items (c.len-last.result - 1) c.index_mut-script.result.now (omega arith)
      ∙ ap (λ (s : Script). Some s) (sym c.index_mut-script.ensures.value))
      c.in_ok-push.ensures.items;
  same = tt;
  count = search rules;
}
