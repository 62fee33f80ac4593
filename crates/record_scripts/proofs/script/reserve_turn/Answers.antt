use Rattle.std.proofs.Common.{◌-◌, Some, sym, ap, ◌∙◌, arith}
use Rattle.std.proofs.lemmas.Option.{slice_get-get_or}
use Rattle.record_scripts.specs.declared.script.Script.{Script}
use Rattle.record_scripts.proofs.KeptLemmas.{kept-same, room-set}
use Rattle.record_scripts.proofs.script.reserve_turn.Goals as goal

pub returns-in_err-reserve-clause-same : goal.returns-in_err-reserve-clause-same
returns-in_err-reserve-clause-same c = λ nodes.
    kept-same nodes _ c.args.scripts.now.items (c.len-last.result - 1) c.index_mut-script.result.now
    (slice_get-get_or c.args.scripts.now.items (c.len-last.result - 1) c.index_mut-script.result.now (omega arith)
    ∙ ap (λ (s : Script). Some s) (sym c.index_mut-script.ensures.value))
    c.in_err-reserve.ensures.items

pub returns-clause-same : goal.returns-clause-same
returns-clause-same c = λ nodes.
    kept-same nodes _ c.args.scripts.now.items (c.len-last.result - 1) c.index_mut-script.result.now
    (slice_get-get_or c.args.scripts.now.items (c.len-last.result - 1) c.index_mut-script.result.now (omega arith)
    ∙ ap (λ (s : Script). Some s) (sym c.index_mut-script.ensures.value))
    c.in_ok-reserve.ensures.items

pub returns-clause-room : goal.returns-clause-room
returns-clause-room c =
    room-set _ c.args.scripts.now.items (c.len-last.result - 1) (omega arith)
    (omega (arith, c.in_ok-reserve.ensures.ok))
