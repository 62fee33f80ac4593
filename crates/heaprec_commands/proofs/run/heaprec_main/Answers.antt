use Rattle.std.proofs.Common.{◌^◌, ℕ, List, IfOk, map, string_bytes, subst, sym}
use Rattle.command_frame.specs.Outside.{outside}
use Rattle.heaprec_commands.specs.HeaprecRan.{HeaprecRan}
use Rattle.heaprec_commands.proofs.run.heaprec_main.Goals as goal

pub returns-in-Ok-clause-run : goal.returns-in-Ok-clause-run
returns-in-Ok-clause-run g c =
    let ran : (input line order : ℕ) (words : List (List ℕ)) (status : ℕ) → Type 0 =
    λ input line order words status. HeaprecRan (record { input = input; line = line }) order words
    (outside g.S.Store g.O.Sink g.E.Sink c.args.store.now c.args.out.now c.args.err.now)
    (outside g.S.Store g.O.Sink g.E.Sink c.heaprec_run-status.new.store c.heaprec_run-status.new.out
    c.heaprec_run-status.new.err)
    status in
    let given = map string_bytes c.deref.result.now in
    let status = c.heaprec_run-status.result in
    let limits = c.standard-limits in
    let run =
    subst (λ words. IfOk words (λ words. ran (2 ^ 34) 1048576 10000000 (map string_bytes words.items) status))
    (sym c.in-Ok.is)
    (subst (λ words. ran (2 ^ 34) 1048576 10000000 (map string_bytes words) status) c.deref.ensures.value
    (subst (λ input. ran input 1048576 10000000 given status) limits.ensures.input
    (subst (λ line. ran limits.result.input line 10000000 given status) limits.ensures.line
    (subst (λ order. ran limits.result.input limits.result.line order given status) limits.ensures.order
    c.heaprec_run-status.ensures)))) in
    subst (λ status. IfOk c.args.words.now
    (λ words. ran (2 ^ 34) 1048576 10000000 (map string_bytes words.items) status)) (sym
    c.from.ensures) run
