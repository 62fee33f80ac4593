use Rattle.std.proofs.Common.{◌≡◌, ℕ, ap₂, map, string_bytes, subst, sym, IfOk}
use Rattle.command_frame.specs.FirstFault.{Bounds}
use Rattle.command_frame.specs.Outside.{outside}
use Rattle.commands.specs.HasRun.{HasRun}
use Rattle.heapsuite.specs.StandardBounds.{standard_bounds}
use Rattle.heapsuite.proofs.run.heapsuite_main.Goals as goal

-- the bounds of these numbers
abbrev within : ℕ → ℕ → Bounds
within input line = record { input = input; line = line }

pub returns-in-Ok-clause-run : goal.returns-in-Ok-clause-run
returns-in-Ok-clause-run g c =
    let before = outside g.S.Store g.O.Sink g.E.Sink c.args.store.now c.args.out.now c.args.err.now in
    let now =
    outside g.S.Store g.O.Sink g.E.Sink c.heapsuite_run-status.new.store c.heapsuite_run-status.new.out
    c.heapsuite_run-status.new.err in
    let same : c.deref.result.now ≡ c.in-Ok.words.items = c.deref.ensures.value in
    let ran =
    subst (λ given. IfOk given
    (λ words. HasRun standard_bounds (map string_bytes words.items) before now c.heapsuite_run-status.result))
    (sym
    c.in-Ok.is)
    (subst (λ items. HasRun standard_bounds (map string_bytes items) before now c.heapsuite_run-status.result) same
    (subst (λ (bounds : Bounds). HasRun bounds (map string_bytes c.deref.result.now) before now
    c.heapsuite_run-status.result) (ap₂
    within c.standard.ensures.input c.standard.ensures.line) c.heapsuite_run-status.ensures)) in
    subst (λ status. IfOk c.args.words.now
    (λ words. HasRun standard_bounds (map string_bytes words.items) before now status)) (sym
    c.from.ensures) ran
