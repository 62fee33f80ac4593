use Rattle.std.proofs.Common.{◌≡◌, ℕ, zero, suc, ◌-◌, ◌<◌, ◌++◌, codes, ap, sym, ◌∙◌, append_assoc, arith}
use Rattle.command_frame_tests.specs.Countdown.{lines_left}
use Rattle.command_frame_tests.proofs.countdown.Countdown.put_line.Goals as goal

-- one line, and those that are left behind it
one_less : (number : ℕ) → 0 < number → lines_left number ≡ codes "123456789\n" ++ lines_left (number - 1)
one_less zero some = absurd (omega (arith, some))
one_less (suc number) some =
    let less : number ≡ suc number - 1 = omega arith in ap (λ left. codes "123456789\n" ++ lines_left left) less

pub returns-clause-made : goal.returns-clause-made
returns-clause-made c =
    ap (λ items. items ++ lines_left (c.args.self.now.left - 1)) c.in_ok-put_bytes.ensures.appended
    ∙ (append_assoc c.args.output.now.items (codes "123456789\n") (lines_left (c.args.self.now.left - 1))
    ∙ ap (λ lines. c.args.output.now.items ++ lines)
    (sym (one_less c.args.self.now.left (omega (arith, c.if-self-eq0.false)))))
