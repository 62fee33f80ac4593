-- The bytes are those of the text.
use Rattle.std.proofs.Common.{arith}
use Rattle.hp_num.proofs.PercentTexts.{below_text, percent_full}
use Rattle.hp_num.proofs.percent.put_percent.Goals as goal

pub returns-then-hundredths-eq-WHOLE-clause-appended : goal.returns-then-hundredths-eq-WHOLE-clause-appended
returns-then-hundredths-eq-WHOLE-clause-appended c =
    rw (c.if-hundredths-eq-WHOLE.true, percent_full) c.put_bytes.ensures.appended

pub returns-then-hundredths-eq-WHOLE-clause-room : goal.returns-then-hundredths-eq-WHOLE-clause-room
returns-then-hundredths-eq-WHOLE-clause-room c =
    rw (c.if-hundredths-eq-WHOLE.true, percent_full) c.put_bytes.ensures.room

pub returns-clause-appended : goal.returns-clause-appended
returns-clause-appended c =
    rw (← below_text c.args.hundredths _ _ _ _ (omega arith) c.digit.ensures c.digit-2.ensures c.digit-3.ensures
    c.digit-4.ensures) c.put_bytes-2.ensures.appended

pub returns-clause-room : goal.returns-clause-room
returns-clause-room c =
    rw (← below_text c.args.hundredths _ _ _ _ (omega arith) c.digit.ensures c.digit-2.ensures c.digit-3.ensures
    c.digit-4.ensures) c.put_bytes-2.ensures.room
