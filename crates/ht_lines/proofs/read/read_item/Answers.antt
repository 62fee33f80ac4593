-- What is read is read so, what is refused is refused so, and no other.
use Rattle.ht_lines.proofs.LineSides.{Gives-item, Gives-fault, reading-item, reading-fault}
use Rattle.ht_lines.proofs.LengthLemmas.{IfOk-length}
use Rattle.ht_lines.proofs.OneLineTexts.{IfOk-one_line}
use Rattle.ht_lines.proofs.WrittenLemmas.{IfOk-IsWritable}
use Rattle.ht_lines.proofs.read.read_item.Goals as goal

pub returns-clause-item : goal.returns-clause-item
returns-clause-item c =
    Gives-item c.args.form c.args.version c.args.line.now c.read_line.result c.read_line.ensures.exact

pub returns-clause-fault : goal.returns-clause-fault
returns-clause-fault c =
    Gives-fault c.args.form c.args.version c.args.line.now c.read_line.result c.read_line.ensures.exact

pub returns-clause-only_item : goal.returns-clause-only_item
returns-clause-only_item c = reading-item c.args.form c.args.version c.args.line.now

pub returns-clause-only_fault : goal.returns-clause-only_fault
returns-clause-only_fault c = reading-fault c.args.form c.args.version c.args.line.now

pub returns-clause-writable : goal.returns-clause-writable
returns-clause-writable c =
    IfOk-IsWritable c.args.form c.args.version c.args.line.now c.read_line.result c.requires.short
    (Gives-item c.args.form c.args.version c.args.line.now c.read_line.result c.read_line.ensures.exact)

pub returns-clause-texts : goal.returns-clause-texts
returns-clause-texts c one =
    IfOk-one_line c.args.form c.args.version c.args.line.now one c.read_line.result
    (Gives-item c.args.form c.args.version c.args.line.now c.read_line.result c.read_line.ensures.exact)

pub returns-clause-length : goal.returns-clause-length
returns-clause-length c =
    IfOk-length c.args.form c.args.version c.args.line.now c.read_line.result
    (Gives-item c.args.form c.args.version c.args.line.now c.read_line.result c.read_line.ensures.exact)
