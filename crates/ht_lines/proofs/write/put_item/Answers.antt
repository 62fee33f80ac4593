-- The written form is read again, by the law of hexadecimal texts.
use Rattle.ht_lines.proofs.OneLineTexts.{written-one_line}
use Rattle.ht_lines.proofs.WrittenLemmas.{reading-written}
use Rattle.ht_lines.proofs.write.put_item.Goals as goal

pub returns-then-is_err-clause-reads_back : goal.returns-then-is_err-clause-reads_back
returns-then-is_err-clause-reads_back c =
    λ form. reading-written c.hexadecimal_texts.ensures.reads_back form c.args.version

pub returns-else-is_err-clause-reads_back : goal.returns-else-is_err-clause-reads_back
returns-else-is_err-clause-reads_back c =
    λ form. reading-written c.hexadecimal_texts.ensures.reads_back form c.args.version

pub returns-then-is_err-clause-one_line : goal.returns-then-is_err-clause-one_line
returns-then-is_err-clause-one_line c = written-one_line c.args.version _

pub returns-else-is_err-clause-one_line : goal.returns-else-is_err-clause-one_line
returns-else-is_err-clause-one_line c = written-one_line c.args.version _
