-- By what is known of decimal texts.
use Rattle.massif_file.proofs.LevelTexts.{level_texts}
use Rattle.massif_file.proofs.ReadTexts.{is_writable}
use Rattle.massif_file.proofs.RoundTrip.{reads_again, are_lines}
use Rattle.massif_file.proofs.laws.massif_round_trip.Goals as goal

pub returns-clause-reads_back : goal.returns-clause-reads_back
returns-clause-reads_back c =
    reads_again (record { digits = c.decimal_texts.ensures.digits; reads_back = c.decimal_texts.ensures.reads_back })

pub returns-clause-lines : goal.returns-clause-lines
returns-clause-lines c =
    are_lines (record { digits = c.decimal_texts.ensures.digits; reads_back = c.decimal_texts.ensures.reads_back })

pub returns-clause-writable : goal.returns-clause-writable
returns-clause-writable c = λ lines all profile is. is_writable lines profile all is

pub returns-clause-levels : goal.returns-clause-levels
returns-clause-levels c = level_texts
