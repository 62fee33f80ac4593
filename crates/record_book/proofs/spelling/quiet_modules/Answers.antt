use Rattle.record_book.proofs.ModuleLines.{quiet-modules}
use Rattle.record_book.proofs.spelling.quiet_modules.Goals as goal

pub returns : goal.returns
returns c = quiet-modules
