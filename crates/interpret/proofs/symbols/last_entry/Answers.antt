use Rattle.interpret.proofs.EntryLemmas.{last-is, last-none, none-before}
use Rattle.interpret.proofs.symbols.last_entry.Goals as goal

pub returns-in_err-last-clause-none : goal.returns-in_err-last-clause-none
returns-in_err-last-clause-none c =
    rw c.from_residual.ensures
    (none-before c.args.entries.now c.args.starts.now c.args.module_number c.args.offset c.requires.indexed
    c.in_err-last.ensures.none)

pub returns-clause-last : goal.returns-clause-last
returns-clause-last c =
    last-is c.args.entries.now c.args.starts.now c.args.module_number c.args.offset c.in_ok-last.last.start
    c.in_ok-last.last.place c.entry.result c.requires.indexed
    c.entry.ensures c.in_ok-last.ensures.found c.in_ok-last.ensures.up_to c.in_ok-last.ensures.last

pub returns-clause-none : goal.returns-clause-none
returns-clause-none c =
    last-none c.args.entries.now c.args.starts.now c.args.module_number c.args.offset c.in_ok-last.last.start
    c.in_ok-last.last.place c.entry.result c.requires.indexed
    c.entry.ensures c.in_ok-last.ensures.found
