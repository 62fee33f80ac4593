use Rattle.interpret.proofs.EntryLemmas.{meets-last, meets-none}
use Rattle.interpret.proofs.symbols.meets_any.Goals as goal

pub returns-in-Some : goal.returns-in-Some
returns-in-Some c =
    meets-last c.args.entries.now c.args.starts.now c.args.module_number c.args.start c.args.end _ c.requires.indexed
    c.requires.some c.in-Some.ensures.last

pub returns-in-None : goal.returns-in-None
returns-in-None c =
    meets-none c.args.entries.now c.args.module_number c.args.start c.args.end c.requires.some c.in-None.ensures.none
