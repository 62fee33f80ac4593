use Rattle.std.proofs.Common.{◌≡◌, drop}
use Rattle.commands.specs.NameWords.{meaning_in, names_in}
use Rattle.commands.proofs.name_words.meaning_in.Given as goal

abbrev pub invariant-loop-known : goal.invariant-loop-known
invariant-loop-known g l =
    meaning_in (names_in l.names) l.name ≡ meaning_in (names_in (drop l.known-index l.names)) l.name
