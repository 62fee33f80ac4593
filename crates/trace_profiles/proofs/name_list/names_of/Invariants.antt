use Rattle.std.proofs.Common.{◌≡◌, map}
use Rattle.std.specs.Str.{bytes_eq}
use Rattle.intern_tables.specs.WithoutRepeats.{without_repeats}
use Rattle.massif_sample.specs.NameList.{with_text}
use Rattle.trace_profiles.proofs.name_list.names_of.Given as goal

abbrev pub invariant-pieces : goal.invariant-pieces
invariant-pieces l = l.names ≡ without_repeats bytes_eq (with_text (map (λ piece. piece.now) l.yielded))
