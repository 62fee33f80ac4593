-- The names of a tree's texts, for private clauses.
use Rattle.std.specs.Prelude.{ℕ, List}
use Rattle.cost_tree.specs.declared.held_names.HeldNames.{HeldNames}
use Rattle.cost_tree.specs.declared.held_names.HeldNames.TheVariants.{Own, Lent}

abbrev pub names_in : HeldNames → List (List ℕ)
names_in (Own names) = names
names_in (Lent names) = names.now
