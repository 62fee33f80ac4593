-- A list in which each element depends on those before it.
use Rattle.std.specs.Prelude.{List, [], ◌∷◌, ◌++◌, Option}
use Rattle.std.specs.Option.{option_to_list}

-- what f gives of each element after the earlier ones and those before it, without those where it gives nothing
abbrev pub gathered : {X Y : Type 0} → (List X → X → Option Y) → List X → List X → List Y
gathered f earlier [] = []
gathered f earlier (x ∷ xs) = option_to_list (f earlier x) ++ gathered f (earlier ++ x ∷ []) xs
