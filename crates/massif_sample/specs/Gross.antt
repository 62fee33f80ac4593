-- What a block takes of the heap with its administration. The gross size of a block is its size
-- rounded up to a multiple of the alignment, and the bytes of administration.
use Rattle.std.specs.Prelude.{ℕ, ◌+◌, ◌-◌, ◌*◌, ◌/◌}
use Rattle.massif_sample.specs.declared.options.MassifOptions.{MassifOptions}

-- the size rounded up to a multiple of the alignment
abbrev pub rounded_up : ℕ → ℕ → ℕ
rounded_up alignment size = (size + (alignment - 1)) / alignment * alignment

-- the rounded size and the bytes of administration
abbrev pub gross : MassifOptions → ℕ → ℕ
gross options size = rounded_up options.alignment size + options.admin
