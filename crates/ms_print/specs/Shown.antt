-- The trees that a page shows: places with few bytes are gathered. A page shows of trees those that
-- aren't small, and then the small ones as one place with their sum, at most 2^64 - 1; and so below
-- each.
use Rattle.std.specs.Prelude.{ℕ, ◌+◌, ◌-◌, ◌^◌, min, nat_eq, if◌then◌else◌}
use Rattle.massif_file.specs.Trees.{Trees, no_tree, a_tree}
use Rattle.ms_print.specs.declared.entry.Scale.{Scale}
use Rattle.ms_print.specs.Entries.{is_small, gathered_label}

-- trees, and others beside them
abbrev pub beside : Trees → Trees → Trees
beside no_tree more = more
beside (a_tree bytes label children others) more = a_tree bytes label children (beside others more)

-- how many of the trees are small, and what these have together
abbrev pub small_places : Scale → Trees → ℕ
small_places scale no_tree = 0
small_places scale (a_tree bytes label children others) = if is_small scale bytes
    then 1 + small_places scale others else small_places scale others

abbrev pub small_bytes : Scale → Trees → ℕ
small_bytes scale no_tree = 0
small_bytes scale (a_tree bytes label children others) = if is_small scale bytes
    then bytes + small_bytes scale others else small_bytes scale others

-- the one entry of so many small places with so many bytes, of which at most 2^64 - 1 are told
abbrev pub gathered : Scale → ℕ → ℕ → Trees
gathered scale places bytes = if nat_eq places 0 then no_tree
    else a_tree (min bytes (2 ^ 64 - 1)) (gathered_label scale places) no_tree no_tree

-- the trees that are not small, and below each of them what is shown there
abbrev pub kept : Scale → Trees → Trees
kept scale no_tree = no_tree
kept scale (a_tree bytes label children others) =
    if is_small scale bytes
    then kept scale others
    else a_tree bytes label
    (beside (kept scale children)
    (gathered scale (small_places scale children) (small_bytes scale children))) (kept scale others)

-- these, and then the small ones in one entry
unfoldable pub shown : Scale → Trees → Trees
shown scale trees = beside (kept scale trees)
    (gathered scale (small_places scale trees) (small_bytes scale trees))
