-- How far the lines of a tree have come.
use Rattle.std.specs.Prelude.{◌≡◌, ℕ, ◌<◌, ◌≤◌, List, [], ◌∷◌, length}
use Rattle.massif_file.specs.TreeLine.{TreeLine}
use Rattle.massif_file.specs.Levels.{after_line}

-- The lines lead from what is to come before them to what is to come after them. Each is awaited,
-- and none stands above level 256.
abbrev pub Leads : List ℕ → List TreeLine → List ℕ → Type 0
Leads before [] after = before ≡ after
Leads before (line ∷ lines) after = (0 < length before) × (length before ≤ 257)
    × Leads (after_line line.children before) lines after
