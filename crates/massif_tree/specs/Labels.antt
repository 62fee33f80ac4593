-- The labels of a tree's lines that name no frame. The label of places that are gathered says how
-- many they are, and the threshold in percent with two decimals.
use Rattle.std.specs.Prelude.{ℕ, ◌==◌, ◌/◌, ◌%◌, if◌then◌else◌, List, ◌++◌, codes, decimal}
use Rattle.hp_num.specs.Percent.{two_digits}

-- the label of the root, under which all of the heap stands
unfoldable pub root_label : List ℕ
root_label = codes "(heap allocation functions) malloc/new/new[], --alloc-fns, etc."

-- how many places are gathered
unfoldable pub places_label : ℕ → List ℕ
places_label places =
    if places == 1
    then codes "in 1 place, below massif's threshold ("
    else codes "in " ++ (decimal places ++ codes " places, all below massif's threshold (")

-- the whole percents, a point, the hundredths that are left, and '%'
unfoldable pub threshold_text : ℕ → List ℕ
threshold_text hundredths = decimal (hundredths / 100)
    ++ (codes "." ++ (two_digits (hundredths % 100) ++ codes "%"))

-- the label of so many places below a threshold in hundredths of a percent
unfoldable pub gathered_label : ℕ → ℕ → List ℕ
gathered_label threshold places = places_label places ++ (threshold_text threshold ++ codes ")")
