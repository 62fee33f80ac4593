-- The entries of a tree on a page.
use Rattle.std.specs.Prelude.{ℕ, ◌*◌, nat_eq, nat_lt, min, Bool, if◌then◌else◌, List, ◌++◌, codes, decimal}
use Rattle.hp_num.specs.Commas.{decimal_with_commas}
use Rattle.hp_num.specs.Hundredths.{hundredths_of}
use Rattle.hp_num.specs.Percent.{percent}
use Rattle.ms_print.specs.declared.entry.Scale.{Scale}

-- bytes that are too few for an entry of their own: their share of the sum is below the threshold
abbrev pub is_small : Scale → ℕ → Bool
is_small scale bytes = nat_lt (10000 * bytes) (scale.threshold * scale.sum)

-- the share of the sum, which is never more than the whole, and the bytes
unfoldable pub share_text : Scale → ℕ → List ℕ
share_text scale bytes = percent (hundredths_of (min bytes scale.sum) scale.sum)
    ++ (codes " (" ++ (decimal_with_commas bytes ++ codes "B) "))

-- these, and the place
unfoldable pub entry_text : Scale → ℕ → List ℕ → List ℕ
entry_text scale bytes label = share_text scale bytes ++ label

-- how many places are gathered
unfoldable pub places_text : ℕ → List ℕ
places_text places = if nat_eq places 1 then codes "in 1 place, below"
    else codes "in " ++ (decimal places ++ codes " places, all below")

-- what stands in the place of so many places that are gathered
unfoldable pub gathered_label : Scale → ℕ → List ℕ
gathered_label scale places = places_text places
    ++ (codes " ms_print's threshold (" ++ (percent scale.threshold ++ codes ")"))
