-- Numbers as a graph labels them: in the greatest unit that isn't above them. A label is the number
-- in the greatest unit that isn't above it, in five bytes where it has a fraction.
use Rattle.std.specs.Prelude.{ℕ, zero, suc, ◌+◌, ◌-◌, ◌*◌, ◌/◌, ◌%◌, ◌^◌, nat_eq, nat_le, if◌then◌else◌, List, [], ◌∷◌}
use Rattle.std.specs.Prelude.{◌++◌, codes, decimal, length, take, slice_index, slice_index_or}
use Rattle.massif_file.specs.declared.profile.TimeUnit.{TimeUnit}
use Rattle.massif_file.specs.declared.profile.TimeUnit.TheVariants.{Instructions, Milliseconds, Bytes, Events}

-- the names of a unit and of the greater ones
abbrev pub unit_names : TimeUnit → List (List ℕ)
unit_names Bytes = codes "B" ∷ codes "KB" ∷ codes "MB" ∷ codes "GB" ∷ codes "TB" ∷ []
unit_names Instructions = codes "i" ∷ codes "ki" ∷ codes "Mi" ∷ codes "Gi" ∷ codes "Ti" ∷ []
unit_names Events = codes "e" ∷ codes "ke" ∷ codes "Me" ∷ codes "Ge" ∷ codes "Te" ∷ []
unit_names Milliseconds = codes "ms" ∷ []

-- how many of a unit are the next one
abbrev pub factor_of : TimeUnit → ℕ
factor_of Bytes = 1024
factor_of Instructions = 1000
factor_of Events = 1000
factor_of Milliseconds = 1000

-- the greatest power, up to the last one, of which the factor isn't above the value, and else 0
abbrev pub power_up_to : ℕ → ℕ → ℕ → ℕ
power_up_to zero factor value = 0
power_up_to (suc last) factor value = if nat_le (factor ^ suc last) value then suc last
    else power_up_to last factor value

-- which of its units a value is written in
unfoldable pub power_of : TimeUnit → ℕ → ℕ
power_of unit value = power_up_to (length (unit_names unit) - 1) (factor_of unit) value

-- the name of that unit
unfoldable pub unit_label : TimeUnit → ℕ → List ℕ
unit_label unit value = slice_index_or (unit_names unit) (power_of unit value) []

-- a number below 1,000 in three digits
abbrev pub three_digits : ℕ → List ℕ
three_digits n = (48 + n / 100) ∷ (48 + n / 10 % 10) ∷ (48 + n % 10) ∷ []

-- the text without a point at its end
abbrev pub without_point : List ℕ → List ℕ
without_point text = if nat_eq (slice_index text (length text - 1)) 46
    then take (length text - 1) text else text

-- the value in units of a size: the whole part alone where it has five digits or more, and else
-- with three digits more, rounded down, of which those stand that fit into five bytes
unfoldable pub scaled_text : ℕ → ℕ → List ℕ
scaled_text size value =
    if nat_le 10000 (value / size) then decimal (value / size)
    else without_point (take 5
    (decimal (value / size) ++ (46 ∷ three_digits (value % size * 1000 / size))))

-- the value in that unit; in the first one it is the number itself
unfoldable pub label_text : TimeUnit → ℕ → List ℕ
label_text unit value = if nat_eq (power_of unit value) 0 then decimal value
    else scaled_text (factor_of unit ^ power_of unit value) value
