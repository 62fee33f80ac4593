-- What is saved of the stacks for the present peak, and their shares in it. An event saves the
-- figures of its stack, once for each peak; a share is the saved figure, or the live one where none
-- was saved.
use Rattle.std.specs.Prelude.{ℕ, ◌==◌, if◌then◌else◌, List, map, slice_index, slice_set}
use Rattle.std.specs.List.{range_with_len}

-- the saved figures after one stack's is saved, unless it was for this peak
abbrev pub saved_after : List ℕ → List ℕ → ℕ → ℕ → ℕ → List ℕ
saved_after saved stamps counter stack figure = if slice_index stamps stack == counter then saved
    else slice_set saved stack figure

-- the stamps after it
abbrev pub stamps_after : List ℕ → ℕ → ℕ → List ℕ
stamps_after stamps counter stack = if slice_index stamps stack == counter then stamps
    else slice_set stamps stack counter

-- a stack's share: the saved figure where it was saved for this peak, else the live one
abbrev pub share_at : List ℕ → List ℕ → List ℕ → ℕ → ℕ → ℕ
share_at live saved stamps counter stack = if slice_index stamps stack == counter
    then slice_index saved stack else slice_index live stack

-- the shares of the first stacks
abbrev pub shares_of : ℕ → List ℕ → List ℕ → List ℕ → ℕ → List ℕ
shares_of stacks live saved stamps counter = map (share_at live saved stamps counter)
    (range_with_len 0 stacks)
