-- The functions that are left out of a trace's stacks, and those whose stacks aren't counted. A
-- frame is listed where its function has a name of the list; one without a function never is. A
-- stack is trimmed to its frames without the longest prefix of frames that are all allocation
-- functions, and is ignored where the first of what is left is to be ignored. The trimmed list of a
-- stack is the addressed texts of these frames, from the innermost on; a tree is built of its first
-- texts, one more than it is deep.
use Rattle.std.specs.Prelude.{ℕ, ◌+◌, false, Bool, List, drop, length, map, slice_get, ◌≡◌}
use Rattle.std.specs.List.{list_any, prefix_len, range_with_len}
use Rattle.std.specs.Option.{option_map_or}
use Rattle.std.specs.Str.{bytes_eq}
use Rattle.ht_trace.specs.declared.frame.FrameAt.{FrameAt}
use Rattle.ht_trace.specs.declared.frame.Style.TheVariants.{Addressed}
use Rattle.ht_trace.specs.FrameText.{frame_text, function_at}
use Rattle.ht_trace.specs.StackFrames.{stack_frames}
use Rattle.ht_trace.specs.TableState.{TableState}
use Rattle.std.specs.Borrow.{Bor}
use Rattle.std.specs.Fn.{Shared}
use Rattle.cost_tree.specs.declared.frame_test.FrameTest.{FrameTest}
use Rattle.cost_tree.specs.FrameTexts.{StatesNames, says}

-- whether the frame has a function whose name is in the list; a frame without a function is in no list
abbrev pub is_listed : TableState → List (List ℕ) → FrameAt → Bool
is_listed tables names at = option_map_or (λ function. list_any (bytes_eq function) names)
    (function_at tables at) false

-- the frames without the longest prefix of frames that are all listed
unfoldable pub without_listed : TableState → List (List ℕ) → List FrameAt → List FrameAt
without_listed tables names frames = drop (prefix_len (is_listed tables names) frames) frames

-- the frames of stack n, from the innermost on, without its innermost allocation functions
abbrev pub trimmed : TableState → List (List ℕ) → ℕ → List FrameAt
trimmed tables alloc_fns n = without_listed tables alloc_fns
    (stack_frames tables.instructions tables.nodes n)

-- whether stack n is ignored: it is trimmed to a list whose first frame has a function that is to be ignored
unfoldable pub is_ignored : TableState → List (List ℕ) → List (List ℕ) → ℕ → Bool
is_ignored tables alloc_fns ignore_fns n = option_map_or (is_listed tables ignore_fns)
    (slice_get (trimmed tables alloc_fns n) 0) false

-- the addressed texts of stack n as it is trimmed
abbrev pub trimmed_texts : TableState → List (List ℕ) → ℕ → List (List ℕ)
trimmed_texts tables alloc_fns n = map (frame_text Addressed tables) (trimmed tables alloc_fns n)

-- those of each stack, by the stacks' numbers
unfoldable pub trimmed_lists : TableState → List (List ℕ) → List (List (List ℕ))
trimmed_lists tables alloc_fns = map (trimmed_texts tables alloc_fns)
    (range_with_len 0 (length tables.nodes + 1))

-- those of so many stacks, from stack 0 on
unfoldable pub trimmed_before : TableState → List (List ℕ) → ℕ → List (List (List ℕ))
trimmed_before tables alloc_fns count = map (trimmed_texts tables alloc_fns)
    (range_with_len 0 count)

-- a closure's answer on a frame is whether its list has the frame's function
abbrev pub TellsListed : (List ℕ → Bool → Type 0) → TableState → FrameAt → Bool → Type 0
TellsListed answers tables at answer = (texts : List (List ℕ)) → StatesNames answers texts
    → answer ≡ is_listed tables texts at

-- so many frames from the first on have functions of the list
abbrev pub CountsListed : (List ℕ → Bool → Type 0) → TableState → List FrameAt → ℕ → Type 0
CountsListed answers tables frames count = (texts : List (List ℕ)) → StatesNames answers texts
    → count ≡ prefix_len (is_listed tables texts) frames

-- by two tests the answer is whether stack n is ignored, whichever names they state
abbrev pub IsIgnoredBy : {A I : Type 0} → Shared A (Bor (List ℕ) × Unit {0}) Bool
    → Shared I (Bor (List ℕ) × Unit {0}) Bool → FrameTest A → FrameTest I → TableState → ℕ → Bool
    → Type 0
IsIgnoredBy a i alloc_fns ignore_fns tables n answer = (alloc_names ignore_names : List (List ℕ))
    → StatesNames (says a alloc_fns) alloc_names → StatesNames (says i ignore_fns) ignore_names
    → answer ≡ is_ignored tables alloc_names ignore_names n
