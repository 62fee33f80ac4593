-- The frames of an instruction line: what the numbers after its module say.
use Rattle.std.specs.Prelude.{ℕ, ◌==◌, ◌%◌, if◌then◌else◌, List, [], ◌∷◌, length}
use Rattle.ht_trace.specs.declared.frame.Frame.{Frame}

-- a frame with a function, without a file; function 0 is none
abbrev pub without_file : ℕ → Frame
without_file function = record { function = function; file = 0; line = 0 }

-- a frame for each three numbers: function, file, line
abbrev pub triples : List ℕ → List Frame
triples [] = []
triples (function ∷ []) = []
triples (function ∷ file ∷ []) = []
triples (function ∷ file ∷ line ∷ more) = record { function = function; file = file; line = line }
    ∷ triples more

-- no numbers say one frame that names nothing; a first function that has no file stands alone before the triples
abbrev pub frames_said : List ℕ → List Frame
frames_said [] = without_file 0 ∷ []
frames_said (function ∷ more) =
    if length more % 3 == 0 then without_file function ∷ triples more else triples (function ∷ more)
