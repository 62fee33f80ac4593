-- A file that is read whole has a fault of its own where it has more bytes than a file may have.
use Rattle.std.specs.Prelude.{ℕ, nat_lt, if◌then◌else◌, List, length, Option, Some, None}
use Rattle.command_frame.specs.FirstFault.{Bounds, input_too_long}
use Rattle.command_frame.specs.Told.{Told}

-- a file with more bytes than a file may have
abbrev pub whole_fault : Bounds → List ℕ → Option Told
whole_fault bounds bytes = if nat_lt bounds.input (length bytes) then Some input_too_long else None
