-- The bounds of the program: a file has at most 2^34 bytes, a line 1,048,576.
use Rattle.std.specs.Prelude.{◌^◌}
use Rattle.command_frame.specs.FirstFault.{Bounds}

abbrev pub standard_bounds : Bounds
standard_bounds = record { input = 2 ^ 34; line = 1048576 }
