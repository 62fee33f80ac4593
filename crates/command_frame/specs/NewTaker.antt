-- What a taker of lines is before the first line of a file, and behind it. Taking the lines of the
-- current file: the taker is new before it and makes of lines what it made of them, and store,
-- output and reader are as the result says.
use Rattle.std.specs.Prelude.{◌≡◌, [], Result, OnOk}
use Rattle.command_frame.specs.declared.taker.LineTaker as taker

-- it has taken no line, and may take one
pub record IsNewTaker {T F : Type 0} (g : taker.Ghosts T F) (it : T) : Type 0 where
  pub sound : g.is_sound it
  pub no_lines : g.has_taken it []
  pub no_measure : g.measure it ≡ 0

-- it makes of lines what it made of them, and where all went well, it may take more
pub record SameTaker {T F X E : Type 0} (g : taker.Ghosts T F) (old new : T) (result : Result X E)
    : Type 0 where
  pub report : g.report new ≡ g.report old
  pub sound : OnOk result (g.is_sound new)
