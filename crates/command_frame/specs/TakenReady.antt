-- What a taker takes of the bytes that a reader of lines holds already.
use Rattle.std.specs.Prelude.{◌≡◌, ◌+◌, ◌≤◌, ℕ, Vec}
use Rattle.hp_outside.specs.LineReaderState.{LineReaderState}
use Rattle.command_frame.specs.Batch.{HasTakenKept}
use Rattle.command_frame.specs.declared.taker.LineTaker as taker

-- a front of them was taken and passed, and the taker may take more
pub record HasTakenReady {T F Z : Type 0} (g : taker.Ghosts T F) (lines next : LineReaderState)
    (old new : T) (before after : Vec ℕ Z) : Type 0 where
  pub taken : HasTakenKept (g.report old) (g.has_taken old) (g.has_taken new) lines next
      before.items after.items
  pub sound : g.is_sound new
  pub measure : g.measure new ≤ next.given
  pub report : g.report new ≡ g.report old
  -- the reader
  pub given : lines.given ≤ next.given
  pub bounded : next.given ≤ next.input + 1
  pub input : next.input ≡ lines.input
  pub limit : next.line_limit ≡ lines.line_limit
  pub ended : next.ended ≡ lines.ended
  pub fault : next.fault ≡ lines.fault
