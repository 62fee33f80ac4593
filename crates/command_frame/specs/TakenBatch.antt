-- What a taker of lines takes of bytes at once.
use Rattle.std.specs.Prelude.{◌≡◌, ℕ, ◌+◌, ◌≤◌, List, Vec, length}
use Rattle.command_frame.specs.Batch.{HasGivenFront}
use Rattle.command_frame.specs.declared.front.Batch.{Batch}
use Rattle.command_frame.specs.declared.taker.LineTaker as taker

-- it took a front of the bytes, and may take more
pub record HasTakenBatch {T F Z : Type 0} (g : taker.Ghosts T F) (old new : T) (ready : List ℕ)
    (before after : Vec ℕ Z) (batch : Batch) : Type 0 where
  pub front : HasGivenFront (g.report old) (g.has_taken old) (g.has_taken new) ready batch.bytes
      batch.lines before.items after.items
  pub held : batch.bytes ≤ length ready
  pub few : batch.lines ≤ batch.bytes
  pub sound : g.is_sound new
  pub measure : g.measure new ≤ g.measure old + batch.bytes
  pub report : g.report new ≡ g.report old
