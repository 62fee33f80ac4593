-- What stands after an append of frames that may have failed halfway, for private clauses.
use Rattle.std.specs.Prelude.{◌≡◌, List, length, take}
use Rattle.ht_trace.specs.declared.frame.Frame.{Frame}

-- the new list begins with the old one
pub record KeepsFrames (old new : List Frame) : Type 0 where
  pub kept : take (length old) new ≡ old
