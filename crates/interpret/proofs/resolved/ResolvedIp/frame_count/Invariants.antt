use Rattle.std.proofs.Common.{◌≡◌, ◌+◌, ◌≤◌, length}
use Rattle.std.specs.Option.{option_copied}
use Rattle.interpret.specs.Resolved.{frames_of}
use Rattle.interpret.specs.SymbolEntries.{bytes_left, following}
use Rattle.interpret.proofs.resolved.ResolvedIp.frame_count.Given as goal

-- the frames so far and those that are left are all
abbrev pub invariant-frames : goal.invariant-frames
invariant-frames l = record {
  counted : l.count + length (frames_of (following (option_copied l.rest)))
      ≡ length (frames_of (following (option_copied l.self.texts)));
  few : l.count ≤ 4097;
}

abbrev pub decreases-frames : goal.decreases-frames
decreases-frames l = bytes_left (option_copied l.rest)
