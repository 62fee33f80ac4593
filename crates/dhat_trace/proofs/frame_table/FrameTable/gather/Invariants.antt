-- What the stack that is left has, the whole stack has behind the places so far, and each segment from its start on.
use Rattle.std.proofs.Common.{◌≤◌, ℕ, List, length}
use Rattle.std.specs.Prelude.{All}
use Rattle.dhat_trace.specs.FrameTable.{AddsTexts, frame_texts}
use Rattle.dhat_trace.specs.KnownPlaces.{AreKnown, AreTold}
use Rattle.dhat_trace.proofs.KnownLemmas.{outer_texts}
use Rattle.dhat_trace.proofs.SegmentLemmas.{IsBegun}
use Rattle.dhat_trace.proofs.frame_table.FrameTable.gather.Given as goal

abbrev pub invariant-outwards : goal.invariant-outwards
invariant-outwards l = record {
  held : l.at ≤ length l.tables.nodes;
  known : AreKnown l.tables l.self.texts l.self.known;
  told : AreTold l.tables l.self.texts l.told;
  adds : (later : List (List ℕ)) → AddsTexts l.self.texts (outer_texts l.tables l.at) later
      → AddsTexts l.initial.self.texts (frame_texts l.tables l.stack) later;
  first : IsBegun l.tables l.self.texts l.at l.places.items (record { stack = l.stack; start = 0 });
  segments : All (IsBegun l.tables l.self.texts l.at l.places.items) l.segments.items;
}

abbrev pub decreases-outwards : goal.decreases-outwards
decreases-outwards l = l.at
