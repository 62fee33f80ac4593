use Rattle.std.proofs.Common.{◌<◌, length, map, take}
use Rattle.cost_tree.specs.GrowingLists.{LastGains}
use Rattle.ht_trace.specs.FrameText.{frame_text}
use Rattle.stack_trees.proofs.stack_lists.push_texts.Given as goal

abbrev pub invariant-each_frame : goal.invariant-each_frame
invariant-each_frame l = record {
  begun : 0 < length l.lists;
  gained : LastGains l.initial.lists (map (frame_text l.style l.tables) (take l.at-index l.frames)) l.lists;
}
