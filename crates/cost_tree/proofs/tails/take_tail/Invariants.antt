use Rattle.std.proofs.Common.{◌+◌, ◌-◌, ◌≤◌, List, ◌++◌, length, map}
use Rattle.std.specs.List.{range_with_len}
use Rattle.cost_tree.specs.CostLines.{FrontLine}
use Rattle.cost_tree.specs.Tails.{tail_line}
use Rattle.cost_tree.specs.Texts.{texts_of}
use Rattle.cost_tree.proofs.tails.take_tail.Given as goal

-- the lines of so many of the texts are taken
abbrev pub invariant-each_text : goal.invariant-each_text
invariant-each_text g l = record {
  begun : l.count ≤ l.place;
  within : l.place - l.count ≤ length l.numbers - l.count;
  taken : (first : g.row.T.Denot) (lines : List FrontLine)
      → g.T.FrontLineTaker.takes l.names first lines l.initial.taker
      → g.T.FrontLineTaker.takes l.names first
      (lines ++ map (tail_line (texts_of l.names l.numbers) l.cost) (range_with_len (l.count + 1) (l.place - l.count)))
      l.taker;
}
