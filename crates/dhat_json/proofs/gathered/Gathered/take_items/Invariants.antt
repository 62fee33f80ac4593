use Rattle.std.proofs.Common.{◌≡◌, ℕ, ◌≤◌, List, [], length}
use Rattle.json.specs.Json.{items, parse_map, value}
use Rattle.serde_json.specs.Data.{Data}
use Rattle.serde_json.specs.Read.{of_items, converted}
use Rattle.dhat_json.specs.Ahead.{items_ahead}
use Rattle.dhat_json.specs.Gathered.{HasGathered}
use Rattle.dhat_json.proofs.GatheredLemmas.{items_before}
use Rattle.dhat_json.proofs.gathered.Gathered.take_items.Given as goal

abbrev pub invariant-items : goal.invariant-items
invariant-items l =
    (n : ℕ) × (length l.reader ≤ n) × (done : List Data)
    × (items_ahead 125 l.initial.reader
    ≡ parse_map (items_before done) (converted of_items (items (value 125) n l.reader)))
    × (HasGathered l.initial.self [] → HasGathered l.self done)
    × (l.self.shape ≡ l.initial.self.shape)
    × (length l.reader ≤ length l.initial.reader)

abbrev pub decreases-items : goal.decreases-items
decreases-items l = length l.reader
