use Rattle.std.proofs.Common.{◌≡◌, ℕ, ◌≤◌, length}
use Rattle.json.specs.Json.{members, value}
use Rattle.serde_json.specs.Data.{Members, no_members}
use Rattle.serde_json.specs.Read.{of_members, converted}
use Rattle.dhat_json.specs.Ahead.{members_ahead}
use Rattle.dhat_json.specs.Survey.{HasMet}
use Rattle.dhat_json.proofs.survey.Survey.take_members.Given as goal

abbrev pub invariant-members : goal.invariant-members
invariant-members l =
    (n : ℕ) × (length l.reader ≤ n) × (found : Members)
    × (members_ahead 126 l.initial.reader ≡ converted (λ ms. of_members ms found) (members (value 126) n l.reader))
    × (HasMet l.initial.self no_members → HasMet l.self found)
    × (l.self.given ≡ l.initial.self.given)

abbrev pub decreases-members : goal.decreases-members
decreases-members l = length l.reader
