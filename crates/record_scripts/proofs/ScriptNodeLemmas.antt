-- The nodes of the stacks of scripts with one turn more, or with an empty script.
use Rattle.std.proofs.Common.{◌≡◌, ◌<◌, List, [], ◌∷◌, ◌++◌, length, refl, arith}
use Rattle.stack_table.specs.Node.{Node}
use Rattle.record_scripts.specs.Job.{in_last}
use Rattle.record_scripts.specs.ScriptNodes.{nodes_after, nodes_behind, nodes_in, nodes_with}
use Rattle.record_scripts.specs.Turns.{Turn}

after-push : (nodes : List Node) (script : List Turn) (turn : Turn)
    → nodes_after nodes (script ++ turn ∷ []) ≡ nodes_with (nodes_after nodes script) turn
after-push nodes [] turn = refl
after-push nodes (first ∷ script) turn = after-push (nodes_with nodes first) script turn

behind-push : (nodes : List Node) (scripts : List (List Turn)) (turn : Turn) → 0 < length scripts
    → nodes_behind nodes (in_last scripts turn) ≡ nodes_with (nodes_behind nodes scripts) turn
behind-push nodes [] turn some = absurd (omega (arith, some))
behind-push nodes (script ∷ []) turn some = after-push nodes script turn
behind-push nodes (script ∷ next ∷ more) turn some =
    behind-push (nodes_after nodes script) (next ∷ more) turn (omega arith)

behind-begun : (nodes : List Node) (scripts : List (List Turn))
    → nodes_behind nodes (scripts ++ [] ∷ []) ≡ nodes_behind nodes scripts
behind-begun nodes [] = refl
behind-begun nodes (script ∷ scripts) = behind-begun (nodes_after nodes script) scripts

-- a turn more in the last script
pub nodes-push : (scripts : List (List Turn)) (turn : Turn) → 0 < length scripts
    → nodes_in (in_last scripts turn) ≡ nodes_with (nodes_in scripts) turn
unfolding nodes_in
nodes-push scripts turn some = behind-push [] scripts turn some

-- an empty script more
pub nodes-begun : (scripts : List (List Turn)) → nodes_in (scripts ++ [] ∷ []) ≡ nodes_in scripts
unfolding nodes_in
nodes-begun scripts = behind-begun [] scripts
