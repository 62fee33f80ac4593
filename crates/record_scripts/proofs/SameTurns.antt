-- Turns that say the same, by their stacks or by the numbers of their nodes.
use Rattle.std.proofs.Common.{◌≡◌, ℕ, ◌≤◌, List, [], ◌∷◌, length, map, refl, sym, ap, ap₂, ◌∙◌, subst}
use Rattle.std.specs.List.{AllByRecursion}
use Rattle.stack_table.specs.AreNodes.{AreNodes}
use Rattle.stack_table.specs.Node.{Node}
use Rattle.stack_table.specs.Stack.{stack}
use Rattle.record_scripts.specs.declared.script.Script.{Script}
use Rattle.record_scripts.specs.declared.turn_entry.TurnEntry.{TurnEntry}
use Rattle.record_scripts.specs.declared.turn_entry.TurnKind.{TurnKind}
use Rattle.record_scripts.specs.declared.turn_entry.TurnKind.TheVariants.{Allocation, Free, Reallocation}
use Rattle.record_scripts.specs.KeptTurn.{line_of_kind, wide}
use Rattle.record_scripts.specs.ScriptNodes.{nodes_in}
use Rattle.record_scripts.specs.ScriptTurns.{AreHeld, IsHeld, script_kept, script_numbered, scripts_kept}
use Rattle.record_scripts.specs.ScriptTurns.{scripts_numbered, turn_kept, turn_numbered, turn_said}
use Rattle.record_scripts.specs.Turns.{Turn}
use Rattle.record_scripts.proofs.StackNumbers.{AreApart, nodes-apart, number-by-stack}

-- what a kind says with these numbers and ips
abbrev said : TurnKind → ℕ → ℕ → List ℕ → Turn
said kind id size ips = turn_said (line_of_kind kind id size) ips

-- where two lists are the same for two turns, others may stand in their place
said-by : (k l : TurnKind) (id size other_id other_size : ℕ) (xs ys us vs : List ℕ) → (xs ≡ ys → us ≡ vs)
    → said k id size xs ≡ said l other_id other_size ys → said k id size us ≡ said l other_id other_size vs
said-by Allocation Allocation id size other_id other_size xs ys us vs same is =
    let ids : id ≡ other_id = cc in
    let sizes : size ≡ other_size = cc in
    let lists : xs ≡ ys = cc in
    let now = same lists in
    cc
said-by Allocation Free id size other_id other_size xs ys us vs same is = absurd (cc)
said-by Allocation Reallocation id size other_id other_size xs ys us vs same is = absurd (cc)
said-by Free Allocation id size other_id other_size xs ys us vs same is = absurd (cc)
said-by Free Free id size other_id other_size xs ys us vs same is = is
said-by Free Reallocation id size other_id other_size xs ys us vs same is = absurd (cc)
said-by Reallocation Allocation id size other_id other_size xs ys us vs same is = absurd (cc)
said-by Reallocation Free id size other_id other_size xs ys us vs same is = absurd (cc)
said-by Reallocation Reallocation id size other_id other_size xs ys us vs same is =
    let ids : id ≡ other_id = cc in
    let sizes : size ≡ other_size = cc in
    let lists : xs ≡ ys = cc in
    let now = same lists in
    cc

turn-by-stack : (nodes : List Node) → AreApart nodes → AreNodes nodes → (one other : TurnEntry)
    → IsHeld (length nodes) one → IsHeld (length nodes) other → turn_kept nodes one ≡ turn_kept nodes other
    → turn_numbered one ≡ turn_numbered other
turn-by-stack nodes apart are one other held also is =
    said-by one.kind other.kind (wide one.id_low one.id_high) (wide one.size_low one.size_high)
    (wide other.id_low other.id_high) (wide other.size_low other.size_high)
    (stack nodes one.node) (stack nodes other.node) (one.node ∷ []) (other.node ∷ [])
    (λ stacks. ap (λ (n : ℕ). n ∷ []) (number-by-stack nodes apart are one.node other.node held also stacks)) is

first : (n m : ℕ) → n ∷ [] ≡ m ∷ [] → n ≡ m
first n m is = cc

turn-by-number : (nodes : List Node) (one other : TurnEntry) → turn_numbered one ≡ turn_numbered other
    → turn_kept nodes one ≡ turn_kept nodes other
turn-by-number nodes one other is =
    said-by one.kind other.kind (wide one.id_low one.id_high) (wide one.size_low one.size_high)
    (wide other.id_low other.id_high) (wide other.size_low other.size_high)
    (one.node ∷ []) (other.node ∷ []) (stack nodes one.node) (stack nodes other.node)
    (λ numbers. ap (stack nodes) (first one.node other.node numbers)) is

-- lists whose elements are the same by one function are the same by another
map-same : {X Y Z : Type 0} (f : X → Y) (g : X → Z) (P : X → Type 0) → ((x y : X) → P x → P y → f x ≡ f y → g x ≡ g y)
    → (xs ys : List X) → AllByRecursion P xs → AllByRecursion P ys → map f xs ≡ map f ys → map g xs ≡ map g ys
map-same f g P same [] [] all also is = refl
map-same f g P same [] (y ∷ ys) all also is = absurd (cc)
map-same f g P same (x ∷ xs) [] all also is = absurd (cc)
map-same f g P same (x ∷ xs) (y ∷ ys) all also is =
    let head : f x ≡ f y = cc in
    let tail : map f xs ≡ map f ys = cc in
    ap₂ (λ z zs. z ∷ zs) (same x y all.0 also.0 head) (map-same f g P same xs ys all.1 also.1 tail)

scripts-by-stack : (nodes : List Node) → AreApart nodes → AreNodes nodes → (scripts others : List Script)
    → AreHeld (length nodes) scripts → AreHeld (length nodes) others
    → scripts_kept nodes scripts ≡ scripts_kept nodes others → scripts_numbered scripts ≡ scripts_numbered others
scripts-by-stack nodes apart are scripts others held also is =
    map-same (script_kept nodes) script_numbered (λ script. AllByRecursion (IsHeld (length nodes)) script.turns.items)
    (λ one other here there same. map-same (turn_kept nodes) turn_numbered (IsHeld (length nodes))
    (turn-by-stack nodes apart are) one.turns.items other.turns.items here there same)
    scripts others held also is

scripts-by-number : (nodes : List Node) (scripts others : List Script) → AreHeld (length nodes) scripts
    → AreHeld (length nodes) others
    → scripts_numbered scripts ≡ scripts_numbered others → scripts_kept nodes scripts ≡ scripts_kept nodes others
scripts-by-number nodes scripts others held also is =
    map-same script_numbered (script_kept nodes) (λ script. AllByRecursion (IsHeld (length nodes)) script.turns.items)
    (λ one other here there same. map-same turn_numbered (turn_kept nodes) (IsHeld (length nodes))
    (λ x y a b numbers. turn-by-number nodes x y numbers) one.turns.items other.turns.items here there same)
    scripts others held also is

-- where scripts are the same, so are their nodes, and the numbers of these
pub same-kept : (nodes others : List Node) (scripts more : List Script) → AreNodes nodes
    → nodes ≡ nodes_in (scripts_kept nodes scripts) → others ≡ nodes_in (scripts_kept others more)
    → AreHeld (length nodes) scripts → AreHeld (length others) more
    → scripts_kept nodes scripts ≡ scripts_kept others more
    → (nodes ≡ others) × (scripts_numbered scripts ≡ scripts_numbered more)
same-kept nodes others scripts more are nodes_are others_are held also is =
    let same : nodes ≡ others = nodes_are ∙ ap nodes_in is ∙ sym others_are in
    let apart : AreApart nodes = subst AreApart (sym nodes_are) (nodes-apart (scripts_kept nodes scripts)) in (
      same,
      scripts-by-stack nodes apart are scripts more held
          (subst (λ (ns : List Node). AreHeld (length ns) more) (sym same) also)
          (is ∙ ap (λ (ns : List Node). scripts_kept ns more) (sym same)),
    )

pub same-numbered : (nodes others : List Node) (scripts more : List Script) → nodes ≡ others
    → AreHeld (length nodes) scripts → AreHeld (length others) more → scripts_numbered scripts ≡ scripts_numbered more
    → scripts_kept nodes scripts ≡ scripts_kept others more
same-numbered nodes others scripts more same held also is =
    scripts-by-number nodes scripts more held (subst (λ (ns : List Node). AreHeld (length ns) more) (sym same) also) is
    ∙ ap (λ (ns : List Node). scripts_kept ns more) same
