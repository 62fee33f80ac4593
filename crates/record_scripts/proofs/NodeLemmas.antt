-- Nodes of one frame each: a short stack is interned without a fault where there is room.
use Rattle.std.proofs.Common.{◌≡◌, ℕ, zero, suc, ◌+◌, ◌-◌, ◌^◌, ◌<◌, ◌≤◌, ◌==◌, ◌&&◌, Bool, true, false, List, [], ◌∷◌}
use Rattle.std.proofs.Common.{◌++◌, length, get_or, None, Some, Option, refl, sym, ap, ap₂, ◌∙◌, arith, subst, ◌⊎◌, inl}
use Rattle.std.proofs.Common.{inr, length-append}
use Rattle.std.specs.Prelude.{not, position, reverse, sum_by, slice_get, nat_lt}
use Rattle.std.specs.Option.{option_eq, option_map}
use Rattle.std.proofs.lemmas.List.{length-reverse, reverse-append, reverse-reverse}
use Rattle.std.proofs.lemmas.List.Sums.{sum_by-cons}
use Rattle.std.proofs.lemmas.List.Quantifiers.{position-Some}
use Rattle.std.proofs.lemmas.Bool.{cases_lt}
use Rattle.std.proofs.lemmas.Bool.Decides.{nat_tests}
use Rattle.std.proofs.lemmas.Option.{same_Some, slice_get-get_or, slice_get_within}
use Rattle.stack_table.specs.Node.{Node, node_at}
use Rattle.stack_table.specs.NodeNumber.{is_call, node_number}
use Rattle.stack_table.specs.Interned.{Interned, fault_of_number, of_number, stack_fault, stack_interned}
use Rattle.stack_table.specs.Stack.{frame_count, outwards, stack_nodes}
use Rattle.record_scripts.specs.ScriptTurns.{AreSingle}

-- for nodes from the last to the first: the frames of stack n
abbrev depth : List Node → ℕ → ℕ
depth back n = sum_by (λ node. node.frames) (outwards back n)

depth-zero : (back : List Node) → depth back 0 ≡ 0
depth-zero [] = refl
depth-zero (node ∷ before) = grind (arith, nat_tests, depth-zero before)

depth-older : (node : Node) (before : List Node) (n : ℕ) → n ≤ length before → depth (node ∷ before) n ≡ depth before n
depth-older node before n held =
    let older : outwards (node ∷ before) n ≡ outwards before n = grind (arith, nat_tests) in
    ap (λ (nodes : List Node). sum_by (λ node. node.frames) nodes) older

depth-newest : (node : Node) (before : List Node) (n : ℕ) → n ≡ length before + 1
    → depth (node ∷ before) n ≡ node.frames + depth before node.parent
depth-newest node before n is =
    let newest : outwards (node ∷ before) n ≡ node ∷ outwards before node.parent = grind (arith, nat_tests) in
    ap (λ (nodes : List Node). sum_by (λ node. node.frames) nodes) newest
    ∙ sum_by-cons (λ node. node.frames) node (outwards before node.parent)

get-front : {A : Type 0} → (xs ys : List A) (k : ℕ) → k < length xs → slice_get (xs ++ ys) k ≡ slice_get xs k
get-front [] ys k within = absurd (omega (arith, within))
get-front (x ∷ xs) ys zero within = refl
get-front (x ∷ xs) ys (suc k) within = get-front xs ys k (omega (arith, within))

get-last : {A : Type 0} → (xs : List A) (x : A) (k : ℕ) → k ≡ length xs → slice_get (xs ++ x ∷ []) k ≡ Some x
get-last [] x zero is = refl
get-last [] x (suc k) is = absurd (omega (arith, is))
get-last (y ∷ ys) x zero is = absurd (omega (arith, is))
get-last (y ∷ ys) x (suc k) is = get-last ys x k (omega (arith, is))

depth-step : (newest : Node) (before : List Node) (k : ℕ) (node : Node) → AreSingle (newest ∷ before)
    → slice_get (reverse before ++ newest ∷ []) k ≡ Some node
    → (slice_get (reverse before) k ≡ Some node
    → (node.parent ≤ k) × (depth before (k + 1) ≡ depth before node.parent + 1))
    → (k < length before) ⊎ (length before ≤ k)
    → (node.parent ≤ k) × (depth (newest ∷ before) (k + 1) ≡ depth (newest ∷ before) node.parent + 1)
depth-step newest before k node single at earlier (inl older) =
    let within : k < length (reverse before) = rw length-reverse older in
    let found = earlier (sym (get-front (reverse before) (newest ∷ []) k within) ∙ at) in (
      found.0,
      depth-older newest before (k + 1) (omega (arith, older)) ∙ found.1
          ∙ ap (λ (n : ℕ). n + 1) (sym (depth-older newest before node.parent (omega (arith, older, found.0)))),
    )
depth-step newest before k node single at earlier (inr last) =
    let within = slice_get_within (reverse before ++ newest ∷ []) k node at in
    let place : k ≡ length (reverse before) =
    omega (arith, within, last, length-append (reverse before) (newest ∷ []), length-reverse before) in
    let same : newest ≡ node = same_Some newest node (sym (get-last (reverse before) newest k place) ∙ at) in
    let deep = depth-newest newest before (k + 1) (omega (arith, place, length-reverse before)) in
    let parent = depth-older newest before newest.parent single.1 in
    let here : (newest.parent ≤ k) × (depth (newest ∷ before) (k + 1) ≡ depth (newest ∷ before) newest.parent + 1) =
    (omega (arith, single.1, last), omega (arith, deep, parent, single.0)) in
    subst (λ (x : Node). (x.parent ≤ k) × (depth (newest ∷ before) (k + 1) ≡ depth (newest ∷ before) x.parent + 1)) same
    here

-- a node adds one frame to the stack of its parent, which stands before it
depth-at : (back : List Node) (k : ℕ) (node : Node) → AreSingle back → slice_get (reverse back) k ≡ Some node
    → (node.parent ≤ k) × (depth back (k + 1) ≡ depth back node.parent + 1)
depth-at [] k node single at = absurd (grind (arith, at))
depth-at (newest ∷ before) k node single at =
    depth-step newest before k node single
    (subst (λ (nodes : List Node). slice_get nodes k ≡ Some node) (reverse-append (newest ∷ []) before) at)
    (λ found. depth-at before k node single.2 found) (cases_lt k (length before))

-- where a node's number is known, it stands at the place before it
pub record HasNumber (nodes : List Node) (parent number : ℕ) : Type 0 where
  pub place : ℕ
  pub node : Node
  pub number_is : number ≡ place + 1
  pub within : place < length nodes
  pub at : slice_get nodes place ≡ Some node
  pub parent_is : node.parent ≡ parent

parent-of : (ip parent : ℕ) (node : Node) → is_call ip parent node ≡ true → node.parent ≡ parent
parent-of ip parent node call = grind (arith, nat_tests)

number-at : (nodes : List Node) (ip parent number : ℕ) → node_number nodes ip parent ≡ Some number
    → HasNumber nodes parent number
unfolding node_number
number-at nodes ip parent number is = by (position (is_call ip parent) nodes) refl is
  where
    none : Node
    none = record { ip = 0; parent = 0; frames = 0 }

    by : (found : Option ℕ) → position (is_call ip parent) nodes ≡ found
        → option_map (λ place. place + 1) found ≡ Some number → HasNumber nodes parent number
    by None at is = absurd (grind (arith, is))
    by (Some place) at is =
        let first = position-Some (is_call ip parent) nodes place none at in
        record {
          place = place;
          node = get_or nodes place none;
          number_is = sym (same_Some (place + 1) number is);
          within = first.0;
          at = slice_get-get_or nodes place none first.0;
          parent_is = parent-of ip parent (get_or nodes place none) first.1;
        }

-- what a node that is interned leaves
pub record IsNext (nodes : List Node) (parent : ℕ) (after : Interned) : Type 0 where
  pub single : AreSingle (reverse after.nodes)
  pub deeper : frame_count after.nodes after.number ≡ frame_count nodes parent + 1
  pub within : after.number ≤ length after.nodes
  pub few : length after.nodes ≤ length nodes + 1

next : (nodes : List Node) (ip parent : ℕ) → AreSingle (reverse nodes) → parent ≤ length nodes → (number : Option ℕ)
    → node_number nodes ip parent ≡ number
    → IsNext nodes parent (of_number nodes (record { ip = ip; parent = parent; frames = 1 }) number)
unfolding frame_count stack_nodes
next nodes ip parent single known (Some number) is =
    let found = number-at nodes ip parent number is in
    let deep = depth-at (reverse nodes) found.place found.node single (rw reverse-reverse found.at) in
    record {
      single = single;
      deeper =
          ap (λ (n : ℕ). depth (reverse nodes) n) found.number_is ∙ deep.1
          ∙ ap (λ (n : ℕ). depth (reverse nodes) n + 1) found.parent_is;
      within = omega (arith, found.number_is, found.within);
      few = omega arith;
    }
next nodes ip parent single known None is =
    let node : Node = record { ip = ip; parent = parent; frames = 1 } in
    let back = reverse-append nodes (node ∷ []) in
    let count = length-append nodes (node ∷ []) in
    let deep = depth-newest node (reverse nodes) (length nodes + 1) (rw length-reverse refl) in
    record {
      single = subst AreSingle (sym back) (refl, omega (arith, known, length-reverse nodes), single);
      deeper = ap (λ (other : List Node). depth other (length nodes + 1)) back ∙ omega (arith, deep);
      within = omega (arith, count);
      few = omega (arith, count);
    }

-- what a stack that is interned leaves
pub record IsInterned (nodes : List Node) (ips : List ℕ) : Type 0 where
  pub single : AreSingle (reverse (stack_interned nodes ips).nodes)
  pub deep : frame_count (stack_interned nodes ips).nodes (stack_interned nodes ips).number ≡ length ips
  pub within : (stack_interned nodes ips).number ≤ length (stack_interned nodes ips).nodes
  pub few : length (stack_interned nodes ips).nodes ≤ length nodes + length ips

no_frames : (nodes : List Node) → frame_count nodes 0 ≡ 0
unfolding frame_count stack_nodes
no_frames nodes = depth-zero (reverse nodes)

pub interned : (nodes : List Node) (ips : List ℕ) → AreSingle (reverse nodes) → IsInterned nodes ips
interned nodes [] single = record { single = single; deep = no_frames nodes; within = omega arith; few = omega arith }
interned nodes (ip ∷ outer) single =
    let before = interned nodes outer single in
    let mid = stack_interned nodes outer in
    let after = next mid.nodes ip mid.number before.single before.within (node_number mid.nodes ip mid.number) refl in
    record {
      single = after.single;
      deep = after.deeper ∙ ap (λ (n : ℕ). n + 1) before.deep ∙ omega arith;
      within = after.within;
      few = omega (arith, after.few, before.few);
    }

node_fits : (nodes : List Node) (node : Node) → frame_count nodes node.parent + node.frames ≤ 4096
    → length nodes < 2 ^ 32 - 2 → (number : Option ℕ) → fault_of_number nodes node number ≡ None
node_fits nodes node shallow room (Some number) = refl
node_fits nodes node shallow room None = grind (arith, nat_tests)

-- a short stack has no fault where there is room
pub no_fault : (nodes : List Node) (ips : List ℕ) → AreSingle (reverse nodes) → length nodes + length ips ≤ 2 ^ 32 - 2
    → length ips ≤ 4096 → stack_fault nodes ips ≡ None
no_fault nodes [] single room short = refl
no_fault nodes (ip ∷ outer) single room short =
    let before = interned nodes outer single in
    let mid = stack_interned nodes outer in
    let earlier = no_fault nodes outer single (omega arith) (omega arith) in
    let known : nat_lt (length mid.nodes) mid.number ≡ false = grind (arith, nat_tests, before.within) in
    rw (earlier, known)
    (node_fits mid.nodes (record { ip = ip; parent = mid.number; frames = 1 }) (omega (arith, before.deep))
    (omega (arith, before.few)) (node_number mid.nodes ip mid.number))

-- each node is one frame
single-at : (back : List Node) (k : ℕ) (node : Node) → AreSingle back
    → slice_get (reverse back) k ≡ Some node → node.frames ≡ 1
single-at [] k node single at = absurd (grind (arith, at))
single-at (newest ∷ before) k node single at =
    by (λ found. single-at before k node single.2 found) (cases_lt k (length before))
    (subst (λ (nodes : List Node). slice_get nodes k ≡ Some node)
    (reverse-append (newest ∷ []) before) at)
  where
    by : (slice_get (reverse before) k ≡ Some node → node.frames ≡ 1)
        → (k < length before) ⊎ (length before ≤ k)
        → slice_get (reverse before ++ newest ∷ []) k ≡ Some node → node.frames ≡ 1
    by earlier (inl older) at =
        let within : k < length (reverse before) = rw length-reverse older in
        earlier (sym (get-front (reverse before) (newest ∷ []) k within) ∙ at)
    by earlier (inr last) at =
        let within = slice_get_within (reverse before ++ newest ∷ []) k node at in
        let place : k ≡ length (reverse before) =
        omega (arith, within, last, length-append (reverse before) (newest ∷ []), length-reverse before) in
        let same : newest ≡ node = same_Some newest node (sym (get-last (reverse before) newest k place) ∙ at) in
        ap (λ (x : Node). x.frames) (sym same) ∙ single.0

-- what a node tells of itself
abbrev told : Option Node → Option (ℕ × ℕ)
told found = option_map (λ node. record { 0 = node.ip; 1 = node.parent }) found

abbrev same_pair : ℕ × ℕ → ℕ × ℕ → Bool
same_pair x y = x.0 == y.0 && x.1 == y.1

pub not-true-is : (b : Bool) → false ≡ not b → b ≡ true
not-true-is true is = refl
not-true-is false is = is

-- two nodes of one frame that tell the same are the same
pub node-same : (nodes others : List Node) (k : ℕ) (found other : Option (ℕ × ℕ))
    → AreSingle (reverse nodes) → AreSingle (reverse others) → k < length nodes → k < length others
    → found ≡ told (node_at nodes (k + 1)) → other ≡ told (node_at others (k + 1))
    → option_eq same_pair found other ≡ true → slice_get nodes k ≡ slice_get others k
node-same nodes others k found other single other_single within other_within is other_is eq =
    there ∙ ap (λ (node : Node). Some node) same ∙ sym other_there
  where
    none : Node
    none = record { ip = 0; parent = 0; frames = 0 }

    a : Node
    a = get_or nodes k none

    b : Node
    b = get_or others k none

    there : slice_get nodes k ≡ Some a
    there = slice_get-get_or nodes k none within

    other_there : slice_get others k ≡ Some b
    other_there = slice_get-get_or others k none other_within

    back : k + 1 - 1 ≡ k
    back = omega arith

    at : node_at nodes (k + 1) ≡ Some a
    at = grind (arith, nat_tests, there, back)

    other_at : node_at others (k + 1) ≡ Some b
    other_at = grind (arith, nat_tests, other_there, back)

    pairs : same_pair (a.ip, a.parent) (b.ip, b.parent) ≡ true
    pairs =
        sym (ap₂ (λ (x y : Option (ℕ × ℕ)). option_eq same_pair x y) (is ∙ ap told at) (other_is ∙ ap told other_at))
        ∙ eq

    ip_is : a.ip ≡ b.ip
    ip_is = grind (arith, nat_tests, pairs)

    parent_is : a.parent ≡ b.parent
    parent_is = grind (arith, nat_tests, pairs)

    frames_are : a.frames ≡ b.frames
    frames_are =
        single-at (reverse nodes) k a single (rw reverse-reverse there)
        ∙ sym (single-at (reverse others) k b other_single (rw reverse-reverse other_there))

    same : a ≡ b
    same =
        ap₂ (λ (x y : ℕ). record { ip = x; parent = y; frames = a.frames }) ip_is parent_is
        ∙ ap (λ (f : ℕ). record { ip = b.ip; parent = b.parent; frames = f }) frames_are
