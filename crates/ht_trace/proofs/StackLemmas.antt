-- The frames of a stack, node by node.
use Rattle.std.proofs.Common.{◌≡◌, ℕ, zero, suc, ◌+◌, ◌-◌, ◌≤◌, Bool, false, cond, eqb, List, [], ◌∷◌, ◌++◌, length}
use Rattle.std.proofs.Common.{map, reverse, Option, refl, ap, ◌∙◌, arith, length-append}
use Rattle.std.specs.Prelude.{unwrap_or}
use Rattle.std.specs.List.{flat_map, range_with_len, AllByRecursion}
use Rattle.std.proofs.lemmas.Bool.Decides.{nat_tests}
use Rattle.std.proofs.lemmas.List.FromFn.{length-map-range_with_len}
use Rattle.hp_num.proofs.Laws.{slice_get-front}
use Rattle.stack_table.specs.Node.{Node}
use Rattle.stack_table.specs.Stack.{outwards, stack, stack_nodes}
use Rattle.ht_trace.specs.declared.frame.FrameAt.{FrameAt}
use Rattle.ht_trace.specs.Instruction.{Instruction, frame_count_of}
use Rattle.ht_trace.specs.StackFrames.{frames_of, no_stack, outer_frames, stack_frames}

-- the place of a frame
abbrev place : ℕ → ℕ → FrameAt
place n index = record { instruction = n; index = index }

outwards-zero : (nodes : List Node) → outwards nodes 0 ≡ []
outwards-zero [] = refl
outwards-zero (node ∷ before) =
    let other : eqb 0 (length before + 1) ≡ false = grind (arith, nat_tests) in
    rw other (outwards-zero before)

-- stack 0 is empty
pub stack-zero : (nodes : List Node) → stack nodes 0 ≡ []
unfolding stack stack_nodes
stack-zero nodes = ap (map (λ (node : Node). node.ip)) (outwards-zero (reverse nodes))

-- how many frames an instruction has
pub length-frames_of : (held : List Instruction) (n : ℕ)
    → length (frames_of held n) ≡ unwrap_or (frame_count_of held n) 0
length-frames_of held n =
    length-map-range_with_len (λ (index : ℕ). let at : FrameAt = record { instruction = n; index = index } in at) 0 _

-- the frames of a stack are those of its innermost node's instruction, and then those of its parent's stack
pub record StepsOut (held : List Instruction) (nodes : List Node) (n instruction parent : ℕ) : Type 0 where
  pub frames : flat_map (frames_of held) (stack nodes n)
      ≡ frames_of held instruction ++ flat_map (frames_of held) (stack nodes parent)
  pub count : length (flat_map (frames_of held) (stack nodes n))
      ≡ unwrap_or (frame_count_of held instruction) 0 + length (flat_map (frames_of held) (stack nodes parent))

pub steps_out : (held : List Instruction) (nodes : List Node) (n instruction parent : ℕ)
    → stack nodes n ≡ instruction ∷ stack nodes parent → StepsOut held nodes n instruction parent
steps_out held nodes n instruction parent is =
    let frames = ap (flat_map (frames_of held)) is in
    record {
      frames = frames;
      count =
          ap length frames ∙ length-append (frames_of held instruction) (flat_map (frames_of held) (stack nodes parent))
          ∙ ap (λ (k : ℕ). k + length (flat_map (frames_of held) (stack nodes parent)))
          (length-frames_of held instruction);
    }

-- beyond the outermost node nothing is left
pub nothing_left : (held : List Instruction) (nodes : List Node) (n : ℕ) → n ≡ 0
    → flat_map (frames_of held) (stack nodes n) ≡ []
nothing_left held nodes n is =
    ap (λ (k : ℕ). flat_map (frames_of held) (stack nodes k)) is ∙ ap (flat_map (frames_of held)) (stack-zero nodes)

-- so are those of the stack that a node is called from
outer-are : (held : List Instruction) (nodes : List Node) (parent : ℕ)
    → flat_map (frames_of held) (stack nodes parent) ≡ outer_frames held nodes parent
outer-are held nodes zero = nothing_left held nodes 0 refl
outer-are held nodes (suc n) = let above : eqb (suc n) 0 ≡ false = grind (arith, nat_tests) in rw above refl

pub node-frames : (held : List Instruction) (nodes : List Node) (n instruction parent : ℕ) → 1 ≤ n
    → stack nodes n ≡ instruction ∷ stack nodes parent
    → stack_frames held nodes n ≡ frames_of held instruction ++ outer_frames held nodes parent
node-frames held nodes n instruction parent some is =
    let above : eqb n 0 ≡ false = grind (arith, nat_tests) in
    ap (λ (b : Bool). cond b (no_stack ∷ []) (flat_map (frames_of held) (stack nodes n))) above
    ∙ (steps_out held nodes n instruction parent is).frames
    ∙ ap (λ (frames : List FrameAt). frames_of held instruction ++ frames) (outer-are held nodes parent)

-- a number up to the count that no node has is 0
pub outermost : (n count : ℕ) → ((1 ≤ n) × (n ≤ count) → ⊥) → n ≤ count → n ≡ 0
outermost zero count unheld within = refl
outermost (suc n) count unheld within = absurd (unheld (omega arith, within))

-- a held instruction's frames stay as more are held
pub frame_count_of-more : (held more : List Instruction) (n : ℕ) → n ≤ length held
    → frame_count_of (held ++ more) n ≡ frame_count_of held n
frame_count_of-more held more zero within = refl
frame_count_of-more held more (suc n) within =
    grind (arith, nat_tests, slice_get-front held more (suc n - 1) (omega arith))

pub frames_of-more : (held more : List Instruction) (ips : List ℕ) → AllByRecursion (λ n. n ≤ length held) ips
    → flat_map (frames_of (held ++ more)) ips ≡ flat_map (frames_of held) ips
frames_of-more held more [] all = refl
frames_of-more held more (n ∷ ips) all =
    let own =
    ap (λ (count : Option ℕ). map (place n) (range_with_len 0 (unwrap_or count 0)))
    (frame_count_of-more held more n all.0) in
    ap (λ (frames : List FrameAt). frames ++ flat_map (frames_of (held ++ more)) ips) own
    ∙ ap (λ (frames : List FrameAt). frames_of held n ++ frames) (frames_of-more held more ips all.1)

-- so do the frames of a stack whose instructions are held
pub stack_frames-more : (held more : List Instruction) (nodes : List Node) (n : ℕ)
    → AllByRecursion (λ n. n ≤ length held) (stack nodes n)
    → stack_frames (held ++ more) nodes n ≡ stack_frames held nodes n
stack_frames-more held more nodes n all =
    ap (λ (frames : List FrameAt). cond (eqb n 0) (no_stack ∷ []) frames) (frames_of-more held more (stack nodes n) all)

pub stack_frames-stay : (held : List Instruction) (old new : List Node) (n : ℕ) → stack new n ≡ stack old n
    → stack_frames held new n ≡ stack_frames held old n
stack_frames-stay held old new n same =
    ap (λ (ips : List ℕ). cond (eqb n 0) (no_stack ∷ []) (flat_map (frames_of held) ips)) same

-- no stack has an instruction before there are nodes
pub none_held : (held : List Instruction) (n : ℕ)
    → AllByRecursion (λ instruction. instruction ≤ length held) (stack [] n)
unfolding stack stack_nodes
none_held held n = tt
