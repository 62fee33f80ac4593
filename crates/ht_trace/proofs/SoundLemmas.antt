-- What each kind of line keeps of the tables.
use Rattle.std.proofs.Common.{◌≡◌, ℕ, zero, suc, ◌+◌, ◌-◌, ◌%◌, ◌<◌, ◌≤◌, Bool, true, false, cond, eqb, List, [], ◌∷◌}
use Rattle.std.proofs.Common.{◌++◌, length, get_or, map, Option, Some, None, refl, sym, ap, ◌∙◌, arith, subst, ◌⊎◌, inl}
use Rattle.std.proofs.Common.{inr, true≢false, length-append}
use Rattle.std.specs.Prelude.{◌&&◌, nat_le, nat_lt, slice_get, unwrap_or}
use Rattle.std.specs.Option.{option_or}
use Rattle.std.specs.List.{All, AllByRecursion, flat_map, range_with_len}
use Rattle.std.specs.Option.{option_map}
use Rattle.std.proofs.lemmas.List.Elements.{All-append, All-nil}
use Rattle.std.proofs.lemmas.List.FromFn.{get_or-map-range_with_len}
use Rattle.std.proofs.lemmas.Option.{get_or_from_slice_get, slice_get-get_or, slice_get_past, slice_get_within}
use Rattle.std.proofs.lemmas.Bool.{cases_lt}
use Rattle.std.proofs.lemmas.Bool.Decides.{nat_tests}
use Rattle.hp_num.proofs.Laws.{and-true}
use Rattle.stack_table.specs.CanAdd.{CanAdd}
use Rattle.stack_table.specs.Node.{Node}
use Rattle.stack_table.specs.Stack.{frame_count, stack, stack_nodes}
use Rattle.stack_table.proofs.Laws.{frame_count-newest, frame_count-older, stack-newest, stack-older}
use Rattle.live_ledger.specs.LedgerState.{HeldInfo}
use Rattle.live_ledger.specs.declared.event.Event.{Event}
use Rattle.live_ledger.specs.declared.event.Event.TheVariants.{Alloc, Free}
use Rattle.ht_lines.specs.Content.{Content, info_line, allocation_line, free_line}
use Rattle.ht_trace.specs.declared.error.LineError.{LineError}
use Rattle.ht_trace.specs.declared.error.LineError.TheVariants.{UnknownString, UnknownTrace}
use Rattle.ht_trace.specs.declared.frame.Frame.{Frame}
use Rattle.ht_trace.specs.declared.frame.FrameAt.{FrameAt}
use Rattle.ht_trace.specs.IsFrame.{place_count}
use Rattle.ht_trace.specs.declared.step.Step.{Step}
use Rattle.ht_trace.specs.HeldStack.{HasHeldEvent, HasHeldStack}
use Rattle.ht_trace.specs.StateAfter.{Takes, state_after}
use Rattle.ht_trace.specs.StepOf.{event_step, step_in}
use Rattle.ht_trace.specs.TableState.{TableState}
use Rattle.ht_trace.specs.FramesSaid.{frames_said, triples, without_file}
use Rattle.ht_trace.specs.Instruction.{Instruction, frame_count_of}
use Rattle.ht_trace.specs.LineFault.{content_fault, frames_held, growth_fault, instruction_fault, most_entries}
use Rattle.ht_trace.specs.Sound.{IsNamed, IsSound, IsSoundStack}
use Rattle.ht_trace.specs.StackFrames.{frames_of, no_stack, stack_frames}
use Rattle.ht_trace.proofs.Growing.{all-push, all-weaker}
use Rattle.ht_trace.proofs.GrowthLemmas.{all-at}
use Rattle.ht_trace.proofs.StackLemmas.{frames_of-more, length-frames_of}

-- strings grow
named-more : (count more : ℕ) → count ≤ more → (instruction : Instruction) → IsNamed count instruction
    → IsNamed more instruction
named-more count more grows instruction named = record {
  module_held = omega (arith, named.module_held);
  frames_held =
      all-weaker (λ (frame : Frame). (frame.function ≤ count) × (frame.file ≤ count))
      (λ (frame : Frame). (frame.function ≤ more) × (frame.file ≤ more))
      (λ frame held. (omega (arith, held.0), omega (arith, held.1))) instruction.frames named.frames_held;
  some_frame = named.some_frame;
}

pub sound-strings : (version : Option ℕ) (count more : ℕ) (instructions : List Instruction) (nodes : List Node)
    (infos : List HeldInfo)
    → count ≤ more → IsSound version count instructions nodes infos → IsSound version more instructions nodes infos
sound-strings version count more instructions nodes infos grows sound =
    record {
      low = sound.low;
      high = sound.high;
      named = all-weaker (IsNamed count) (IsNamed more) (named-more count more grows) instructions sound.named;
      stacks = sound.stacks;
      infos_held = sound.infos_held;
    }

-- the version line
pub sound-version : (file count : ℕ) (version : Option ℕ) (instructions : List Instruction) (nodes : List Node)
    (infos : List HeldInfo)
    → 1 ≤ file → file ≤ 3 → IsSound version count instructions nodes infos
    → IsSound (Some file) count instructions nodes infos
sound-version file count version instructions nodes infos low high sound =
    record {
      low = low;
      high = high;
      named = sound.named;
      stacks = sound.stacks;
      infos_held = sound.infos_held;
    }

-- one more instruction
stack-instructions : (instructions more : List Instruction) (nodes : List Node) (n : ℕ)
    → IsSoundStack instructions nodes n → IsSoundStack (instructions ++ more) nodes n
stack-instructions instructions more nodes n stack = record {
  held =
      all-weaker (λ (k : ℕ). k ≤ length instructions) (λ (k : ℕ). k ≤ length (instructions ++ more))
      (λ k within. omega (arith, within, length-append instructions more)) _ stack.held;
  count = ap length (frames_of-more instructions more _ stack.held) ∙ stack.count;
  few = stack.few;
  some = stack.some;
}

pub sound-instruction : (version : Option ℕ) (count : ℕ) (instructions : List Instruction) (instruction : Instruction)
    (nodes : List Node) (infos : List HeldInfo)
    → IsNamed count instruction → IsSound version count instructions nodes infos
    → IsSound version count (instructions ++ instruction ∷ []) nodes infos
sound-instruction version count instructions instruction nodes infos named sound = record {
  low = sound.low;
  high = sound.high;
  named = all-push (IsNamed count) instructions instruction sound.named named;
  stacks = λ n within. stack-instructions instructions (instruction ∷ []) nodes n (sound.stacks n within);
  infos_held = sound.infos_held;
}

-- the strings that a line names, where it has no fault
held-by-fault : (unknown held : Bool) (growth : Option LineError)
    → cond {A = Option LineError} unknown (Some UnknownString)
    (option_or (cond {A = Option LineError} held None (Some UnknownString)) growth)
    ≡ None
    → (unknown ≡ false) × (held ≡ true)
held-by-fault true held growth none = absurd (grind (arith, none))
held-by-fault false true growth none = (refl, refl)
held-by-fault false false growth none = absurd (grind (arith, none))

frames-held-all : (count : ℕ) (frames : List Frame) → frames_held count frames ≡ true
    → AllByRecursion (λ frame. (frame.function ≤ count) × (frame.file ≤ count)) frames
frames-held-all count [] held = tt
frames-held-all count (frame ∷ frames) held =
    let parts = and-true (nat_le frame.function count && nat_le frame.file count) (frames_held count frames) held in
    let own = and-true (nat_le frame.function count) (nat_le frame.file count) parts.0 in
    let function = own.0 in
    let file = own.1 in
    ((grind (arith, nat_tests, function), grind (arith, nat_tests, file)), frames-held-all count frames parts.1)

-- a line of an instruction says at least one frame
some-of-test : (b : Bool) (one other : List Frame) → 0 < length one → (b ≡ false → 0 < length other)
    → 0 < length (cond b one other)
some-of-test true one other some rest = some
some-of-test false one other some rest = rest refl

some-triples : (function : ℕ) (more : List ℕ) → eqb (length more % 3) 0 ≡ false
    → (length (function ∷ more) % 3 ≡ 1) ⊎ (length (function ∷ more) % 3 ≡ 0) → 0 < length (triples (function ∷ more))
some-triples function [] rest whole = absurd (true≢false rest)
some-triples function (file ∷ []) rest (inl one) = absurd (omega (arith, one))
some-triples function (file ∷ []) rest (inr none) = absurd (omega (arith, none))
some-triples function (file ∷ line ∷ more) rest whole = omega arith

pub some-frame : (numbers : List ℕ) → (length numbers % 3 ≡ 1) ⊎ (length numbers % 3 ≡ 0)
    → 0 < length (frames_said numbers)
some-frame [] whole = omega arith
some-frame (function ∷ more) whole =
    some-of-test (eqb (length more % 3) 0) (without_file function ∷ triples more) (triples (function ∷ more))
    (omega arith) (λ rest. some-triples function more rest whole)

pub named-said : (strings count module_string : ℕ) (ip : ℕ) (numbers : List ℕ)
    → instruction_fault strings count module_string (frames_said numbers) ≡ None
    → (length numbers % 3 ≡ 1) ⊎ (length numbers % 3 ≡ 0)
    → IsNamed strings (record { ip = ip; module_string = module_string; frames = frames_said numbers })
named-said strings count module_string ip numbers none whole =
    let held = held-by-fault (nat_lt strings module_string) (frames_held strings (frames_said numbers)) _ none in
    let known = held.0 in
    record {
      module_held = grind (arith, nat_tests, known);
      frames_held = frames-held-all strings (frames_said numbers) held.1;
      some_frame = some-frame numbers whole;
    }

-- an instruction that has a count of frames is held
pub held-by-count : (instructions : List Instruction) (n count : ℕ) → frame_count_of instructions n ≡ Some count
    → n ≤ length instructions
held-by-count instructions zero count is = omega arith
held-by-count instructions (suc n) count is = by (cases_lt (length instructions) (suc n))
  where
    by : (length instructions < suc n) ⊎ (suc n ≤ length instructions) → suc n ≤ length instructions
    by (inl past) =
        let none = slice_get_past instructions (suc n - 1) (omega arith) in
        absurd (grind (arith, nat_tests, none, is))
    by (inr here) = here

-- one more node
pub sound-node : (version : Option ℕ) (strings count : ℕ) (instructions : List Instruction) (nodes : List Node)
    (node : Node) (infos : List HeldInfo)
    → frame_count_of instructions node.ip ≡ Some count → node.frames ≡ count → CanAdd nodes node.parent node.frames
    → IsSound version strings instructions nodes infos → IsSound version strings instructions (nodes ++ node ∷ []) infos
sound-node version strings count instructions nodes node infos known frames fits sound = record {
  low = sound.low;
  high = sound.high;
  named = sound.named;
  stacks = λ n within. each n within (cases_lt (length nodes) n);
  infos_held =
      all-weaker (λ (info : HeldInfo). info.stack ≤ length nodes)
      (λ (info : HeldInfo). info.stack ≤ length (nodes ++ node ∷ []))
      (λ info held. omega (arith, held, length-append nodes (node ∷ []))) infos sound.infos_held;
}
  where
    each : (n : ℕ) → n ≤ length (nodes ++ node ∷ []) → (length nodes < n) ⊎ (n ≤ length nodes)
        → IsSoundStack instructions (nodes ++ node ∷ []) n
    each n within (inl past) =
        let last : n ≡ length nodes + 1 = omega (arith, within, length-append nodes (node ∷ [])) in
        let outer = sound.stacks node.parent fits.parent_held in
        let ips = stack-newest nodes node n last in
        let all = frame_count-newest nodes node n last in
        let own : length (frames_of instructions node.ip) ≡ node.frames =
        length-frames_of instructions node.ip ∙ ap (λ (o : Option ℕ). unwrap_or o 0) known ∙ sym frames in
        record {
          held = rw ips (held-by-count instructions node.ip count known, outer.held);
          count =
              ap (λ (ips : List ℕ). length (flat_map (frames_of instructions) ips)) ips
              ∙ length-append (frames_of instructions node.ip)
              (flat_map (frames_of instructions) (stack nodes node.parent))
              ∙ omega (arith, own, outer.count, all);
          few = omega (arith, all, fits.not_too_deep);
          some = λ above. rw ips (omega arith);
        }
    each n within (inr older) =
        let before = sound.stacks n older in
        let ips = stack-older nodes node n older in
        let all = frame_count-older nodes node n older in
        record {
          held = rw ips before.held;
          count = rw (ips, all) before.count;
          few = rw all before.few;
          some = λ above. rw ips (before.some above);
        }

-- one more info
pub sound-info : (version : Option ℕ) (strings : ℕ) (instructions : List Instruction) (nodes : List Node)
    (infos : List HeldInfo) (info : HeldInfo)
    → info.stack ≤ length nodes → IsSound version strings instructions nodes infos
    → IsSound version strings instructions nodes (infos ++ info ∷ [])
sound-info version strings instructions nodes infos info held sound =
    record {
      low = sound.low;
      high = sound.high;
      named = sound.named;
      stacks = sound.stacks;
      infos_held = all-push (λ (info : HeldInfo). info.stack ≤ length nodes) infos info sound.infos_held held;
    }

-- no lines
pub sound-none : (count : ℕ) → IsSound None count [] [] []
unfolding stack stack_nodes frame_count
sound-none count = record {
  low = omega arith;
  high = omega arith;
  named = tt;
  stacks =
      λ n within. record {
        held = tt;
        count = refl;
        few = omega arith;
        some = λ above. absurd (omega (arith, within, above));
      };
  infos_held = tt;
}

-- the frames of an instruction that is held: it has some, and each is one of the tables
pub some-frames-of : (strings : ℕ) (held : List Instruction) (n : ℕ) → AllByRecursion (IsNamed strings) held
    → n ≤ length held → 0 < length (frames_of held n)
some-frames-of strings held zero named within = omega (arith, length-frames_of held 0)
some-frames-of strings held (suc n) named within =
    let here = slice_get-get_or held (suc n - 1) (record { ip = 0; module_string = 0; frames = [] }) (omega arith) in
    let own = all-at (IsNamed strings) held (suc n - 1) _ named here in
    let some : eqb (suc n) 0 ≡ false = grind (arith, nat_tests) in
    let count : frame_count_of held (suc n)
    ≡ Some (length (get_or held (suc n - 1) (record { ip = 0; module_string = 0; frames = [] })).frames) =
    ap (λ (b : Bool). cond {A = Option ℕ} b (Some 1)
    (option_map (λ instruction. length instruction.frames) (slice_get held (suc n - 1)))) some
    ∙ ap (λ (o : Option Instruction). option_map (λ instruction. length instruction.frames) o) here in
    omega (arith, length-frames_of held (suc n), ap (λ (o : Option ℕ). unwrap_or o 0) count, own.some_frame)

-- a stack has a frame
pub some-stack-frame : (version : Option ℕ) (strings : ℕ) (held : List Instruction) (nodes : List Node)
    (infos : List HeldInfo) (n : ℕ)
    → IsSound version strings held nodes infos → n ≤ length nodes → 1 ≤ length (stack_frames held nodes n)
some-stack-frame version strings held nodes infos zero sound within = omega arith
some-stack-frame version strings held nodes infos (suc n) sound within =
    let own = sound.stacks (suc n) within in
    let above : eqb (suc n) 0 ≡ false = grind (arith, nat_tests) in
    rw above (by (stack nodes (suc n)) own.held (own.some (omega arith)))
  where
    by : (ips : List ℕ) → AllByRecursion (λ k. k ≤ length held) ips → 0 < length ips
        → 1 ≤ length (flat_map (frames_of held) ips)
    by [] all some = absurd (omega (arith, some))
    by (ip ∷ ips) all some =
        let own = some-frames-of strings held ip sound.named all.0 in
        omega (arith, own, length-append (frames_of held ip) (flat_map (frames_of held) ips))

-- the frames of a stack are frames of the tables
pub place-frames : (held : List Instruction) (n : ℕ)
    → All (λ (at : FrameAt). at.index < place_count held at.instruction) (frames_of held n)
place-frames held n = λ k d within.
    let count = length-frames_of held n in
    let at = λ (index : ℕ). let frame : FrameAt = record { instruction = n; index = index } in frame in
    let here : get_or (frames_of held n) k d ≡ at k =
    get_or-map-range_with_len at 0 _ k k d (omega arith) (omega arith) in
    subst (λ (at : FrameAt). at.index < place_count held at.instruction) (sym here)
    (fits n k (omega (arith, count, within)))
  where
    fits : (n k : ℕ) → k < unwrap_or (frame_count_of held n) 0 → k < place_count held n
    fits zero k within = omega arith
    fits (suc n) k within =
        let above : eqb (suc n) 0 ≡ false = grind (arith, nat_tests) in
        subst (λ (b : Bool). k < cond {A = ℕ} b 2 (unwrap_or (frame_count_of held (suc n)) 0)) (sym above) within

all-places : (held : List Instruction) (ips : List ℕ)
    → All (λ (at : FrameAt). at.index < place_count held at.instruction) (flat_map (frames_of held) ips)
all-places held [] = All-nil (λ (at : FrameAt). at.index < place_count held at.instruction)
all-places held (ip ∷ ips) =
    All-append (λ (at : FrameAt). at.index < place_count held at.instruction) (frames_of held ip)
    (flat_map (frames_of held) ips) (place-frames held ip) (all-places held ips)

pub stack-places : (held : List Instruction) (nodes : List Node) (n : ℕ)
    → All (λ (at : FrameAt). at.index < place_count held at.instruction) (stack_frames held nodes n)
stack-places held nodes zero = λ k d within. one k d within
  where
    one : (k : ℕ) (d : FrameAt) → k < 1
        → (get_or (no_stack ∷ []) k d).index < place_count held (get_or (no_stack ∷ []) k d).instruction
    one zero d within = omega arith
    one (suc k) d within = absurd (omega (arith, within))
stack-places held nodes (suc n) =
    let above : eqb (suc n) 0 ≡ false = grind (arith, nat_tests) in
    rw above (all-places held (stack nodes (suc n)))

-- the first frame of an instruction, and that of a stack
head-of : (n k : ℕ) (more : List FrameAt) → 0 < k
    → slice_get
    (map (λ (index : ℕ). let at : FrameAt = record { instruction = n; index = index } in at) (range_with_len 0 k)
    ++ more)
    0
    ≡ Some (record { instruction = n; index = 0 })
head-of n zero more some = absurd (omega (arith, some))
head-of n (suc k) more some = refl

pub head-frame : (held : List Instruction) (n : ℕ) (more : List FrameAt) → 1 ≤ length (frames_of held n)
    → slice_get (frames_of held n ++ more) 0 ≡ Some (record { instruction = n; index = 0 })
head-frame held n more some =
    let frames = length-frames_of held n in
    head-of n (unwrap_or (frame_count_of held n) 0) more (omega (arith, some, frames))

pub first-place : (held : List Instruction) (nodes : List Node) (n : ℕ) (at : FrameAt)
    → slice_get (stack_frames held nodes n) 0 ≡ Some at → at.index < place_count held at.instruction
first-place held nodes n at is =
    subst (λ (place : FrameAt). place.index < place_count held place.instruction)
    (get_or_from_slice_get (stack_frames held nodes n) 0 at at is)
    (stack-places held nodes n 0 at (slice_get_within (stack_frames held nodes n) 0 at is))

-- the stack of an event is that of its info, which is held
held-event : (old new : TableState) (kind : ℕ → ℕ → ℕ → Event) (info : ℕ) (found : Option HeldInfo)
    → ((stack size : ℕ) → stack ≤ length old.nodes → HasHeldEvent new (kind info stack size))
    → ((held : HeldInfo) → found ≡ Some held → held.stack ≤ length old.nodes)
    → HasHeldStack new (event_step (option_map (λ held. kind info held.stack held.size) found))
held-event old new kind info None holds within = tt
held-event old new kind info (Some held) holds within = holds held.stack held.size (within held refl)

known-by-fault : (unknown : Bool) (growth : Option LineError)
    → cond {A = Option LineError} unknown (Some UnknownTrace) growth ≡ None → unknown ≡ false
known-by-fault true growth none = absurd (grind (arith, none))
known-by-fault false growth none = refl

held-state : (old : TableState) (said : Content) → AllByRecursion (λ info. info.stack ≤ length old.nodes) old.infos
    → content_fault old said ≡ None → HasHeldStack (state_after old said) (step_in old.infos said)
held-state old (info_line size trace) infos none =
    let known = known-by-fault (nat_lt (length old.nodes) trace) (growth_fault (length old.infos) most_entries) none in
    grind (arith, nat_tests, known)
held-state old (allocation_line info) infos none =
    held-event old old Alloc info (slice_get old.infos info) (λ stack size within. within)
    (λ held at. all-at (λ (info : HeldInfo). info.stack ≤ length old.nodes) old.infos info held infos at)
held-state old (free_line info) infos none =
    held-event old old Free info (slice_get old.infos info) (λ stack size within. within)
    (λ held at. all-at (λ (info : HeldInfo). info.stack ≤ length old.nodes) old.infos info held infos at)
held-state old _ infos none = tt

pub held-after : (old new : TableState) (said : Content) (step : Step)
    → AllByRecursion (λ info. info.stack ≤ length old.nodes) old.infos → Takes old said step new → HasHeldStack new step
held-after old new said step infos takes =
    subst (λ (t : TableState). HasHeldStack t step) (sym takes.added)
    (subst (λ (step : Step). HasHeldStack (state_after old said) step) (sym takes.step_is)
    (held-state old said infos takes.no_fault))
