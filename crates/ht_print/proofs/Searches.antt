-- Which stacks are suppressed, by the answers for frames.
use Rattle.std.proofs.Common.{zero, suc, ◌≡◌, ◌≢◌, ℕ, ◌+◌, ◌<◌, ◌≤◌, ◌++◌, List, [], ◌∷◌, cond, eqb, length, get_or}
use Rattle.std.proofs.Common.{map, replicate, Bool, ◌||◌, true, false, refl, sym, ap, ◌∙◌, arith}
use Rattle.std.specs.List.{list_any, range_with_len}
use Rattle.std.proofs.lemmas.Bool.Decides.{nat_tests}
use Rattle.std.proofs.lemmas.List.Folds.{list_any-append}
use Rattle.std.proofs.lemmas.List.FromFn.{get_or-map-range_with_len}
use Rattle.ht_trace.specs.FrameText.{frame_text}
use Rattle.ht_trace.specs.StackFrames.{frames_of, outer_frames, stack_frames}
use Rattle.ht_trace.specs.TableState.{TableState}
use Rattle.ht_trace.specs.declared.frame.FrameAt.{FrameAt}
use Rattle.ht_trace.specs.declared.frame.Style.TheVariants.{Plain}
use Rattle.ht_print.specs.MetFrames.{AreMet, meets_frame, meets_frames, meets_instruction}
use Rattle.ht_print.specs.declared.met_frames.MetFrames.{MetFrames}
use Rattle.ht_print.specs.Suppressed.{is_suppressed, meets_any, suppressed_stacks}

-- a test of mapped elements
pub any-map : {X Y : Type 0} (p : Y → Bool) (f : X → Y) (xs : List X)
    → list_any p (map f xs) ≡ list_any (λ (x : X). p (f x)) xs
any-map p f [] = refl
any-map p f (x ∷ xs) = ap (λ (b : Bool). p (f x) || b) (any-map p f xs)

-- a stack by its frames
suppressed-by : (tables : TableState) (stack : ℕ)
    → is_suppressed tables stack ≡ meets_frames tables (stack_frames tables.instructions tables.nodes stack)
suppressed-by tables stack =
    any-map (meets_any tables.patterns) (frame_text Plain tables) (stack_frames tables.instructions tables.nodes stack)

-- stack 0 by its own frame
pub suppressed-none : (tables : TableState) (answer : Bool) (stack : ℕ) → stack ≡ 0
    → answer ≡ meets_frame tables (record { instruction = 0; index = 1 }) → answer ≡ is_suppressed tables stack
suppressed-none tables answer stack is met =
    met ∙ sym (or-false (meets_frame tables (record { instruction = 0; index = 1 }))) ∙ sym (suppressed-by tables 0)
    ∙ ap (is_suppressed tables) (sym is)
  where
    or-false : (b : Bool) → (b || false) ≡ b
    or-false true = refl
    or-false false = refl

-- another by its own instruction, and by the stack that it is called from
pub suppressed-node : (tables : TableState) (stack instruction caller : ℕ)
    → stack_frames tables.instructions tables.nodes stack
    ≡ frames_of tables.instructions instruction ++ outer_frames tables.instructions tables.nodes caller
    → is_suppressed tables stack
    ≡ (meets_instruction tables instruction || meets_frames tables
    (outer_frames tables.instructions tables.nodes caller))
suppressed-node tables stack instruction caller is =
    suppressed-by tables stack
    ∙ ap (meets_frames tables) is
    ∙ list_any-append (meets_frame tables) (frames_of tables.instructions instruction)
    (outer_frames tables.instructions tables.nodes caller)

pub outer-none : (tables : TableState) (caller : ℕ) → caller ≡ 0
    → meets_frames tables (outer_frames tables.instructions tables.nodes caller) ≡ false
outer-none tables caller is = rw is refl

pub outer-some : (tables : TableState) (caller : ℕ) → caller ≢ 0
    → meets_frames tables (outer_frames tables.instructions tables.nodes caller) ≡ is_suppressed tables caller
outer-some tables caller some =
    let above : eqb caller 0 ≡ false = grind (arith, nat_tests) in
    ap (λ (b : Bool). meets_frames tables
    (cond {A = List FrameAt} b [] (stack_frames tables.instructions tables.nodes caller))) above
    ∙ sym (suppressed-by tables caller)

-- none is suppressed where there is no pattern
none-met : (patterns texts : List (List ℕ)) → length patterns ≡ 0 → list_any (meets_any patterns) texts ≡ false
none-met [] [] none = refl
none-met [] (text ∷ texts) none = none-met [] texts none
none-met (pattern ∷ patterns) texts none = absurd (omega (arith, none))

all-same : {X : Type 0} (f : ℕ → X) (x : X) (a n : ℕ) → ((k : ℕ) → f k ≡ x) → replicate n x ≡ map f (range_with_len a n)
all-same f x a zero same = refl
all-same {X} f x a (suc n) same =
    ap (λ (y : X). y ∷ replicate n x) (sym (same a)) ∙ ap (λ (ys : List X). f a ∷ ys) (all-same f x (a + 1) n same)

pub none-suppressed : (tables : TableState) (count : ℕ) → length tables.patterns ≡ 0 → count ≡ length tables.nodes + 1
    → replicate count false ≡ suppressed_stacks tables
none-suppressed tables count none is =
    all-same (is_suppressed tables) false 0 count (λ k. none-met tables.patterns _ none)
    ∙ ap (λ (n : ℕ). map (is_suppressed tables) (range_with_len 0 n)) is

-- the answer for an instruction
met-at : (tables : TableState) (met : MetFrames) (instruction : ℕ) (d : Bool) → AreMet tables met
    → instruction ≤ length tables.instructions
    → get_or met.instructions.items instruction d ≡ meets_instruction tables instruction
met-at tables met instruction d are held =
    ap (λ (bs : List Bool). get_or bs instruction d) are.instructions
    ∙ get_or-map-range_with_len (meets_instruction tables) 0 (length tables.instructions + 1) instruction instruction d
    (omega (arith, held)) (omega arith)

-- a stack by what its parts answer
pub by-instruction : (tables : TableState) (met : MetFrames) (stack instruction caller : ℕ) (d : Bool)
    → AreMet tables met → instruction ≤ length tables.instructions
    → stack_frames tables.instructions tables.nodes stack
    ≡ frames_of tables.instructions instruction ++ outer_frames tables.instructions tables.nodes caller
    → get_or met.instructions.items instruction d ≡ true → true ≡ is_suppressed tables stack
by-instruction tables met stack instruction caller d are held is met-it =
    ap (λ (b : Bool). b || meets_frames tables (outer_frames tables.instructions tables.nodes caller))
    (sym met-it ∙ met-at tables met instruction d are held)
    ∙ sym (suppressed-node tables stack instruction caller is)

pub by-none : (tables : TableState) (met : MetFrames) (stack instruction caller : ℕ) (d : Bool) → AreMet tables met
    → instruction ≤ length tables.instructions
    → stack_frames tables.instructions tables.nodes stack
    ≡ frames_of tables.instructions instruction ++ outer_frames tables.instructions tables.nodes caller
    → get_or met.instructions.items instruction d ≡ false → caller ≡ 0 → false ≡ is_suppressed tables stack
by-none tables met stack instruction caller d are held is unmet none =
    sym (outer-none tables caller none)
    ∙ ap (λ (b : Bool). b || meets_frames tables (outer_frames tables.instructions tables.nodes caller))
    (sym unmet ∙ met-at tables met instruction d are held)
    ∙ sym (suppressed-node tables stack instruction caller is)

pub by-caller : (tables : TableState) (met : MetFrames) (before : List Bool) (stack instruction caller : ℕ) (d : Bool)
    → AreMet tables met → instruction ≤ length tables.instructions
    → stack_frames tables.instructions tables.nodes stack
    ≡ frames_of tables.instructions instruction ++ outer_frames tables.instructions tables.nodes caller
    → get_or met.instructions.items instruction d ≡ false → caller ≢ 0 → caller < stack
    → before ≡ map (is_suppressed tables) (range_with_len 0 stack)
    → get_or before caller false ≡ is_suppressed tables stack
by-caller tables met before stack instruction caller d are held is unmet some lower were =
    ap (λ (bs : List Bool). get_or bs caller false) were
    ∙ get_or-map-range_with_len (is_suppressed tables) 0 stack caller caller false lower (omega arith)
    ∙ sym (outer-some tables caller some)
    ∙ ap (λ (b : Bool). b || meets_frames tables (outer_frames tables.instructions tables.nodes caller))
    (sym unmet ∙ met-at tables met instruction d are held)
    ∙ sym (suppressed-node tables stack instruction caller is)
