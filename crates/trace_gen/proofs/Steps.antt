-- One line of a group, and the step to the next group.
use Rattle.std.proofs.Common.{◌≡◌, ℕ, suc, ◌+◌, ◌-◌, ◌<◌, ◌≤◌, cond, Bool, true, false, List, [], ◌∷◌, ◌++◌, codes, length, refl, ap}
use Rattle.std.proofs.Common.{rules, ap₂, sym, subst, ◌∙◌, inl, inr, length-append, arith}
use Rattle.std.proofs.lemmas.Bool.Decides.{eqb_tells}
use Rattle.std.proofs.lemmas.List.FromFn.{length-map-range_with_len}
use Rattle.hp_num.specs.Hexadecimal.{hexadecimal}
use Rattle.trace_gen.specs.Sizes.{Sizes, sizes_of}
use Rattle.trace_gen.specs.declared.generator.Generator.{Generator}
use Rattle.trace_gen.specs.declared.generator.Group.{Group}
use Rattle.trace_gen.specs.declared.generator.Group.TheVariants.{Version, Names, Instructions, Nodes, Infos, Events}
use Rattle.trace_gen.specs.Draws.{state_after}
use Rattle.trace_gen.specs.PutLine.{PutsLine}
use Rattle.trace_gen.specs.GeneratedTrace.{event_line, generated_lines, info_line, instruction_line, lines_from}
use Rattle.trace_gen.specs.GeneratedTrace.{move_line, name_line, node_line}
use Rattle.trace_gen.specs.GeneratorState.{BlocksAre, IsAt, IsWithin, MakesLine, Stands, behind, draws_before}
use Rattle.trace_gen.specs.GeneratorState.{events_before, events_left, infos_left, lines_left, lines_yet}

-- the first of the lines that are left, and none
pub one_line : (line : ℕ → List ℕ) (next size : ℕ) → next < size
    → lines_from line next (size - next) ≡ line next ∷ lines_from line (next + 1) (size - (next + 1))
one_line line next size some =
    let count : size - next ≡ suc (size - (next + 1)) = omega (arith, some) in ap (lines_from line next) count

pub no_line : (line : ℕ → List ℕ) (next size : ℕ) → next ≡ size → lines_from line next (size - next) ≡ []
no_line line next size all = let count : size - next ≡ 0 = omega (arith, all) in ap (lines_from line next) count

pub from_first : (line : ℕ → List ℕ) (size : ℕ) → lines_from line 0 (size - 0) ≡ lines_from line 0 size
from_first line size = let count : size - 0 ≡ size = omega arith in ap (lines_from line 0) count

-- a group that has one line for each stack, and what follows it
pub record HasLines (sizes : Sizes) (group following : Group) (line : ℕ → List ℕ) : Type 0 where
  pub lines : (next : ℕ)
      → lines_left sizes group next ≡ lines_from line next (sizes.stacks - next) ++ lines_left sizes following 0
  pub draws : draws_before sizes group sizes.stacks ≡ draws_before sizes following 0
  pub no_events : (next : ℕ) → events_before group next ≡ 0
  pub none_follow : events_before following 0 ≡ 0
  pub within : (next : ℕ) → next < sizes.stacks → IsWithin sizes group next
  pub begins : IsWithin sizes following 0

pub has_names : (sizes : Sizes) → 1 ≤ sizes.stacks → HasLines sizes Names Instructions name_line
has_names sizes some = search rules

pub has_instructions : (sizes : Sizes) → 1 ≤ sizes.stacks → HasLines sizes Instructions Nodes instruction_line
has_instructions sizes some = search rules

pub has_nodes : (sizes : Sizes) → 1 ≤ sizes.stacks → HasLines sizes Nodes Infos (node_line sizes)
has_nodes sizes some =
    let drawn : draws_before sizes Nodes sizes.stacks ≡ draws_before sizes Infos 0 = omega arith in
    search rules

pub has_infos : (sizes : Sizes) → HasLines sizes Infos Events (info_line sizes)
has_infos sizes = record {
  lines = λ next. refl;
  draws = omega arith;
  no_events = λ next. refl;
  none_follow = refl;
  within = λ next less. less;
  begins = omega arith;
}

-- one of its lines was made, and the generator stands behind it
pub passed : (old : Generator) (state : ℕ) (group following : Group) (line : ℕ → List ℕ) (before now : List ℕ)
    → HasLines (sizes_of old.options) group following line
    → old.group ≡ group → IsAt old → old.next < old.options.stacks
    → state ≡ state_after old.options.seed (draws_before (sizes_of old.options) group (old.next + 1))
    → state < 2147483648
    → PutsLine before now (line old.next) → MakesLine old (behind (record old { state = state }) following) before now
passed old state group following line before now has group_is at some state_is small put =
    let sizes : Sizes = sizes_of old.options in
    let after : List (List ℕ) = lines_left sizes following 0 in
    let one : lines_yet old
    ≡ line old.next ∷ (lines_from line (old.next + 1) (sizes.stacks - (old.next + 1)) ++ after) =
    ap (λ g. lines_left sizes g old.next) group_is
    ∙ (has.lines old.next ∙ ap (λ lines. lines ++ after) (one_line line old.next sizes.stacks some)) in
    let stands : Stands sizes group old.next old.state old.live.items =
    subst (λ g. Stands sizes g old.next old.state old.live.items) group_is at in
    let blocks : BlocksAre sizes old.live.items 0 =
    subst (BlocksAre sizes old.live.items) (has.no_events old.next) stands.blocks in
    let there : Generator = record old { state = state; group = following; next = 0 } in
    let here : Generator = record old { state = state; next = old.next + 1 } in
    elim (eqb_tells (old.next + 1) old.options.stacks) [
      | inl all ↦ subst (λ (ends : Bool). MakesLine old (cond {A = Generator} ends there here) before now) (sym all.0)
          (record {
            at = record {
              within = has.begins;
              state_is =
                  state_is
                  ∙
                  (ap (λ n. state_after sizes.seed (draws_before sizes group n)) all.1
                  ∙ ap (state_after sizes.seed) has.draws);
              small = small;
              infos = stands.infos;
              blocks = subst (BlocksAre sizes old.live.items) (sym has.none_follow) blocks;
            };
            line = line old.next;
            lines = one ∙ ap (λ rest. line old.next ∷ (rest ++ after)) (no_line line (old.next + 1) sizes.stacks all.1);
            put = put;
          })
      | inr less ↦ subst (λ (ends : Bool). MakesLine old (cond {A = Generator} ends there here) before now) (sym less.0)
          (record {
            at = subst (λ g. Stands sizes g (old.next + 1) state old.live.items) (sym group_is) (record {
              within = has.within (old.next + 1) (omega (arith, some, less.1));
              state_is = state_is;
              small = small;
              infos = stands.infos;
              blocks = subst (BlocksAre sizes old.live.items) (sym (has.no_events (old.next + 1))) blocks;
            });
            line = line old.next;
            lines =
                one
                ∙ ap (λ lines. line old.next ∷ lines)
                (sym (ap (λ g. lines_left sizes g (old.next + 1)) group_is ∙ has.lines (old.next + 1)));
            put = put;
          })
    ]

-- the line of an event is short
pub short_event : (frees : Bool) (info : ℕ) → length (hexadecimal info) ≤ 16
    → length (move_line (record { info = info; frees = frees })) ≤ 40
short_event true info few = omega (arith, few)
short_event false info few = omega (arith, few)

-- all lines of all groups
pub all_lines : (sizes : Sizes) → lines_left sizes Version 0 ≡ generated_lines sizes
all_lines sizes =
    let stacks = sizes.stacks in
    let events : events_left sizes 0 ≡ lines_from (event_line sizes) 0 sizes.events =
    from_first (event_line sizes) sizes.events in
    let infos : infos_left sizes 0
    ≡ lines_from (info_line sizes) 0 stacks ++ lines_from (event_line sizes) 0 sizes.events =
    ap₂ (λ a b. a ++ b) (from_first (info_line sizes) stacks) events in
    let nodes = ap₂ (λ a b. a ++ b) (from_first (node_line sizes) stacks) infos in
    let instructions = ap₂ (λ a b. a ++ b) (from_first instruction_line stacks) nodes in
    ap (λ lines. codes "v 10500 2" ∷ codes "X gen" ∷ codes "s m" ∷ lines)
    (ap₂ (λ a b. a ++ b) (from_first name_line stacks) instructions)

-- how many there are
count_from : (line : ℕ → List ℕ) (count : ℕ) → length (lines_from line 0 count) ≡ count
count_from line count = length-map-range_with_len line 0 count

pub few_lines : (sizes : Sizes) → sizes.stacks ≤ 4000 → sizes.events ≤ 10000000
    → length (generated_lines sizes) ≤ 10016003
few_lines sizes stacks events =
    let infos : List (List ℕ) = lines_from (info_line sizes) 0 sizes.stacks in
    let moves : List (List ℕ) = lines_from (event_line sizes) 0 sizes.events in
    let nodes : List (List ℕ) = lines_from (node_line sizes) 0 sizes.stacks in
    let instructions : List (List ℕ) = lines_from instruction_line 0 sizes.stacks in
    let names : List (List ℕ) = lines_from name_line 0 sizes.stacks in
    omega (
      arith,
      stacks,
      events,
      length-append names (instructions ++ (nodes ++ (infos ++ moves))),
      length-append instructions (nodes ++ (infos ++ moves)),
      length-append nodes (infos ++ moves),
      length-append infos moves,
      count_from name_line sizes.stacks,
      count_from instruction_line sizes.stacks,
      count_from (node_line sizes) sizes.stacks,
      count_from (info_line sizes) sizes.stacks,
      count_from (event_line sizes) sizes.events,
    )
