use Rattle.std.proofs.Common.{◌≡◌, ℕ, ◌+◌, ◌*◌, ◌<◌, ◌≤◌, ◌==◌, ◌&&◌, Bool, List, ◌∷◌, slice_index_or, slice_set}
use Rattle.std.proofs.Common.{length, refl, ap, ap₂, subst, sym, ◌∙◌, arith}
use Rattle.std.proofs.lemmas.Grind.{get_or_default_zero}
use Rattle.trace_gen.specs.Draws.{draw, next_state, number_below, state_after}
use Rattle.trace_gen.specs.Moves.{Move, allocated, freed, moves, next_move}
use Rattle.trace_gen.specs.GeneratedTrace.{event_line, move_line}
use Rattle.trace_gen.specs.Sizes.{sizes_of}
use Rattle.trace_gen.specs.GeneratorState.{Stands, events_left, lines_left, lines_yet}
use Rattle.trace_gen.proofs.Steps.{one_line, short_event}
use Rattle.trace_gen.proofs.Live.{drawn, few_blocks, has_block, moved}
use Rattle.trace_gen.proofs.generator.Generator.draw_event.Goals as goal

pub blocks_behind-requires-clause-few : goal.blocks_behind-requires-clause-few
blocks_behind-requires-clause-few c =
    let old = c.args.self.now in
    let sizes = sizes_of old.options in
    let info = c.number_below-info.result in
    let below : info < sizes.stacks = c.number_below-info.ensures.below in
    let stands = subst (λ group. Stands sizes group old.next old.state old.live.items) c.requires.group c.requires.at in
    let held : info < length old.live.items = omega (arith, below, stands.infos) in
    let few : slice_index_or old.live.items info 0 ≤ old.next =
    few_blocks sizes old.next info (slice_index_or old.live.items info 0) (stands.blocks info below) in
    let blocks : c.index-blocks.result.now ≡ slice_index_or old.live.items info 0 =
    c.index-blocks.ensures ∙ get_or_default_zero old.live.items info c.index-blocks.result.now held in
    let within : old.next ≤ sizes.events = stands.within in
    omega (arith, few, blocks, within, old.options.events_in_range)

pub returns : goal.returns
returns c =
    let old = c.args.self.now in
    let sizes = sizes_of old.options in
    let info = c.number_below-info.result in
    let first = c.next_state-self.result in
    let second = c.next_state-self-2.result in
    let frees = c.is_free-frees.result in
    let new = c.blocks_behind.result in
    let below : info < sizes.stacks = c.number_below-info.ensures.below in
    let stands = subst (λ group. Stands sizes group old.next old.state old.live.items) c.requires.group c.requires.at in
    let some : old.next < sizes.events = c.requires.some in
    let held : info < length old.live.items = omega (arith, below, stands.infos) in
    let blocks : c.index-blocks.result.now ≡ slice_index_or old.live.items info 0 =
    c.index-blocks.ensures ∙ get_or_default_zero old.live.items info c.index-blocks.result.now held in
    let draws : ℕ = 2 * sizes.stacks + 2 * old.next in
    let earlier : List Move = moves sizes old.next in
    let move : Move = next_move sizes old.next earlier in
    let first_is : first ≡ state_after sizes.seed (draws + 1) =
    c.next_state-self.ensures.next ∙ drawn sizes.seed draws (draws + 1) old.state refl stands.state_is in
    let second_is : second ≡ state_after sizes.seed (2 * sizes.stacks + 2 * (old.next + 1)) =
    c.next_state-self-2.ensures.next
    ∙ drawn sizes.seed (draws + 1) (2 * sizes.stacks + 2 * (old.next + 1)) first (omega arith) first_is in
    let info_is : info ≡ move.info =
    c.number_below-info.ensures.number
    ∙ ap (number_below sizes.stacks) (c.next_state-self.ensures.next ∙ ap next_state stands.state_is) in
    let kind_is : c.number_below-kind.result ≡ draw sizes.seed (draws + 1) 2 =
    c.number_below-kind.ensures.number
    ∙ ap (number_below 2) (c.next_state-self-2.ensures.next ∙ ap next_state first_is) in
    let here : c.index-blocks.result.now + freed move.info earlier ≡ allocated move.info earlier =
    subst (λ i. c.index-blocks.result.now + freed i earlier ≡ allocated i earlier) info_is
    (ap (λ n. n + freed info earlier) blocks ∙ stands.blocks info below) in
    let frees_is : frees ≡ move.frees =
    c.is_free-frees.ensures.free
    ∙ ap₂ (λ k b. (k == 0) && b) kind_is
    (has_block c.index-blocks.result.now (freed move.info earlier) (allocated move.info earlier) here) in
    let line : Bool → ℕ → List ℕ = λ kind number. move_line (record { info = number; frees = kind }) in
    let same : line frees info ≡ event_line sizes old.next = ap₂ line frees_is info_is in
    let left : lines_yet old ≡ event_line sizes old.next ∷ events_left sizes (old.next + 1) =
    ap (λ g. lines_left sizes g old.next) c.requires.group ∙ one_line (event_line sizes) old.next sizes.events some in
    record {
      at =
          subst (λ group. Stands sizes group (old.next + 1) second (slice_set old.live.items info new))
          (sym c.requires.group)
          (moved sizes old.next old.state second old.live.items info new frees stands some info_is frees_is below
          (λ kind. c.blocks_behind.ensures.allocated kind ∙ ap (λ n. n + 1) blocks)
          (λ kind. c.blocks_behind.ensures.freed kind ∙ blocks) second_is c.next_state-self-2.ensures.small);
      lines =
          left
          ∙
          (ap (λ lines. event_line sizes old.next ∷ lines)
          (sym (ap (λ g. lines_left sizes g (old.next + 1)) c.requires.group))
          ∙ ap (λ one. one ∷ lines_left sizes old.group (old.next + 1)) (sym same));
      short = short_event frees info (c.hexadecimal_texts.ensures.at_most_16 info (omega (arith, below, old.options.stacks_in_range)));
    }
