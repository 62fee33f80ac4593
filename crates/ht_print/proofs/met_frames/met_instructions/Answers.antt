use Rattle.std.proofs.Common.{Bool, List, [], ◌∷◌, ◌++◌, map, sym, ap, ◌∙◌, arith}
use Rattle.std.specs.List.{range_with_len}
use Rattle.std.proofs.lemmas.List.FromFn.{map-range_with_len_more}
use Rattle.ht_print.specs.MetFrames.{meets_frames, meets_instruction}
use Rattle.ht_print.proofs.met_frames.met_instructions.Goals as goal

pub each_instruction-preserved : goal.each_instruction-preserved
each_instruction-preserved c =
    let tables = c.args.tables.now in
    let n = c.each_instruction.n in
    c.in_ok-push.ensures.items
    ∙ ap (λ (met : List Bool). met ++ c.in_ok-meets_frames.field-0 ∷ []) c.each_instruction.invariant
    ∙ ap (λ (answer : Bool). map (meets_instruction tables) (range_with_len 0 n) ++ answer ∷ [])
    (c.in_ok-meets_frames.ensures
    ∙ ap (meets_frames tables) (c.deref.ensures.value ∙ c.in_ok-instruction_frames_into.ensures.of_tables))
    ∙ sym (map-range_with_len_more (meets_instruction tables) 0 n n (omega arith))
