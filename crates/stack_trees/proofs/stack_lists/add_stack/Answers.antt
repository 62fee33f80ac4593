use Rattle.std.proofs.Common.{◌≡◌, ℕ, List, [], ◌∷◌, ◌++◌, eqb, false, map, take, sym, ap, ◌∙◌, arith}
use Rattle.std.proofs.lemmas.Bool.{cond-false}
use Rattle.std.proofs.lemmas.Bool.Decides.{nat_tests}
use Rattle.std.proofs.lemmas.Result.{on_ok_weaker}
use Rattle.ht_trace.specs.declared.frame.FrameAt.{FrameAt}
use Rattle.ht_trace.specs.FrameText.{frame_text}
use Rattle.ht_trace.specs.StackFrames.{stack_frames}
use Rattle.stack_trees.specs.declared.direction.Direction.TheVariants.{FromAllocation}
use Rattle.stack_trees.proofs.Needing.{texts-of-first}
use Rattle.stack_trees.proofs.stack_lists.add_stack.Goals as goal

pub returns : goal.returns
returns c =
    let tables = c.args.tables.now in
    let form = c.args.form in
    let text : FrameAt → List ℕ = frame_text form.style tables in
    let all : List FrameAt = stack_frames tables.instructions tables.nodes c.args.stack in
    let frames = c.deref.ensures.value
    ∙ c.truncate.ensures.items
    ∙ ap (λ (xs : List FrameAt). take form.most xs) c.in_ok-frames_into.ensures.of_tables in
    let texts = ap (λ (xs : List FrameAt). map text xs) frames ∙ texts-of-first text form.most FromAllocation all in
    let costs : eqb c.args.cost 0 ≡ false = grind (arith, nat_tests) in
    record {
      added = on_ok_weaker c.push_texts.result
          (λ gained. gained c.args.lists.now [] c.in_ok-begin.ensures.appended
          ∙ ap (λ (list : List (List ℕ)). c.args.lists.now ++ list ∷ [])
          (texts ∙ sym (cond-false (eqb c.args.cost 0) [] (take form.most (map text all)) costs)))
          c.push_texts.ensures.gained;
    }
