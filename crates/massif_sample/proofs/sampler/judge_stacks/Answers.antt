use Rattle.std.proofs.Common.{◌∙◌, List, Bool, length, ap, sym, subst, arith}
use Rattle.std.proofs.lemmas.List.{length_push}
use Rattle.massif_sample.specs.StandsFor.{AreJudged}
use Rattle.massif_sample.proofs.Judging.{judged-none, judged-push}
use Rattle.massif_sample.proofs.sampler.judge_stacks.Goals as goal

pub each_stack-init : goal.each_stack-init
each_stack-init g c =
    let empty = c.in_ok-judged.ensures.items in (
      ap (λ (flags : List Bool). length flags) empty,
      λ names stated. subst (λ (flags : List Bool). AreJudged names c.args.tables.now flags) (sym empty)
          (judged-none names c.args.tables.now),
    )

pub each_stack-preserved : goal.each_stack-preserved
each_stack-preserved g c =
    let pushed = c.in_ok-push.ensures.items in
    let count = c.each_stack.invariant.0 in (
      ap (λ (flags : List Bool). length flags) pushed
          ∙ (let more = length_push c.each_stack.judged.items c.in_ok-is_ignored.field-0 in omega arith),
      λ names stated.
          subst (λ (flags : List Bool). AreJudged names c.args.tables.now flags) (sym pushed)
          (judged-push names c.args.tables.now c.each_stack.judged.items c.each_stack.stack c.in_ok-is_ignored.field-0
          (c.each_stack.invariant.1 names stated) (sym count)
          (c.in_ok-is_ignored.ensures.ignored names.alloc_fns names.ignore_fns stated.alloc_fns stated.ignore_fns)),
    )
