use Rattle.std.proofs.Common.{◌≡◌, arith, Err, None, sym, ap, subst, ◌∙◌}
use Rattle.std.proofs.lemmas.Option.{none-some, same_Some}
use Rattle.massif_file.specs.declared.profile.Profile.{Profile}
use Rattle.massif_file.specs.IsWritable.{IsWritable}
use Rattle.convert.specs.declared.fault.ConvertFault.TheVariants.{NoFigures, TooLarge}
use Rattle.convert.specs.AreTreeSums.{HaveTreeSums}
use Rattle.convert.specs.ConvertFault.{converted_fault}
use Rattle.convert.proofs.Faults.{all-small, large-end, large-peak, late-end, no-lives}
use Rattle.convert.proofs.Writable.{AreLaws, converted-sums, converted-writable}
use Rattle.convert.proofs.converted.massif_of_dhat.Goals as goal
use Rattle.convert.proofs.converted.massif_of_dhat.Goals.{After-shown_texts, In-Some-figures_sum}

laws : (c : After-shown_texts) → AreLaws
laws c = record {
  right = c.massif_trees.ensures.right;
  writable = c.massif_trees.ensures.writable;
  no_line_feed = c.shown_texts.ensures.no_line_feed;
  begin = c.shown_texts.ensures.begin;
  again = c.shown_texts.ensures.again;
}

-- nothing stands against the conversion where both sums are at most 2^62
small : (c : In-Some-figures_sum) → converted_fault c.args.dhat.now ≡ None
small c =
    all-small c.args.dhat.now c.if-not-dhat.false
    (let within = c.if-dhat-gt-MOST.false in omega arith)
    (let total = c.in-Some.ensures.sum in let within = c.in-Some.ensures.within in omega arith)
    (let total = c.in-Some-figures_sum.ensures.sum in let within = c.in-Some-figures_sum.ensures.within in omega arith)

pub returns-then-not-dhat-clause-fault : goal.returns-then-not-dhat-clause-fault
returns-then-not-dhat-clause-fault c = λ other. no-lives c.args.dhat.now c.if-not-dhat.true

pub returns-then-not-dhat-clause-refused : goal.returns-then-not-dhat-clause-refused
returns-then-not-dhat-clause-refused c =
    λ fault is. ap Err (same_Some NoFigures fault (sym (no-lives c.args.dhat.now c.if-not-dhat.true) ∙ is))

pub returns-then-dhat-gt-MOST-clause-fault : goal.returns-then-dhat-gt-MOST-clause-fault
returns-then-dhat-gt-MOST-clause-fault c =
    λ other. late-end c.args.dhat.now c.if-not-dhat.false (let above = c.if-dhat-gt-MOST.true in omega arith)

pub returns-then-dhat-gt-MOST-clause-refused : goal.returns-then-dhat-gt-MOST-clause-refused
returns-then-dhat-gt-MOST-clause-refused c = λ fault is.
    ap Err (same_Some TooLarge fault
    (sym (late-end c.args.dhat.now c.if-not-dhat.false (let above = c.if-dhat-gt-MOST.true in omega arith)) ∙ is))

pub returns-in_default-clause-fault : goal.returns-in_default-clause-fault
returns-in_default-clause-fault c =
    λ other. large-peak c.args.dhat.now c.if-not-dhat.false c.in_default.ensures.too_large

pub returns-in_default-clause-refused : goal.returns-in_default-clause-refused
returns-in_default-clause-refused c = λ fault is.
    ap Err (same_Some TooLarge fault
    (sym (large-peak c.args.dhat.now c.if-not-dhat.false c.in_default.ensures.too_large) ∙ is))

pub returns-in_default-figures_sum-clause-fault : goal.returns-in_default-figures_sum-clause-fault
returns-in_default-figures_sum-clause-fault c =
    λ other. large-end c.args.dhat.now c.if-not-dhat.false c.in_default-figures_sum.ensures.too_large

pub returns-in_default-figures_sum-clause-refused : goal.returns-in_default-figures_sum-clause-refused
returns-in_default-figures_sum-clause-refused c = λ fault is.
    ap Err (same_Some TooLarge fault
    (sym (large-end c.args.dhat.now c.if-not-dhat.false c.in_default-figures_sum.ensures.too_large) ∙ is))

pub returns-in-Ok-clause-writable : goal.returns-in-Ok-clause-writable
returns-in-Ok-clause-writable c =
    subst IsWritable (sym c.in-Ok.ensures.profile)
    (converted-writable (laws (goal.at.returns-in-Ok-clause-writable c).After-shown_texts)
    c.args.dhat.now c.requires.sound
    (record {
      time = (let within = c.if-dhat-gt-MOST.false in omega arith);
      at_peak = (let total = c.in-Some.ensures.sum in let within = c.in-Some.ensures.within in omega arith);
      at_end =
          (let total = c.in-Some-figures_sum.ensures.sum in let within = c.in-Some-figures_sum.ensures.within in omega
          arith);
    }))

pub returns-in-Ok-clause-sums : goal.returns-in-Ok-clause-sums
returns-in-Ok-clause-sums c =
    subst (λ (profile : Profile). HaveTreeSums c.args.dhat.now profile) (sym c.in-Ok.ensures.profile)
    (converted-sums (laws (goal.at.returns-in-Ok-clause-sums c).After-shown_texts) c.args.dhat.now c.requires.sound)

pub returns-in-Ok-clause-no_fault : goal.returns-in-Ok-clause-no_fault
returns-in-Ok-clause-no_fault c = small (goal.at.returns-in-Ok-clause-no_fault c).In-Some-figures_sum

pub returns-in-Ok-clause-refused : goal.returns-in-Ok-clause-refused
returns-in-Ok-clause-refused c = λ fault is.
    absurd (none-some fault (sym (small (goal.at.returns-in-Ok-clause-refused c).In-Some-figures_sum) ∙ is))

pub returns-in-Err-clause-refused : goal.returns-in-Err-clause-refused
returns-in-Err-clause-refused c = λ fault is.
    absurd (none-some fault (sym (small (goal.at.returns-in-Err-clause-refused c).In-Some-figures_sum) ∙ is))
