use Rattle.std.proofs.Common.{Bool, List, length, sym, ap, ◌∙◌, arith}
use Rattle.std.proofs.lemmas.List.FromFn.{length-map-range_with_len}
use Rattle.ht_print.specs.MetFrames.{meets_instruction}
use Rattle.ht_print.specs.Suppressed.{is_suppressed}
use Rattle.ht_print.proofs.Searches.{by-caller, by-instruction, by-none}
use Rattle.ht_print.proofs.suppressed.is_suppressed.Goals as goal

pub index-requires : goal.index-requires
index-requires c =
    let count =
    ap (λ (bs : List Bool). length bs) c.requires.met.instructions
    ∙ length-map-range_with_len (meets_instruction c.args.tables.now) 0 _ in
    omega (arith, count, c.in-Some.ensures.instruction)

pub returns-then-index : goal.returns-then-index
returns-then-index c =
    by-instruction c.args.tables.now c.args.met.now c.args.stack c.in-Some.instruction c.in-Some.caller _ c.requires.met
    c.in-Some.ensures.instruction c.in-Some.ensures.frames (sym c.index.ensures ∙ c.if-index.true)

pub returns-then-caller-eq0 : goal.returns-then-caller-eq0
returns-then-caller-eq0 c =
    by-none c.args.tables.now c.args.met.now c.args.stack c.in-Some.instruction c.in-Some.caller _ c.requires.met
    c.in-Some.ensures.instruction c.in-Some.ensures.frames (sym c.index.ensures ∙ c.if-index.false)
    c.if-caller-eq0.true

pub bounds-before-caller : goal.bounds-before-caller
bounds-before-caller c =
    let count =
    ap (λ (bs : List Bool). length bs) c.requires.before
    ∙ length-map-range_with_len (is_suppressed c.args.tables.now) 0 c.args.stack in
    omega (arith, count, c.in-Some.ensures.lower)

pub returns : goal.returns
returns c =
    by-caller c.args.tables.now c.args.met.now c.args.before.now c.args.stack c.in-Some.instruction c.in-Some.caller _
    c.requires.met c.in-Some.ensures.instruction c.in-Some.ensures.frames (sym c.index.ensures ∙ c.if-index.false)
    c.if-caller-eq0.false c.in-Some.ensures.lower c.requires.before
