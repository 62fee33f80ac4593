use Rattle.std.proofs.Common.{[], ◌≡◌, ◌-◌, ℕ, List, take, ap₂, subst, ◌∙◌}
use Rattle.trace_gen.specs.declared.generator.Generator.{Generator}
use Rattle.trace_gen.specs.GeneratorState.{Gives, MakesLine, lines_yet}
use Rattle.trace_reports.specs.GenTaken.{ReadsLine}
use Rattle.trace_reports.proofs.GenLemmas.{next_taken, without_feed}
use Rattle.trace_reports.proofs.gen_summary.read_lines.Goals as goal

pub lines-preserved : goal.lines-preserved
lines-preserved c =
    let old = c.lines.generator in
    let after = c.line.new.self in
    let one : MakesLine old after [] c.line.new.line.items =
    subst (λ (generator : Generator). MakesLine generator after [] c.line.new.line.items) c.in-None.ensures.0
    (subst (λ (before : List ℕ). MakesLine c.next_event.new.self after before c.line.new.line.items)
    c.clear.ensures.items
    (subst (Gives c.next_event.new.self after c.clear.new.self.items c.line.new.line.items) c.in-Ok-true.field-0-test
    c.in-Ok-true.ensures.made)) in
    let line : c.split_at.result.0.now ≡ one.line =
    c.split_at.ensures.front
    ∙ (ap₂ (λ (n : ℕ) (text : List ℕ). take (n - 1) text) (c.len.ensures ∙ c.line.new.line.ok.0) c.deref.ensures.value
    ∙ without_feed c.line.new.line.items one.line one.put.text) in
    next_taken c.lines.trace old after (lines_yet c.args.generator.now) one.line c.lines.invariant one.lines
    one.put.short c.read_line.new.trace one.at
    (subst (ReadsLine c.lines.trace c.read_line.new.trace) line c.in_ok-read_line-in-None.ensures)
