use Rattle.std.proofs.Common.{◌≡◌, ℕ, None, length, subst}
use Rattle.ht_lines.specs.Fields.{numbers}
use Rattle.ht_trace.specs.FramesSaid.{frames_said}
use Rattle.ht_trace.specs.LineFault.{instruction_fault}
use Rattle.ht_trace.proofs.SoundLemmas.{named-said, sound-instruction}
use Rattle.ht_trace.proofs.tables.Tables.add_instruction.Goals as goal

pub invariant_of-self-2 : goal.invariant_of-self-2
invariant_of-self-2 c =
    let table = c.self.inside in
    let said = numbers c.args.tail.now in
    let good =
    subst (λ (strings : ℕ). instruction_fault strings (length table.instructions) c.args.module (frames_said said)
    ≡ None) c.len-strings.ensures.count c.in_ok-add.ensures.no_fault in
    rw c.in_ok-add.ensures.added (
    sound-instruction table.version (length table.strings) table.instructions _ table.nodes table.infos
    (named-said (length table.strings) (length table.instructions) c.args.module c.args.ip said good c.requires.written)
    c.self.invariant
    )
