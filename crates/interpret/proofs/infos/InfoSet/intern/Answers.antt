use Rattle.std.proofs.Common.{◌≡◌, List, length, Some, sym, ◌∙◌, subst}
use Rattle.ht_trace.specs.declared.error.LineError.TheVariants.{TooMany}
use Rattle.ht_trace.specs.LineFault.{most_entries}
use Rattle.interpret.specs.declared.infos.AllocationInfo.{AllocationInfo}
use Rattle.interpret.specs.FirstAppearances.{over_fault, with_new}
use Rattle.interpret.specs.RawTables.{same_info}
use Rattle.interpret.proofs.FirstLemmas.{over-absent}
use Rattle.interpret.proofs.infos.InfoSet.intern.Goals as goal

pub returns-then-not-contains-clause-fault : goal.returns-then-not-contains-clause-fault
returns-then-not-contains-clause-fault c = λ other.
    subst (λ (infos : List AllocationInfo). over_fault most_entries (length (with_new same_info infos c.args.info))
    ≡ Some TooMany) c.self.view_is
    (over-absent same_info c.self.inside.infos.keys c.args.info most_entries
    (sym c.contains.ensures ∙ c.if-not-contains.true) (sym c.len.ensures.len ∙ c.if-len-eq-MAX_INFOS.true))
