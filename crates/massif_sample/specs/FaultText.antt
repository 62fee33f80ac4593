-- What a sampler's fault is called: as the ledger's where that has it too.
use Rattle.std.specs.Prelude.{ℕ, List, codes}
use Rattle.live_ledger.specs.declared.event.EventFault.TheVariants as ledger_fault
use Rattle.live_ledger.specs.FaultText as ledger
use Rattle.massif_sample.specs.declared.fault.SampleFault.{SampleFault}
use Rattle.massif_sample.specs.declared.fault.SampleFault.TheVariants.{FreeOfNothing, CostTooLarge, NoMemory}

abbrev pub fault_text : SampleFault → List ℕ
fault_text FreeOfNothing = ledger.fault_text ledger_fault.FreeOfNothing
fault_text CostTooLarge = ledger.fault_text ledger_fault.CostTooLarge
fault_text NoMemory = codes "out of memory"
