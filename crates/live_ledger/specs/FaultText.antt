-- What the faults of an event are called.
use Rattle.std.specs.Prelude.{ℕ, List, codes}
use Rattle.live_ledger.specs.declared.event.EventFault.{EventFault}
use Rattle.live_ledger.specs.declared.event.EventFault.TheVariants.{FreeOfNothing, CostTooLarge}

abbrev pub fault_text : EventFault → List ℕ
fault_text FreeOfNothing = codes "free of nothing"
fault_text CostTooLarge = codes "too many bytes allocated"
