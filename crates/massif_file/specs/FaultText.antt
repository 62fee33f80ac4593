-- What the faults of the lines of a Massif file are called. What the fault of a line is called.
use Rattle.std.specs.Prelude.{ℕ, List, codes}
use Rattle.massif_file.specs.declared.fault.ProfileFault.{ProfileFault}
use Rattle.massif_file.specs.declared.fault.ProfileFault.TheVariants.{BadHeader, BadSnapshot, BadNumber, WrongOrder}
use Rattle.massif_file.specs.declared.fault.ProfileFault.TheVariants.{BadTree, Truncated, NoMemory}

abbrev pub fault_text : ProfileFault → List ℕ
fault_text BadHeader = codes "bad header"
fault_text BadSnapshot = codes "bad snapshot"
fault_text BadNumber = codes "bad number"
fault_text WrongOrder = codes "wrong order"
fault_text BadTree = codes "bad tree"
fault_text Truncated = codes "truncated"
fault_text NoMemory = codes "out of memory"
