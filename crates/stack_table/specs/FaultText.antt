-- What it is called that a node can't be added.
use Rattle.std.specs.Prelude.{ℕ, List, codes}
use Rattle.stack_table.specs.declared.fault.NodeFault.{NodeFault}
use Rattle.stack_table.specs.declared.fault.NodeFault.TheVariants.{UnknownParent, TooDeep, Full, NoMemory}

abbrev pub fault_text : NodeFault → List ℕ
fault_text UnknownParent = codes "unknown parent"
fault_text TooDeep = codes "stack too deep"
fault_text Full = codes "too many nodes"
fault_text NoMemory = codes "out of memory"
