-- The faults of the crates below, as errors of a line. Which error of a line a refusal of the
-- grammar or of the nodes is.
use Rattle.ht_lines.specs.declared.item.Malformed.{Malformed}
use Rattle.ht_lines.specs.declared.item.Malformed.TheVariants as grammar
use Rattle.stack_table.specs.declared.fault.NodeFault.{NodeFault}
use Rattle.stack_table.specs.declared.fault.NodeFault.TheVariants as node
use Rattle.ht_trace.specs.declared.error.LineError.{LineError}
use Rattle.ht_trace.specs.declared.error.LineError.TheVariants.{BadField, MissingField, ExtraField, NotInterpreted}
use Rattle.ht_trace.specs.declared.error.LineError.TheVariants.{NotRaw, BadVersion, UnknownParent, TooDeep, TooMany}
use Rattle.ht_trace.specs.declared.error.LineError.TheVariants.{NoMemory}

-- the grammar's refusal
abbrev pub of_malformed : Malformed → LineError
of_malformed grammar.BadField = BadField
of_malformed grammar.MissingField = MissingField
of_malformed grammar.ExtraField = ExtraField
of_malformed grammar.NotInterpreted = NotInterpreted
of_malformed grammar.NotRaw = NotRaw
of_malformed grammar.BadVersion = BadVersion

-- the node table's refusal
abbrev pub of_node_fault : NodeFault → LineError
of_node_fault node.UnknownParent = UnknownParent
of_node_fault node.TooDeep = TooDeep
of_node_fault node.Full = TooMany
of_node_fault node.NoMemory = NoMemory
