-- What the errors of a line are called: as in the grammar or of a node where these have them too.
use Rattle.std.specs.Prelude.{ℕ, List, codes}
use Rattle.ht_lines.specs.declared.item.Malformed.TheVariants as grammar
use Rattle.ht_lines.specs.FaultText.{fault_text as grammar_text}
use Rattle.stack_table.specs.declared.fault.NodeFault.TheVariants as node
use Rattle.stack_table.specs.FaultText.{fault_text as node_text}
use Rattle.ht_trace.specs.declared.error.LineError.{LineError}
use Rattle.ht_trace.specs.declared.error.LineError.TheVariants.{BadField, MissingField, ExtraField, NotInterpreted}
use Rattle.ht_trace.specs.declared.error.LineError.TheVariants.{NotRaw, BadVersion, NoVersion, SecondVersion}
use Rattle.ht_trace.specs.declared.error.LineError.TheVariants.{UnknownString, UnknownInstruction, UnknownParent}
use Rattle.ht_trace.specs.declared.error.LineError.TheVariants.{UnknownTrace, UnknownAllocation, TooDeep, TooMany}
use Rattle.ht_trace.specs.declared.error.LineError.TheVariants.{NoMemory}

abbrev pub error_text : LineError → List ℕ
error_text BadField = grammar_text grammar.BadField
error_text MissingField = grammar_text grammar.MissingField
error_text ExtraField = grammar_text grammar.ExtraField
error_text NotInterpreted = grammar_text grammar.NotInterpreted
error_text NotRaw = grammar_text grammar.NotRaw
error_text BadVersion = grammar_text grammar.BadVersion
error_text NoVersion = codes "no version line"
error_text SecondVersion = codes "second version line"
error_text UnknownString = codes "unknown string"
error_text UnknownInstruction = codes "unknown instruction"
error_text UnknownParent = node_text node.UnknownParent
error_text UnknownTrace = codes "unknown trace"
error_text UnknownAllocation = codes "unknown allocation"
error_text TooDeep = node_text node.TooDeep
error_text TooMany = codes "table full"
error_text NoMemory = node_text node.NoMemory
