-- What the fault of a line of a table of symbols is called: want of memory as at a line of a trace.
use Rattle.std.specs.Prelude.{ℕ, List, codes}
use Rattle.ht_trace.specs.declared.error.LineError.TheVariants as line
use Rattle.ht_trace.specs.ErrorText.{error_text}
use Rattle.interpret.specs.declared.fault.SymbolFault.{SymbolFault}
use Rattle.interpret.specs.declared.fault.SymbolFault.TheVariants.{BadSymbolLine, SymbolOverlap, NoMemory}

abbrev pub fault_text : SymbolFault → List ℕ
fault_text BadSymbolLine = codes "bad symbol line"
fault_text SymbolOverlap = codes "symbols overlap"
fault_text NoMemory = error_text line.NoMemory
