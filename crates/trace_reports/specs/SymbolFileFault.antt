-- What is told of the faults of a table of symbols.
use Rattle.command_frame.specs.declared.fault.FaultStatus.TheVariants.{Malformed}
use Rattle.command_frame.specs.Told.{Told}
use Rattle.interpret.specs.SymbolFaultText.{fault_text}
use Rattle.trace_reports.specs.declared.symbol_file_fault.SymbolFileFault.{SymbolFileFault}
use Rattle.trace_reports.specs.declared.symbol_file_fault.SymbolFileFault.TheVariants.{Line}

abbrev pub told : SymbolFileFault → Told
told (Line fault) = record { text = fault_text fault; status = Malformed }
