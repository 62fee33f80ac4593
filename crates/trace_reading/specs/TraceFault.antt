-- What is told of each fault of a trace.
use Rattle.live_ledger.specs.declared.event.EventFault.{EventFault}
use Rattle.live_ledger.specs.declared.event.EventFault.TheVariants as ledger
use Rattle.live_ledger.specs.FaultText.{fault_text}
use Rattle.ht_trace.specs.declared.error.LineError.{LineError}
use Rattle.ht_trace.specs.declared.error.LineError.TheVariants.{TooDeep, TooMany}
use Rattle.ht_trace.specs.ErrorText.{error_text}
use Rattle.command_frame.specs.declared.fault.FaultStatus.{FaultStatus}
use Rattle.command_frame.specs.declared.fault.FaultStatus.TheVariants.{Malformed, PastLimit}
use Rattle.command_frame.specs.Told.{Told}
use Rattle.trace_reading.specs.declared.fault.TraceFault.{TraceFault}
use Rattle.trace_reading.specs.declared.fault.TraceFault.TheVariants.{Line, Event as event}

-- the kind of a line's fault; want of memory is no fault of a line, and never told as one
abbrev pub line_status : LineError → FaultStatus
line_status TooDeep = PastLimit
line_status TooMany = PastLimit
line_status _ = Malformed

abbrev pub event_status : EventFault → FaultStatus
event_status ledger.FreeOfNothing = Malformed
event_status ledger.CostTooLarge = PastLimit

abbrev pub told : TraceFault → Told
told (Line error) = record { text = error_text error; status = line_status error }
told (event fault) = record { text = fault_text fault; status = event_status fault }
