-- What is told of a line of a script or of a modules file that is refused.
use Rattle.command_frame.specs.declared.fault.FaultStatus.{FaultStatus}
use Rattle.command_frame.specs.declared.fault.FaultStatus.TheVariants.{Malformed, PastLimit}
use Rattle.command_frame.specs.Told.{Told}
use Rattle.record_scripts.specs.declared.fault.ScriptFault.{ScriptFault}
use Rattle.record_scripts.specs.declared.fault.ScriptFault.TheVariants.{TooManyEvents}
use Rattle.record_scripts.specs.FaultText.{fault_text}

-- its kind: with too many events the input is past a limit
abbrev pub fault_status : ScriptFault → FaultStatus
fault_status TooManyEvents = PastLimit
fault_status _ = Malformed

abbrev pub told : ScriptFault → Told
told fault = record { text = fault_text fault; status = fault_status fault }
