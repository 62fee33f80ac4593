-- What the faults of a line of a script or of a modules file are called.
use Rattle.std.specs.Prelude.{ℕ, List, codes}
use Rattle.record_scripts.specs.declared.fault.ScriptFault.{ScriptFault}
use Rattle.record_scripts.specs.declared.fault.ScriptFault.TheVariants.{BadScriptLine, BlockLive, BlockNotLive}
use Rattle.record_scripts.specs.declared.fault.ScriptFault.TheVariants.{TooManyEvents, NoMemory}

-- want of memory is no fault of the line, and never told as one
abbrev pub fault_text : ScriptFault → List ℕ
fault_text BadScriptLine = codes "bad script line"
fault_text BlockLive = codes "block live"
fault_text BlockNotLive = codes "block not live"
fault_text TooManyEvents = codes "too many events"
fault_text NoMemory = codes "out of memory"
