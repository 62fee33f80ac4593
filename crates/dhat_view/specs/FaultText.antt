-- What it is called that a profile has no view: want of memory as where a profile is read.
use Rattle.std.specs.Prelude.{ℕ, List, codes}
use Rattle.dhat_json.specs.declared.fault.DhatFault.TheVariants as reading
use Rattle.dhat_json.specs.FaultText.{fault_text as reading_text}
use Rattle.dhat_view.specs.declared.fault.ViewFault.{ViewFault}
use Rattle.dhat_view.specs.declared.fault.ViewFault.TheVariants.{NoFigures, TooLarge, NoMemory}

abbrev pub fault_text : ViewFault → List ℕ
fault_text NoFigures = codes "no figures"
fault_text TooLarge = codes "figures too large"
fault_text NoMemory = reading_text reading.NoMemory
