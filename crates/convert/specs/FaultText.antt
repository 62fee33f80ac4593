-- What the faults of a conversion are called. What it is called that a profile can't be converted:
-- as for a view where that has the fault too.
use Rattle.std.specs.Prelude.{ℕ, List, codes}
use Rattle.dhat_view.specs.declared.fault.ViewFault.TheVariants as view
use Rattle.dhat_view.specs.FaultText.{fault_text as view_text}
use Rattle.convert.specs.declared.fault.ConvertFault.{ConvertFault}
use Rattle.convert.specs.declared.fault.ConvertFault.TheVariants.{NoFigures, NoTree, TooLarge, NoMemory}

abbrev pub fault_text : ConvertFault → List ℕ
fault_text NoFigures = view_text view.NoFigures
fault_text NoTree = codes "no tree"
fault_text TooLarge = view_text view.TooLarge
fault_text NoMemory = view_text view.NoMemory
