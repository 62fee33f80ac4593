-- Want of memory is the one fault that may come without a cause.
use Rattle.massif_file.specs.declared.fault.ProfileFault.{ProfileFault}
use Rattle.massif_file.specs.declared.fault.ProfileFault.TheVariants.{NoMemory}

-- the claim, where the fault is another than want of memory
abbrev pub UnlessNoMemory : ProfileFault → Type 0 → Type 0
UnlessNoMemory NoMemory claim = Unit {0}
UnlessNoMemory _ claim = claim
