-- What is told of the faults of a Massif file.
use Rattle.command_frame.specs.declared.fault.FaultStatus.TheVariants.{Malformed, PastLimit}
use Rattle.command_frame.specs.Told.{Told}
use Rattle.massif_file.specs.FaultText.{fault_text}
use Rattle.convert.specs.declared.fault.ConvertFault.TheVariants as convert
use Rattle.convert.specs.FaultText.{fault_text as convert_text}
use Rattle.profile_reports.specs.declared.massif_file_fault.MassifFileFault.{MassifFileFault}
use Rattle.profile_reports.specs.declared.massif_file_fault.MassifFileFault.TheVariants.{File, NoTree, TooLarge}

abbrev pub told : MassifFileFault → Told
told (File fault) = record { text = fault_text fault; status = Malformed }
told NoTree = record { text = convert_text convert.NoTree; status = Malformed }
told TooLarge = record { text = convert_text convert.TooLarge; status = PastLimit }
