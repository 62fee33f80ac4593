-- `convert` writes the folded lines of a DHAT profile or of a snapshot of a Massif file, or the
-- Massif file of a DHAT profile, or tells what stands against it; the file is read whole or by
-- lines as its kind says.
use Rattle.std.specs.Prelude.{ℕ, List, Option, Some, None}
use Rattle.command_frame.specs.declared.taker.LineRefusal.{LineRefusal}
use Rattle.command_frame.specs.declared.taker.LineRefusal.TheVariants.{Fault, NoMemory}
use Rattle.command_frame.specs.Plan.{Plan}
use Rattle.command_frame.specs.Report.{Refuses, Verdict, Writes}
use Rattle.convert.specs.declared.fault.ConvertFault.{ConvertFault}
use Rattle.convert.specs.declared.fault.ConvertFault.TheVariants as convert
use Rattle.convert.specs.Chosen.{chosen_items}
use Rattle.convert.specs.ConvertFault.{converted_fault, folded_fault, folded_massif_fault}
use Rattle.convert.specs.Converted.{converted}
use Rattle.convert.specs.Folded.{folded_text}
use Rattle.convert.specs.Items.{point_items}
use Rattle.dhat_json.specs.declared.figure.FigureKey.{FigureKey}
use Rattle.dhat_json.specs.declared.figure.FigureKey.TheVariants.{Gb}
use Rattle.dhat_json.specs.declared.profile.Dhat.{Dhat}
use Rattle.massif_file.specs.declared.profile.Profile.{Profile}
use Rattle.massif_file.specs.MassifText.{massif_text}
use Rattle.profile_reports.specs.declared.conversion.Conversion.{Conversion}
use Rattle.profile_reports.specs.declared.conversion.Conversion.TheVariants.{FoldedDhat, FoldedMassif, MassifOfDhat}
use Rattle.profile_reports.specs.declared.massif_file_fault.MassifFileFault.{MassifFileFault}
use Rattle.profile_reports.specs.declared.massif_file_fault.MassifFileFault.TheVariants as massif
use Rattle.profile_reports.specs.declared.document_fault.DocumentFault.{DocumentFault}
use Rattle.profile_reports.specs.declared.document_fault.DocumentFault.TheVariants as dhat
use Rattle.profile_reports.specs.DhatFileReport.{dhat_file_plan}
use Rattle.profile_reports.specs.MassifFileFault as massif_spec
use Rattle.profile_reports.specs.MassifFileReport.{massif_file_plan}
use Rattle.profile_reports.specs.DocumentFault as dhat_spec

-- why a DHAT profile can't be converted by the figures of a key: it has a snapshot, so a tree isn't
-- what it lacks; want of memory is no fault of it, and never told as one
abbrev pub dhat_fault : FigureKey → ConvertFault → DocumentFault
dhat_fault key convert.TooLarge = dhat.TooLarge
dhat_fault key _ = dhat.NoFigures key

-- why a Massif file can't be converted: its figures are bytes, so they aren't what it lacks
abbrev pub massif_fault : ConvertFault → MassifFileFault
massif_fault convert.TooLarge = massif.TooLarge
massif_fault _ = massif.NoTree

-- the text of a conversion, or why there is none
abbrev pub of_dhat : FigureKey → Option ConvertFault → List ℕ → Verdict
of_dhat key None text = Writes text
of_dhat key (Some fault) text = Refuses (dhat_spec.told (dhat_fault key fault))

abbrev pub of_massif : Option ConvertFault → List ℕ → Verdict
of_massif None text = Writes text
of_massif (Some fault) text = Refuses (massif_spec.told (massif_fault fault))

-- the same faults as refusals of the file
abbrev pub dhat_refusal : FigureKey → ConvertFault → LineRefusal DocumentFault
dhat_refusal key convert.NoMemory = NoMemory
dhat_refusal key fault = Fault (dhat_fault key fault)

abbrev pub massif_refusal : ConvertFault → LineRefusal MassifFileFault
massif_refusal convert.NoMemory = NoMemory
massif_refusal fault = Fault (massif_fault fault)

-- the folded lines of a DHAT profile, and of a snapshot of a Massif file
abbrev pub folded_verdict : FigureKey → Dhat → Verdict
folded_verdict key dhat = of_dhat key (folded_fault key dhat) (folded_text (point_items key dhat))

abbrev pub folded_massif_verdict : Option ℕ → Profile → Verdict
folded_massif_verdict snapshot profile = of_massif (folded_massif_fault snapshot profile)
    (folded_text (chosen_items snapshot profile))

-- the Massif file of a DHAT profile; what is missing for it are the bytes at the peak
abbrev pub converted_verdict : Dhat → Verdict
converted_verdict dhat = of_dhat Gb (converted_fault dhat) (massif_text (converted dhat))

-- one file is read, by lines or whole as its kind says
abbrev pub conversion_plan : List ℕ → Conversion → Plan
conversion_plan file (FoldedDhat key) = dhat_file_plan file (folded_verdict key)
conversion_plan file (FoldedMassif snapshot) = massif_file_plan file
    (folded_massif_verdict snapshot)
conversion_plan file MassifOfDhat = dhat_file_plan file converted_verdict
