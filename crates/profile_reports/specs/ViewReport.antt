-- `dhat_view` writes the view of a profile, or tells why it has none.
use Rattle.std.specs.Prelude.{ℕ, List, Option, Some, None}
use Rattle.command_frame.specs.declared.taker.LineRefusal.{LineRefusal}
use Rattle.command_frame.specs.declared.taker.LineRefusal.TheVariants.{Fault, NoMemory}
use Rattle.command_frame.specs.Report.{Verdict, Refuses, Writes}
use Rattle.dhat_json.specs.declared.figure.FigureKey.{FigureKey}
use Rattle.dhat_json.specs.declared.profile.Dhat.{Dhat}
use Rattle.dhat_view.specs.declared.fault.ViewFault.{ViewFault}
use Rattle.dhat_view.specs.declared.fault.ViewFault.TheVariants as view
use Rattle.dhat_view.specs.ViewFault.{view_fault}
use Rattle.dhat_view.specs.ViewText.{view_text}
use Rattle.profile_reports.specs.declared.document_fault.DocumentFault.{DocumentFault}
use Rattle.profile_reports.specs.declared.document_fault.DocumentFault.TheVariants.{NoFigures, TooLarge}
use Rattle.profile_reports.specs.DocumentFault.{told}

-- why a profile has no view by the figures of a key; want of memory is no fault of it, and never told as one
abbrev pub fault_of_view : FigureKey → ViewFault → DocumentFault
fault_of_view key view.TooLarge = TooLarge
fault_of_view key _ = NoFigures key

-- the view of a profile, or why it has none
abbrev pub unless_fault : FigureKey → Option ViewFault → List ℕ → Verdict
unless_fault key None text = Writes text
unless_fault key (Some fault) text = Refuses (told (fault_of_view key fault))

abbrev pub view_verdict : FigureKey → ℕ → ℕ → Dhat → Verdict
view_verdict key threshold depth dhat = unless_fault key (view_fault key dhat)
    (view_text key threshold depth dhat)

-- the same as a refusal of the profile
abbrev pub view_refusal : FigureKey → ViewFault → LineRefusal DocumentFault
view_refusal key view.NoMemory = NoMemory
view_refusal key fault = Fault (fault_of_view key fault)
