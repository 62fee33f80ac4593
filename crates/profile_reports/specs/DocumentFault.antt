-- What is told of the faults of a DHAT profile.
use Rattle.std.specs.Prelude.{ℕ, List, ◌++◌, codes}
use Rattle.command_frame.specs.declared.fault.FaultStatus.{FaultStatus}
use Rattle.command_frame.specs.declared.fault.FaultStatus.TheVariants.{Malformed, PastLimit}
use Rattle.command_frame.specs.Told.{Told}
use Rattle.dhat_json.specs.declared.fault.DhatFault.{DhatFault}
use Rattle.dhat_json.specs.declared.fault.DhatFault.TheVariants.{TooMany}
use Rattle.dhat_json.specs.declared.figure.FigureKey.{FigureKey}
use Rattle.dhat_json.specs.FaultText.{fault_message}
use Rattle.dhat_json.specs.Figure.{figure_key}
use Rattle.dhat_json.specs.KeyName.{key_name}
use Rattle.dhat_view.specs.declared.fault.ViewFault.TheVariants as view
use Rattle.dhat_view.specs.FaultText.{fault_text as view_text}
use Rattle.profile_reports.specs.declared.document_fault.DocumentFault.{DocumentFault}
use Rattle.profile_reports.specs.declared.document_fault.DocumentFault.TheVariants.{Document, NoFigures, TooLarge}

-- the kind of a document's fault; want of memory is none, and never told as one
abbrev pub document_status : DhatFault → FaultStatus
document_status TooMany = PastLimit
document_status _ = Malformed

-- figures of a key that a profile lacks
abbrev pub figures_text : FigureKey → List ℕ
figures_text key = codes "no figures for " ++ key_name (figure_key key)

abbrev pub told : DocumentFault → Told
told (Document fault) = record { text = fault_message fault; status = document_status fault }
told (NoFigures key) = record { text = figures_text key; status = Malformed }
told TooLarge = record { text = view_text view.TooLarge; status = PastLimit }
