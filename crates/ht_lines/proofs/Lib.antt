mod CountedLines
mod EventLines
mod FieldLemmas
mod InstructionLines
pub mod Laws
mod LengthLemmas
mod LineSides
mod ModuleLines
mod NameLemmas
mod NumberLemmas
mod OneLineTexts
mod RawLines
mod TextLemmas
mod VersionLines
mod WordLemmas
mod WrittenLemmas
