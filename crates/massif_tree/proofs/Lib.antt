mod Appends
mod Forests
mod KnownTexts
mod LabelTexts
mod Listed
mod OneLine
mod Trimming
mod Gathering
mod Writable
pub mod Laws
