mod CommaTexts
mod DecimalTexts
mod HexSteps
mod HexTexts
pub mod Laws
mod Numerals
mod PercentParts
mod PercentTexts
