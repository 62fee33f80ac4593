-- Laws of what contracts of shown texts cite, for the crates above.
pub use Rattle.dhat_view.proofs.Numbering.{frames-numbered, numbers-count, sound-texts}
