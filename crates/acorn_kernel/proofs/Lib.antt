-- The laws that the proofs of the functions cite.
pub mod Sequences
pub mod ClosedForm
pub mod WordBits
pub mod ShiftedBits
pub mod StateWords
pub mod StepWords
pub mod TogetherSteps
