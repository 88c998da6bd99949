-- The laws that the proofs of the functions cite.
pub mod Strings
pub mod ControlTable
pub mod StretchRuns
pub mod FixedRuns
pub mod Callers
