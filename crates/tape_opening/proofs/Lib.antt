-- The laws that the proofs of the functions cite.
pub mod Sizes
pub mod OpenedParts
pub mod ByScratch
