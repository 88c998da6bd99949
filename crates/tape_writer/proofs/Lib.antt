-- The laws that the proofs of the functions cite.
pub mod Packed
pub mod WriterCalls
pub mod WriterBack
pub mod Phases
