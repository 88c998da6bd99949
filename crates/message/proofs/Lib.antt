-- The laws that the proofs of the functions cite.
pub mod Sealing
pub mod Rest
pub mod Opening
pub mod Decrypting
