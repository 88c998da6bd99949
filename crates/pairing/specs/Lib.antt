pub mod Pairing
pub mod Clauses
pub mod Laws
pub mod Cases
