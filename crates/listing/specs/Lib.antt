pub mod Clauses
pub mod Laws
