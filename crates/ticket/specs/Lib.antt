pub mod Clauses
pub mod Packing
pub mod Rule
