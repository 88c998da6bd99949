pub mod Clauses
pub mod Reading
