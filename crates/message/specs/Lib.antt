-- The contracts of whole messages.
pub mod Clauses
