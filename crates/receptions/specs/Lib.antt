pub mod Receptions
pub mod Clauses
pub mod Laws
pub mod Opening
pub mod Cases
