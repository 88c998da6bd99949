pub mod PaySheet
pub mod Clauses
pub mod Laws
pub mod Cases
