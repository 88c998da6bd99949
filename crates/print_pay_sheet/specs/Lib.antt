pub mod Printed
pub mod Clauses
pub mod Laws
pub mod Cases
