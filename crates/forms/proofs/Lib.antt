pub mod Moving
pub mod Mixed
pub mod Cases
