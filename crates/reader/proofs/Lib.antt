pub mod Cases
pub mod Reading
pub mod Tied
