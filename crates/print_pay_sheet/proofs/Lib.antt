pub mod Rates
pub mod Texts
pub mod Sheets
pub mod Inputs
pub mod Proved
pub mod Cases
