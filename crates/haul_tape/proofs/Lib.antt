pub mod Trucks
pub mod Receptions
pub mod Forms
pub mod Pairing
