pub mod Places
pub mod Tied
