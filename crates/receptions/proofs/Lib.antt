pub mod Places
pub mod Beginnings
pub mod Parts
pub mod Proved
