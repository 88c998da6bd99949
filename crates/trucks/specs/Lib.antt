pub mod Trucks
pub mod Words
pub mod Laws
pub mod Cases
