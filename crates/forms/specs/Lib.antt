pub mod Move
pub mod Laws
pub mod Cases
