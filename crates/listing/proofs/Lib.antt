pub mod Texts
pub mod Whole
pub mod Opened
pub mod LineLengths
pub mod TicketLines
pub mod Longest
pub mod Inputs
