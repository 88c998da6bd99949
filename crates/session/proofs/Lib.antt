pub mod Wrapping
pub mod NextSession
pub mod Replies
pub mod WordsBack
pub mod Phases
