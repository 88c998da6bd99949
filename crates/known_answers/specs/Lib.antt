pub mod Answers
pub mod Tape
