pub mod StepNumbers
pub mod Messages
pub mod Answers
pub mod Tape
