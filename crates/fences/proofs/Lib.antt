pub mod Fences
pub mod Growth
pub mod Ladders
pub mod Answers
